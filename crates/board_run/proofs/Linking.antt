-- The link of each port, by its place in a table.
use Rattle.std.proofs.Common.{◌≡◌, ℕ, zero, suc, ◌+◌, ◌*◌, ◌/◌, ◌%◌, ◌<◌, List, [], ◌∷◌, ◌++◌, length, Option, Some, refl, ap, sym, ◌∙◌, subst, arith, slice_get}
use Rattle.board_file.specs.declared.board.LinkRow.{LinkRow}
use Rattle.board_run.specs.LinkTable.{AreLinks, link_at}

-- one port more
pub links_push : (link : ℕ → Option ℕ) (place : ℕ) (xs : List (Option ℕ)) (x : Option ℕ) → x ≡ link (place + length xs) → AreLinks link place xs → AreLinks link place (xs ++ x ∷ [])
links_push link place [] x e h = (let same : place + 0 ≡ place = omega arith in e ∙ ap link same, tt)
links_push link place (y ∷ ys) x e h = (h.0, links_push link (place + 1) ys x (let same : place + length (y ∷ ys) ≡ place + 1 + length ys = omega arith in e ∙ ap link same) h.1)

found_from : (link : ℕ → Option ℕ) (place k : ℕ) (xs : List (Option ℕ)) (x : Option ℕ) → AreLinks link place xs → slice_get xs k ≡ Some x → x ≡ link (place + k)
found_from link place k [] x h e = cc
found_from link place zero (y ∷ ys) x h e = let same : place ≡ place + 0 = omega arith in let here : y ≡ x = cc in sym here ∙ h.0 ∙ ap link same
found_from link place (suc k) (y ∷ ys) x h e = let same : place + 1 + k ≡ place + suc k = omega arith in found_from link (place + 1) k ys x h.1 e ∙ ap link same

-- what stands at the place of a port is its link
pub found_at : (find : List LinkRow → ℕ → ℕ → Option ℕ) (rows : List LinkRow) (xs : List (Option ℕ)) (core port : ℕ) (x : Option ℕ) → AreLinks (link_at find rows) 0 xs → port < 16 → slice_get xs (core * 16 + port) ≡ Some x → x ≡ find rows core port
found_at find rows xs core port x h l e =
    let core_is : (0 + (core * 16 + port)) / 16 ≡ core = omega (arith, l) in
    let port_is : (0 + (core * 16 + port)) % 16 ≡ port = omega (arith, l) in
    found_from (link_at find rows) 0 (core * 16 + port) xs x h e ∙ ap (λ (c : ℕ). find rows c ((0 + (core * 16 + port)) % 16)) core_is ∙ ap (find rows core) port_is
