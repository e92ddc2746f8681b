-- A place that is cut again and again is the path, cut once.
use Rattle.std.proofs.Common.{◌≡◌, ℕ, zero, suc, List, [], ◌∷◌, ◌++◌, take, codes, refl, ap}
use Rattle.board_file.specs.Keys.{key_text, table_key}
use Rattle.board_file.specs.Tree.{key_path, key_place, place, row_place, table_place}
use Rattle.board_file.specs.declared.keys.Key.{Key}
use Rattle.board_file.specs.declared.keys.Rows.{Rows}

take_again : (n : ℕ) (xs ys : List ℕ) → take n (take n xs ++ ys) ≡ take n (xs ++ ys)
take_again zero xs ys = refl
take_again (suc n) [] ys = refl
take_again (suc n) (x ∷ xs) ys = ap (λ rest. x ∷ rest) (take_again n xs ys)

cut_once : (n : ℕ) (a b c d e : List ℕ) → take n (take n (take n (take n (take n a ++ b) ++ c) ++ d) ++ e) ≡ take n (a ++ b ++ c ++ d ++ e)
cut_once n a b c d e = rw (take_again n a b, take_again n (a ++ b) c, take_again n (a ++ b ++ c) d, take_again n (a ++ b ++ c ++ d) e) refl

pub places_are_paths : (r : Rows) (name : List ℕ) (k : Key) → key_place r name k ≡ place (key_path r name k)
unfolding key_place row_place table_place
places_are_paths r name k = cut_once 64 (key_text (table_key r)) (codes ".") name (codes ".") (key_text k)
