-- Probes that have not counted far have room for all that a board of the tests can tell them.
use Rattle.std.proofs.Common.{◌≡◌, ℕ, ◌+◌, ◌<◌, ◌≤◌, ◌^◌, List, [], ◌∷◌, ◌++◌, length, map, take, get_or, arith}
use Rattle.std.specs.List.{AllByRecursion}
use Rattle.std.proofs.lemmas.List.{take_more}
use Rattle.probe_set.specs.declared.probe.ProbeState.{ProbeState}
use Rattle.probe_set.specs.Sets.{HaveRoom, named}

joined : {X : Type 0} (P : X → Type 0) (xs : List X) (x : X) → AllByRecursion P xs → P x → AllByRecursion P (xs ++ x ∷ [])
joined P [] x h p = (p, tt)
joined P (y ∷ ys) x h p = (h.0, joined P ys x h.1 p)

pub one_more : {X : Type 0} (P : X → Type 0) (xs : List X) (k : ℕ) (x : X) → k < length xs → x ≡ get_or xs k x → AllByRecursion P (take k xs) → P x → AllByRecursion P (take (k + 1) xs)
one_more P xs k x l is h p = rw (take_more xs k x l) (rw (← is) (joined P (take k xs) x h p))

pub have_room : {X : Type 0} (name : X → List ℕ) (state : X → ProbeState) (n : ℕ) (xs : List X) → n < 2 ^ 32 → AllByRecursion (λ x. (state x).count ≤ 2 ^ 32) xs → HaveRoom n (map (λ x. named (name x) (state x)) xs)
have_room name state n [] l h = tt
have_room name state n (x ∷ xs) l h = let low = h.0 in (omega (arith, low, l), have_room name state n xs l h.1)
