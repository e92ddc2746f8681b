-- The names of a table's members ascend, so no two are the same.
use Rattle.std.proofs.Common.{◌≡◌, ℕ, zero, suc, ◌<◌, Bool, true, false, ◌&&◌, List, slice_get, Some, Ordering, Less, Equal, Greater, refl, arith}
use Rattle.std.proofs.lemmas.Cmp.{nat_list_cmp_total}
use Rattle.std.proofs.lemmas.Map.Lookups.{exact_bytes}
use Rattle.std.specs.Cmp.Lexicographic.{slice_cmp}
use Rattle.std.specs.Ordering.{is_lt, nat_cmp, ordering_reverse}
use Rattle.toml.specs.Data.{Members, is_before, no_members, member}
use Rattle.board_file.specs.Faults.{is_earlier}
use Rattle.board_file.specs.Tree.{are_ascending}
use Rattle.board_file_laws.proofs.Origins.{names}

less : (o : Ordering) → is_lt o ≡ true → o ≡ Less
less Less e = refl
less Equal e = grind arith
less Greater e = grind arith

both_true : (a b : Bool) → (a && b) ≡ true → (a ≡ true) × (b ≡ true)
both_true true b e = (refl, e)
both_true false b e = grind arith

same_some : (m n : List ℕ) → Some m ≡ Some n → m ≡ n
same_some m n e = grind (arith, e)

not_less : (o : Ordering) → o ≡ ordering_reverse o → o ≡ Less → ⊥
not_less Less e f = grind (arith, e)
not_less Equal e f = grind (arith, f)
not_less Greater e f = grind (arith, f)

not_before_itself : (s : List ℕ) → slice_cmp nat_cmp s s ≡ Less → ⊥
not_before_itself s e = not_less (slice_cmp nat_cmp s s) (nat_list_cmp_total.antisymm s s) e

-- a name that is before the first is before each
before_each : (name : List ℕ) (ms : Members) → is_before name ms ≡ true → are_ascending ms ≡ true → (k : ℕ) (n : List ℕ) → slice_get (names ms) k ≡ Some n → slice_cmp nat_cmp name n ≡ Less
before_each name no_members b a k n e = grind (arith, e)
before_each name (member l d ms) b a zero n e = let same = same_some l n e in rw same at (less (slice_cmp nat_cmp name l) b)
before_each name (member l d ms) b a (suc k) n e =
    let parts = both_true (is_before l ms) (are_ascending ms) a in
    nat_list_cmp_total.trans name l n (less (slice_cmp nat_cmp name l) b) (before_each l ms parts.0 parts.1 k n e)

pub ascend : (ms : Members) → are_ascending ms ≡ true → (j k : ℕ) (m n : List ℕ) → j < k → slice_get (names ms) j ≡ Some m → slice_get (names ms) k ≡ Some n → slice_cmp nat_cmp m n ≡ Less
ascend no_members a j k m n lt e f = grind (arith, e)
ascend (member l d ms) a zero zero m n lt e f = grind (arith, lt)
ascend (member l d ms) a zero (suc k) m n lt e f =
    let parts = both_true (is_before l ms) (are_ascending ms) a in
    let same = same_some l m e in
    rw same at (before_each l ms parts.0 parts.1 k n f)
ascend (member l d ms) a (suc j) zero m n lt e f = grind (arith, lt)
ascend (member l d ms) a (suc j) (suc k) m n lt e f =
    ascend ms (both_true (is_before l ms) (are_ascending ms) a).1 j k m n (omega (arith, lt)) e f

not_later : (ms : Members) → are_ascending ms ≡ true → (j k : ℕ) (n : List ℕ) → j < k → slice_get (names ms) j ≡ Some n → slice_get (names ms) k ≡ Some n → ⊥
not_later ms a j k n lt e f = not_before_itself n (ascend ms a j k n n lt e f)

pub one_place : (ms : Members) → are_ascending ms ≡ true → (j k : ℕ) (n : List ℕ) → slice_get (names ms) j ≡ Some n → slice_get (names ms) k ≡ Some n → j ≡ k
one_place ms a j k n e f =
    let before : j < k → ⊥ = λ lt. not_later ms a j k n lt e f in
    let after : k < j → ⊥ = λ lt. not_later ms a k j n lt f e in
    omega (arith, before, after)

-- of two places of which none is earlier
neither : (o r : Ordering) → o ≡ ordering_reverse r → is_lt o ≡ false → is_lt r ≡ false → o ≡ Equal
neither Less r e f g = grind (arith, f)
neither Equal r e f g = refl
neither Greater Less e f g = grind (arith, g)
neither Greater Equal e f g = grind (arith, e)
neither Greater Greater e f g = grind (arith, e)

pub same_place : (at other : List ℕ) → is_earlier at other ≡ false → is_earlier other at ≡ false → at ≡ other
same_place at other e f = exact_bytes at other (neither (slice_cmp nat_cmp at other) (slice_cmp nat_cmp other at) (nat_list_cmp_total.antisymm at other) e f)
