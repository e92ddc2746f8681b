-- What the faults say that two rows make, or a row beside its core.
use Rattle.std.proofs.Common.{◌≡◌, ◌⊎◌, inl, inr, ℕ, ◌<◌, Bool, true, false, not, ◌&&◌, ◌||◌, ◌==◌, List, flat_map, Option, Some, None, refl, sym, subst, arith}
use Rattle.std.proofs.lemmas.Slice.Eq.{bytes_eq-Decides}
use Rattle.std.specs.List.{list_any}
use Rattle.std.specs.Str.{bytes_eq}
use Rattle.toml.specs.Data.{Members}
use Rattle.board_file.specs.Bus.{below_faults, clears_memory, is_affordable, is_clear, lone_faults, memory_of, memory_sum, same_core, sum_faults}
use Rattle.board_file.specs.Claims.{bases, claim_faults, collides, controllers, core_claims, file_claims, gets, irqs, puts, same_subject, twice_faults}
use Rattle.board_file.specs.Faults.{IsOneOf, fault, is_earlier}
use Rattle.board_file.specs.Tree.{rows_in, table_place}
use Rattle.board_file.specs.declared.claims.Claim.{Claim}
use Rattle.board_file.specs.declared.claims.Subject.{Subject}
use Rattle.board_file.specs.declared.claims.Subject.TheVariants.{File, OfCore}
use Rattle.board_file.specs.declared.fault.BoardRule.{BoardRule}
use Rattle.board_file.specs.declared.fault.BoardRule.TheVariants as broken
use Rattle.board_file.specs.declared.fault.Fault.{Fault}
use Rattle.board_file.specs.declared.keys.Key.TheVariants as key
use Rattle.board_file.specs.declared.keys.Quantity.TheVariants as quantity
use Rattle.board_file.specs.declared.keys.Rows.TheVariants as rows
use Rattle.board_faults.proofs.Claimed.{IsFileClaim, based, control_claims, controlled, file_claimed, led, one_usage, used}
use Rattle.board_faults.proofs.Found.{both_true, from_each, none_holds, not_false, some_holds, unless}
use Rattle.board_faults.proofs.InTables.{IsTrue, is_true}
use Rattle.board_faults.specs.Told.{Controls, Gets, HasBase, HasIrq, IsIn, IsInput, IsOutput, Puts, base_in_memory, base_twice, controller_twice, get_twice, irq_twice, large_memories, no_controller, output_is_read, output_twice, put_twice}

-- two claims that meet, and the fault of the one
record IsTwice (code : BoardRule) (all : List Claim) (f : Fault) : Type 0 where
  c : Claim
  d : Claim
  one : IsIn c all
  other : IsIn d all
  sole : c.sole ≡ true
  meets : collides c d ≡ true
  is : fault code c.place ≡ f

twice : (code : BoardRule) (all : List Claim) (f : Fault) → IsOneOf f (twice_faults code all) → IsTwice code all f
unfolding twice_faults
twice code all f h =
    let (c, one, here) = from_each f (claim_faults code all) all h in
    let (met, is) = unless f (not (c.sole && list_any (collides c) all)) code c.place here in
    let both = both_true c.sole (list_any (collides c) all) (not_false _ met) in
    let (d, other, meets) = some_holds (collides c) all both.1 in
    record { c = c; d = d; one = one; other = other; sole = both.0; meets = meets; is = is }

same_number : (m n : ℕ) → (m == n) ≡ true → m ≡ n
same_number m n e = grind (arith, e)

-- two claims on one number of a core, of which the other is the earlier
meets : (s t : Subject) (sole earlier : Bool) (a b : List ℕ) (m n : ℕ) → s ≡ OfCore a m → t ≡ OfCore b n → sole ≡ true
    → (same_subject s t && (not sole || earlier)) ≡ true → (a ≡ b) × (m ≡ n) × (earlier ≡ true)
meets s t sole earlier a b m n on_s on_t is h =
    let g : (same_subject (OfCore a m) (OfCore b n) && (not true || earlier)) ≡ true = rw (on_s, on_t, is) at h in
    let both = both_true (same_subject (OfCore a m) (OfCore b n)) earlier g in
    let same = both_true (bytes_eq a b) (m == n) both.0 in
    ((bytes_eq-Decides a b).0 same.0, same_number m n same.1, both.1)

-- two claims on one file, of which the other is the earlier or that of an input
meets_file : (s t : Subject) (sole earlier : Bool) (a b : List ℕ) → s ≡ File a → t ≡ File b → (same_subject s t && (not sole || earlier)) ≡ true
    → (a ≡ b) × ((not sole || earlier) ≡ true)
meets_file s t sole earlier a b on_s on_t h =
    let g : (same_subject (File a) (File b) && (not sole || earlier)) ≡ true = rw (on_s, on_t) at h in
    let both = both_true (bytes_eq a b) (not sole || earlier) g in
    ((bytes_eq-Decides a b).0 both.0, both.1)

same_of : (P : List ℕ → ℕ → Type 0) (a b : List ℕ) (m n : ℕ) → a ≡ b → m ≡ n → P b n → P a m
same_of P a b m n first second h =
    let Q : List ℕ → Type 0 = λ x. P x n in
    let R : ℕ → Type 0 = λ k. P a k in
    subst R (sym second) (subst Q (sym first) h)

pub puts_told : (tree : Members) (f : Fault) → IsOneOf f (twice_faults broken.PortTwice (core_claims tree puts)) → IsTrue tree f
unfolding puts
puts_told tree f h =
    let t = twice broken.PortTwice _ f h in
    let u = used tree rows.Link key.From key.FromPort quantity.Port t.c (one_usage tree _ t.c t.one) in
    let v = used tree rows.Link key.From key.FromPort quantity.Port t.d (one_usage tree _ t.d t.other) in
    let m = meets t.c.on t.d.on t.d.sole (is_earlier t.d.place t.c.place) u.core v.core u.n v.n u.on v.on v.sole t.meets in
    is_true tree broken.PortTwice t.c.place f t.is
    (put_twice t.c.place t.d.place u.core u.n u.use_of (same_of (Puts tree t.d.place) u.core v.core u.n v.n m.0 m.1 v.use_of) m.2)

pub gets_told : (tree : Members) (f : Fault) → IsOneOf f (twice_faults broken.PortTwice (core_claims tree gets)) → IsTrue tree f
unfolding gets
gets_told tree f h =
    let t = twice broken.PortTwice _ f h in
    let u = used tree rows.Link key.To key.ToPort quantity.Port t.c (one_usage tree _ t.c t.one) in
    let v = used tree rows.Link key.To key.ToPort quantity.Port t.d (one_usage tree _ t.d t.other) in
    let m = meets t.c.on t.d.on t.d.sole (is_earlier t.d.place t.c.place) u.core v.core u.n v.n u.on v.on v.sole t.meets in
    is_true tree broken.PortTwice t.c.place f t.is
    (get_twice t.c.place t.d.place u.core u.n u.use_of (same_of (Gets tree t.d.place) u.core v.core u.n v.n m.0 m.1 v.use_of) m.2)

pub bases_told : (tree : Members) (f : Fault) → IsOneOf f (twice_faults broken.BadBase (core_claims tree bases)) → IsTrue tree f
bases_told tree f h =
    let t = twice broken.BadBase _ f h in
    let u = based tree t.c t.one in
    let v = based tree t.d t.other in
    let m = meets t.c.on t.d.on t.d.sole (is_earlier t.d.place t.c.place) u.core v.core u.n v.n u.on v.on v.sole t.meets in
    is_true tree broken.BadBase t.c.place f t.is
    (base_twice t.c.place t.d.place u.core u.n u.has (same_of (HasBase tree t.d.place) u.core v.core u.n v.n m.0 m.1 v.has) m.2)

pub irqs_told : (tree : Members) (f : Fault) → IsOneOf f (twice_faults broken.InterruptTwice (core_claims tree irqs)) → IsTrue tree f
irqs_told tree f h =
    let t = twice broken.InterruptTwice _ f h in
    let u = led tree t.c t.one in
    let v = led tree t.d t.other in
    let m = meets t.c.on t.d.on t.d.sole (is_earlier t.d.place t.c.place) u.core v.core u.n v.n u.on v.on v.sole t.meets in
    is_true tree broken.InterruptTwice t.c.place f t.is
    (irq_twice t.c.place t.d.place u.core u.n u.has (same_of (HasIrq tree t.d.place) u.core v.core u.n v.n m.0 m.1 v.has) m.2)

pub controllers_told : (tree : Members) (f : Fault) → IsOneOf f (twice_faults broken.InterruptTwice (core_claims tree controllers)) → IsTrue tree f
controllers_told tree f h =
    let t = twice broken.InterruptTwice _ f h in
    let u = controlled tree t.c t.one in
    let v = controlled tree t.d t.other in
    let m = meets t.c.on t.d.on t.d.sole (is_earlier t.d.place t.c.place) u.core v.core u.n v.n u.on v.on v.sole t.meets in
    is_true tree broken.InterruptTwice t.c.place f t.is
    (controller_twice t.c.place t.d.place u.core u.controls (subst (Controls tree t.d.place) (sym m.0) v.controls) m.2)

-- a base in the memory of its core
not_clear : (o : Option ℕ) (base : ℕ) → is_clear o base ≡ false → (size : ℕ) × (o ≡ Some size) × (base < size)
not_clear None base e = grind (arith, e)
not_clear (Some size) base e = (size, refl, grind (arith, e))

below : (tree : Members) (s : Subject) (core : List ℕ) (base : ℕ) → s ≡ OfCore core base → clears_memory tree s ≡ false → (size : ℕ) × (memory_of tree core ≡ Some size) × (base < size)
below tree s core base on e = not_clear (memory_of tree core) base (rw on at e)

pub below_told : (tree : Members) (f : Fault) → IsOneOf f (flat_map (below_faults tree) (core_claims tree bases)) → IsTrue tree f
below_told tree f h =
    let (c, one, here) = from_each f (below_faults tree) (core_claims tree bases) h in
    let low = unless f (clears_memory tree c.on) broken.BadBase c.place here in
    let u = based tree c one in
    let (size, memory, within) = below tree c.on u.core u.n u.on low.0 in
    is_true tree broken.BadBase c.place f low.1 (base_in_memory c.place u.core u.n size u.has memory within)

-- an input of a core that has no controller
other_core : (s t : Subject) (core : List ℕ) (m n : ℕ) → s ≡ OfCore core m → t ≡ OfCore core n → same_core s t ≡ false → ⊥
other_core s t core m n on_s on_t e =
    let g : bytes_eq core core ≡ false = rw (on_s, on_t) at e in
    let same = (bytes_eq-Decides core core).1 refl in
    grind (arith, g, same)

pub lone_told : (tree : Members) (f : Fault) → IsOneOf f (flat_map (lone_faults (core_claims tree controllers)) (core_claims tree irqs)) → IsTrue tree f
lone_told tree f h =
    let (c, one, here) = from_each f (lone_faults (core_claims tree controllers)) (core_claims tree irqs) h in
    let alone = unless f (list_any (λ (d : Claim). same_core c.on d.on) (core_claims tree controllers)) broken.Missing c.place here in
    let u = led tree c one in
    is_true tree broken.Missing c.place f alone.1
    (no_controller c.place u.core u.n u.has (λ other k.
    let (d, there, on) = control_claims tree other u.core k in
    other_core c.on d.on u.core u.n 0 u.on on (none_holds (λ (x : Claim). same_core c.on x.on) (core_claims tree controllers) d alone.0 there)))

-- the memories together
not_affordable : (o : Option ℕ) → is_affordable o ≡ false → (total : ℕ) × (o ≡ Some total) × (1_073_741_824 < total)
not_affordable None e = grind (arith, e)
not_affordable (Some total) e = (total, refl, grind (arith, e))

pub sum_told : (tree : Members) (f : Fault) → IsOneOf f (sum_faults tree) → IsTrue tree f
unfolding sum_faults
sum_told tree f h =
    let much = unless f (is_affordable (memory_sum (rows_in tree rows.Core))) broken.BadMemory (table_place rows.Core) h in
    let (total, is, large) = not_affordable (memory_sum (rows_in tree rows.Core)) much.0 in
    is_true tree broken.BadMemory (table_place rows.Core) f much.1 (large_memories total is large)

-- an output that another output, or an input, names
both_not : (b : Bool) → b ≡ true → b ≡ false → ⊥
both_not b e g = grind (arith, e, g)

sole_earlier : (sole earlier : Bool) → sole ≡ true → (not sole || earlier) ≡ true → earlier ≡ true
sole_earlier true earlier e h = h
sole_earlier false earlier e h = grind (arith, e)

pub files_told : (tree : Members) (f : Fault) → IsOneOf f (twice_faults broken.FileTwice (file_claims tree)) → IsTrue tree f
files_told tree f h = of_one u.use_as
  where
    t : IsTwice broken.FileTwice (file_claims tree) f
    t = twice broken.FileTwice (file_claims tree) f h

    u : IsFileClaim tree t.c
    u = file_claimed tree t.c t.one

    v : IsFileClaim tree t.d
    v = file_claimed tree t.d t.other

    m : (u.file ≡ v.file) × ((not t.d.sole || is_earlier t.d.place t.c.place) ≡ true)
    m = meets_file t.c.on t.d.on t.d.sole (is_earlier t.d.place t.c.place) u.file v.file u.on v.on t.meets

    of_other : IsOutput tree t.c.place u.file → ((t.d.sole ≡ true) × IsOutput tree t.d.place v.file) ⊎ ((t.d.sole ≡ false) × IsInput tree t.d.place v.file) → IsTrue tree f
    of_other out (inl g) =
        is_true tree broken.FileTwice t.c.place f t.is
        (output_twice t.c.place t.d.place u.file out (subst (IsOutput tree t.d.place) (sym m.0) g.1) (sole_earlier t.d.sole _ g.0 m.1))
    of_other out (inr g) = is_true tree broken.FileTwice t.c.place f t.is (output_is_read t.c.place t.d.place u.file out (subst (IsInput tree t.d.place) (sym m.0) g.1))

    of_one : ((t.c.sole ≡ true) × IsOutput tree t.c.place u.file) ⊎ ((t.c.sole ≡ false) × IsInput tree t.c.place u.file) → IsTrue tree f
    of_one (inl g) = of_other g.1 v.use_as
    of_one (inr g) = elim (both_not t.c.sole t.sole g.0) [ ]
