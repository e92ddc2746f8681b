-- The first of two lists of tests that fails.
use Rattle.std.proofs.Common.{◌≡◌, Bool, true, false, List, [], ◌∷◌, ◌++◌, ℕ, ◌+◌, ◌<◌, refl, ap, cond, get_or, take, drop, length, flat_map, add-one, drop-cons, sym, ◌∙◌, Option, Some, None}
use Rattle.std.proofs.lemmas.Grind.{take_at_read}
use Rattle.std.specs.List.{list_any}
use Rattle.elf_image.specs.Tests.{Test, fault_at, first_failing, overlap_tests, shares_byte}
use Rattle.elf_image.specs.declared.fault.ElfRule.TheVariants as broken
use Rattle.elf_image.specs.declared.fault.Fault.{Fault}
use Rattle.elf_image.specs.declared.segment.ProgramHeader.{ProgramHeader}

-- the second where the first is none
abbrev pub or_else : Option Fault → Option Fault → Option Fault
or_else None other = other
or_else (Some fault) other = Some fault

or_else_cond : (b : Bool) (fault : Fault) (x y : Option Fault) → cond b (Some fault) (or_else x y) ≡ or_else (cond b (Some fault) x) y
or_else_cond true fault x y = refl
or_else_cond false fault x y = refl

pub first_failing_append : (ts us : List Test) → first_failing (ts ++ us) ≡ or_else (first_failing ts) (first_failing us)
first_failing_append [] us = refl
first_failing_append (t ∷ ts) us = rw (first_failing_append ts us) (or_else_cond t.fails _ (first_failing ts) (first_failing us))

-- the tests of what is left: those of the next, and then those of the rest
pub first_failing_next : {X : Type 0} (T : X → List Test) (xs : List X) (i : ℕ) (d : X) → i < length xs
    → first_failing (flat_map T (drop i xs)) ≡ or_else (first_failing (T (get_or xs i d))) (first_failing (flat_map T (drop (i + 1) xs)))
first_failing_next T xs i d h = rw (add-one, drop-cons xs i d) (first_failing_append (T (get_or xs i d)) _)

-- where those that are left decide, the next one's fault is the answer
pub first_here : {X : Type 0} (T : X → List Test) (xs : List X) (i : ℕ) (d : X) (fault : Fault) → i < length xs
    → Some fault ≡ first_failing (T (get_or xs i d)) → first_failing (flat_map T (drop i xs)) ≡ first_failing (flat_map T xs)
    → Some fault ≡ first_failing (flat_map T xs)
first_here T xs i d fault h here same = sym (sym same ∙ first_failing_next T xs i d h ∙ ap (λ o. or_else o (first_failing (flat_map T (drop (i + 1) xs)))) (sym here))

-- and where it has none, those after it decide
pub none_here : {X : Type 0} (T : X → List Test) (xs : List X) (i : ℕ) (d : X) → i < length xs
    → None ≡ first_failing (T (get_or xs i d)) → first_failing (flat_map T (drop i xs)) ≡ first_failing (flat_map T xs)
    → first_failing (flat_map T (drop (i + 1) xs)) ≡ first_failing (flat_map T xs)
none_here T xs i d h here same = ap (λ o. or_else o (first_failing (flat_map T (drop (i + 1) xs)))) here ∙ sym (first_failing_next T xs i d h) ∙ same

-- each segment against those before it: the next, and then those after it
overlap_next : (hs : List ProgramHeader) (i : ℕ) (d : ProgramHeader) → i < length hs
    → first_failing (overlap_tests (take i hs) (drop i hs))
    ≡ cond (list_any (shares_byte (get_or hs i d)) (take i hs)) (Some (fault_at broken.Overlap (get_or hs i d).index)) (first_failing (overlap_tests (take (i + 1) hs) (drop (i + 1) hs)))
overlap_next hs i d h = rw ((take_at_read hs i d h).1, add-one, drop-cons hs i d) refl

pub overlap_here : (hs : List ProgramHeader) (i : ℕ) (d : ProgramHeader) → i < length hs → true ≡ list_any (shares_byte (get_or hs i d)) (take i hs)
    → first_failing (overlap_tests (take i hs) (drop i hs)) ≡ first_failing (overlap_tests [] hs)
    → Some (fault_at broken.Overlap (get_or hs i d).index) ≡ first_failing (overlap_tests [] hs)
overlap_here hs i d h here same =
    ap (λ b. cond b (Some (fault_at broken.Overlap (get_or hs i d).index)) (first_failing (overlap_tests (take (i + 1) hs) (drop (i + 1) hs)))) here ∙ sym (overlap_next hs i d h) ∙ same

pub no_overlap_here : (hs : List ProgramHeader) (i : ℕ) (d : ProgramHeader) → i < length hs → false ≡ list_any (shares_byte (get_or hs i d)) (take i hs)
    → first_failing (overlap_tests (take i hs) (drop i hs)) ≡ first_failing (overlap_tests [] hs)
    → first_failing (overlap_tests (take (i + 1) hs) (drop (i + 1) hs)) ≡ first_failing (overlap_tests [] hs)
no_overlap_here hs i d h here same =
    ap (λ b. cond b (Some (fault_at broken.Overlap (get_or hs i d).index)) (first_failing (overlap_tests (take (i + 1) hs) (drop (i + 1) hs)))) here ∙ sym (overlap_next hs i d h) ∙ same
