-- A file that passes its tests has an image that can be loaded.
use Rattle.std.proofs.Common.{◌≡◌, ⊎_elim, ℕ, ◌+◌, ◌-◌, ◌<◌, ◌≤◌, ◌%◌, ◌==◌, ◌&&◌, not, Bool, true, false, cond, List, [], ◌∷◌, ◌++◌, length, take, drop, append-nil, length-drop, get_or, map, filter, flat_map, refl, ap, sym, ◌∙◌, arith, Option, Some, None}
use Rattle.std.proofs.lemmas.List.{length-take-le, length-map, get_or-map, append_assoc}
use Rattle.std.proofs.lemmas.Bool.{cases_Bool, cases_lt, lt-ltb, ltb-false, ltb-true}
use Rattle.std.proofs.lemmas.List.Elements.{All-cons, All-nil, All-filter, All-map, filter_passes}
use Rattle.std.proofs.lemmas.List.Folds.{Any-from_list_any, list_any_at}
use Rattle.std.proofs.lemmas.List.Kept.{AllPairs-filter}
use Rattle.std.proofs.lemmas.List.Quantifiers.{all_pairs_push}
use Rattle.std.proofs.lemmas.Map.Views.{any-filter_same}
use Rattle.std.specs.List.{All, AllPairs, Any, list_any}
use Rattle.elf_image.proofs.Firsts.{first_failing_append, or_else}
use Rattle.elf_image.proofs.Shared.{shares_exactly}
use Rattle.elf_image.specs.Elf.{AreApart, ElfOf, FitsIn, HasAddress, IsLoadable, image_of, part_of, parts_of}
use Rattle.elf_image.specs.Fields.{e_entry, loads}
use Rattle.elf_image.specs.Tests.{IsIn, Test, end_of, entry_test, first_failing, has_bytes, header_tests, holds, load_tests, overlap_tests, passes, presence_test, segment_tests, shares_byte, tests}
use Rattle.elf_image.specs.declared.fault.Fault.{Fault}
use Rattle.elf_image.specs.declared.image.Image.{Image}
use Rattle.elf_image.specs.declared.image.Part.{Part}
use Rattle.elf_image.specs.declared.segment.ProgramHeader.{ProgramHeader}

false_true : false ≡ true → ⊥
false_true e = grind arith

none_first : (o p : Option Fault) → or_else o p ≡ None → o ≡ None
none_first None p e = refl
none_first (Some f) p e = e

none_second : (o p : Option Fault) → or_else o p ≡ None → p ≡ None
none_second None p e = e
none_second (Some f) p e = grind arith

-- where no test of two lists fails, none of either does
front_passes : (ts us : List Test) → first_failing (ts ++ us) ≡ None → first_failing ts ≡ None
front_passes ts us e = none_first (first_failing ts) (first_failing us) (sym (first_failing_append ts us) ∙ e)

back_passes : (ts us : List Test) → first_failing (ts ++ us) ≡ None → first_failing us ≡ None
back_passes ts us e = none_second (first_failing ts) (first_failing us) (sym (first_failing_append ts us) ∙ e)

passed : (b : Bool) (f : Fault) (o : Option Fault) → cond b (Some f) o ≡ None → b ≡ false
passed true f o e = grind arith
passed false f o e = refl

then_passed : (b : Bool) (f : Fault) (o : Option Fault) → cond b (Some f) o ≡ None → o ≡ None
then_passed true f o e = grind arith
then_passed false f o e = e

-- what the tests of one segment say
record Fits (size memory : ℕ) (h : ProgramHeader) : Type 0 where
  sizes : h.p_filesz ≤ h.p_memsz
  inside : 0 < h.p_filesz → h.p_offset + h.p_filesz ≤ size
  below : 0 < h.p_memsz → end_of h ≤ memory

none_past : (end from n : ℕ) → passes end from n ≡ false → 0 < n → from + n ≤ end
none_past end from n e some = grind arith

segment_fits : (size memory : ℕ) (h : ProgramHeader) → first_failing (segment_tests size memory h) ≡ None → Fits size memory h
unfolding segment_tests
segment_fits size memory h e =
    let first = then_passed _ _ _ e in
    let second = then_passed _ _ _ first in
    record {
      sizes = ltb-false h.p_memsz h.p_filesz (passed _ _ _ e);
      inside = none_past size h.p_offset h.p_filesz (passed _ _ _ first);
      below = none_past memory h.p_vaddr h.p_memsz (passed _ _ _ second);
    }

segments_fit : (size memory : ℕ) (hs : List ProgramHeader) → first_failing (flat_map (segment_tests size memory) hs) ≡ None → All (Fits size memory) hs
segments_fit size memory [] e = All-nil (Fits size memory)
segments_fit size memory (h ∷ hs) e =
    All-cons (Fits size memory) h hs
    (segment_fits size memory h (front_passes (segment_tests size memory h) (flat_map (segment_tests size memory) hs) e))
    (segments_fit size memory hs (back_passes (segment_tests size memory h) (flat_map (segment_tests size memory) hs) e))

-- no byte of the earlier one is a byte of the later one
abbrev NoneShared : ProgramHeader → ProgramHeader → Type 0
NoneShared g h = shares_byte h g ≡ false

none_of : (test : ProgramHeader → Bool) (gs : List ProgramHeader) → list_any test gs ≡ false → (k : ℕ) (d : ProgramHeader) → k < length gs → test (get_or gs k d) ≡ false
none_of test gs none k d within = ⊎_elim
    (λ (yes : test (get_or gs k d) ≡ true). grind (arith, list_any_at test gs k d within yes))
    (λ (no : test (get_or gs k d) ≡ false). no)
    (cases_Bool (test (get_or gs k d)))

pairs_clear : (gs hs : List ProgramHeader) → first_failing (overlap_tests gs hs) ≡ None → AllPairs NoneShared gs → AllPairs NoneShared (gs ++ hs)
pairs_clear gs [] e pairs = rw (append-nil gs) pairs
pairs_clear gs (h ∷ hs) e pairs =
    rw (sym (append_assoc gs (h ∷ []) hs))
    (pairs_clear (gs ++ h ∷ []) hs (then_passed _ _ _ e) (all_pairs_push NoneShared gs h pairs (none_of (shares_byte h) gs (passed _ _ _ e))))

taken : (n m : ℕ) (xs : List ℕ) → n ≤ m → (0 < n → n ≤ length xs) → length (take n xs) + (m - n) ≡ m
taken n m xs most inside =
    let within : n ≤ length xs = ⊎_elim inside (λ (none : n ≤ 0). omega arith) (cases_lt 0 n) in
    omega (arith, length-take-le n xs within)

-- a part is as long as its segment is in memory
part_length : (file : List ℕ) (memory : ℕ) (h : ProgramHeader) → Fits (length file) memory h → length (part_of file h).bytes + (part_of file h).zeros ≡ h.p_memsz
part_length file memory h fits = taken h.p_filesz h.p_memsz (drop h.p_offset file) fits.sizes (λ some. omega (arith, length-drop h.p_offset file, fits.inside some))

part_fits : (file : List ℕ) (memory : ℕ) (h : ProgramHeader) → Fits (length file) memory h → has_bytes h ≡ true → FitsIn memory (part_of file h)
part_fits file memory h fits some = omega (arith, part_length file memory h fits, fits.below (ltb-true 0 h.p_memsz some))

segment_has : (file : List ℕ) (memory x : ℕ) (h : ProgramHeader) → Fits (length file) memory h → HasAddress (part_of file h) x → IsIn x h
segment_has file memory x h fits has = (has.0, omega (arith, part_length file memory h fits, has.1))

part_has : (file : List ℕ) (memory x : ℕ) (h : ProgramHeader) → Fits (length file) memory h → IsIn x h → HasAddress (part_of file h) x
part_has file memory x h fits has = (has.0, omega (arith, part_length file memory h fits, has.1))

held : (x : ℕ) (h : ProgramHeader) → holds x h ≡ true → IsIn x h
held x h e = (grind arith, grind arith)

held_has_bytes : (x : ℕ) (h : ProgramHeader) → holds x h ≡ true → has_bytes h ≡ true
held_has_bytes x h e = lt-ltb 0 h.p_memsz (omega (arith, (held x h e).0, (held x h e).1))

parts_fit : (file : List ℕ) (memory : ℕ) (hs : List ProgramHeader) → All (Fits (length file) memory) hs → All (FitsIn memory) (parts_of file hs)
unfolding parts_of
parts_fit file memory hs fits = All-map (FitsIn memory) (part_of file) (filter has_bytes hs) (λ k d within.
    part_fits file memory _ (All-filter has_bytes (Fits (length file) memory) hs fits k d within) (filter_passes has_bytes hs k d within))

pairs_map : (R : Part → Part → Type 0) (f : ProgramHeader → Part) (hs : List ProgramHeader) → AllPairs (λ g h. R (f g) (f h)) hs → AllPairs R (map f hs)
pairs_map R f hs pairs = λ i j d before within.
    let e : ProgramHeader = record { index = 0; p_type = 0; p_offset = 0; p_vaddr = 0; p_filesz = 0; p_memsz = 0; p_flags = 0 } in
    let inside : j < length hs = rw (sym (length-map hs f)) within in
    rw (get_or-map f hs i e d (omega (arith, before, inside)), get_or-map f hs j e d inside) (pairs i j e before inside)

parts_apart : (file : List ℕ) (memory : ℕ) (hs : List ProgramHeader) → All (Fits (length file) memory) hs → AllPairs NoneShared hs → AllPairs AreApart (parts_of file hs)
unfolding parts_of
parts_apart file memory hs fits pairs =
    let kept = filter has_bytes hs in
    let fit = All-filter has_bytes (Fits (length file) memory) hs fits in
    pairs_map AreApart (part_of file) kept (λ i j d before within x here there.
    let g = get_or kept i d in
    let h = get_or kept j d in
    false_true (sym (AllPairs-filter NoneShared has_bytes hs pairs i j d before within)
    ∙ (shares_exactly h g).1 (x, segment_has file memory x h (fit j d within) there, segment_has file memory x g (fit i d (omega (arith, before, within))) here)))

entry_in : (file : List ℕ) (memory entry : ℕ) (hs : List ProgramHeader) → All (Fits (length file) memory) hs → list_any (holds entry) hs ≡ true
    → Any (λ part. HasAddress part entry) (parts_of file hs)
unfolding parts_of
entry_in file memory entry hs fits some =
    let kept = filter has_bytes hs in
    let found = Any-from_list_any (holds entry) kept (any-filter_same (holds entry) has_bytes true (held_has_bytes entry) hs ∙ some) in
    let h = found.1 in
    let fit : Fits (length file) memory h = rw (sym found.3) (All-filter has_bytes (Fits (length file) memory) hs fits found.0 h found.2) in (
      found.0,
      part_of file h,
      rw (length-map kept (part_of file)) found.2,
      get_or-map (part_of file) kept found.0 h (part_of file h) found.2 ∙ ap (part_of file) found.3,
      part_has file memory entry h fit (held entry h found.4),
    )

record Passed (size memory entry : ℕ) (all : List ProgramHeader) : Type 0 where
  segments : first_failing (flat_map (segment_tests size memory) all) ≡ None
  overlaps : first_failing (overlap_tests [] all) ≡ None
  entered : first_failing (entry_test all entry ∷ []) ≡ None

loads_passed : (size memory entry : ℕ) (all : List ProgramHeader) → first_failing (load_tests size memory entry all) ≡ None → Passed size memory entry all
unfolding load_tests
loads_passed size memory entry all e =
    let most = flat_map (segment_tests size memory) all ++ presence_test all ∷ overlap_tests [] all in
    let front = front_passes most (entry_test all entry ∷ []) e in
    record {
      segments = front_passes (flat_map (segment_tests size memory) all) (presence_test all ∷ overlap_tests [] all) front;
      overlaps = then_passed _ _ _ (back_passes (flat_map (segment_tests size memory) all) (presence_test all ∷ overlap_tests [] all) front);
      entered = back_passes most (entry_test all entry ∷ []) e;
    }

aligned_and : (b : Bool) (n : ℕ) → not (n == 0 && b) ≡ false → (n ≡ 0) × (b ≡ true)
aligned_and true n e = (grind arith, refl)
aligned_and false n e = (grind arith, grind arith)

no_pairs : AllPairs NoneShared []
no_pairs = λ i j d before within. grind arith

passing_is_loadable : (file : List ℕ) (memory : ℕ) → first_failing (tests file memory) ≡ None → IsLoadable memory (image_of file)
passing_is_loadable file memory e =
    let p = loads_passed (length file) memory (e_entry file) (loads file)
    (back_passes (header_tests file) (load_tests (length file) memory (e_entry file) (loads file)) e) in
    let fits = segments_fit (length file) memory (loads file) p.segments in
    let entry = aligned_and (list_any (holds (e_entry file)) (loads file)) (e_entry file % 4) (passed _ _ _ p.entered) in
    record {
      fits = parts_fit file memory (loads file) fits;
      apart = parts_apart file memory (loads file) fits (pairs_clear [] (loads file) p.overlaps no_pairs);
      aligned = entry.0;
      entered = entry_in file memory (e_entry file) (loads file) fits entry.1;
    }

pub elf_is_loadable : (file : List ℕ) (memory : ℕ) (image : Image) → ElfOf file memory image → IsLoadable memory image
elf_is_loadable file memory image elf = rw (elf.1) (passing_is_loadable file memory elf.0)
