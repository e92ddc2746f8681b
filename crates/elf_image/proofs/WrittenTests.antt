-- A written file passes the tests of an executable.
use Rattle.std.proofs.Common.{◌≡◌, ℕ, zero, suc, ◌+◌, ◌*◌, ◌<◌, ◌≤◌, Bool, true, false, not, ◌&&◌, ◌||◌, List, [], ◌∷◌, ◌++◌, length, get_or, Option, None, Some, refl, ap, inl, inr, arith, length-append}
use Rattle.std.specs.Prelude.{flat_map, nat_lt, ◌==◌, if◌then◌else◌}
use Rattle.std.specs.List.{All, AllPairs, list_any}
use Rattle.std.proofs.lemmas.Bool.{and_parts, cases_Bool, cases_lt, eq-eqb, le-ltb, lt-ltb, ltb-true, or_right, or_from, or_parts}
use Rattle.core_regs.specs.declared.causes.Order.{Order}
use Rattle.core_regs.specs.declared.causes.Order.TheVariants.{Big, Little}
use Rattle.elf_image.specs.Elf.{AreApart, FitsIn, HasAddress}
use Rattle.elf_image.specs.Fields.{e_machine, e_phentsize, e_phnum, e_phoff, e_type, e_version, ei_class, ei_data, ei_version}
use Rattle.elf_image.specs.Tests.{Test, first_failing, has_magic, header_tests, holds, overlap_tests, passes, segment_tests, shares_byte}
use Rattle.elf_image.specs.declared.image.Part.{Part}
use Rattle.elf_image.specs.declared.segment.ProgramHeader.{ProgramHeader}
use Rattle.elf_image.specs.Written.{HasHeader, header, spelled}
use Rattle.elf_image.proofs.WrittenLoads.{header_of, headers_from}

abbrev pub Pass : List Test → Type 0
Pass ts = first_failing ts ≡ None

no_some : {X : Type 0} (b : Bool) (x : X) (o : Option X) → b ≡ true → (if b then Some x else o) ≡ None → ⊥
no_some b x o fails none = let some : Some x ≡ None = rw fails at none in cc

pub pass_both : (ts us : List Test) → Pass ts → Pass us → Pass (ts ++ us)
pass_both [] us first second = second
pass_both (t ∷ ts) us first second = elim (cases_Bool t.fails) [
  | inl fails ↦ absurd (no_some t.fails t.fault (first_failing ts) fails first)
  | inr fine ↦ rw fine (pass_both ts us (rw fine at first) second)
]

-- what the first bytes of a written file are
pub record IsElf (file : List ℕ) : Type 0 where
  pub magic : has_magic file ≡ true
  pub class : (ei_class file == 1) ≡ true
  pub data_order : (ei_data file == 1 || ei_data file == 2) ≡ true
  pub version : (ei_version file == 1) ≡ true

pub is_elf : (order : Order) (entry count : ℕ) (rest : List ℕ) → IsElf (spelled order (header order entry count) ++ rest)
unfolding spelled header
is_elf Big entry count rest = record { magic = refl; class = refl; data_order = refl; version = refl }
is_elf Little entry count rest = record { magic = refl; class = refl; data_order = refl; version = refl }

and_false : (b c : Bool) → c ≡ false → (b && c) ≡ false
and_false true c is = is
and_false false c is = refl

pub header_passes : (file : List ℕ) (order : Order) (entry count : ℕ) → IsElf file → HasHeader order entry count file → 52 + 32 * count ≤ length file → Pass (header_tests file)
unfolding header_tests
header_passes file order entry count elf h long =
    let short : nat_lt (length file) 52 ≡ false = le-ltb _ _ (omega arith) in
    let version : (e_version file == 1) ≡ true = eq-eqb _ _ h.version in
    let type : (e_type file == 2) ≡ true = eq-eqb _ _ h.type in
    let machine : (e_machine file == 189) ≡ true = eq-eqb _ _ h.machine in
    let sized : (e_phentsize file == 32) ≡ true = eq-eqb _ _ h.size in
    let entry_size : (not (e_phnum file == 0) && not (e_phentsize file == 32)) ≡ false = and_false _ _ (ap not sized) in
    let within : nat_lt (length file) (e_phoff file + 32 * e_phnum file) ≡ false = le-ltb _ _ (rw (h.table, h.count) long) in
    let table : passes (length file) (e_phoff file) (32 * e_phnum file) ≡ false = and_false _ _ within in
    rw (elf.magic, short, elf.class, elf.data_order, elf.version, version, type, machine, entry_size, table) refl

-- ---- the tests of each part

segment_passes : (size memory k place : ℕ) (p : Part) → place + length p.bytes ≤ size → p.addr + length p.bytes + p.zeros ≤ memory → Pass (segment_tests size memory (header_of k place p))
unfolding segment_tests
segment_passes size memory k place p in_file in_memory =
    let sizes : nat_lt (length p.bytes + p.zeros) (length p.bytes) ≡ false = le-ltb _ _ (omega arith) in
    let bytes : passes size place (length p.bytes) ≡ false = and_false _ _ (le-ltb _ _ in_file) in
    let past : nat_lt memory (p.addr + (length p.bytes + p.zeros)) ≡ false = le-ltb _ _ (omega arith) in
    let room : passes memory p.addr (length p.bytes + p.zeros) ≡ false = and_false _ _ past in
    rw (sizes, bytes, room) refl

pub segments_pass : (size memory k place : ℕ) (parts : List Part) → place + length (flat_map (λ (p : Part). p.bytes) parts) ≤ size → All (FitsIn memory) parts → Pass (flat_map (segment_tests size memory) (headers_from k place parts))
segments_pass size memory k place [] in_file in_memory = refl
segments_pass size memory k place (p ∷ ps) in_file in_memory =
    let joined = length-append p.bytes (flat_map (λ (q : Part). q.bytes) ps) in
    pass_both (segment_tests size memory (header_of k place p)) (flat_map (segment_tests size memory) (headers_from (k + 1) (place + length p.bytes) ps))
    (segment_passes size memory k place p (omega arith) (in_memory 0 p (omega arith)))
    (segments_pass size memory (k + 1) (place + length p.bytes) ps (omega arith) (λ j d lt. in_memory (suc j) d (omega arith)))

-- ---- no two parts share a byte

not_shared : (k place l offset : ℕ) (p q : Part) → AreApart p q → shares_byte (header_of k place q) (header_of l offset p) ≡ false
not_shared k place l offset p q apart = elim (cases_Bool (shares_byte (header_of k place q) (header_of l offset p))) [
  | inl shares ↦
      let abc = and_parts _ (nat_lt p.addr (q.addr + (length q.bytes + q.zeros))) shares in
      let ab = and_parts _ (nat_lt q.addr (p.addr + (length p.bytes + p.zeros))) abc.0 in
      let a = and_parts (nat_lt 0 (length q.bytes + q.zeros)) (nat_lt 0 (length p.bytes + p.zeros)) ab.0 in
      let q_some = ltb-true 0 (length q.bytes + q.zeros) a.0 in
      let p_some = ltb-true 0 (length p.bytes + p.zeros) a.1 in
      let q_below = ltb-true q.addr (p.addr + (length p.bytes + p.zeros)) ab.1 in
      let p_below = ltb-true p.addr (q.addr + (length q.bytes + q.zeros)) abc.1 in
      elim (cases_lt p.addr q.addr) [
        | inl lower ↦ absurd (apart q.addr (omega arith, omega arith) (omega arith, omega arith))
        | inr higher ↦ absurd (apart p.addr (omega arith, omega arith) (omega arith, omega arith))
      ]
  | inr fine ↦ fine
]

-- each part is clear of the headers before it
abbrev pub AreClear : List ProgramHeader → List Part → Type 0
AreClear earlier parts = (j k place : ℕ) (d : Part) → j < length parts → list_any (shares_byte (header_of k place (get_or parts j d))) earlier ≡ false

any_append : (test : ProgramHeader → Bool) (xs ys : List ProgramHeader) → list_any test xs ≡ false → list_any test ys ≡ false → list_any test (xs ++ ys) ≡ false
any_append test [] ys none others = others
any_append test (x ∷ xs) ys none others =
    let parts = or_parts (test x) (list_any test xs) none in
    or_from (test x) (list_any test (xs ++ ys)) parts.0 (any_append test xs ys parts.1 others)

pub overlaps_pass : (earlier : List ProgramHeader) (k place : ℕ) (parts : List Part) → AreClear earlier parts → AllPairs AreApart parts → Pass (overlap_tests earlier (headers_from k place parts))
overlaps_pass earlier k place [] clear apart = refl
overlaps_pass earlier k place (p ∷ ps) clear apart =
    let here : list_any (shares_byte (header_of k place p)) earlier ≡ false = clear 0 k place p (omega arith) in
    let later : AreClear (earlier ++ header_of k place p ∷ []) ps = λ j l offset d lt.
    any_append (shares_byte (header_of l offset (get_or ps j d))) earlier (header_of k place p ∷ []) (clear (suc j) l offset d (omega arith))
    (or_from _ false (not_shared l offset k place p (get_or ps j d) (apart 0 (suc j) d (omega arith) (omega arith))) refl) in
    rw here (overlaps_pass (earlier ++ header_of k place p ∷ []) (k + 1) (place + length p.bytes) ps later (λ i j d lt within. apart (suc i) (suc j) d (omega arith) (omega arith)))

-- ---- the entry

pub any_holds : (entry k place : ℕ) (parts : List Part) (j : ℕ) (d : Part) → j < length parts → HasAddress (get_or parts j d) entry → list_any (holds entry) (headers_from k place parts) ≡ true
any_holds entry k place [] j d lt within = absurd (omega arith)
any_holds entry k place (p ∷ ps) zero d lt within =
    let above : nat_lt entry p.addr ≡ false = le-ltb _ _ within.0 in
    let below : nat_lt entry (p.addr + (length p.bytes + p.zeros)) ≡ true = lt-ltb _ _ (omega (arith, within.1)) in
    rw (above, below) refl
any_holds entry k place (p ∷ ps) (suc j) d lt within = or_right _ _ (any_holds entry (k + 1) (place + length p.bytes) ps j d (omega arith) within)
