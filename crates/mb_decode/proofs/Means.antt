-- The one row of a word, from the row that is known and back.
use Rattle.std.proofs.Common.{◌≡◌, ℕ, zero, suc, ◌+◌, ◌^◌, ◌<◌, ◌≤◌, Bool, true, Option, Some, None, List, [], ◌∷◌, length, get_or, refl, sym, ap, ◌∙◌, subst, inl, inr, arith}
use Rattle.std.specs.List.{filter, Contains}
use Rattle.std.specs.Option.{option_map}
use Rattle.std.specs.Int.Bits.{bit_and}
use Rattle.std.proofs.lemmas.Bool.{cases_Bool, eq-eqb, eqb-true}
use Rattle.std.proofs.lemmas.List.Elements.{All-contains, All-filter, All-contains_itself, filter_passes}
use Rattle.op_table.specs.declared.entry.Row.{Row}
use Rattle.op_table.specs.declared.form.Form.{Form}
use Rattle.op_table.specs.declared.form.Form.TheVariants.{A}
use Rattle.op_table.specs.declared.op.Op.{Op}
use Rattle.op_table.specs.Table.{rows, matches, rows_of, row_for, IsRowOf, IsSound}
use Rattle.mb_decode.specs.declared.instruction.Instr.{Instr}
use Rattle.mb_decode.specs.Meaning.{read, Fits, placed, the_only, Means, InRange, limits_of}
use Rattle.op_table.specs.Forms.{fields_of}
use Rattle.mb_decode.proofs.Masks.{kept, and_is_kept}
use Rattle.mb_decode.proofs.Spelling.{Reads, spelled_reads, Spells, read_spells}

-- an item that passes is in what a filter keeps
kept_by_filter : {X : Type 0} (p : X → Bool) (x : X) (xs : List X) (k : ℕ) → k < length xs → get_or xs k x ≡ x → p x ≡ true → Contains (filter p xs) x
kept_by_filter p x [] k lt is passes = absurd (omega arith)
kept_by_filter p x (y ∷ ys) zero lt is passes =
    let here : p y ≡ true = ap p is ∙ passes in
    rw here (zero, omega arith, is)
kept_by_filter p x (y ∷ ys) (suc k) lt is passes =
    let later : Contains (filter p ys) x = kept_by_filter p x ys k (omega arith) is passes in
    elim (cases_Bool (p y)) [
      | inl keeps ↦ rw keeps (suc later.0, omega (arith, later.1), later.2)
      | inr drops ↦ rw drops later
    ]

-- what is in a list of at most one is its only item
only_of_few : {X : Type 0} (x : X) (xs : List X) → length xs ≤ 1 → Contains xs x → the_only xs ≡ Some x
only_of_few x [] few within = absurd (omega (arith, within.1))
only_of_few x (y ∷ []) few within =
    let first : within.0 ≡ 0 = omega (arith, within.1) in
    ap Some (subst (λ (k : ℕ). get_or (y ∷ []) k x ≡ x) first within.2)
only_of_few x (y ∷ z ∷ zs) few within = absurd (omega arith)

pub the_row : (w : ℕ) (r : Row) → length (rows_of w) ≤ 1 → Contains rows r → matches w r ≡ true → the_only (rows_of w) ≡ Some r
the_row w r few within passes =
    only_of_few r (rows_of w) few (kept_by_filter (matches w) r rows within.0 within.1 within.2 passes)

-- the only item of a list is in it
only_within : {X : Type 0} (x : X) (xs : List X) → the_only xs ≡ Some x → Contains xs x
only_within x [] is = cc
only_within x (y ∷ []) is = (0, omega arith, cc)
only_within x (y ∷ z ∷ zs) is = cc

some_of_map : {X Y : Type 0} (f : X → Y) (o : Option X) (y : Y) → option_map f o ≡ Some y → (x : X) × (o ≡ Some x) × (f x ≡ y)
some_of_map f None y is = cc
some_of_map f (Some x) y is = (x, refl, cc)

read_named : (f : Form) (op : Op) (w : ℕ) → (read f op w).op ≡ op
read_named A op w = refl
read_named _ op w = refl

-- an instruction fits its row, and is spelled as a word
pub record Spelled (r : Row) (i : Instr) (w : ℕ) : Type 0 where
  pub fits : Fits r.form i
  pub word : r.bits + placed r.form i ≡ w

-- a word that means an instruction is the one that its row spells
pub spelled_of_means : (w : ℕ) (i : Instr) (r : Row) → w < 2 ^ 32 → IsRowOf i.op r → IsSound r → Means w i → Spelled r i w
spelled_of_means w i r word row sound means =
    let found = some_of_map (λ (s : Row). read s.form s.op w) (the_only (rows_of w)) i means in
    let inside : Contains (rows_of w) found.0 = only_within found.0 (rows_of w) found.1 in
    let listed : Contains rows found.0 = All-contains (Contains rows) (rows_of w) found.0 (All-filter (matches w) (Contains rows) rows (All-contains_itself rows)) inside in
    let passes : matches w found.0 ≡ true = All-contains (λ s. matches w s ≡ true) (rows_of w) found.0 (filter_passes (matches w) rows) inside in
    let named : found.0.op ≡ i.op = sym (read_named found.0.form found.0.op w) ∙ ap (λ (j : Instr). j.op) found.2 in
    let same : found.0 ≡ r = row.only found.0 listed named in
    let reads : read r.form r.op w ≡ i = ap (λ (s : Row). read s.form s.op w) (sym same) ∙ found.2 in
    let of_row : bit_and w r.mask ≡ r.bits = eqb-true _ _ (subst (λ (s : Row). matches w s ≡ true) same passes) in
    let keeps : kept r.form w ≡ r.bits = sym (and_is_kept r.form w word) ∙ ap (bit_and w) (sym sound.mask) ∙ of_row in
    let spells : Spells r.form r.op r.bits w = read_spells r.form r.op r.bits w word keeps in
    record {
      fits = subst (λ (j : Instr). Fits r.form j) reads spells.fits;
      word = ap (λ (j : Instr). r.bits + placed r.form j) (sym reads) ∙ spells.word;
    }

bits_kept : (r : Row) → IsSound r → kept r.form r.bits ≡ r.bits
bits_kept r sound = sym (and_is_kept r.form r.bits sound.word) ∙ ap (bit_and r.bits) (sym sound.mask) ∙ sound.bits

-- what fits a row is spelled as a word
pub spelled_word : (i : Instr) (r : Row) → IsSound r → Fits r.form i → r.bits + placed r.form i < 2 ^ 32
spelled_word i r sound fits = (spelled_reads r.form r.bits i sound.word (bits_kept r sound) fits).word

-- and that word means the instruction
pub means_of_fits : (i : Instr) (r : Row) → ((w : ℕ) → length (rows_of w) ≤ 1) → IsRowOf i.op r → IsSound r → Fits r.form i → Means (r.bits + placed r.form i) i
means_of_fits i r few row sound fits =
    let w = r.bits + placed r.form i in
    let reads : Reads r.form r.bits i = spelled_reads r.form r.bits i sound.word (bits_kept r sound) fits in
    let of_row : bit_and w r.mask ≡ r.bits = ap (bit_and w) sound.mask ∙ and_is_kept r.form w reads.word ∙ reads.row in
    let only : the_only (rows_of w) ≡ Some r = the_row w r (few w) row.listed (eq-eqb _ _ of_row) in
    ap (option_map (λ (s : Row). read s.form s.op w)) only
    ∙ ap (λ (op : Op). Some (read r.form op w)) row.named
    ∙ ap Some reads.fields

-- an instruction that a word means fits its row
pub fits_of_means : ((op : Op) → IsRowOf op (row_for op)) → ((op : Op) → IsSound (row_for op)) → (w : ℕ) (i : Instr) → w < 2 ^ 32 → Means w i → Fits (row_for i.op).form i
fits_of_means known sound w i word means = (spelled_of_means w i (row_for i.op) word (known i.op) (sound i.op) means).fits

-- two words that mean one instruction are one word
pub one_word : ((op : Op) → IsRowOf op (row_for op)) → ((op : Op) → IsSound (row_for op)) → (v w : ℕ) (i : Instr) → v < 2 ^ 32 → w < 2 ^ 32 → Means v i → Means w i → v ≡ w
one_word known sound v w i v_word w_word v_means w_means =
    let left : Spelled (row_for i.op) i v = spelled_of_means v i (row_for i.op) v_word (known i.op) (sound i.op) v_means in
    let right : Spelled (row_for i.op) i w = spelled_of_means w i (row_for i.op) w_word (known i.op) (sound i.op) w_means in
    sym left.word ∙ right.word

-- a word means one instruction
pub one_instruction : (w : ℕ) (i j : Instr) → Means w i → Means w j → i ≡ j
one_instruction w i j i_means j_means = cc

flags_limit : (f : Form) → (limits_of (fields_of f)).flags ≤ 32
flags_limit A = omega arith
flags_limit _ = omega arith

-- what fits its row is in the range of its instruction
pub in_range : (i : Instr) → Fits (row_for i.op).form i → InRange i
in_range i fits = record { imm = fits.imm; flags = omega (arith, fits.flags, flags_limit (row_for i.op).form) }
