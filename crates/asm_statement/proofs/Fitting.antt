-- An instruction that is read without a fault has a word.
use Rattle.std.proofs.Common.{◌≡◌, ℕ, zero, suc, ◌+◌, ◌*◌, ◌%◌, ◌^◌, ◌<◌, ◌≤◌, Bool, true, false, ◌==◌, List, [], ◌∷◌, ◌++◌, length, drop, Option, None, Some, ℤ, pos, negsuc, refl, sym, ap, ◌∙◌, subst, inl, inr, ◌⊎◌, arith}
use Rattle.std.specs.Prelude.{find, bytes_eq, codes, ◌&&◌, if◌then◌else◌}
use Rattle.std.specs.Option.{option_map}
use Rattle.std.specs.List.{range_with_len}
use Rattle.std.proofs.lemmas.Bool.{and_parts, cases_Bool, false≢true, ltb-true}
use Rattle.std.proofs.lemmas.List.Elements.{All-contains_itself}
use Rattle.std.specs.Cmp.Lexicographic.{bytes_decides}
use Rattle.op_table.specs.declared.entry.Row.{Row}
use Rattle.op_table.specs.declared.form.Form.{Form}
use Rattle.op_table.specs.declared.form.Form.TheVariants.{A, U, B, S, R, Rl, I, Il, Cr, Ci, M, N, T, E, G, P, Gd, Pd}
use Rattle.op_table.specs.declared.kinds.Kind.{Kind}
use Rattle.op_table.specs.declared.kinds.Kind.TheVariants.{Prefix}
use Rattle.op_table.specs.declared.op.Op.{Op}
use Rattle.op_table.specs.declared.op.Op.TheVariants.{Add}
use Rattle.op_table.specs.Forms.{fields_of}
use Rattle.op_table.specs.Mnemonics.{text_of}
use Rattle.op_table.specs.Table.{kind_of, row_for, rows}
use Rattle.op_table.proofs.PlacesLemmas.{known_row}
use Rattle.mb_decode.specs.declared.instruction.Instr.{Instr}
use Rattle.mb_decode.specs.Meaning.{Fits, limits_of}
use Rattle.mb_lex.specs.Lexemes.{Lexeme, Word, Literal, Text, Comma, Colon, Bad, Placed}
use Rattle.asm_syntax.specs.declared.mnemonics.Named.{Named}
use Rattle.asm_syntax.specs.declared.slot.Slot.{Slot}
use Rattle.asm_syntax.specs.declared.slot.Slot.TheVariants.{RegisterD, RegisterA, RegisterB, Value, Number as Below, Upper, Port, Special}
use Rattle.asm_syntax.specs.Names.{name_of}
use Rattle.asm_syntax.specs.Operands.{has_special, port_name, port_of, register_name, register_of, with_special}
use Rattle.asm_syntax.specs.Shapes.{shape_of, upper_or_value}
use Rattle.asm_syntax.specs.Spelling.{alias, flags_of, letters, letters_in, mnemonic, named_in, or_else, shape_of_named}
use Rattle.asm_source.specs.declared.fault.Rule.{Rule}
use Rattle.asm_source.specs.declared.fault.Rule.TheVariants.{OutOfRange}
use Rattle.asm_source.specs.declared.item.Item.TheVariants.{Instruction}
use Rattle.asm_source.specs.declared.item.Operand.{Operand}
use Rattle.asm_source.specs.Source.{HasWord}
use Rattle.asm_source.proofs.Lists.{Every, either, every_all, every_map}
use Rattle.asm_statement.specs.declared.operands.Note.{Note}
use Rattle.asm_statement.specs.declared.operands.Operation.{Operation}
use Rattle.asm_statement.specs.Instructions.{instruction, is_test_put, shape_for, unread}
use Rattle.asm_statement.specs.Labels.{Labels}
use Rattle.asm_statement.specs.Operands.{first_value, is_below, low_half, noted, or_same, or_zero, rule_at, take_all, value_of, with_all, with_number, with_operand, with_token, with_word}

-- ---- what is found in a list

abbrev FoundBy : {X : Type 0} → (X → Type 0) → Option X → Type 0
FoundBy Q None = Unit {0}
FoundBy Q (Some x) = Q x

found_by : {X : Type 0} (p : X → Bool) (Q : X → Type 0) (xs : List X) → Every Q xs → FoundBy (λ x. Q x × (p x ≡ true)) (find p xs)
found_by p Q [] all = tt
found_by p Q (x ∷ xs) all = elim (cases_Bool (p x)) [
  | inl passes ↦ rw passes (all.0, passes)
  | inr fails ↦ rw fails (found_by p Q xs all.1)
]

every_number : (Q : ℕ → Type 0) (a n m : ℕ) → ((k : ℕ) → k < m → Q k) → a + n ≤ m → Every Q (range_with_len a n)
every_number Q a zero m all within = tt
every_number Q a (suc n) m all within = (all a (omega (arith, within)), every_number Q (a + 1) n m all (omega (arith, within)))

small_number : (p : ℕ → Bool) (n : ℕ) → 0 < n → or_zero (find p (range_with_len 0 n)) < n
small_number p n some = of (find p (range_with_len 0 n)) (found_by p (λ k. k < n) (range_with_len 0 n) (every_number (λ k. k < n) 0 n n (λ k lt. lt) (omega arith)))
  where
    of : (o : Option ℕ) → FoundBy (λ k. (k < n) × (p k ≡ true)) o → or_zero o < n
    of None found = some
    of (Some k) found = found.0

small_register : (word : List ℕ) → or_zero (register_of word) < 32
unfolding register_of
small_register word = small_number (λ r. bytes_eq (register_name r) word) 32 (omega arith)

small_port : (word : List ℕ) → or_zero (port_of word) < 16
unfolding port_of
small_port word = small_number (λ k. bytes_eq (port_name k) word) 16 (omega arith)

-- ---- rows

every_row : (Q : Row → Type 0) → ((op : Op) → Q (row_for op)) → Every Q rows
every_row Q all = every_all Q rows (λ k d lt.
    let listed = All-contains_itself rows k d lt in
    subst Q (sym ((known_row _).only _ listed refl)) (all _))

-- ---- letters

pub record FlagsFit (form : Form) (flags : ℕ) : Type 0 where
  pub below : flags < (limits_of (fields_of form)).flags
  pub letters : flags % (limits_of (fields_of form)).step ≡ 0

every_flag : (form : Form) → Every (FlagsFit form) (flags_of form)
every_flag G = every_number (FlagsFit G) 0 32 32 (λ k lt. record { below = lt; letters = omega arith }) (omega arith)
every_flag Gd = every_number (FlagsFit Gd) 0 32 32 (λ k lt. record { below = lt; letters = omega arith }) (omega arith)
every_flag P = every_map (FlagsFit P) (λ k. 2 * k) (range_with_len 0 16) (every_number (λ k. FlagsFit P (2 * k)) 0 16 16 (λ k lt. record { below = omega (arith, lt); letters = omega arith }) (omega arith))
every_flag Pd = every_map (FlagsFit Pd) (λ k. 2 * k) (range_with_len 0 16) (every_number (λ k. FlagsFit Pd (2 * k)) 0 16 16 (λ k lt. record { below = omega (arith, lt); letters = omega arith }) (omega arith))
every_flag A = (record { below = omega arith; letters = refl }, tt)
every_flag form = (record { below = omega arith; letters = refl }, tt)

abbrev pub NameFits : Option Named → Type 0
NameFits None = Unit {0}
NameFits (Some n) = FlagsFit (row_for n.op).form n.flags

alias_fits : (word : List ℕ) → NameFits (alias word)
unfolding row_for rows
alias_fits word =
    either NameFits (bytes_eq word (codes "nop")) _ _ (record { below = omega arith; letters = refl })
    (either NameFits (bytes_eq word (codes "la")) _ None (record { below = omega arith; letters = refl }) tt)

or_else_fits : (r : Row) (flags : Option ℕ) (others : Option Named) → row_for r.op ≡ r → FoundBy (FlagsFit r.form) flags → NameFits others → NameFits (or_else r flags others)
or_else_fits r None others known found fits = fits
or_else_fits r (Some flags) others known found fits = subst (λ (s : Row). FlagsFit s.form flags) (sym known) found

letters_fit : (word : List ℕ) (r : Row) → FoundBy (FlagsFit r.form) (letters_in word r)
letters_fit word r = of (letters_in word r) (found_by (λ flags. bytes_eq (letters flags ++ text_of r.name) word) (FlagsFit r.form) (flags_of r.form) (every_flag r.form))
  where
    of : (o : Option ℕ) → FoundBy (λ flags. FlagsFit r.form flags × (bytes_eq (letters flags ++ text_of r.name) word ≡ true)) o → FoundBy (FlagsFit r.form) o
    of None found = tt
    of (Some flags) found = found.0

named_fits : (rs : List Row) (word : List ℕ) → Every (λ r. row_for r.op ≡ r) rs → NameFits (named_in rs word)
unfolding named_in
named_fits [] word known = alias_fits word
named_fits (r ∷ rs) word known = or_else_fits r (letters_in word r) (named_in rs word) known.0 (letters_fit word r) (named_fits rs word known.1)

itself_known : (op : Op) → row_for (row_for op).op ≡ row_for op
itself_known op = ap row_for (known_row op).named

pub mnemonic_fits : (word : List ℕ) → NameFits (mnemonic word)
unfolding mnemonic
mnemonic_fits word = named_fits rows word (every_row (λ r. row_for r.op ≡ r) itself_known)

-- ---- special registers: all instructions of one name have one form

is_m : Form → Bool
is_m M = true
is_m _ = false

is_t : Form → Bool
is_t T = true
is_t _ = false

m_named : (op : Op) → bytes_eq (name_of op) (codes "mfs") ≡ is_m (row_for op).form
unfolding name_of rows row_for is_m
m_named Add = refl
m_named op = refl

t_named : (op : Op) → bytes_eq (name_of op) (codes "mts") ≡ is_t (row_for op).form
unfolding name_of rows row_for is_t
t_named Add = refl
t_named op = refl

m_form : (form : Form) → is_m form ≡ true → form ≡ M
unfolding is_m
m_form M is = refl
m_form form is = absurd (false≢true is)

t_form : (form : Form) → is_t form ≡ true → form ≡ T
unfolding is_t
t_form T is = refl
t_form form is = absurd (false≢true is)

abbrev HasSpecial : Form → Type 0
HasSpecial form = (form ≡ M) ⊎ (form ≡ T)

same_form : (form : Form) (op other : Op) → HasSpecial form → (row_for op).form ≡ form → name_of other ≡ name_of op → (row_for other).form ≡ form
unfolding is_m is_t
same_form form op other (inl m) is named =
    m_form (row_for other).form (sym (m_named other) ∙ ap (λ n. bytes_eq n (codes "mfs")) named ∙ m_named op ∙ ap is_m (is ∙ m)) ∙ sym m
same_form form op other (inr t) is named =
    t_form (row_for other).form (sym (t_named other) ∙ ap (λ n. bytes_eq n (codes "mts")) named ∙ t_named op ∙ ap is_t (is ∙ t)) ∙ sym t

special_form : (form : Form) (op : Op) (word : List ℕ) → HasSpecial form → (row_for op).form ≡ form → (row_for (or_same op (with_special op word))).form ≡ form
unfolding with_special name_of
special_form form op word has is = of (find (has_special (name_of op) word) rows) (found_by (has_special (name_of op) word) (λ r. row_for r.op ≡ r) rows (every_row (λ r. row_for r.op ≡ r) itself_known))
  where
    of : (o : Option Row) → FoundBy (λ (r : Row). (row_for r.op ≡ r) × (has_special (name_of op) word r ≡ true)) o → (row_for (or_same op (option_map (λ (r : Row). r.op) o))).form ≡ form
    of None found = is
    of (Some r) found =
        let named = (bytes_decides (text_of r.name) (name_of op)).0 (and_parts _ _ found.1).0 in
        same_form form op r.op has is (ap (λ (s : Row). text_of s.name) found.0 ∙ named)

-- ---- the operands of a form

abbrev SlotFits : Form → Slot → Type 0
SlotFits form RegisterD = (limits_of (fields_of form)).rd ≡ 32
SlotFits form RegisterA = (limits_of (fields_of form)).ra ≡ 32
SlotFits form RegisterB = (limits_of (fields_of form)).rb ≡ 32
SlotFits form Value = (limits_of (fields_of form)).imm ≡ 2 ^ 16
SlotFits form (Below bound) = bound ≤ (limits_of (fields_of form)).imm
SlotFits form Upper = (limits_of (fields_of form)).imm ≡ 2 ^ 16
SlotFits form Port = (limits_of (fields_of form)).imm ≡ 16
SlotFits form Special = HasSpecial form

upper_fits : (kind : Kind) → SlotFits I (upper_or_value kind)
upper_fits Prefix = refl
upper_fits kind = refl

shape_fits : (form : Form) (kind : Kind) → Every (SlotFits form) (shape_of form kind)
unfolding shape_of
shape_fits A kind = (refl, (refl, (refl, tt)))
shape_fits U kind = (refl, (refl, tt))
shape_fits B kind = (refl, (refl, (refl, tt)))
shape_fits S kind = (refl, (refl, (omega arith, tt)))
shape_fits R kind = (refl, tt)
shape_fits Rl kind = (refl, (refl, tt))
shape_fits I kind = (upper_fits kind, tt)
shape_fits Il kind = (refl, (refl, tt))
shape_fits Cr kind = (refl, (refl, tt))
shape_fits Ci kind = (refl, (refl, tt))
shape_fits M kind = (refl, (inl refl, tt))
shape_fits N kind = (omega arith, tt)
shape_fits T kind = (inr refl, (refl, tt))
shape_fits E kind = (refl, (omega arith, tt))
shape_fits G kind = (refl, (refl, tt))
shape_fits P kind = (refl, (refl, tt))
shape_fits Gd kind = (refl, (refl, tt))
shape_fits Pd kind = (refl, (refl, tt))

rest_fits : (form : Form) (ss : List Slot) → Every (SlotFits form) ss → Every (SlotFits form) (drop 1 ss)
rest_fits form [] fits = tt
rest_fits form (s ∷ ss) fits = fits.1

named_shape_fits : (n : Named) → Every (SlotFits (row_for n.op).form) (shape_of_named n)
unfolding shape_of_named
named_shape_fits n = either (Every (SlotFits (row_for n.op).form)) n.bare [] (shape_of (row_for n.op).form (kind_of n.op)) tt (shape_fits (row_for n.op).form (kind_of n.op))

written_shape_fits : (n : Named) (count : ℕ) → Every (SlotFits (row_for n.op).form) (shape_for n count)
unfolding shape_for
written_shape_fits n count =
    let all = named_shape_fits n in
    either (Every (SlotFits (row_for n.op).form)) (is_test_put n && count + 1 == length (shape_of_named n)) (drop 1 (shape_of_named n)) (shape_of_named n) (rest_fits (row_for n.op).form (shape_of_named n) all) all

-- ---- an instruction with its operands so far

abbrev HasHalf : Form → Option Operand → Type 0
HasHalf form None = Unit {0}
HasHalf form (Some v) = (limits_of (fields_of form)).imm ≡ 2 ^ 16

record IsGood (form : Form) (i : Instr) : Type 0 where
  named : (row_for i.op).form ≡ form
  fits : Fits form i

module _ (form : Form) (i : Instr) (good : IsGood form i) where
  with_rd : (n : ℕ) → n < (limits_of (fields_of form)).rd → IsGood form (record i { rd = n })
  with_rd n lt = record { named = good.named; fits = record { rd = lt; ra = good.fits.ra; rb = good.fits.rb; imm = good.fits.imm; flags = good.fits.flags; letters = good.fits.letters } }

  with_ra : (n : ℕ) → n < (limits_of (fields_of form)).ra → IsGood form (record i { ra = n })
  with_ra n lt = record { named = good.named; fits = record { rd = good.fits.rd; ra = lt; rb = good.fits.rb; imm = good.fits.imm; flags = good.fits.flags; letters = good.fits.letters } }

  with_rb : (n : ℕ) → n < (limits_of (fields_of form)).rb → IsGood form (record i { rb = n })
  with_rb n lt = record { named = good.named; fits = record { rd = good.fits.rd; ra = good.fits.ra; rb = lt; imm = good.fits.imm; flags = good.fits.flags; letters = good.fits.letters } }

  with_imm : (n : ℕ) → n < (limits_of (fields_of form)).imm → IsGood form (record i { imm = n })
  with_imm n lt = record { named = good.named; fits = record { rd = good.fits.rd; ra = good.fits.ra; rb = good.fits.rb; imm = lt; flags = good.fits.flags; letters = good.fits.letters } }

  word_good : (slot : Slot) (word : List ℕ) → SlotFits form slot → IsGood form (with_word slot word i)
  word_good RegisterD word fits = with_rd (or_zero (register_of word)) (omega (arith, fits, small_register word))
  word_good RegisterA word fits = with_ra (or_zero (register_of word)) (omega (arith, fits, small_register word))
  word_good RegisterB word fits = with_rb (or_zero (register_of word)) (omega (arith, fits, small_register word))
  word_good Port word fits = with_imm (or_zero (port_of word)) (omega (arith, fits, small_port word))
  word_good Special word fits = record {
    named = special_form form i.op word fits good.named;
    fits = record { rd = good.fits.rd; ra = good.fits.ra; rb = good.fits.rb; imm = good.fits.imm; flags = good.fits.flags; letters = good.fits.letters };
  }
  word_good Value word fits = good
  word_good (Below bound) word fits = good
  word_good Upper word fits = good

  small_half : (bound : ℕ) (z : ℤ) → is_below bound z ≡ true → low_half z < bound
  small_half bound (pos n) below = let lt = ltb-true n bound below in omega (arith, lt)
  small_half bound (negsuc n) below = absurd (false≢true below)

  within_field : (b : Bool) → (if b then None else Some OutOfRange) ≡ None → b ≡ true
  within_field true none = refl
  within_field false none = cc

  number_good : (labels : Labels) (after_imm : Bool) (slot : Slot) (z : ℤ) → SlotFits form slot → rule_at labels slot after_imm (Literal z) ≡ None → IsGood form (with_number slot z i)
  number_good labels after_imm (Below bound) z fits clean = with_imm (low_half z) (omega (arith, fits, small_half bound z (within_field (is_below bound z) clean)))
  number_good labels after_imm Upper z fits clean = with_imm (low_half z) (omega (arith, fits, small_half (2 ^ 16) z (within_field (is_below (2 ^ 16) z) clean)))
  number_good labels after_imm RegisterD z fits clean = good
  number_good labels after_imm RegisterA z fits clean = good
  number_good labels after_imm RegisterB z fits clean = good
  number_good labels after_imm Value z fits clean = good
  number_good labels after_imm Port z fits clean = good
  number_good labels after_imm Special z fits clean = good

  operand_good : (labels : Labels) (after_imm : Bool) (slot : Slot) (x : Lexeme) → SlotFits form slot → rule_at labels slot after_imm x ≡ None → IsGood form (with_operand slot x i)
  operand_good labels after_imm slot (Word word) fits clean = word_good slot word fits
  operand_good labels after_imm slot (Literal z) fits clean = number_good labels after_imm slot z fits clean
  operand_good labels after_imm slot (Text bytes) fits clean = good
  operand_good labels after_imm slot Comma fits clean = good
  operand_good labels after_imm slot Colon fits clean = good
  operand_good labels after_imm slot (Bad rule) fits clean = good

value_half : (labels : Labels) (form : Form) (slot : Slot) (x : Lexeme) → SlotFits form slot → HasHalf form (value_of labels slot x)
value_half labels form Value (Word word) fits = fits
value_half labels form Value (Literal z) fits = fits
value_half labels form Value (Text bytes) fits = tt
value_half labels form Value Comma fits = tt
value_half labels form Value Colon fits = tt
value_half labels form Value (Bad rule) fits = tt
value_half labels form RegisterD x fits = tt
value_half labels form RegisterA x fits = tt
value_half labels form RegisterB x fits = tt
value_half labels form (Below bound) x fits = tt
value_half labels form Upper x fits = tt
value_half labels form Port x fits = tt
value_half labels form Special x fits = tt

first_half : (form : Form) (v w : Option Operand) → HasHalf form v → HasHalf form w → HasHalf form (first_value v w)
first_half form None w h k = k
first_half form (Some v) w h k = h

noted_none : (o : Option Note) (rule : Option Rule) (place : ℕ) → noted o rule place ≡ None → (o ≡ None) × (rule ≡ None)
noted_none (Some note) rule place none = cc
noted_none None (Some rule) place none = cc
noted_none None None place none = (refl, refl)

module _ (labels : Labels) (after_imm : Bool) where
  clean_before : (ss : List Slot) (xs : List Placed) (o : Operation) → (with_all labels after_imm ss xs o).fault ≡ None → o.fault ≡ None
  unfolding with_all
  clean_before [] xs o none = none
  clean_before (s ∷ ss) [] o none = none
  clean_before (s ∷ ss) (x ∷ xs) o none = (noted_none o.fault (rule_at labels s after_imm x.lexeme) x.place (clean_before ss xs (with_token labels after_imm s x o) none)).0

  all_good : (form : Form) (ss : List Slot) (xs : List Placed) (o : Operation) → Every (SlotFits form) ss → IsGood form o.instr → HasHalf form o.value → (with_all labels after_imm ss xs o).fault ≡ None
      → IsGood form (with_all labels after_imm ss xs o).instr × HasHalf form (with_all labels after_imm ss xs o).value
  unfolding with_all
  all_good form [] xs o fits good half none = (good, half)
  all_good form (s ∷ ss) [] o fits good half none = (good, half)
  all_good form (s ∷ ss) (x ∷ xs) o fits good half none =
      let next = with_token labels after_imm s x o in
      let clean = noted_none o.fault (rule_at labels s after_imm x.lexeme) x.place (clean_before ss xs next none) in
      all_good form ss xs next fits.1 (operand_good form o.instr good labels after_imm s x.lexeme fits.0 clean.1)
      (first_half form o.value (value_of labels s x.lexeme) half (value_half labels form s x.lexeme fits.0)) none

some_limits : (form : Form) → (0 < (limits_of (fields_of form)).rd) × (0 < (limits_of (fields_of form)).ra) × (0 < (limits_of (fields_of form)).rb) × (0 < (limits_of (fields_of form)).imm)
some_limits A = (omega arith, omega arith, omega arith, omega arith)
some_limits form = (omega arith, omega arith, omega arith, omega arith)

unread_good : (n : Named) → FlagsFit (row_for n.op).form n.flags → IsGood (row_for n.op).form (unread n).instr
unread_good n flags =
    let some = some_limits (row_for n.op).form in
    record { named = refl; fits = record { rd = some.0; ra = some.1; rb = some.2; imm = some.3; flags = flags.below; letters = flags.letters } }

good_word : (form : Form) (i : Instr) (value : Option Operand) (after_imm : Bool) → IsGood form i → HasHalf form value → HasWord (Instruction i value after_imm)
good_word form i None after_imm good half = subst (λ f. Fits f i) (sym good.named) good.fits
good_word form i (Some v) after_imm good half = λ n small. subst (λ f. Fits f (record i { imm = n })) (sym good.named) (with_imm form i good n (omega (arith, small, half))).fits

abbrev pub OperationFits : Bool → Option Operation → Type 0
OperationFits after_imm None = Unit {0}
OperationFits after_imm (Some o) = o.fault ≡ None → HasWord (Instruction o.instr o.value after_imm)

pub instruction_fits : (labels : Labels) (after_imm : Bool) (n : Named) (xs : List Placed) → NameFits (Some n) → OperationFits after_imm (instruction labels after_imm n xs)
unfolding instruction
instruction_fits labels after_imm n xs flags =
    let shape = shape_for n (length xs) in
    let o = with_all labels after_imm shape xs (unread n) in
    either (OperationFits after_imm) (take_all n.op after_imm shape xs) (Some o) None
    (λ none.
    let all = all_good labels after_imm (row_for n.op).form shape xs (unread n) (written_shape_fits n (length xs)) (unread_good n flags) tt none in
    good_word (row_for n.op).form o.instr o.value after_imm all.0 all.1) tt
