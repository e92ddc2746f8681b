-- Rows that are looked through one by one.
use Rattle.std.proofs.Common.{◌≡◌, ℕ, suc, ◌+◌, ◌≤◌, true, false, List, ◌∷◌, length, drop, Option, None, Some, refl, sym, ap, ◌∙◌, add-one}
use Rattle.std.specs.Prelude.{find, slice_get}
use Rattle.std.specs.Option.{option_map}
use Rattle.std.proofs.lemmas.List.{drop_all}
use Rattle.std.proofs.lemmas.Option.{get_or_from_slice_get, slice_get_within}
use Rattle.std.proofs.Common.{drop-cons, Bool}
use Rattle.op_table.specs.declared.entry.Row.{Row}
use Rattle.op_table.specs.declared.op.Op.{Op}
use Rattle.op_table.specs.declared.table.TheConstants.{COUNT}
use Rattle.op_table.specs.Mnemonics.{text_of}
use Rattle.op_table.specs.Table.{row_for, rows}
use Rattle.asm_syntax.specs.Names.{name_of}
use Rattle.asm_syntax.specs.Operands.{has_special, with_special}
use Rattle.asm_syntax.specs.Spelling.{alias, letters_in, named_in}

-- the items from a place on begin with the one that stands there
pub here : {X : Type 0} (xs : List X) (k : ℕ) (x : X) → slice_get xs k ≡ Some x → drop k xs ≡ x ∷ drop (k + 1) xs
here xs k x is =
    drop-cons xs k x (slice_get_within xs k x is)
    ∙ ap (λ y. y ∷ drop (suc k) xs) (get_or_from_slice_get xs k x x is)
    ∙ ap (λ n. x ∷ drop n xs) (sym (add-one k))

pub find_here : (p : Row → Bool) (k : ℕ) (r : Row) → slice_get rows k ≡ Some r → p r ≡ true → find p (drop k rows) ≡ Some r
find_here p k r is passes = ap (find p) (here rows k r is) ∙ rw passes refl

pub find_later : (p : Row → Bool) (k : ℕ) (r : Row) → slice_get rows k ≡ Some r → p r ≡ false → find p (drop k rows) ≡ find p (drop (k + 1) rows)
find_later p k r is fails = ap (find p) (here rows k r is) ∙ rw fails refl

pub count : length rows ≡ COUNT
unfolding rows
count = refl

pub find_past : (p : Row → Bool) (k : ℕ) → COUNT ≤ k → find p (drop k rows) ≡ None
find_past p k past = ap (find p) (drop_all k rows (rw count past))

pub named_here : (word : List ℕ) (k flags : ℕ) (r : Row) → slice_get rows k ≡ Some r → letters_in word r ≡ Some flags → named_in (drop k rows) word ≡ Some (record { op = r.op; flags = flags; bare = false })
unfolding named_in
named_here word k flags r is found = ap (λ rs. named_in rs word) (here rows k r is) ∙ rw found refl

pub named_later : (word : List ℕ) (k : ℕ) (r : Row) → slice_get rows k ≡ Some r → letters_in word r ≡ None → named_in (drop k rows) word ≡ named_in (drop (k + 1) rows) word
unfolding named_in
named_later word k r is none = ap (λ rs. named_in rs word) (here rows k r is) ∙ rw none refl

pub named_past : (word : List ℕ) (k : ℕ) → COUNT ≤ k → named_in (drop k rows) word ≡ alias word
unfolding named_in
named_past word k past = ap (λ rs. named_in rs word) (drop_all k rows (rw count past))

-- what the search of rows by a name finds, as the instruction with a special register
pub special_is : (name : Op) (word : List ℕ) (r : Row) (o : Option Row) → r ≡ row_for name → find (has_special (text_of r.name) word) rows ≡ o → option_map (λ (s : Row). s.op) o ≡ with_special name word
unfolding with_special name_of
special_is name word r o same found =
    ap (option_map (λ (s : Row). s.op)) (sym found)
    ∙ ap (λ (s : Row). option_map (λ (t : Row). t.op) (find (has_special (text_of s.name) word) rows)) same
