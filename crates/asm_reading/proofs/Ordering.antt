-- The first fault is the least of all lines, and items stand in the order of their lines.
use Rattle.std.proofs.Common.{◌≡◌, ℕ, zero, suc, ◌+◌, ◌<◌, false, List, [], ◌∷◌, ◌++◌, get_or, map, refl, sym, ap, ◌∙◌, arith}
use Rattle.std.specs.Prelude.{is_some, not}
use Rattle.std.specs.List.{All, AllPairs}
use Rattle.std.proofs.lemmas.Bool.Decides.{nat_tests}
use Rattle.std.proofs.lemmas.List.Elements.{All-append, All-cons}
use Rattle.std.proofs.lemmas.List.Kept.{AllPairs-cons}
use Rattle.std.proofs.lemmas.List.Sums.{fold-append}
use Rattle.mb_lex.specs.Lexemes.{Placed, lex}
use Rattle.mb_lex.specs.Lines.{first_fault, first_good}
use Rattle.asm_source.specs.declared.item.Item.{Item}
use Rattle.asm_source.specs.declared.item.Written.{Written}
use Rattle.asm_source.specs.Faults.{least_after, lesser}
use Rattle.asm_source.specs.Laws.{AreInOrder, stands_before}
use Rattle.asm_statement.specs.declared.values.Head.{Head}
use Rattle.asm_statement.specs.Labels.{Labels}
use Rattle.asm_statement.specs.Statements.{statement}
use Rattle.asm_statement.specs.Values.{at_head}
use Rattle.asm_reading.specs.FirstRound.{faults_from, first_faults, line_faults}
use Rattle.asm_reading.specs.Laws.{ItemsAreInOrder, LinesHaveALeast}
use Rattle.asm_reading.specs.Lines.{lines_of}
use Rattle.asm_reading.specs.Marks.{behind_names}
use Rattle.asm_reading.specs.Reading.{Read, head_of, labels_of, line_read, lines_read, nothing_read, source_read}

-- ---- the first fault

first_of_line : (labels : Labels) (number : ℕ) (line : List ℕ) (r : Read) → (line_read labels number line r).first ≡ least_after r.first (line_faults labels number line r)
unfolding line_read line_faults
first_of_line labels number line r = refl

first_of_lines : (labels : Labels) (number : ℕ) (lines : List (List ℕ)) (r : Read) → (lines_read labels number lines r).first ≡ least_after r.first (faults_from labels number lines r)
unfolding lines_read faults_from
first_of_lines labels number [] r = refl
first_of_lines labels number (line ∷ lines) r =
    let next = line_read labels number line r in
    let left = faults_from labels (number + 1) lines next in
    first_of_lines labels (number + 1) lines next
    ∙ ap (λ o. least_after o left) (first_of_line labels number line r)
    ∙ sym (fold-append lesser r.first (line_faults labels number line r) left)

pub lines_have_a_least : LinesHaveALeast
unfolding source_read first_faults
lines_have_a_least source = first_of_lines (labels_of source) 1 (lines_of source) nothing_read

-- ---- the order of items

each_at : (P : Written → Type 0) (head : Head) → ((i : Item) → P (at_head head i)) → (items : List Item) → All P (map (at_head head) items)
each_at P head holds [] = λ k d lt. absurd (omega (arith, lt))
each_at P head holds (i ∷ items) = All-cons P (at_head head i) (map (at_head head) items) (holds i) (each_at P head holds items)

pairs_before : {X : Type 0} (R : X → X → Type 0) (xs ys : List X) → AllPairs R xs → AllPairs R ys → All (λ x. All (R x) ys) xs → AllPairs R (xs ++ ys)
pairs_before R [] ys front behind across = behind
pairs_before R (x ∷ xs) ys front behind across =
    AllPairs-cons R x (xs ++ ys)
    (All-append (R x) xs ys (λ j d within. front zero (suc j) d (omega arith) (omega (arith, within))) (across zero x (omega arith)))
    (pairs_before R xs ys (λ i j d lt within. front (suc i) (suc j) d (omega (arith, lt)) (omega (arith, within))) behind
    (λ k d within. across (suc k) d (omega (arith, within))))

-- what stands in an earlier line, and what stands at the same place
earlier : (w v : Written) → w.line < v.line → stands_before v w ≡ false
earlier w v lt = grind (arith, nat_tests, lt)

same_place : (line column : ℕ) (i j : Item) → stands_before (record { item = j; line = line; column = column }) (record { item = i; line = line; column = column }) ≡ false
same_place line column i j = grind (arith, nat_tests)

at_one_place : (head : Head) (items : List Item) → AreInOrder (map (at_head head) items)
at_one_place head [] = λ i j d lt within. absurd (omega (arith, within))
at_one_place head (i ∷ items) =
    AllPairs-cons (λ w v. stands_before v w ≡ false) (at_head head i) (map (at_head head) items)
    (each_at (λ v. stands_before v (at_head head i) ≡ false) head (λ j. same_place head.line head.column i j) items) (at_one_place head items)

line_of : (number : ℕ) (xs : List Placed) → (head_of number xs).line ≡ number
line_of number [] = refl
line_of number (x ∷ xs) = refl

-- items in order, all in lines before this one
record IsBefore (items : List Written) (number : ℕ) : Type 0 where
  order : AreInOrder items
  above : All (λ w. w.line < number) items

with_line : (items : List Written) (number : ℕ) (head : Head) (told : List Item) → head.line ≡ number → IsBefore items number → IsBefore (items ++ map (at_head head) told) (number + 1)
with_line items number head told here before = record {
  order = pairs_before (λ w v. stands_before v w ≡ false) items (map (at_head head) told) before.order (at_one_place head told)
      (λ k d within. let above = before.above k d within in
      each_at (λ v. stands_before v (get_or items k d) ≡ false) head (λ i. earlier (get_or items k d) (at_head head i) (omega (arith, above, here))) told);
  above = All-append (λ w. w.line < number + 1) items (map (at_head head) told) (λ k d within. let above = before.above k d within in omega (arith, above))
      (each_at (λ w. w.line < number + 1) head (λ i. omega (arith, here)) told);
}

line_before : (labels : Labels) (number : ℕ) (line : List ℕ) (r : Read) → IsBefore r.items number → IsBefore (line_read labels number line r).items (number + 1)
unfolding line_read
line_before labels number line r before =
    let fault = first_fault 40 (lex 0 0 line) in
    let behind = behind_names (first_good 40 (lex 0 0 line)) in
    with_line r.items number (head_of number behind) (statement labels r.after_imm (not (is_some fault)) behind).items (line_of number behind) before

lines_in_order : (labels : Labels) (number : ℕ) (lines : List (List ℕ)) (r : Read) → IsBefore r.items number → AreInOrder (lines_read labels number lines r).items
unfolding lines_read
lines_in_order labels number [] r before = before.order
lines_in_order labels number (line ∷ lines) r before = lines_in_order labels (number + 1) lines (line_read labels number line r) (line_before labels number line r before)

nothing_before : IsBefore [] 1
nothing_before = record { order = λ i j d lt within. absurd (omega (arith, within)); above = λ k d within. absurd (omega (arith, within)) }

pub items_are_in_order : ItemsAreInOrder
unfolding source_read
items_are_in_order source = lines_in_order (labels_of source) 1 (lines_of source) nothing_read nothing_before
