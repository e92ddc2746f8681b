-- What a line adds to what is read.
use Rattle.std.proofs.Common.{◌≡◌, ℕ, Bool, List, [], ◌∷◌, ◌++◌, length, map, drop, Option, refl, sym, ap, ◌∙◌}
use Rattle.std.specs.Prelude.{fold, is_some, not}
use Rattle.std.proofs.lemmas.List.Sums.{fold-append}
use Rattle.std.proofs.Math.Seq.{drop-append_seam}
use Rattle.mb_lex.specs.declared.token.LexFault.{LexFault}
use Rattle.mb_lex.specs.Lexemes.{Placed, lex}
use Rattle.mb_lex.specs.Lines.{first_fault, first_good}
use Rattle.asm_source.specs.declared.fault.Fault.{Fault}
use Rattle.asm_source.specs.declared.item.Item.{Item}
use Rattle.asm_source.specs.declared.item.Written.{Written}
use Rattle.asm_source.specs.Faults.{least_after, lesser}
use Rattle.asm_statement.specs.declared.statement.Rest.{Rest}
use Rattle.asm_statement.specs.declared.values.Head.{Head}
use Rattle.asm_statement.specs.Labels.{Labels}
use Rattle.asm_statement.specs.Statements.{Told, statement}
use Rattle.asm_statement.specs.Values.{at_head}
use Rattle.asm_reading.specs.Marks.{all_defined, all_name_faults, behind_names, names_before}
use Rattle.asm_reading.specs.Reading.{Read, after_item, head_of, later, lex_faults, line_by, line_read, note_faults}
use Rattle.asm_reading.proofs.Following.{items_in}

items_back : (head : Head) (items : List Item) → items_in (map (at_head head) items) ≡ items
items_back head [] = refl
items_back head (i ∷ items) = ap (λ is. i ∷ is) (items_back head items)

added_items : (head : Head) (old new : List Written) (items : List Item) → new ≡ old ++ map (at_head head) items → items_in (drop (length old) new) ≡ items
added_items head old new items is = ap (λ ws. items_in (drop (length old) ws)) is ∙ ap items_in (drop-append_seam old (map (at_head head) items)) ∙ items_back head items

three_noted : (o a b c : Option Fault) (one two three : List Fault) → a ≡ least_after o one → b ≡ least_after a two → c ≡ least_after b three → c ≡ least_after o (one ++ two ++ three)
three_noted o a b c one two three p q r =
    let both : b ≡ least_after o (one ++ two) = q ∙ ap (λ x. least_after x two) p ∙ sym (fold-append lesser o one two) in
    r ∙ ap (λ x. least_after x three) both ∙ sym (fold-append lesser o (one ++ two) three)

-- the parts of a line, as they are read one after the other
pub record Parts (labels : Labels) (number : ℕ) (xs : List Placed) (fault : Option LexFault) (r new : Read) : Type 0 where
  pub zs : List Placed
  pub head : Head
  pub whole : Bool
  pub answer : Rest
  pub lexed : Option Fault
  pub named : Option Fault
  pub behind : zs ≡ behind_names xs
  pub begins : head ≡ head_of number zs
  pub is_whole : whole ≡ not (is_some fault)
  pub lex_noted : lexed ≡ least_after r.first (lex_faults number fault)
  pub labels_defined : new.labels ≡ all_defined r.labels (length r.items) (names_before xs)
  pub names_noted : named ≡ least_after lexed (all_name_faults r.labels number (length r.items) (names_before xs))
  pub items_added : new.items ≡ r.items ++ map (at_head head) (statement labels r.after_imm whole zs).items
  pub answered : answer ≡ (statement labels r.after_imm whole zs).rest
  pub note_noted : new.first ≡ least_after named (note_faults number answer.fault)
  pub entered : new.entry ≡ later answer.entry r.entry
  pub followed : new.after_imm ≡ fold after_item r.after_imm (items_in (drop (length r.items) new.items))

line_same : (labels : Labels) (number : ℕ) (xs : List Placed) (fault : Option LexFault) (r new : Read) → Parts labels number xs fault r new → new ≡ line_by labels number xs fault r
line_same labels number xs fault r new p =
    let told : Told = statement labels r.after_imm (not (is_some fault)) (behind_names xs) in
    let same : statement labels r.after_imm p.whole p.zs ≡ told =
    ap (λ w. statement labels r.after_imm w p.zs) p.is_whole ∙ ap (statement labels r.after_imm (not (is_some fault))) p.behind in
    let answered : p.answer ≡ told.rest = p.answered ∙ ap (λ (t : Told). t.rest) same in
    let items : new.items ≡ r.items ++ map (at_head (head_of number (behind_names xs))) told.items =
    p.items_added ∙ ap (λ (t : Told). r.items ++ map (at_head p.head) t.items) same ∙ ap (λ h. r.items ++ map (at_head h) told.items) (p.begins ∙ ap (head_of number) p.behind) in
    let first : new.first ≡ least_after r.first (lex_faults number fault ++ all_name_faults r.labels number (length r.items) (names_before xs) ++ note_faults number told.rest.fault) =
    three_noted r.first p.lexed p.named new.first (lex_faults number fault) (all_name_faults r.labels number (length r.items) (names_before xs)) (note_faults number told.rest.fault) p.lex_noted p.names_noted (p.note_noted ∙ ap (λ (a : Rest). least_after p.named (note_faults number a.fault)) answered) in
    let entry : new.entry ≡ later told.rest.entry r.entry = p.entered ∙ ap (λ (a : Rest). later a.entry r.entry) answered in
    let after : new.after_imm ≡ fold after_item r.after_imm told.items =
    p.followed ∙ ap (fold after_item r.after_imm) (added_items (head_of number (behind_names xs)) r.items new.items told.items items) in
    λ i. record { items = items i; labels = p.labels_defined i; first = first i; entry = entry i; after_imm = after i }

pub line_added : (labels : Labels) (number : ℕ) (line : List ℕ) (xs : List Placed) (fault : Option LexFault) (r new : Read) → xs ≡ first_good 40 (lex 0 0 line) → fault ≡ first_fault 40 (lex 0 0 line)
    → Parts labels number xs fault r new → new ≡ line_read labels number line r
unfolding line_read
line_added labels number line xs fault r new tokens stops parts =
    line_same labels number xs fault r new parts ∙ ap (λ ys. line_by labels number ys fault r) tokens ∙ ap (λ f. line_by labels number (first_good 40 (lex 0 0 line)) f r) stops
