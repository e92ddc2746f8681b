-- A source has at most one image.
use Rattle.std.proofs.Common.{◌≡◌, ℕ, ◌^◌, ◌<◌, List, [], ◌∷◌, ◌++◌, sym, ap, ◌∙◌, subst}
use Rattle.core_regs.specs.declared.causes.Order.{Order}
use Rattle.mb_decode.specs.declared.instruction.Instr.{Instr}
use Rattle.mb_decode.specs.Meaning.{Means}
use Rattle.asm_layout.specs.Laws.{GrownIsOne}
use Rattle.asm_layout.specs.Layout.{Numbers}
use Rattle.asm_source.specs.declared.item.Item.{Item}
use Rattle.asm_source.specs.Items.{pieces}
use Rattle.asm_source.specs.Source.{AreParts, Code, Content, Datum, Holds, IsImageOf, Piled, bytes_of, parts_of}

-- two words that mean one instruction are one word
abbrev pub OneWord : Type 0
OneWord = (v w : ℕ) (i : Instr) → v < 2 ^ 32 → w < 2 ^ 32 → Means v i → Means w i → v ≡ w

one_content : OneWord → (order : Order) (cs : List Content) (one other : List ℕ) → Holds order one cs → Holds order other cs → one ≡ other
unfolding Holds
one_content words order [] one other a b = a ∙ sym b
one_content words order (Datum x ∷ cs) one other a b =
    a.1 ∙ ap (λ rest. x ∷ rest) (one_content words order cs a.0 b.0 a.2 b.2) ∙ sym b.1
one_content words order (Code i ∷ cs) one other a b =
    let same : a.0 ≡ b.0 = words a.0 b.0 i a.2 b.2 a.3 b.3 in
    let rest : a.1 ≡ b.1 = one_content words order cs a.1 b.1 a.5 b.5 in
    a.4 ∙ ap (λ w. bytes_of order 4 w ++ a.1) same ∙ ap (λ bytes. bytes_of order 4 b.0 ++ bytes) rest ∙ sym b.4

one_list : OneWord → (order : Order) (ps : List Piled) (one other : List (ℕ × List ℕ)) → AreParts order one ps → AreParts order other ps → one ≡ other
unfolding AreParts
one_list words order [] one other a b = a ∙ sym b
one_list words order (p ∷ ps) one other a b =
    let bytes : a.0 ≡ b.0 = one_content words order p.holds a.0 b.0 a.3 b.3 in
    let rest : a.1 ≡ b.1 = one_list words order ps a.1 b.1 a.4 b.4 in
    a.2 ∙ ap (λ (x : List ℕ). (p.address, x) ∷ a.1) bytes ∙ ap (λ (xs : List (ℕ × List ℕ)). (p.address, b.0) ∷ xs) rest ∙ sym b.2

pub one_image : OneWord → GrownIsOne → (order : Order) (items : List Item) (one other : List (ℕ × List ℕ)) → IsImageOf order items one → IsImageOf order items other → one ≡ other
one_image words sets order items one other a b =
    let same : a.F ≡ b.F = λ i. λ k. sets (pieces items) a.F b.F a.grown b.grown k i in
    let moved : AreParts order one (parts_of order items b.F) = subst (λ (F : Numbers). AreParts order one (parts_of order items F)) same a.parts in
    one_list words order (parts_of order items b.F) one other moved b.parts
