-- A text is its first part and what stands behind.
use Rattle.std.proofs.Common.{◌≡◌, ℕ, ◌+◌, ◌<◌, ◌≤◌, ◌==◌, true, false, List, [], ◌∷◌, ◌++◌, length, take, drop, get_or, if◌then◌else◌, Some, None, refl, sym, ap, ◌∙◌, append_assoc, append-nil, add-one}
use Rattle.std.proofs.Math.Seq.{drop-cons, take-suc}
use Rattle.std.proofs.lemmas.List.{drop_all, take_all}
use Rattle.debug_script.specs.Parts.{after_part, begun_with, first_part, parts, parts_after}

pub parts_cut : (separator : ℕ) (text : List ℕ) → parts separator text ≡ first_part separator text ∷ parts_after separator (after_part separator text)
parts_cut separator [] = refl
parts_cut separator (b ∷ text) =
    elim (b == separator) as (λ c. (if c then [] ∷ parts separator text else begun_with b (parts separator text)) ≡ (if c then [] else b ∷ first_part separator text) ∷ parts_after separator (if c then Some text else after_part separator text)) [
      | true ↦ refl
      | false ↦ ap (begun_with b) (parts_cut separator text)
    ]

-- a text of which the first k bytes are no separator
pub record IsPast (separator : ℕ) (text : List ℕ) (k : ℕ) : Type 0 where
  pub first : first_part separator text ≡ take k text ++ first_part separator (drop k text)
  pub after : after_part separator text ≡ after_part separator (drop k text)

left_of : (text : List ℕ) (k : ℕ) → k < length text → drop k text ≡ get_or text k 0 ∷ drop (k + 1) text
left_of text k there = drop-cons text k 0 there ∙ ap (λ i. get_or text k 0 ∷ drop i text) (sym (add-one k))

taken : (text : List ℕ) (k : ℕ) → k < length text → take (k + 1) text ≡ take k text ++ get_or text k 0 ∷ []
taken text k there = ap (λ i. take i text) (add-one k) ∙ take-suc text k 0 there

pub past_begin : (separator : ℕ) (text : List ℕ) → IsPast separator text 0
past_begin separator text = record { first = refl; after = refl }

pub past_more : (separator : ℕ) (text : List ℕ) (k : ℕ) → k < length text → (get_or text k 0 == separator) ≡ false → IsPast separator text k → IsPast separator text (k + 1)
past_more separator text k there other p = record {
  first =
      p.first ∙ ap (λ l. take k text ++ first_part separator l) (left_of text k there)
      ∙ ap (λ c. take k text ++ (if c then [] else get_or text k 0 ∷ first_part separator (drop (k + 1) text))) other
      ∙ sym (append_assoc (take k text) (get_or text k 0 ∷ []) (first_part separator (drop (k + 1) text)))
      ∙ ap (λ l. l ++ first_part separator (drop (k + 1) text)) (sym (taken text k there));
  after =
      p.after ∙ ap (after_part separator) (left_of text k there)
      ∙ ap (λ c. if c then Some (drop (k + 1) text) else after_part separator (drop (k + 1) text)) other;
}

pub past_here : (separator : ℕ) (text : List ℕ) (k : ℕ) → k < length text → (get_or text k 0 == separator) ≡ true → IsPast separator text k → (take k text ≡ first_part separator text) × (Some (drop (k + 1) text) ≡ after_part separator text)
past_here separator text k there same p = (
  sym (p.first ∙ ap (λ l. take k text ++ first_part separator l) (left_of text k there)
      ∙ ap (λ c. take k text ++ (if c then [] else get_or text k 0 ∷ first_part separator (drop (k + 1) text))) same ∙ append-nil (take k text)),
  sym (p.after ∙ ap (after_part separator) (left_of text k there)
      ∙ ap (λ c. if c then Some (drop (k + 1) text) else after_part separator (drop (k + 1) text)) same),
)

pub past_end : (separator : ℕ) (text : List ℕ) (k : ℕ) → length text ≤ k → IsPast separator text k → (text ≡ first_part separator text) × (None ≡ after_part separator text)
past_end separator text k past p = (
  sym (p.first ∙ ap (λ l. take k text ++ first_part separator l) (drop_all k text past) ∙ append-nil (take k text) ∙ take_all k text past),
  sym (p.after ∙ ap (after_part separator) (drop_all k text past)),
)
