-- The end of a text, from a place on.
use Rattle.std.proofs.Common.{◌≡◌, ℕ, ◌+◌, ◌<◌, ◌≤◌, Bool, true, false, List, ◌∷◌, length, drop, get_or, Option, None, Some, refl, sym, ap, ◌∙◌, arith, drop-cons, add-one, zero-add}
use Rattle.std.proofs.lemmas.List.{drop_all}
use Rattle.std.specs.Option.{option_map}
use Rattle.mb_lex.specs.Literals.{ends_text, escapes, is_in_text, text_end}

-- an end, counted from so many bytes before
abbrev pub counted : ℕ → Option ℕ → Option ℕ
counted k end = option_map (λ n. k + n) end

pub counted_none : (end : Option ℕ) → end ≡ counted 0 end
counted_none None = refl
counted_none (Some n) = rw zero-add refl

counted_more : (k : ℕ) (end : Option ℕ) → counted k (counted 1 end) ≡ counted (k + 1) end
counted_more k None = refl
counted_more k (Some n) = ap Some (omega arith)

cut : (k : ℕ) (text : List ℕ) → k < length text → drop k text ≡ get_or text k 0 ∷ drop (k + 1) text
cut k text within = drop-cons text k 0 within ∙ ap (λ n. get_or text k 0 ∷ drop n text) (sym (add-one k))

pub ends_here : (escaped : Bool) (k : ℕ) (text : List ℕ) → k < length text → ends_text escaped (get_or text k 0) ≡ true → counted k (text_end escaped (drop k text)) ≡ Some (k + 1)
unfolding text_end
ends_here escaped k text within ends = rw (cut k text within, ends) refl

pub is_none_here : (escaped : Bool) (k : ℕ) (text : List ℕ) → k < length text → ends_text escaped (get_or text k 0) ≡ false → is_in_text escaped (get_or text k 0) ≡ false
    → counted k (text_end escaped (drop k text)) ≡ None
unfolding text_end
is_none_here escaped k text within goes bad = rw (cut k text within, goes, bad) refl

pub goes_on_here : (escaped : Bool) (k : ℕ) (text : List ℕ) → k < length text → ends_text escaped (get_or text k 0) ≡ false → is_in_text escaped (get_or text k 0) ≡ true
    → counted k (text_end escaped (drop k text)) ≡ counted (k + 1) (text_end (escapes escaped (get_or text k 0)) (drop (k + 1) text))
unfolding text_end
goes_on_here escaped k text within goes good = rw (cut k text within, goes, good) (counted_more k (text_end (escapes escaped (get_or text k 0)) (drop (k + 1) text)))

pub no_end : (escaped : Bool) (k : ℕ) (text : List ℕ) → length text ≤ k → counted k (text_end escaped (drop k text)) ≡ None
unfolding text_end
no_end escaped k text past = rw (drop_all k text past) refl
