-- What a word looks like to clap, where the grammar sees it so.
use Rattle.std.proofs.Common.{◌≡◌, ◌∙◌, ℕ, Bool, true, false, refl, sym, subst, [], ◌∷◌, Some, None, arith, nat_eq}
use Rattle.std.proofs.lemmas.Bool.{false≢true}
use Rattle.std.specs.Str.{bytes_eq}
use Rattle.clap.specs.Lexer.{long_of}
use Rattle.command_line.specs.Words.{Look, Text, closing, look, naming, refused, standing}
use Rattle.command_line.proofs.Rows.{dashes, is_dashed, is_flags}

abbrev pub Dashed : Text → Type 0
Dashed w = (rest : Text) × (w ≡ 45 ∷ rest)

abbrev pub Looks : Text → Look → Type 0
Looks w closing = (bytes_eq w dashes ≡ true) × Dashed w
Looks w (naming n v) = (bytes_eq w dashes ≡ false) × (long_of w ≡ Some (n, v)) × Dashed w
Looks w refused = (bytes_eq w dashes ≡ false) × (long_of w ≡ None) × Dashed w
Looks w standing = (bytes_eq w dashes ≡ false) × (long_of w ≡ None) × (is_flags w ≡ false)

is_dash : (x : ℕ) → nat_eq x 45 ≡ true → 45 ≡ x
is_dash x e = grind arith

one : (x : ℕ) (b : Bool) → nat_eq x 45 ≡ b → Looks (x ∷ []) (look (x ∷ []))
unfolding look
one x true e = subst (λ y. Looks (y ∷ []) (look (y ∷ []))) (is_dash x e) (refl, refl, ([], refl))
one x false e = rw e (rw e refl, rw e refl, rw e refl)

-- after `-`
two : (y : ℕ) (r : Text) (b : Bool) → nat_eq y 45 ≡ b → Looks (45 ∷ y ∷ r) (look (45 ∷ y ∷ r))
unfolding look
two y [] true e = subst (λ y. Looks (45 ∷ y ∷ []) (look (45 ∷ y ∷ []))) (is_dash y e) (refl, (45 ∷ [], refl))
two y (z ∷ r) true e = subst (λ y. Looks (45 ∷ y ∷ z ∷ r) (look (45 ∷ y ∷ z ∷ r))) (is_dash y e) (refl, refl, (45 ∷ z ∷ r, refl))
two y r false e = rw e (rw e refl, rw e refl, (y ∷ r, refl))

more : (x y : ℕ) (r : Text) (b : Bool) → nat_eq x 45 ≡ b → Looks (x ∷ y ∷ r) (look (x ∷ y ∷ r))
unfolding look
more x y r true e = subst (λ x. Looks (x ∷ y ∷ r) (look (x ∷ y ∷ r))) (is_dash x e) (two y r (nat_eq y 45) refl)
more x y r false e = rw e (rw e refl, rw e refl, rw e refl)

pub looks : (w : Text) → Looks w (look w)
unfolding look
looks [] = (refl, refl, refl)
looks (x ∷ []) = one x (nat_eq x 45) refl
looks (x ∷ y ∷ r) = more x y r (nat_eq x 45) refl

dashed_by : (w : Text) (l : Look) → Looks w l → is_dashed w ≡ true → Dashed w
dashed_by w closing h e = h.1
dashed_by w (naming n v) h e = h.2
dashed_by w refused h e = h.2
dashed_by w standing h e = absurd (false≢true (sym (rw (h.0, h.1, h.2) refl) ∙ e))

pub dashed : (w : Text) → is_dashed w ≡ true → Dashed w
dashed w e = dashed_by w (look w) (looks w) e
