-- What core's parsing answers, in the words of the lexer.
use Rattle.std.proofs.Common.{◌≡◌, ℕ, zero, suc, ◌-◌, ◌^◌, ◌<◌, ◌≤◌, ◌≢◌, true, false, List, [], ◌∷◌, length, get_or, Option, None, Some, refl, ap, inl, inr, arith}
use Rattle.std.specs.Prelude.{nat_lt, nat_le, Result, Ok, Err}
use Rattle.std.specs.Char.{digit_value}
use Rattle.std.specs.Str.{IsUtf8}
use Rattle.std.proofs.lemmas.Str.{IsUtf8-from_ascii}
use Rattle.std.specs.Str.Parse.{AllDigits, IsNumeral, digits_value, ParsesUnsigned, without_leading_plus}
use Rattle.std.proofs.lemmas.Str.Parse.{without_leading_plus_none}
use Rattle.std.proofs.lemmas.Bool.{and_parts, cases_Bool, le-leb, leb-true, lt-ltb, ltb-false, ltb-true, le-ltb}
use Rattle.debug_script.specs.Numbers.{all_digits, at_most, numeral}

pub none_but_digits : (limit radix : ℕ) (bs : List ℕ) → all_digits radix bs ≡ false → None ≡ at_most limit (numeral radix bs)
unfolding numeral
none_but_digits limit radix bs other = elim (cases_Bool (nat_lt 0 (length bs))) [
  | inl some ↦ rw (some, other) refl
  | inr none ↦ rw none refl
]

pub digits_all : (radix : ℕ) (bs : List ℕ) → all_digits radix bs ≡ true → AllDigits radix bs
digits_all radix [] all = tt
digits_all radix (c ∷ cs) all =
    let parts = and_parts (nat_lt (digit_value c) radix) (all_digits radix cs) all in
    (ltb-true _ _ parts.0, digits_all radix cs parts.1)

-- digits begin with no plus
no_plus : (radix : ℕ) (bs : List ℕ) → radix ≤ 36 → AllDigits radix bs → get_or bs 0 0 ≢ 43
no_plus radix [] high all is = absurd (omega (arith, is))
no_plus radix (c ∷ cs) high all is =
    let plus : digit_value c ≡ 36 = ap digit_value is in
    absurd (omega (arith, all.0))

numeral_of : (radix : ℕ) (bs : List ℕ) → 0 < length bs → all_digits radix bs ≡ true → numeral radix bs ≡ Some (digits_value radix bs)
unfolding numeral
numeral_of radix bs some all = rw (lt-ltb 0 (length bs) some, all) refl

numeral_none : (radix : ℕ) (bs : List ℕ) → length bs ≡ 0 → numeral radix bs ≡ None
unfolding numeral
numeral_none radix bs none = rw none refl

abbrev pub or_none : {E : Type 0} → Result ℕ E → Option ℕ
or_none (Ok n) = Some n
or_none (Err e) = None

parsed : {E : Type 0} (radix : ℕ) (bs : List ℕ) (r : Result ℕ E) → all_digits radix bs ≡ true → without_leading_plus bs ≡ bs → ParsesUnsigned 64 radix bs r → or_none r ≡ at_most (2 ^ 64 - 1) (numeral radix bs)
parsed radix bs (Ok n) all plain is =
    let numeral_at : IsNumeral radix bs × (digits_value radix bs < 2 ^ 64) = rw plain at is.0 in
    let value : n ≡ digits_value radix bs = rw plain at is.1 in
    let least : nat_le (digits_value radix bs) (2 ^ 64 - 1) ≡ true = le-leb _ _ (omega (arith, numeral_at.1)) in
    rw (numeral_of radix bs numeral_at.0.0 all, least, value) refl
parsed radix bs (Err e) all plain is =
    let not_so : (IsNumeral radix bs × (digits_value radix bs < 2 ^ 64)) → ⊥ = rw plain at is in
    elim (cases_Bool (nat_lt 0 (length bs))) [
      | inl some ↦
          let over : nat_le (digits_value radix bs) (2 ^ 64 - 1) ≡ false = elim (cases_Bool (nat_le (digits_value radix bs) (2 ^ 64 - 1))) [
            | inl fits ↦ absurd (not_so ((ltb-true _ _ some, digits_all radix bs all), omega (arith, leb-true _ _ fits)))
            | inr past ↦ past
          ] in
          rw (numeral_of radix bs (ltb-true _ _ some) all, over) refl
      | inr none ↦ rw (numeral_none radix bs (omega (arith, ltb-false _ _ none))) refl
    ]

pub parses : {E : Type 0} (radix : ℕ) (bs text : List ℕ) (r : Result ℕ E) → radix ≤ 36 → all_digits radix bs ≡ true → text ≡ bs → ParsesUnsigned 64 radix text r → or_none r ≡ at_most (2 ^ 64 - 1) (numeral radix bs)
parses radix bs text r high all same is =
    parsed radix bs r all (without_leading_plus_none bs (no_plus radix bs high (digits_all radix bs all))) (rw same at is)

ascii_digit : (c : ℕ) → digit_value c < 36 → c < 128
ascii_digit c below = elim (cases_Bool (nat_lt c 128)) [
  | inl ascii ↦ ltb-true _ _ ascii
  | inr other ↦
      let a : nat_lt c 48 ≡ false = le-ltb _ _ (omega (arith, ltb-false _ _ other)) in
      let b : nat_lt c 58 ≡ false = le-ltb _ _ (omega (arith, ltb-false _ _ other)) in
      let d : nat_lt c 65 ≡ false = le-ltb _ _ (omega (arith, ltb-false _ _ other)) in
      let e : nat_lt c 91 ≡ false = le-ltb _ _ (omega (arith, ltb-false _ _ other)) in
      let f : nat_lt c 97 ≡ false = le-ltb _ _ (omega (arith, ltb-false _ _ other)) in
      let g : nat_lt c 123 ≡ false = le-ltb _ _ (omega (arith, ltb-false _ _ other)) in
      absurd (omega (arith, rw (a, b, d, e, f, g) at below))
]

digit_is_ascii : (radix : ℕ) (bs : List ℕ) → radix ≤ 36 → AllDigits radix bs → (i : ℕ) → get_or bs i 0 < 128
digit_is_ascii radix [] high all i = omega arith
digit_is_ascii radix (c ∷ cs) high all zero = ascii_digit c (omega (arith, all.0))
digit_is_ascii radix (c ∷ cs) high all (suc i) = digit_is_ascii radix cs high all.1 i

pub digits_are_text : (radix : ℕ) (bs : List ℕ) → radix ≤ 36 → all_digits radix bs ≡ true → IsUtf8 bs
digits_are_text radix bs high all = IsUtf8-from_ascii bs (digit_is_ascii radix bs high (digits_all radix bs all))

pub parses_ok : (radix : ℕ) (bs text : List ℕ) (n : ℕ) → radix ≤ 36 → all_digits radix bs ≡ true → text ≡ bs
    → (IsNumeral radix (without_leading_plus text) × (digits_value radix (without_leading_plus text) < 2 ^ 64)) × (n ≡ digits_value radix (without_leading_plus text))
    → Some n ≡ at_most (2 ^ 64 - 1) (numeral radix bs)
parses_ok radix bs text n high all same is = parses {E = ℕ} radix bs text (Ok n) high all same is

pub parses_err : (radix : ℕ) (bs text : List ℕ) → radix ≤ 36 → all_digits radix bs ≡ true → text ≡ bs
    → ((IsNumeral radix (without_leading_plus text) × (digits_value radix (without_leading_plus text) < 2 ^ 64)) → ⊥)
    → None ≡ at_most (2 ^ 64 - 1) (numeral radix bs)
parses_err radix bs text high all same is = parses {E = ℕ} radix bs text (Err 0) high all same is
