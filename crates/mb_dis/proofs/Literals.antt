-- Numbers as they are written, and that they are read as the same.
use Rattle.std.proofs.Common.{◌≡◌, ℕ, suc, ◌-◌, ◌/◌, ◌%◌, ◌^◌, ◌<◌, ◌≤◌, true, false, ◌&&◌, ◌==◌, List, [], ◌∷◌, length, take, Some, pos, negsuc, lit<, refl, inl, inr, arith}
use Rattle.std.specs.Prelude.{bytes_eq, nat_lt, nat_le, decimal}
use Rattle.std.specs.Fmt.{signed_decimal}
use Rattle.std.specs.List.{list_all}
use Rattle.std.specs.Char.{digit_value}
use Rattle.std.specs.Int.{IsInRange}
use Rattle.std.specs.Str.Parse.{AllDigits, IsNumeral, digits_value}
use Rattle.std.proofs.lemmas.Str.Parse.{digit_from_value}
use Rattle.std.proofs.lemmas.Fmt.{decimal_is_IsNumeral}
use Rattle.std.proofs.lemmas.Bool.{cases_Bool, lt-ltb, ltb-false, le-leb}
use Rattle.std.proofs.lemmas.Bool.Decides.{nat_tests}
use Rattle.asm_syntax.specs.Operands.{sign_16, low_16}
use Rattle.host_io.specs.Digits.{hex_16, hex_digit}
use Rattle.mb_lex.specs.Bytes.{continues_name, is_digit}
use Rattle.mb_lex.specs.Literals.{magnitude, number_of, numeral}
use Rattle.mb_dis.proofs.Known.{Each, each_at}
use Rattle.mb_dis.proofs.Lexing.{IsLiteral}

all_digits : (radix : ℕ) (ds : List ℕ) → AllDigits radix ds → list_all (λ c. nat_lt (digit_value c) radix) ds ≡ true
all_digits radix [] all = refl
all_digits radix (c ∷ cs) all = rw (lt-ltb (digit_value c) radix all.0) (all_digits radix cs all.1)

numeral_is : (radix : ℕ) (ds : List ℕ) → IsNumeral radix ds → numeral radix ds ≡ Some (digits_value radix ds)
unfolding numeral
numeral_is radix ds is = rw (lt-ltb 0 (length ds) is.0, all_digits radix ds is.1) refl

-- a decimal digit goes on with a number
digit_continues : (c : ℕ) → IsInRange 48 57 c → continues_name c ≡ true
digit_continues c within = grind (arith, nat_tests)

digits_continue : (ds : List ℕ) → AllDigits 10 ds → list_all continues_name ds ≡ true
digits_continue [] all = refl
digits_continue (c ∷ cs) all = rw (digit_continues c (digit_from_value c all.0)) (digits_continue cs all.1)

-- decimal digits don't begin with `0x`
second_is_no_x : (c d : ℕ) (ds : List ℕ) → IsInRange 48 57 d → bytes_eq (c ∷ d ∷ ds) (48 ∷ 120 ∷ []) ≡ false
second_is_no_x c d ds within =
    let no_x : (d == 120) ≡ false = grind (arith, nat_tests) in
    elim (c == 48) as (λ b. (b && ((d == 120) && bytes_eq ds [])) ≡ false) [ true ↦ rw no_x refl | false ↦ refl ]

not_hexadecimal : (ds : List ℕ) → AllDigits 10 ds → bytes_eq (take 2 ds) (48 ∷ 120 ∷ []) ≡ false
not_hexadecimal [] all = refl
not_hexadecimal (c ∷ []) all = elim (c == 48) as (λ b. (b && false) ≡ false) [ true ↦ refl | false ↦ refl ]
not_hexadecimal (c ∷ d ∷ ds) all = second_is_no_x c d [] (digit_from_value d all.1.0)

magnitude_is : (ds : List ℕ) → IsNumeral 10 ds → magnitude ds ≡ Some (digits_value 10 ds)
unfolding magnitude
magnitude_is ds is = rw (not_hexadecimal ds is.1) (numeral_is 10 ds is)

digits_are_literal : (ds : List ℕ) (n : ℕ) → IsNumeral 10 ds → digits_value 10 ds ≡ n → n < 2 ^ 32 → IsLiteral ds (pos n)
unfolding number_of
digits_are_literal [] n is value small = absurd (omega (arith, is.0))
digits_are_literal (c ∷ cs) n is value small =
    let within : IsInRange 48 57 c = digit_from_value c is.1.0 in
    let unsigned : (c == 45) ≡ false = grind (arith, nat_tests) in
    let digit : is_digit c ≡ true = grind (arith, nat_tests) in
    let least : nat_le n (2 ^ 32 - 1) ≡ true = le-leb _ _ (omega arith) in
    record {
      first = c;
      more = cs;
      text = refl;
      begins = rw digit refl;
      goes_on = digits_continue cs is.1.1;
      value = rw (unsigned, magnitude_is (c ∷ cs) is, value, least) refl;
    }

pub decimal_is_literal : (n : ℕ) → n < 2 ^ 32 → IsLiteral (decimal n) (pos n)
decimal_is_literal n small =
    let is = decimal_is_IsNumeral n (omega arith) in
    digits_are_literal (decimal n) n is.0 is.1 small

negative_digits : (ds : List ℕ) (n : ℕ) → IsNumeral 10 ds → digits_value 10 ds ≡ suc n → n < 2 ^ 31 → IsLiteral (45 ∷ ds) (negsuc n)
unfolding number_of
negative_digits ds n is value small =
    let least : nat_le (suc n) (2 ^ 31) ≡ true = le-leb _ _ (omega arith) in
    record {
      first = 45;
      more = ds;
      text = refl;
      begins = refl;
      goes_on = digits_continue ds is.1;
      value = rw (magnitude_is ds is, value, least) refl;
    }

negative_is_literal : (k : ℕ) → k < 2 ^ 31 → IsLiteral (45 ∷ decimal (suc k)) (negsuc k)
negative_is_literal k small =
    let is = decimal_is_IsNumeral (suc k) (omega arith) in
    negative_digits (decimal (suc k)) k is.0 is.1 small

pub signed_is_literal : (n : ℕ) → n < 2 ^ 16 → IsLiteral (signed_decimal (sign_16 n)) (sign_16 n)
signed_is_literal n small = elim (cases_Bool (nat_lt n (2 ^ 15))) [
  | inl low ↦ rw low (decimal_is_literal n (omega arith))
  | inr high ↦ rw high (negative_is_literal (2 ^ 16 - 1 - n) (omega arith))
]

pub signed_is_read : (n : ℕ) → n < 2 ^ 16 → low_16 (sign_16 n) ≡ Some n
signed_is_read n small = elim (cases_Bool (nat_lt n (2 ^ 15))) [
  | inl low ↦ rw (low, low) refl
  | inr high ↦
      let from : 2 ^ 15 ≤ n = ltb-false n (2 ^ 15) high in
      let less : nat_lt (2 ^ 16 - 1 - n) (2 ^ 15) ≡ true = lt-ltb _ _ (omega arith) in
      let back : 2 ^ 16 - 1 - (2 ^ 16 - 1 - n) ≡ n = omega arith in
      rw (high, less, back) refl
]

hex_digits_continue : Each (λ d. continues_name (hex_digit d) ≡ true) 16
unfolding Each
hex_digits_continue = (refl, (refl, (refl, (refl, (refl, (refl, (refl, (refl, (refl, (refl, (refl, (refl, (refl, (refl, (refl, (refl, tt))))))))))))))))

hex_digits_value : Each (λ d. digit_value (hex_digit d) ≡ d) 16
unfolding Each
hex_digits_value = (refl, (refl, (refl, (refl, (refl, (refl, (refl, (refl, (refl, (refl, (refl, (refl, (refl, (refl, (refl, (refl, tt))))))))))))))))

continues : (n : ℕ) → continues_name (hex_digit (n % 16)) ≡ true
continues n = each_at (λ d. continues_name (hex_digit d) ≡ true) 16 (n % 16) hex_digits_continue (omega arith)

value_of : (n : ℕ) → digit_value (hex_digit (n % 16)) ≡ n % 16
value_of n = each_at (λ d. digit_value (hex_digit d) ≡ d) 16 (n % 16) hex_digits_value (omega arith)

-- four hexadecimal digits are the number that they write
four_digits : (n : ℕ) → IsNumeral 16 (hex_16 n)
unfolding hex_16
four_digits n =
    let a = value_of (n / 2 ^ 12) in
    let b = value_of (n / 2 ^ 8) in
    let c = value_of (n / 2 ^ 4) in
    let d = value_of n in
    (lit< tt, (rw a (omega arith), (rw b (omega arith), (rw c (omega arith), (rw d (omega arith), tt)))))

four_digits_value : (n : ℕ) → n < 2 ^ 16 → digits_value 16 (hex_16 n) ≡ n
unfolding hex_16
four_digits_value n small = rw (value_of (n / 2 ^ 12), value_of (n / 2 ^ 8), value_of (n / 2 ^ 4), value_of n) (omega arith)

four_continue : (n : ℕ) → list_all continues_name (120 ∷ hex_16 n) ≡ true
unfolding hex_16
four_continue n = rw (continues (n / 2 ^ 12), continues (n / 2 ^ 8), continues (n / 2 ^ 4), continues n) refl

hex_number : (n : ℕ) → n < 2 ^ 16 → number_of (48 ∷ 120 ∷ hex_16 n) ≡ Some (pos n)
unfolding number_of magnitude
hex_number n small =
    let least : nat_le n (2 ^ 32 - 1) ≡ true = le-leb _ _ (omega arith) in
    rw (numeral_is 16 (hex_16 n) (four_digits n), four_digits_value n small, least) refl

pub hex_is_literal : (n : ℕ) → n < 2 ^ 16 → IsLiteral (48 ∷ 120 ∷ hex_16 n) (pos n)
hex_is_literal n small = record {
  first = 48;
  more = 120 ∷ hex_16 n;
  text = refl;
  begins = refl;
  goes_on = four_continue n;
  value = hex_number n small;
}
