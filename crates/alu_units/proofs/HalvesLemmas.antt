-- A product is the sum of the products of its halves.
use Rattle.std.proofs.Common.{◌≡◌, ℕ, ◌+◌, ◌*◌, ◌/◌, ◌%◌, ◌^◌, sym, ap, ◌∙◌, arith}

halves : (ah al bh bl : ℕ) → (ah * 2 ^ 16 + al) * (bh * 2 ^ 16 + bl) ≡ (ah * bh) * 2 ^ 32 + (al * bh) * 2 ^ 16 + (ah * bl) * 2 ^ 16 + al * bl
halves ah al bh bl = omega arith

-- the parts with their carries, put together
carried : (top x cross low : ℕ) → (top + (x + low / 2 ^ 16 + cross % 2 ^ 16) / 2 ^ 16 + cross / 2 ^ 16) * 2 ^ 32 + ((x + low / 2 ^ 16 + cross % 2 ^ 16) * 2 ^ 16 % 2 ^ 32 + low % 2 ^ 16) ≡ top * 2 ^ 32 + x * 2 ^ 16 + cross * 2 ^ 16 + low
carried top x cross low = omega arith

pub product_of_parts : (a b top x cross low : ℕ) → top ≡ (a / 2 ^ 16) * (b / 2 ^ 16) → x ≡ (a % 2 ^ 16) * (b / 2 ^ 16) → cross ≡ (a / 2 ^ 16) * (b % 2 ^ 16) → low ≡ (a % 2 ^ 16) * (b % 2 ^ 16) → (top + (x + low / 2 ^ 16 + cross % 2 ^ 16) / 2 ^ 16 + cross / 2 ^ 16) * 2 ^ 32 + ((x + low / 2 ^ 16 + cross % 2 ^ 16) * 2 ^ 16 % 2 ^ 32 + low % 2 ^ 16) ≡ a * b
product_of_parts a b top x cross low top_is x_is cross_is low_is =
    let a_is : a ≡ (a / 2 ^ 16) * 2 ^ 16 + a % 2 ^ 16 = omega arith in
    let b_is : b ≡ (b / 2 ^ 16) * 2 ^ 16 + b % 2 ^ 16 = omega arith in
    let split : a * b ≡ ((a / 2 ^ 16) * 2 ^ 16 + a % 2 ^ 16) * ((b / 2 ^ 16) * 2 ^ 16 + b % 2 ^ 16) = ap (λ n. n * b) a_is ∙ ap (λ n. ((a / 2 ^ 16) * 2 ^ 16 + a % 2 ^ 16) * n) b_is in
    let parts = halves (a / 2 ^ 16) (a % 2 ^ 16) (b / 2 ^ 16) (b % 2 ^ 16) in
    carried top x cross low ∙ ap (λ n. n * 2 ^ 32 + x * 2 ^ 16 + cross * 2 ^ 16 + low) top_is
    ∙ ap (λ n. ((a / 2 ^ 16) * (b / 2 ^ 16)) * 2 ^ 32 + n * 2 ^ 16 + cross * 2 ^ 16 + low) x_is
    ∙ ap (λ n. ((a / 2 ^ 16) * (b / 2 ^ 16)) * 2 ^ 32 + ((a % 2 ^ 16) * (b / 2 ^ 16)) * 2 ^ 16 + n * 2 ^ 16 + low) cross_is
    ∙ ap (λ n. ((a / 2 ^ 16) * (b / 2 ^ 16)) * 2 ^ 32 + ((a % 2 ^ 16) * (b / 2 ^ 16)) * 2 ^ 16 + ((a / 2 ^ 16) * (b % 2 ^ 16)) * 2 ^ 16 + n) low_is
    ∙ sym parts ∙ sym split
