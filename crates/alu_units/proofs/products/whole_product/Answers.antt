use Rattle.std.proofs.Common.{◌≡◌, ◌*◌, ◌/◌, ◌%◌, ◌^◌, ◌∙◌, ap}
use Rattle.std.specs.Int.Bits.{bit_and}
use Rattle.std.proofs.lemmas.Nat.{and_mask}
use Rattle.alu_units.proofs.HalvesLemmas.{product_of_parts}
use Rattle.alu_units.proofs.products.whole_product.Goals as goal

pub returns : goal.returns
returns c =
    let a = c.args.a in
    let b = c.args.b in
    let x : c.part.result ≡ (a % 2 ^ 16) * (b / 2 ^ 16) = c.part.ensures.value ∙ ap (λ n. n * (b / 2 ^ 16)) (and_mask a 16) in
    let cross : c.part-cross.result ≡ (a / 2 ^ 16) * (b % 2 ^ 16) = c.part-cross.ensures.value ∙ ap (λ n. (a / 2 ^ 16) * n) (and_mask b 16) in
    let low : c.part-low.result ≡ (a % 2 ^ 16) * (b % 2 ^ 16) =
    c.part-low.ensures.value ∙ ap (λ n. n * bit_and b 65535) (and_mask a 16) ∙ ap (λ n. (a % 2 ^ 16) * n) (and_mask b 16) in
    rw (and_mask c.part-cross.result 16, and_mask c.part-low.result 16)
    (product_of_parts a b _ _ _ _ c.part-2.ensures.value x cross low)
