use Rattle.std.proofs.Common.{arith}
use Rattle.alu_units.specs.Units.{product_of}
use Rattle.alu_units.proofs.ProductsLemmas.{high_su, high_ss}
use Rattle.alu_units.proofs.products.multiply.Goals as goal

pub returns-in-Low : goal.returns-in-Low
unfolding product_of
returns-in-Low c = rw c.in-Low.is (omega arith)

pub returns-in-HighU : goal.returns-in-HighU
unfolding product_of
returns-in-HighU c = rw c.in-HighU.is (omega arith)

pub returns-in-HighSu : goal.returns-in-HighSu
unfolding product_of
returns-in-HighSu c =
    let product = c.whole_product-product.result in
    rw (c.in-HighSu.is, c.taken_off.ensures)
    (high_su c.args.a c.args.b product.high product.low (omega arith) (omega arith) (omega arith) c.whole_product-product.ensures (omega arith))

pub returns-in-High : goal.returns-in-High
unfolding product_of
returns-in-High c =
    let product = c.whole_product-product.result in
    rw (c.in-High.is, c.taken_off-in-High.ensures, c.taken_off-in-High-2.ensures)
    (high_ss c.args.a c.args.b product.high product.low (omega arith) (omega arith) (omega arith) c.whole_product-product.ensures (omega arith))
