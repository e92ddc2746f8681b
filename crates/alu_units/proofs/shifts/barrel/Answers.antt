use Rattle.std.proofs.Common.{◌≡◌, ◌%◌, ◌^◌, ◌<◌, ◌∙◌, ap, arith}
use Rattle.std.proofs.lemmas.Nat.{pow_below}
use Rattle.alu_units.proofs.StagesLemmas.{moved, moved_is, stage_done, stage_left_out}
use Rattle.alu_units.proofs.shifts.barrel.Goals as goal
use Rattle.alu_units.proofs.shifts.barrel.Goals.{then-n-bit-eq1, else-n-bit-eq1}

pub stage-value-requires : goal.stage-value-requires
stage-value-requires c =
    let small : 2 ^ c.loop-bit.bit < 2 ^ 5 = pow_below c.loop-bit.bit 5 (omega arith) in
    omega arith

pub loop-bit-preserved : goal.loop-bit-preserved
loop-bit-preserved c =
    let k = c.args.k in
    elim c.if-n-bit-eq1.branch [
      | then-n-bit-eq1 w ↦ w.value-is ∙ w.stage-value.ensures ∙ stage_done k c.args.a c.args.n c.loop-bit.bit c.loop-bit.value (omega arith) (omega arith) c.loop-bit.invariant w.if-n-bit-eq1.true
      | else-n-bit-eq1 w ↦ w.value-is ∙ stage_left_out k c.args.a c.args.n c.loop-bit.bit c.loop-bit.value c.loop-bit.invariant w.if-n-bit-eq1.false
    ]

pub returns : goal.returns
returns c =
    let n = c.args.n in
    let five : c.loop-bit.bit ≡ 5 = omega arith in
    let all : n % 2 ^ 5 ≡ n = omega arith in
    c.loop-bit.invariant
    ∙ ap (moved c.args.k c.args.a) (ap (λ e. n % 2 ^ e) five ∙ all)
    ∙ moved_is c.args.k c.args.a n (omega arith)
