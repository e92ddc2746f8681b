use Rattle.std.proofs.Common.{◌-◌, ◌/◌, ◌^◌, ◌<◌, ◌≤◌, sym, subst, arith}
use Rattle.std.proofs.Math.Pow.{pow_mono}
use Rattle.std.proofs.lemmas.Nat.{mod_below, pow_pos}
use Rattle.op_table.specs.Forms.{most_bits}
use Rattle.mb_decode.proofs.fields.value_in.Goals as goal

pub returns-clause-small : goal.returns-clause-small
returns-clause-small c =
    let at = c.args.at.now in
    let grows : 2 ^ at.width ≤ 2 ^ most_bits at.part = pow_mono c.requires.small in
    let below : c.field.result < 2 ^ at.width = subst (λ n. n < 2 ^ at.width) (sym c.field.ensures) (mod_below (c.args.w / 2 ^ (32 - at.first - at.width)) (2 ^ at.width) (pow_pos at.width)) in
    omega (arith, grows, below)
