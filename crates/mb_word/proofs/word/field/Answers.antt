use Rattle.std.proofs.Common.{◌≡◌, ◌-◌, arith}
use Rattle.std.proofs.lemmas.Nat.{and_mask}
use Rattle.std.proofs.lemmas.Nat.Bits.{ones_shr}
use Rattle.mb_word.proofs.word.field.Goals as goal

pub returns : goal.returns
returns c =
    let width : 32 - (32 - c.args.width) ≡ c.args.width = omega arith in
    rw (ones_shr 32 (32 - c.args.width) (omega arith), width) (and_mask _ c.args.width)
