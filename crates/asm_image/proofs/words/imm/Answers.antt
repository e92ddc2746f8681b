use Rattle.std.proofs.Common.{◌<◌, ◌^◌, rules}
use Rattle.asm_image.proofs.Spelled.{imm_fits}
use Rattle.asm_image.proofs.words.imm.Goals as goal

pub returns-clause-spelled : goal.returns-clause-spelled
returns-clause-spelled c =
    let small : c.args.half < 2 ^ 16 = search rules in
    imm_fits c.args.half small
