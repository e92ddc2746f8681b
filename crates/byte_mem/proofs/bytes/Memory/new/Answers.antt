use Rattle.std.proofs.Common.{arith, ap, ◌≡◌, ◌∙◌, ◌*◌, ◌/◌, replicate}
use Rattle.std.specs.List.{concat}
use Rattle.byte_mem.proofs.Joined.{zeros_joined}
use Rattle.byte_mem.proofs.bytes.Memory.new.Goals as goal

pub returns-in-Ok-clause-made : goal.returns-in-Ok-clause-made
returns-in-Ok-clause-made c =
    let size : 4 * (1024 * (c.args.size / 4096)) ≡ c.args.size = omega arith in
    (ap concat c.in-Ok.ensures ∙ zeros_joined (1024 * (c.args.size / 4096)) ∙ ap (λ n. replicate n 0) size, (omega arith, omega arith, omega arith))
