use Rattle.std.proofs.Common.{◌≡◌, arith, None}
use Rattle.elf_image.proofs.Firsts.{first_failing_append}
use Rattle.elf_image.proofs.Loadable.{elf_is_loadable}
use Rattle.elf_image.specs.Tests.{first_failing, tests}
use Rattle.elf_image.proofs.reader.read_elf.Goals as goal

pub returns-clause-loadable : goal.returns-clause-loadable
returns-clause-loadable c =
    let passes : first_failing (tests c.args.file.now c.args.memory) ≡ None = grind (arith, first_failing_append) in
    elf_is_loadable c.args.file.now c.args.memory _ (passes, grind (arith, first_failing_append))
