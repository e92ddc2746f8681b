use Rattle.std.proofs.Common.{ap}
use Rattle.std.specs.Prelude.{option_copied}
use Rattle.debug_script.proofs.Words.{alone_refused}
use Rattle.debug_script.proofs.line.alone.Goals as goal

pub returns-in-Some : goal.returns-in-Some
returns-in-Some c = alone_refused c.args.command _ _ (ap option_copied c.in-Some.is)
