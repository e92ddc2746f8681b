-- The slack of a core before its first tick.
use Rattle.std.specs.Prelude.{ℕ}
use Rattle.timing_law.specs.declared.pipe.Pipe.{Pipe}
use Rattle.timing_law.specs.declared.pipe.Pipe.TheVariants.{Plain, Three, Five, Eight}

-- a plain core never lets a tick pass
abbrev pub slack_of : Pipe → ℕ
slack_of Plain = 0
slack_of Three = 63
slack_of Five = 63
slack_of Eight = 63
