-- What a core with stages means.
use Rattle.std.specs.Prelude.{ℕ}
use Rattle.core_iface.specs.Cores.{CoreState}
use Rattle.pipe_latch.specs.Latches.{flown}
use Rattle.pipe_latch.specs.Staged.{staged}
use Rattle.pipe_latch.specs.declared.staged.StagedCore.{StagedCore}

abbrev pub staged_state : {STAGES : ℕ} → StagedCore STAGES → CoreState
staged_state c = staged c.arch c.file c.memory (flown 0 c.flights.stages) c.clock
