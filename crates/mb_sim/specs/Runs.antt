-- The status of the end of a run.
use Rattle.std.specs.Prelude.{ℕ}
use Rattle.board_machine.specs.declared.events.Rest.TheVariants as rest
use Rattle.board_machine.specs.declared.events.RunEnd.{RunEnd}
use Rattle.board_machine.specs.declared.events.RunEnd.TheVariants.{Rest as AtRest, CyclesSpent, JournalFull}
use Rattle.mb_sim.specs.declared.status.Status.{Status}
use Rattle.mb_sim.specs.declared.status.Status.TheVariants as status

-- the number with which the process ends
abbrev pub code_of : Status → ℕ
code_of status.Ended = 0
code_of status.Waiting = 1
code_of status.Stopped = 2
code_of status.CyclesSpent = 3
code_of status.Usage = 4
code_of (status.ReadFault file) = 5
code_of (status.BadBoard code place) = 6
code_of (status.BadImage core code at) = 7
code_of (status.WriteFault file) = 8
code_of status.NoMemory = 9
code_of status.JournalFull = 10
code_of (status.BadSource code line column) = 11
code_of (status.BadScript code line) = 12
code_of (status.BadInput file offset) = 13
code_of (status.TooLong file) = 15

-- the status of a run that ended so
abbrev pub status_of : RunEnd → Status
status_of (AtRest rest.Ended) = status.Ended
status_of (AtRest rest.Waiting) = status.Waiting
status_of (AtRest rest.Stopped) = status.Stopped
status_of CyclesSpent = status.CyclesSpent
status_of JournalFull = status.JournalFull
