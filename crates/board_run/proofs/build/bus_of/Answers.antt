use Rattle.std.proofs.Common.{List, ap, slice_get, sym, ◌∙◌}
use Rattle.board_file.specs.declared.board.IntcRow.{IntcRow}
use Rattle.board_file.specs.declared.board.TimerRow.{TimerRow}
use Rattle.board_file.specs.declared.board.UartRow.{UartRow}
use Rattle.board_run.proofs.build.bus_of.Goals as goal

pub new-requires-clause-timers : goal.new-requires-clause-timers
new-requires-clause-timers c = λ k row at. c.requires.timers k row (ap (λ (rows : List TimerRow). slice_get rows k) (sym c.as_slice.ensures) ∙ at)

pub new-requires-clause-intcs : goal.new-requires-clause-intcs
new-requires-clause-intcs c = λ k row at. c.requires.intcs k row (ap (λ (rows : List IntcRow). slice_get rows k) (sym c.as_slice-2.ensures) ∙ at)

pub new-requires-clause-uarts : goal.new-requires-clause-uarts
new-requires-clause-uarts c = λ k row at. c.requires.uarts k row (ap (λ (rows : List UartRow). slice_get rows k) (sym c.as_slice-3.ensures) ∙ at)
