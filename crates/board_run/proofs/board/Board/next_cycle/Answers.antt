use Rattle.std.proofs.Common.{◌∷◌, []}
use Rattle.board_machine.specs.declared.events.Event.TheVariants.{Next}
use Rattle.board_run.proofs.Opened.{steps_in_open}
use Rattle.board_run.proofs.board.Board.next_cycle.Goals as goal

pub returns-clause-open : goal.returns-clause-open
returns-clause-open g c = steps_in_open c.args.self.now c.next.new.self (Next ∷ []) c.next.ensures (tt, tt)
