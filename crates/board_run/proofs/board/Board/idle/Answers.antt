use Rattle.isa_step.proofs.RestLaws.{is_rest}
use Rattle.board_machine.proofs.Staying.{announced}
use Rattle.board_run.proofs.board.Board.idle.Goals as goal

pub returns-clause-lasts : goal.returns-clause-lasts
returns-clause-lasts g c = is_rest _ (announced c.args.self.now.fabric c.args.core)
