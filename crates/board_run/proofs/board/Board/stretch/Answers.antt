use Rattle.std.proofs.Common.{arith}
use Rattle.quiet_cycles.proofs.Running.{further, stretched}
use Rattle.board_run.proofs.board.Board.stretch.Goals as goal

pub returns-then-number-clause-ran : goal.returns-then-number-clause-ran
returns-then-number-clause-ran g c =
    stretched c.args.limit c.args.self.now c.run_at_once.new.self c.do_cycle.new.self c.requires.can c.requires.goes_on c.run_at_once.ensures (omega (arith, c.number.ensures, c.if-number.true, c.number-number.ensures)) c.do_cycle.ensures

pub returns-then-number-clause-further : goal.returns-then-number-clause-further
returns-then-number-clause-further g c =
    further c.args.self.now c.run_at_once.new.self c.do_cycle.new.self (omega (arith, c.number.ensures, c.if-number.true, c.number-number.ensures)) c.do_cycle.ensures
