use Rattle.std.proofs.Common.{◌≡◌, ◌+◌, ap, sym, ◌∙◌, arith}
use Rattle.board_machine.specs.declared.events.RunEnd.TheVariants.{Rest as AtRest, CyclesSpent}
use Rattle.board_machine.proofs.Turns.{rest_ends, spent_ends}
use Rattle.exact_machine.specs.Machine.{opened}
use Rattle.board_profile.proofs.Counting.{cycle_may, cycle_next, none_cycled, one_cycled, run_ended}
use Rattle.board_profile.proofs.board.ProfiledBoard.run_to.Goals as goal

pub loop-number-init : goal.loop-number-init
loop-number-init g c = record { cycled = none_cycled c.args.limit c.args.self.now c.requires.can; number = c.number-number.ensures }

pub returns-in-Some : goal.returns-in-Some
returns-in-Some g c = run_ended c.args.limit c.args.self.now c.loop-number.self c.in-Some.end c.loop-number.invariant.cycled (sym c.in-Some.ensures)

pub cycle-requires : goal.cycle-requires
cycle-requires g c = record { can = cycle_may c.args.limit c.args.self.now c.loop-number.self c.loop-number.invariant.cycled (sym c.in_default.ensures) }

pub loop-number-preserved : goal.loop-number-preserved
loop-number-preserved g c = record {
  cycled = one_cycled c.args.limit c.args.self.now c.loop-number.self c.cycle.new.self c.loop-number.invariant.cycled (sym c.in_default.ensures) c.cycle.ensures;
  number = ap (λ n. n + 1) c.loop-number.invariant.number ∙ sym (cycle_next c.loop-number.self c.cycle.new.self c.cycle.ensures);
}

pub returns-in-Some-rest : goal.returns-in-Some-rest
returns-in-Some-rest g c = run_ended c.args.limit c.args.self.now c.loop-number.self (AtRest c.in-Some-rest.rest) c.loop-number.invariant.cycled (rest_ends c.args.limit (opened c.loop-number.self.world) c.in-Some-rest.rest (sym c.in-Some-rest.ensures))

pub returns-in-None : goal.returns-in-None
returns-in-None g c =
    let e : c.loop-number.self.world.fabric.cycle ≡ c.args.limit = omega (arith, c.loop-number.invariant.number, c.loop-number-test.false, c.loop-number.invariant.cycled.can.before) in
    run_ended c.args.limit c.args.self.now c.loop-number.self CyclesSpent c.loop-number.invariant.cycled (spent_ends c.args.limit (opened c.loop-number.self.world) (sym c.in-None.ensures) e)
