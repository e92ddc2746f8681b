use Rattle.std.proofs.Common.{◌≡◌, ℕ, ◌<◌, ◌%◌, ◌==◌, Some, true, length, ap, sym, ◌∙◌, subst, arith, refl, slice_get}
use Rattle.std.proofs.lemmas.List.{length-map}
use Rattle.std.proofs.lemmas.Option.{slice_get_read}
use Rattle.board_machine.specs.Cycles.{core_at, core_of_turn}
use Rattle.exact_machine.specs.Machine.{ExactWorld}
use Rattle.quiet_cycles.proofs.Running.{turn_acted}
use Rattle.board_run.proofs.Ticks.{seen}
use Rattle.board_run.proofs.board.Board.turn_at_once.Goals as goal

pub returns-then-tick_at_once : goal.returns-then-tick_at_once
returns-then-tick_at_once g c =
    let inside = c.self.inside in
    let core = c.core_at-core.result in
    let clock = c.index.result.now in
    let many : c.len.result ≡ length c.self.inside.clocks.items = omega (arith, c.len.ensures, c.self.inside.cores.ok.0, c.self.invariant.0) in
    let count : length c.args.self.now.cores ≡ length c.self.inside.cores.items = ap (λ (w : ExactWorld). length w.cores) (sym c.self.view_is) ∙ length-map c.self.inside.cores.items (seen g.C.Core.state) in
    let turn : c.core_at-core.result ≡ core_at c.self.inside.turn (length c.self.inside.clocks.items) c.self.inside.wires.cycle c.args.k =
    c.core_at-core.ensures.core ∙ ap (λ (n : ℕ). core_at c.self.inside.turn n c.number-cycle.result c.args.k) many ∙ ap (λ (cycle : ℕ). core_at c.self.inside.turn (length c.self.inside.clocks.items) cycle c.args.k) c.number-cycle.ensures in
    let here : c.core_at-core.result ≡ core_of_turn c.args.self.now.schedule c.args.self.now.fabric.cycle c.args.k = subst (λ (w : ExactWorld). c.core_at-core.result ≡ core_of_turn w.schedule w.fabric.cycle c.args.k) c.self.view_is turn in
    let there : c.core_at-core.result < length c.self.inside.clocks.items = omega (arith, c.core_at-core.ensures.there, many) in
    let at : slice_get c.args.self.now.schedule.clocks c.core_at-core.result ≡ Some c.index.result.now = subst (λ (w : ExactWorld). slice_get w.schedule.clocks c.core_at-core.result ≡ Some c.index.result.now) c.self.view_is (slice_get_read c.self.inside.clocks.items (length c.self.inside.clocks.items) c.core_at-core.result c.index.result.now refl there c.index.ensures) in
    let divides : (c.args.self.now.fabric.cycle % c.index.result.now == 0) ≡ true = subst (λ (w : ExactWorld). (w.fabric.cycle % c.index.result.now == 0) ≡ true) c.self.view_is (ap (λ (cycle : ℕ). cycle % c.index.result.now == 0) (sym c.number-cycle.ensures) ∙ sym c.is_due.ensures ∙ c.if-not-is_due.false) in
    record { turn = turn_acted c.args.self.now c.tick_at_once.new.self c.args.k core clock here at divides (omega (arith, there, count, c.self.invariant.0)) (c.tick_at_once.ensures.step c.if-tick_at_once.true) c.tick_at_once.ensures.fabric (c.tick_at_once.ensures.busy c.if-tick_at_once.true) }
