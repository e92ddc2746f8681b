use Rattle.std.proofs.Common.{◌≡◌, ◌<◌, length, ap, sym, ◌∙◌, arith, subst}
use Rattle.std.proofs.lemmas.List.{length-map}
use Rattle.board_machine.specs.World.{Schedule}
use Rattle.exact_machine.specs.Machine.{ExactWorld}
use Rattle.board_run.proofs.Ticks.{seen}
use Rattle.quiet_cycles.proofs.Running.{all_turns, half_done, quiet_more, quiet_stop}
use Rattle.board_run.proofs.board.Board.run_quietly.Goals as goal

pub finish-requires : goal.finish-requires
finish-requires g c =
    let below : c.loop-number.number < c.args.limit = omega (arith, c.loop-number-test.true, c.earlier-until.ensures.here) in
    record { amid = half_done c.args.limit c.quiet_until-quiet.result c.loop-number.number c.args.in_step c.args.self.now c.loop-number.self c.turns_at_once-turns.new.self c.turns_at_once-turns.result c.loop-number.invariant below c.turns_at_once-turns.ensures.few c.turns_at_once-turns.ensures.turns }

pub returns-then-turns-len : goal.returns-then-turns-len
returns-then-turns-len g c =
    let below : c.loop-number.number < c.args.limit = omega (arith, c.loop-number-test.true, c.earlier-until.ensures.here) in
    quiet_stop c.args.limit c.quiet_until-quiet.result c.loop-number.number c.args.in_step c.args.self.now c.loop-number.self c.turns_at_once-turns.new.self c.finish.new.self c.turns_at_once-turns.result c.loop-number.invariant below c.turns_at_once-turns.ensures.few c.turns_at_once-turns.ensures.turns c.finish.ensures

pub loop-number-preserved : goal.loop-number-preserved
loop-number-preserved g c =
    let below : c.loop-number.number < c.args.limit = omega (arith, c.loop-number-test.true, c.earlier-until.ensures.here) in
    let n : length c.turns_at_once-turns.new.self.schedule.clocks ≡ length c.turns_at_once-turns.new.self.cores = subst (λ (w : ExactWorld). length w.schedule.clocks ≡ length w.cores) c.self-in-loop-number.view_is (c.self-in-loop-number.invariant.0 ∙ sym (length-map c.self-in-loop-number.inside.cores.items (seen g.C.Core.state))) in
    let count : length c.turns_at_once-turns.new.self.cores ≡ c.len.result = ap (λ (w : ExactWorld). length w.cores) (sym c.self-in-loop-number.view_is) ∙ length-map c.self-in-loop-number.inside.cores.items (seen g.C.Core.state) ∙ sym (c.len.ensures ∙ c.self-in-loop-number.inside.cores.ok.0) in
    let all = all_turns c.loop-number.self c.turns_at_once-turns.new.self c.turns_at_once-turns.result c.turns_at_once-turns.ensures.few c.turns_at_once-turns.ensures.turns n (omega (arith, count, c.if-turns-len.false)) in
    quiet_more c.args.limit c.quiet_until-quiet.result c.loop-number.number c.args.in_step c.args.self.now c.loop-number.self c.turns_at_once-turns.new.self c.next.new.self c.turns_at_once-turns.result c.loop-number.invariant below all (omega (arith, all, subst (λ (s : Schedule). 0 < length s.clocks) (sym c.loop-number.invariant.ran.schedule) c.requires.some)) c.turns_at_once-turns.ensures.turns c.next.ensures
