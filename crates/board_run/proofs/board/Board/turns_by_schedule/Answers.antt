use Rattle.std.proofs.Common.{◌≡◌, ◌≤◌, ◌+◌, Bool, if◌then◌else◌, ℕ, length, ap, sym, ◌∙◌, arith, subst}
use Rattle.std.proofs.lemmas.List.{length-map}
use Rattle.exact_machine.specs.Machine.{ExactWorld}
use Rattle.board_run.proofs.Ticks.{seen}
use Rattle.quiet_cycles.specs.Quiet.{TurnsAtOnce, TurnsQuiet}
use Rattle.quiet_cycles.proofs.Running.{quiet_turns_all, quiet_turns_more, quiet_turns_none, quiet_turns_stop, turn_at_once_ready, turns_few}
use Rattle.board_run.proofs.board.Board.turns_by_schedule.Goals as goal

pub loop-k-init : goal.loop-k-init
loop-k-init g c = quiet_turns_none c.args.self.now c.requires.quiet

pub turn_at_once-requires-clause-there : goal.turn_at_once-requires-clause-there
turn_at_once-requires-clause-there g c =
    let n : length c.args.self.now.schedule.clocks ≡ length c.args.self.now.cores = subst (λ (w : ExactWorld). length w.schedule.clocks ≡ length w.cores) c.self.view_is (c.self.invariant.0 ∙ sym (length-map c.self.inside.cores.items (seen g.C.Core.state))) in
    let count : length c.args.self.now.cores ≡ c.len-count.result = ap (λ (w : ExactWorld). length w.cores) (sym c.self.view_is) ∙ length-map c.self.inside.cores.items (seen g.C.Core.state) ∙ sym (c.len-count.ensures ∙ c.self.inside.cores.ok.0) in
    (turn_at_once_ready c.args.self.now c.loop-k.self c.loop-k.k c.loop-k.acted c.requires.quiet n (omega (arith, count, c.loop-k-test.true)) c.requires.can c.loop-k.invariant).there

pub turn_at_once-requires-clause-young : goal.turn_at_once-requires-clause-young
turn_at_once-requires-clause-young g c =
    let n : length c.args.self.now.schedule.clocks ≡ length c.args.self.now.cores = subst (λ (w : ExactWorld). length w.schedule.clocks ≡ length w.cores) c.self.view_is (c.self.invariant.0 ∙ sym (length-map c.self.inside.cores.items (seen g.C.Core.state))) in
    let count : length c.args.self.now.cores ≡ c.len-count.result = ap (λ (w : ExactWorld). length w.cores) (sym c.self.view_is) ∙ length-map c.self.inside.cores.items (seen g.C.Core.state) ∙ sym (c.len-count.ensures ∙ c.self.inside.cores.ok.0) in
    (turn_at_once_ready c.args.self.now c.loop-k.self c.loop-k.k c.loop-k.acted c.requires.quiet n (omega (arith, count, c.loop-k-test.true)) c.requires.can c.loop-k.invariant).young

pub turn_at_once-requires-clause-calm : goal.turn_at_once-requires-clause-calm
turn_at_once-requires-clause-calm g c =
    let n : length c.args.self.now.schedule.clocks ≡ length c.args.self.now.cores = subst (λ (w : ExactWorld). length w.schedule.clocks ≡ length w.cores) c.self.view_is (c.self.invariant.0 ∙ sym (length-map c.self.inside.cores.items (seen g.C.Core.state))) in
    let count : length c.args.self.now.cores ≡ c.len-count.result = ap (λ (w : ExactWorld). length w.cores) (sym c.self.view_is) ∙ length-map c.self.inside.cores.items (seen g.C.Core.state) ∙ sym (c.len-count.ensures ∙ c.self.inside.cores.ok.0) in
    (turn_at_once_ready c.args.self.now c.loop-k.self c.loop-k.k c.loop-k.acted c.requires.quiet n (omega (arith, count, c.loop-k-test.true)) c.requires.can c.loop-k.invariant).calm

pub loop-k-preserved : goal.loop-k-preserved
loop-k-preserved g c =
    let n : length c.args.self.now.schedule.clocks ≡ length c.args.self.now.cores = subst (λ (w : ExactWorld). length w.schedule.clocks ≡ length w.cores) c.self.view_is (c.self.invariant.0 ∙ sym (length-map c.self.inside.cores.items (seen g.C.Core.state))) in
    let count : length c.args.self.now.cores ≡ c.len-count.result = ap (λ (w : ExactWorld). length w.cores) (sym c.self.view_is) ∙ length-map c.self.inside.cores.items (seen g.C.Core.state) ∙ sym (c.len-count.ensures ∙ c.self.inside.cores.ok.0) in
    subst (λ (acted : Bool). TurnsQuiet c.args.self.now (c.loop-k.k + 1) acted c.turn_at_once.new.self) (sym c.either-acted.ensures) (quiet_turns_more c.args.self.now c.loop-k.self c.turn_at_once.new.self c.loop-k.k c.loop-k.acted c.in-Some.did n (omega (arith, count, c.loop-k-test.true)) c.loop-k.invariant c.in-Some.ensures.turn)

pub returns-in-None-clause-turns : goal.returns-in-None-clause-turns
returns-in-None-clause-turns g c =
    subst (λ (k : ℕ). TurnsAtOnce c.args.self.now k c.turn_at_once.new.self) (sym c.turns_done.ensures)
    (subst (λ (w : ExactWorld). TurnsAtOnce c.args.self.now (if c.loop-k.acted then c.loop-k.k else 0) w) (sym c.in-None.ensures.turn)
    (quiet_turns_stop c.args.self.now c.loop-k.self c.loop-k.k c.loop-k.acted c.requires.quiet c.loop-k.invariant))

pub returns-in-None-clause-few : goal.returns-in-None-clause-few
returns-in-None-clause-few g c =
    let n : length c.args.self.now.schedule.clocks ≡ length c.args.self.now.cores = subst (λ (w : ExactWorld). length w.schedule.clocks ≡ length w.cores) c.self.view_is (c.self.invariant.0 ∙ sym (length-map c.self.inside.cores.items (seen g.C.Core.state))) in
    let count : length c.args.self.now.cores ≡ c.len-count.result = ap (λ (w : ExactWorld). length w.cores) (sym c.self.view_is) ∙ length-map c.self.inside.cores.items (seen g.C.Core.state) ∙ sym (c.len-count.ensures ∙ c.self.inside.cores.ok.0) in
    subst (λ (k : ℕ). k ≤ length c.args.self.now.schedule.clocks) (sym c.turns_done.ensures) (turns_few c.loop-k.k _ c.loop-k.acted (omega (arith, n, count, c.loop-k-test.true)))

pub returns-clause-turns : goal.returns-clause-turns
returns-clause-turns g c =
    let all : c.loop-k.k ≡ c.len-count.result = omega (arith, c.loop-k.auto.k-end, c.loop-k-test.false) in
    let went = c.goes_on-goes_on.result in
    subst (λ (k : ℕ). TurnsAtOnce c.args.self.now k c.loop-k.self) (ap (λ (k : ℕ). if c.goes_on-goes_on.result then k else 0) all ∙ sym c.turns_done-2.ensures)
    (quiet_turns_all c.args.self.now c.loop-k.self c.loop-k.k c.loop-k.acted went c.requires.quiet c.loop-k.invariant c.goes_on-goes_on.ensures.acted c.goes_on-goes_on.ensures.busy)
