use Rattle.std.proofs.Common.{subst, sym, ◌∙◌, ◌++◌, ap, ℕ, List, refl}
use Rattle.core_regs.specs.State.{written}
use Rattle.core_iface.specs.Flights.{begun}
use Rattle.core_iface.proofs.Keeping.{at_pc}
use Rattle.pipe_latch.specs.Clocks.{Clocked}
use Rattle.pipe_latch.specs.Latches.{AreWords, flown}
use Rattle.pipe_latch.proofs.AloneTurns.{staged_acts_alone, staged_fills_alone}
use Rattle.pipe_latch.proofs.Depths.{in_bounds}
use Rattle.pipe_latch.proofs.Leaving.{leaves}
use Rattle.pipe_latch.proofs.Turns.{ages_of, begun_set, filled_set, flies, forwarded_after, forwarded_later, stages_later}
use Rattle.pipe_latch.proofs.staged.StagedCore.go.Goals as goal

-- a tick that passes before the act that is due

pub invariant_of-self-clause-pipe : goal.invariant_of-self-clause-pipe
invariant_of-self-clause-pipe g c = ap (λ (t : Clocked). t.past.pipe) c.fill.ensures.times ∙ c.args.self.now.pipe

pub invariant_of-self-clause-flying : goal.invariant_of-self-clause-flying
invariant_of-self-clause-flying g c =
    let now = c.args.self.now in
    stages_later g.row.STAGES c.depth-depth.result c.advance.new.self.stages now.clock c.depth-depth.ensures now.pipe c.advance.ensures.stages

pub invariant_of-self-clause-forwarded : goal.invariant_of-self-clause-forwarded
invariant_of-self-clause-forwarded g c =
    let now = c.args.self.now in
    forwarded_later c.depth-depth.result (flown 0 now.flights.stages) (flown 0 c.advance.new.self.stages) now.file c.advance.new.file now.arch.regs
    (flies g.row.STAGES c.depth-depth.result now.flights.stages now.clock c.depth-depth.ensures now.pipe now.flying) c.advance.ensures.flights c.advance.ensures.file now.forwarded

pub invariant_of-self-clause-set : goal.invariant_of-self-clause-set
invariant_of-self-clause-set g c = filled_set c.args.self.now.clock c.fill.new.self _ _ c.fill.ensures.times c.args.self.now.set

pub returns-then-holds-clause-done : goal.returns-then-holds-clause-done
returns-then-holds-clause-done g c = λ e.
    let now = c.args.self.now in
    staged_fills_alone now.arch now.memory (flown 0 now.flights.stages) (flown 0 c.advance.new.self.stages) now.file c.advance.new.file c.depth-depth.result now.clock c.fill.new.self
    (ages_of g.row.STAGES c.depth-depth.result (flown 0 now.flights.stages) (flown 0 c.advance.new.self.stages) now.file c.advance.new.file now.clock c.depth-depth.ensures now.pipe c.advance.ensures.flights c.advance.ensures.file)
    now.set (sym c.holds.ensures ∙ c.if-holds.true) c.fill.ensures.times c.fill.ensures.less
    (now.runs c.requires.at_once) (now.awake c.requires.at_once) (now.goes c.requires.at_once)

-- an act

pub meet-self-requires-clause-words : goal.meet-self-requires-clause-words
meet-self-requires-clause-words g c =
    let now = c.args.self.now in
    let at = at_pc now.words.kept c.at-word.result.now now.arch now.memory c.at-word.ensures (now.kept c.if-not-self.false) in
    let left = leaves c.at-word.result.now c.in-Some.flow now.arch c.act_at_once.new.a now.memory c.act_at_once.new.m at.suits c.in-Some.ensures.done c.are_all.ensures in
    c.fetch-2.ensures.words (subst (λ (m : List ℕ). AreWords m c.follow.new.self.order c.follow.new.self.words) (sym left.memory)
    (c.follow.ensures.words now.memory now.arch.order left.done left.leads now.fetched))

pub invariant_of-self-2-clause-pipe : goal.invariant_of-self-2-clause-pipe
invariant_of-self-2-clause-pipe g c =
    ap (λ (t : Clocked). t.past.pipe) c.meet-self.ensures.clock ∙ ap (λ (t : Clocked). t.past.pipe) c.retire.ensures ∙ c.args.self.now.pipe

pub invariant_of-self-2-clause-flying : goal.invariant_of-self-2-clause-flying
invariant_of-self-2-clause-flying g c =
    let now = c.args.self.now in
    c.begin.ensures.stages _ (in_bounds g.row.STAGES _ refl).0 (stages_later g.row.STAGES c.depth-depth.result c.advance-2.new.self.stages now.clock c.depth-depth.ensures now.pipe c.advance-2.ensures.stages)

pub invariant_of-self-2-clause-forwarded : goal.invariant_of-self-2-clause-forwarded
invariant_of-self-2-clause-forwarded g c =
    let now = c.args.self.now in
    let at = at_pc now.words.kept c.at-word.result.now now.arch now.memory c.at-word.ensures (now.kept c.if-not-self.false) in
    let left = leaves c.at-word.result.now c.in-Some.flow now.arch c.act_at_once.new.a now.memory c.act_at_once.new.m at.suits c.in-Some.ensures.done c.are_all.ensures in
    forwarded_after c.depth-depth.result c.written.result (flown 0 now.flights.stages) (flown 0 c.advance-2.new.self.stages) (flown 0 c.begin.new.self.stages) now.file c.advance-2.new.file now.arch.regs c.act_at_once.new.a.regs
    (flies g.row.STAGES c.depth-depth.result now.flights.stages now.clock c.depth-depth.ensures now.pipe now.flying) c.advance-2.ensures.flights c.advance-2.ensures.file
    c.begin.ensures.flights now.forwarded (left.regs ∙ ap (λ w. written w now.arch.regs) (sym c.written.ensures.value))

pub invariant_of-self-2-clause-fetched : goal.invariant_of-self-2-clause-fetched
invariant_of-self-2-clause-fetched g c =
    let now = c.args.self.now in
    let at = at_pc now.words.kept c.at-word.result.now now.arch now.memory c.at-word.ensures (now.kept c.if-not-self.false) in
    let left = leaves c.at-word.result.now c.in-Some.flow now.arch c.act_at_once.new.a now.memory c.act_at_once.new.m at.suits c.in-Some.ensures.done c.are_all.ensures in
    c.fetch-2.ensures.words (subst (λ (m : List ℕ). AreWords m c.follow.new.self.order c.follow.new.self.words) (sym left.memory)
    (c.follow.ensures.words now.memory now.arch.order left.done left.leads now.fetched))

pub invariant_of-self-2-clause-set : goal.invariant_of-self-2-clause-set
invariant_of-self-2-clause-set g c = begun_set c.retire.new.self c.meet-self.new.clock _ _ c.meet-self.ensures.clock

pub returns-clause-done : goal.returns-clause-done
returns-clause-done g c = λ e.
    let now = c.args.self.now in
    let fs = (flown 0 c.advance-2.new.self.stages) in
    staged_acts_alone c.at-word.result.now c.in-Some.flow now.arch c.act_at_once.new.a now.memory c.act_at_once.new.m
    (flown 0 now.flights.stages) (flown 0 c.advance-2.new.self.stages) (flown 0 c.begin.new.self.stages) now.file c.advance-2.new.file c.depth-depth.result _ _ now.clock c.retire.new.self c.meet-self.new.clock
    (at_pc now.words.kept c.at-word.result.now now.arch now.memory c.at-word.ensures (now.kept c.if-not-self.false)) c.in-Some.ensures.done c.are_all.ensures
    (ages_of g.row.STAGES c.depth-depth.result (flown 0 now.flights.stages) (flown 0 c.advance-2.new.self.stages) now.file c.advance-2.new.file now.clock c.depth-depth.ensures now.pipe c.advance-2.ensures.flights c.advance-2.ensures.file)
    now.set (sym c.holds.ensures ∙ c.if-holds.false)
    (c.begin.ensures.flights ∙ ap (λ w. fs ++ begun w) c.written.ensures.value) c.retire.ensures c.meet-self.ensures.clock
