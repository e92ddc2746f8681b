use Rattle.std.proofs.Common.{subst, sym, ◌∙◌, ap, ℕ, List, refl, ◌&&◌}
use Rattle.core_regs.specs.declared.registers.Arch.{Arch}
use Rattle.core_regs.specs.State.{bare, written}
use Rattle.isa_step.specs.Requests.{operands_of}
use Rattle.timing_law.specs.Table.{depth_of}
use Rattle.core_iface.proofs.Turns.{as_due, rests_keep}
use Rattle.core_iface.specs.Ticks.{is_pending}
use Rattle.pipe_latch.specs.Clocks.{Clocked}
use Rattle.pipe_latch.specs.Latches.{AreWords, flown}
use Rattle.pipe_latch.proofs.Depths.{in_bounds}
use Rattle.pipe_latch.proofs.StagedTurns.{did_regs, did_stores, pipe_kept, staged_acts, staged_fills, staged_rests}
use Rattle.pipe_latch.proofs.Turns.{ages_of, begun_set, filled_set, flies, forwarded_after, forwarded_later, held_of, stages_later, stages_now, stayed_set}
use Rattle.pipe_latch.proofs.staged.StagedCoreCore.tick.Goals as goal

pub advance-requires : goal.advance-requires
advance-requires g c =
    let now = c.args.self.now in
    record {
      depth = in_bounds g.row.STAGES c.depth-depth.result (c.depth-depth.ensures ∙ ap depth_of now.pipe);
      stages = stages_now g.row.STAGES c.depth-depth.result now.flights.stages now.clock c.depth-depth.ensures now.pipe now.flying;
    }

pub fill-requires-clause-holds : goal.fill-requires-clause-holds
fill-requires-clause-holds g c = sym c.holds.ensures ∙ held_of c.holds.result _ c.fills-fills.result c.fills-fills.ensures c.if-fills.true

-- a tick that fills

pub invariant_of-self-clause-pipe : goal.invariant_of-self-clause-pipe
invariant_of-self-clause-pipe g c = ap (λ (t : Clocked). t.past.pipe) c.fill.ensures.times ∙ c.args.self.now.pipe

pub invariant_of-self-clause-flying : goal.invariant_of-self-clause-flying
invariant_of-self-clause-flying g c =
    let now = c.args.self.now in
    stages_later g.row.STAGES c.depth-depth.result c.advance.new.self.stages now.clock c.depth-depth.ensures now.pipe c.advance.ensures.stages

pub invariant_of-self-clause-forwarded : goal.invariant_of-self-clause-forwarded
invariant_of-self-clause-forwarded g c =
    let now = c.args.self.now in
    forwarded_later c.depth-depth.result (flown 0 now.flights.stages) (flown 0 c.advance.new.self.stages) now.file c.advance.new.file now.arch.regs
    (flies g.row.STAGES c.depth-depth.result now.flights.stages now.clock c.depth-depth.ensures now.pipe now.flying) c.advance.ensures.flights c.advance.ensures.file now.forwarded

pub invariant_of-self-clause-set : goal.invariant_of-self-clause-set
invariant_of-self-clause-set g c = filled_set c.args.self.now.clock c.fill.new.self _ _ c.fill.ensures.times c.args.self.now.set

pub returns-then-fills : goal.returns-then-fills
returns-then-fills g c =
    let now = c.args.self.now in
    staged_fills g.P.Ports.done g.P.Ports.spare g.P.Ports.leaves (g.P.Sees.shows c.args.ports.now) c.here_at-here.result c.fills-fills.result now.arch now.memory
    (flown 0 now.flights.stages) (flown 0 c.advance.new.self.stages) now.file c.advance.new.file c.depth-depth.result now.clock c.fill.new.self c.args.ports.now
    (ages_of g.row.STAGES c.depth-depth.result (flown 0 now.flights.stages) (flown 0 c.advance.new.self.stages) now.file c.advance.new.file now.clock c.depth-depth.ensures now.pipe c.advance.ensures.flights c.advance.ensures.file)
    (record { met = c.here_at-here.ensures.here; set = now.set; fills_is = c.fills-fills.ensures ∙ ap (λ b. b && is_pending c.here_at-here.result (bare now.arch) (g.P.Sees.shows c.args.ports.now)) c.holds.ensures })
    c.if-fills.true c.fill.ensures.times c.fill.ensures.less

-- an act

pub meet-self-requires-clause-words : goal.meet-self-requires-clause-words
meet-self-requires-clause-words g c =
    let now = c.args.self.now in
    c.fetch-in-Did.ensures.words (subst (λ (m : List ℕ). AreWords m c.follow.new.self.order c.follow.new.self.words)
    (sym (did_stores g.P.Ports.done g.P.Ports.spare g.P.Ports.leaves _ c.in-Did.done now.arch c.act.new.a now.memory c.act.new.m c.args.ports.now c.act.new.p c.in-Did.ensures.performs.does))
    (c.follow.ensures.words now.memory now.arch.order c.in-Did.done c.flow_of.ensures now.fetched))

pub invariant_of-self-in-Did-clause-pipe : goal.invariant_of-self-in-Did-clause-pipe
invariant_of-self-in-Did-clause-pipe g c =
    ap (λ (t : Clocked). t.past.pipe) c.meet-self.ensures.clock ∙ ap (λ (t : Clocked). t.past.pipe) c.act-in-Did.ensures
    ∙ pipe_kept c.here_at-here.result c.in-Did.done c.write_back.new.self.pc c.args.self.now.clock.ticks c.args.self.now.clock.past ∙ c.args.self.now.pipe

pub invariant_of-self-in-Did-clause-flying : goal.invariant_of-self-in-Did-clause-flying
invariant_of-self-in-Did-clause-flying g c =
    let now = c.args.self.now in
    c.begin.ensures.stages _ (in_bounds g.row.STAGES _ refl).0 (stages_later g.row.STAGES c.depth-depth.result c.advance.new.self.stages now.clock c.depth-depth.ensures now.pipe c.advance.ensures.stages)

pub invariant_of-self-in-Did-clause-forwarded : goal.invariant_of-self-in-Did-clause-forwarded
invariant_of-self-in-Did-clause-forwarded g c =
    let now = c.args.self.now in
    let regs = did_regs g.P.Ports.done g.P.Ports.spare g.P.Ports.leaves _ c.in-Did.done now.arch c.act.new.a now.memory c.act.new.m c.args.ports.now c.act.new.p c.in-Did.ensures.performs.does in
    forwarded_after c.depth-depth.result c.in-Did.done.write (flown 0 now.flights.stages) (flown 0 c.advance.new.self.stages) (flown 0 c.begin.new.self.stages) now.file c.advance.new.file now.arch.regs c.write_back.new.self.regs
    (flies g.row.STAGES c.depth-depth.result now.flights.stages now.clock c.depth-depth.ensures now.pipe now.flying) c.advance.ensures.flights c.advance.ensures.file
    c.begin.ensures.flights now.forwarded (ap (λ (a : Arch). a.regs) c.write_back.ensures ∙ ap (λ xs. written c.in-Did.done.write xs) regs)

pub invariant_of-self-in-Did-clause-fetched : goal.invariant_of-self-in-Did-clause-fetched
invariant_of-self-in-Did-clause-fetched g c =
    let now = c.args.self.now in
    c.fetch-in-Did.ensures.words (subst (λ (m : List ℕ). AreWords m c.follow.new.self.order c.follow.new.self.words)
    (sym (did_stores g.P.Ports.done g.P.Ports.spare g.P.Ports.leaves _ c.in-Did.done now.arch c.act.new.a now.memory c.act.new.m c.args.ports.now c.act.new.p c.in-Did.ensures.performs.does))
    (c.follow.ensures.words now.memory now.arch.order c.in-Did.done c.flow_of.ensures now.fetched))

pub invariant_of-self-in-Did-clause-set : goal.invariant_of-self-in-Did-clause-set
invariant_of-self-in-Did-clause-set g c = begun_set c.act-in-Did.new.self c.meet-self.new.clock _ _ c.meet-self.ensures.clock

pub returns-in-Did : goal.returns-in-Did
returns-in-Did g c =
    let now = c.args.self.now in
    staged_acts g.P.Ports.done g.P.Ports.spare g.P.Ports.leaves (g.P.Sees.shows c.args.ports.now) c.here_at-here.result c.fills-fills.result c.in-Did.done now.arch c.act.new.a c.write_back.new.self now.memory c.act.new.m
    (flown 0 now.flights.stages) (flown 0 c.advance.new.self.stages) (flown 0 c.begin.new.self.stages) now.file c.advance.new.file c.depth-depth.result _ _
    now.clock c.act-in-Did.new.self c.meet-self.new.clock c.args.ports.now c.act.new.p
    (as_due (g.P.Sees.shows c.args.ports.now) now.arch.regs c.act.ensures.performs c.here_at-here.ensures.here
    (c.operands-operands.ensures ∙ ap (λ regs. operands_of c.here_at-here.result regs) (sym now.forwarded)) c.in-Did.is)
    c.write_back.ensures
    (ages_of g.row.STAGES c.depth-depth.result (flown 0 now.flights.stages) (flown 0 c.advance.new.self.stages) now.file c.advance.new.file now.clock c.depth-depth.ensures now.pipe c.advance.ensures.flights c.advance.ensures.file)
    (record { met = c.here_at-here.ensures.here; set = now.set; fills_is = c.fills-fills.ensures ∙ ap (λ b. b && is_pending c.here_at-here.result (bare now.arch) (g.P.Sees.shows c.args.ports.now)) c.holds.ensures })
    c.if-fills.false c.begin.ensures.flights c.act-in-Did.ensures c.meet-self.ensures.clock

-- a rest

pub invariant_of-self-in-Idle-clause-pipe : goal.invariant_of-self-in-Idle-clause-pipe
invariant_of-self-in-Idle-clause-pipe g c = ap (λ (t : Clocked). t.past.pipe) c.stay.ensures ∙ c.args.self.now.pipe

pub invariant_of-self-in-Idle-clause-flying : goal.invariant_of-self-in-Idle-clause-flying
invariant_of-self-in-Idle-clause-flying g c =
    let now = c.args.self.now in
    stages_later g.row.STAGES c.depth-depth.result c.advance.new.self.stages now.clock c.depth-depth.ensures now.pipe c.advance.ensures.stages

pub invariant_of-self-in-Idle-clause-forwarded : goal.invariant_of-self-in-Idle-clause-forwarded
invariant_of-self-in-Idle-clause-forwarded g c =
    let now = c.args.self.now in
    let keeps = rests_keep g.P.Ports.done g.P.Ports.spare g.P.Ports.leaves _ c.in-Idle.idle now.arch c.act.new.a now.memory c.act.new.m c.args.ports.now c.act.new.p c.in-Idle.ensures.performs.does in
    forwarded_later c.depth-depth.result (flown 0 now.flights.stages) (flown 0 c.advance.new.self.stages) now.file c.advance.new.file c.act.new.a.regs
    (flies g.row.STAGES c.depth-depth.result now.flights.stages now.clock c.depth-depth.ensures now.pipe now.flying) c.advance.ensures.flights c.advance.ensures.file
    (ap (λ (a : Arch). a.regs) keeps.arch ∙ now.forwarded)

pub invariant_of-self-in-Idle-clause-fetched : goal.invariant_of-self-in-Idle-clause-fetched
invariant_of-self-in-Idle-clause-fetched g c =
    let now = c.args.self.now in
    let keeps = rests_keep g.P.Ports.done g.P.Ports.spare g.P.Ports.leaves _ c.in-Idle.idle now.arch c.act.new.a now.memory c.act.new.m c.args.ports.now c.act.new.p c.in-Idle.ensures.performs.does in
    c.fetch-in-Idle.ensures.words (subst (λ (m : List ℕ). AreWords m now.queue.order now.queue.words) (sym keeps.memory) now.fetched)

pub invariant_of-self-in-Idle-clause-set : goal.invariant_of-self-in-Idle-clause-set
invariant_of-self-in-Idle-clause-set g c =
    let now = c.args.self.now in
    let keeps = rests_keep g.P.Ports.done g.P.Ports.spare g.P.Ports.leaves _ c.in-Idle.idle now.arch c.act.new.a now.memory c.act.new.m c.args.ports.now c.act.new.p c.in-Idle.ensures.performs.does in
    stayed_set now.clock c.stay.new.self now.arch c.act.new.a now.memory c.act.new.m c.stay.ensures keeps.arch keeps.memory now.set

pub returns-in-Idle : goal.returns-in-Idle
returns-in-Idle g c =
    let now = c.args.self.now in
    staged_rests g.P.Ports.done g.P.Ports.spare g.P.Ports.leaves g.P.Sees.shows c.here_at-here.result c.fills-fills.result c.in-Idle.idle c.rest_of.result now.arch c.act.new.a now.memory c.act.new.m
    (flown 0 now.flights.stages) (flown 0 c.advance.new.self.stages) now.file c.advance.new.file c.depth-depth.result now.clock c.stay.new.self c.args.ports.now c.act.new.p
    (as_due (g.P.Sees.shows c.args.ports.now) now.arch.regs c.act.ensures.performs c.here_at-here.ensures.here
    (c.operands-operands.ensures ∙ ap (λ regs. operands_of c.here_at-here.result regs) (sym now.forwarded)) c.in-Idle.is)
    (ages_of g.row.STAGES c.depth-depth.result (flown 0 now.flights.stages) (flown 0 c.advance.new.self.stages) now.file c.advance.new.file now.clock c.depth-depth.ensures now.pipe c.advance.ensures.flights c.advance.ensures.file)
    (record { met = c.here_at-here.ensures.here; set = now.set; fills_is = c.fills-fills.ensures ∙ ap (λ b. b && is_pending c.here_at-here.result (bare now.arch) (g.P.Sees.shows c.args.ports.now)) c.holds.ensures })
    c.if-fills.false c.rest_of.ensures c.stay.ensures
