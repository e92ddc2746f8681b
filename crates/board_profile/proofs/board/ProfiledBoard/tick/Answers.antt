use Rattle.std.proofs.Common.{◌≡◌, ◌<◌, Some, length, map, refl, ap, sym, ◌∙◌, arith, slice_get, slice_set}
use Rattle.std.proofs.lemmas.List.{length-map}
use Rattle.std.proofs.lemmas.Option.{slice_get_read}
use Rattle.board_run.specs.Boards.{core_of}
use Rattle.board_machine.specs.declared.events.Event.TheVariants.{Tick}
use Rattle.exact_machine.specs.Machine.{ExactCore}
use Rattle.board_profile.specs.Profiles.{Profiled, counts_of, profiled_step}
use Rattle.board_profile.proofs.Counting.{few_here, profiled_is, ticked_by, ticked_counts, ticked_profiles}
use Rattle.board_profile.proofs.board.ProfiledBoard.tick.Goals as goal

pub count-requires : goal.count-requires
count-requires g c =
    let items = c.self.inside.profiles.items in
    let cores = ap (λ (w : Profiled). length w.world.cores) c.self.view_is in
    let there : c.args.core < length items = omega (arith, c.requires.there, cores, c.self.invariant.count, length-map items counts_of) in
    let at = slice_get_read items (length items) c.args.core c.index_mut.result.now refl there c.index_mut.ensures.value in
    let s : ExactCore = core_of (g.C.Core.state c.core.result.now) in
    let young = c.requires.young s (ap (λ (w : Profiled). slice_get w.world.cores c.args.core) (sym c.self.view_is) ∙ c.core.ensures) in
    record { few = omega (arith, young, few_here c.self.inside.board c.args.core s c.index_mut.result.now items c.self.invariant c.core.ensures at) }

pub invariant_of-self : goal.invariant_of-self
invariant_of-self g c =
    let items = c.self.inside.profiles.items in
    let cores = ap (λ (w : Profiled). length w.world.cores) c.self.view_is in
    let there : c.args.core < length items = omega (arith, c.requires.there, cores, c.self.invariant.count, length-map items counts_of) in
    let at = slice_get_read items (length items) c.args.core c.index_mut.result.now refl there c.index_mut.ensures.value in
    let s : ExactCore = core_of (g.C.Core.state c.core.result.now) in
    let ticked = ticked_by c.self.inside.board c.tick-answer.new.self c.args.core s c.tick-answer.result c.reason-reason.result c.spent_on-spent.result c.index_mut.result.now c.count.new.self
    c.tick-answer.ensures.step c.tick-answer.ensures.answer c.core.ensures c.reason-reason.ensures c.spent_on-spent.ensures c.count.ensures in
    ticked_counts c.self.inside.board c.tick-answer.new.self c.args.core c.index_mut.result.now c.count.new.self items ticked at c.self.invariant

pub returns : goal.returns
returns g c =
    let items = c.self.inside.profiles.items in
    let cores = ap (λ (w : Profiled). length w.world.cores) c.self.view_is in
    let there : c.args.core < length items = omega (arith, c.requires.there, cores, c.self.invariant.count, length-map items counts_of) in
    let at = slice_get_read items (length items) c.args.core c.index_mut.result.now refl there c.index_mut.ensures.value in
    let s : ExactCore = core_of (g.C.Core.state c.core.result.now) in
    let ticked = ticked_by c.self.inside.board c.tick-answer.new.self c.args.core s c.tick-answer.result c.reason-reason.result c.spent_on-spent.result c.index_mut.result.now c.count.new.self
    c.tick-answer.ensures.step c.tick-answer.ensures.answer c.core.ensures c.reason-reason.ensures c.spent_on-spent.ensures c.count.ensures in
    profiled_is c.self.inside.board c.tick-answer.new.self (map counts_of items) (map counts_of (slice_set items c.args.core c.count.new.self)) (Tick c.args.core) ticked.step (ticked_profiles c.self.inside.board c.tick-answer.new.self c.args.core c.index_mut.result.now c.count.new.self items ticked at)
    ∙ ap (λ w. profiled_step w (Tick c.args.core)) c.self.view_is
