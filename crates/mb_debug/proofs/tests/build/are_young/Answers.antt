use Rattle.std.proofs.Common.{◌≤◌, ◌^◌, map, arith, subst}
use Rattle.probe_set.specs.Sets.{HaveRoom, named}
use Rattle.std.proofs.lemmas.List.{take_all}
use Rattle.mb_debug.proofs.Young.{have_room, one_more}
use Rattle.mb_debug.proofs.tests.build.are_young.Goals as goal

pub loop-one-preserved : goal.loop-one-preserved
loop-one-preserved g c =
    let low = c.if-count_of.false in
    let is = c.count_of.ensures in
    one_more (λ a. ((goal.Probe-dyn g (a.probe.vtable, a.probe.value)).state_of a.probe.value).count ≤ 2 ^ 32) c.attached-one-items.result.now c.loop-one.one-index c.one-item.result c.loop-one-test.true c.one-item.is c.loop-one.invariant (omega (arith, low, is))

pub returns : goal.returns
returns g c t n l =
    subst (λ xs. HaveRoom n (map (λ a. named a.name ((goal.Probe-dyn g (a.probe.vtable, a.probe.value)).state_of a.probe.value)) xs)) c.attached-one-items.ensures
    (have_room (λ a. a.name) (λ a. (goal.Probe-dyn g (a.probe.vtable, a.probe.value)).state_of a.probe.value) n c.attached-one-items.result.now l
    (rw (← take_all c.loop-one.one-index c.attached-one-items.result.now c.loop-one-test.false) c.loop-one.invariant))
