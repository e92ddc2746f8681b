use Rattle.std.proofs.Common.{◌≡◌, ◌<◌, ℕ, get_or, length, ap, arith, refl, subst}
use Rattle.std.specs.Prelude.{map}
use Rattle.std.proofs.lemmas.List.{length-map}
use Rattle.quiet_cycles.specs.Quiet.{TicksAtOnce}
use Rattle.quiet_cycles.proofs.Running.{ticks_none, ticks_ready}
use Rattle.board_run.specs.Boards.{core_of}
use Rattle.board_run.proofs.Alone.{ticked_more, ticked_none}
use Rattle.board_run.proofs.Ticks.{seen, slice_get_mapped}
use Rattle.board_run.proofs.board.ticks_at_once.Goals as goal

pub loop-k-init : goal.loop-k-init
loop-k-init g c = ticks_none (map (seen g.C.Core.state) c.args.cores.now)

pub tick_at_once-requires : goal.tick_at_once-requires
tick_at_once-requires g c =
    let count : length (map (seen g.C.Core.state) c.args.cores.now) ≡ length c.args.cores.now = length-map c.args.cores.now (seen g.C.Core.state) in
    let core = get_or c.loop-k.cores c.loop-k.k c.index-cores-k.result in
    record {
      young = ticks_ready (map (seen g.C.Core.state) c.args.cores.now) (map (seen g.C.Core.state) c.loop-k.cores) c.loop-k.k c.requires.ready (omega (arith, count, c.loop-k-test.true)) c.loop-k.invariant (core_of (g.C.Core.state core))
          (slice_get_mapped (seen g.C.Core.state) c.loop-k.cores c.loop-k.k core (omega (arith, c.loop-k.auto.cores, c.loop-k-test.true)) (ap (get_or c.loop-k.cores c.loop-k.k) c.index-cores-k.is));
    }

pub returns-then-not-tick_at_once-clause-acted : goal.returns-then-not-tick_at_once-clause-acted
returns-then-not-tick_at_once-clause-acted g c =
    let core = get_or c.loop-k.cores c.loop-k.k c.index-cores-k.result in
    ticked_none g.C.Core.state c.args.cores.now c.loop-k.cores c.loop-k.k core c.tick_at_once.new.self (ap (get_or c.loop-k.cores c.loop-k.k) c.index-cores-k.is) (c.if-not-tick_at_once.ensures.kept refl) c.loop-k.invariant

pub loop-k-preserved : goal.loop-k-preserved
loop-k-preserved g c =
    let count : length (map (seen g.C.Core.state) c.args.cores.now) ≡ length c.args.cores.now = length-map c.args.cores.now (seen g.C.Core.state) in
    let core = get_or c.loop-k.cores c.loop-k.k c.index-cores-k.result in
    ticked_more g.C.Core.state c.args.cores.now c.loop-k.cores c.loop-k.k core c.tick_at_once.new.self c.loop-k.auto.cores (omega (arith, c.loop-k.auto.cores, c.loop-k-test.true)) (ap (get_or c.loop-k.cores c.loop-k.k) c.index-cores-k.is) (c.if-not-tick_at_once.ensures.done refl) (omega (arith, count, c.loop-k-test.true)) c.loop-k.invariant

pub returns-clause-acted : goal.returns-clause-acted
returns-clause-acted g c =
    let all : c.loop-k.k ≡ length c.loop-k.cores = omega (arith, c.loop-k.auto.k-end, c.loop-k-test.false, c.loop-k.auto.cores) in
    subst (λ (k : ℕ). TicksAtOnce (map (seen g.C.Core.state) c.args.cores.now) k (map (seen g.C.Core.state) c.loop-k.cores)) all c.loop-k.invariant
