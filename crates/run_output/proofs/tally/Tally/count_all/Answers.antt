use Rattle.std.proofs.Common.{arith, get_or}
use Rattle.run_output.proofs.Threading.{no_entry}
use Rattle.run_output.proofs.Tallying.{covers_same, few_so_far, fit, sizes_more, tells_all, tells_more}
use Rattle.run_output.proofs.tally.Tally.count_all.Goals as goal

pub count-requires : goal.count-requires
count-requires c =
    record {
      few = few_so_far c.loop-k.self c.args.entries.now c.loop-k.k c.loop-k-test.true (omega (arith, c.loop-k)) c.loop-k.invariant.told;
    }

pub loop-k-preserved : goal.loop-k-preserved
loop-k-preserved c =
    let e = get_or c.args.entries.now c.loop-k.k no_entry in
    record {
      sizes = sizes_more c.args.self.now c.loop-k.self c.count.new.self e.what e.core c.count.ensures.counted c.loop-k.invariant.sizes;
      told = tells_more c.loop-k.self c.count.new.self c.args.entries.now c.loop-k.k c.loop-k-test.true c.count.ensures.byte c.count.ensures.counted c.loop-k.invariant.told;
    }

pub returns-clause-fit : goal.returns-clause-fit
returns-clause-fit c rows covers =
    fit c.loop-k.self c.args.entries.now rows (omega (arith, c.loop-k))
    (tells_all c.loop-k.self c.args.entries.now c.loop-k.k (omega (arith, c.loop-k-test.false)) c.loop-k.invariant.told)
    (covers_same c.args.self.now c.loop-k.self c.loop-k.invariant.sizes rows covers)
