use Rattle.std.proofs.Common.{◌<◌, ◌≤◌, length, arith}
use Rattle.ring_demo.proofs.Tallies.{tally_all, tally_more}
use Rattle.ring_demo.proofs.tally.tally_of.Goals as goal

pub loop-k-preserved : goal.loop-k-preserved
loop-k-preserved c =
    let l : c.loop-k.k < length c.args.journal.now.entries = omega (arith, c.loop-k-test.true, c.len-k-end.ensures) in
    record {
      told = tally_more c.loop-k.tally c.with_entry-tally.result c.args.journal.now.entries c.loop-k.k l c.loop-k.invariant.told c.with_entry-tally.ensures.items c.with_entry-tally.ensures.sum;
      few = omega (arith, c.with_entry-tally.ensures.few, c.loop-k.invariant.few);
    }

pub returns : goal.returns
returns c =
    let l : length c.args.journal.now.entries ≤ c.loop-k.k = omega (arith, c.loop-k-test.false, c.len-k-end.ensures) in
    tally_all c.loop-k.tally c.args.journal.now.entries c.loop-k.k l c.loop-k.invariant.told
