use Rattle.std.proofs.Common.{length, arith}
use Rattle.asm_layout.specs.Places.{member}
use Rattle.layout_faults.proofs.Spanning.{span_last}
use Rattle.layout_faults.proofs.parts.spans_of.Goals as goal

pub returns : goal.returns
returns c =
    span_last c.args.all.now (member c.args.grown.now) c.loop-k.k c.loop-k.spans.from _ c.loop-k.spans.org c.loop-k.spans.ended.items c.end.new.self.ended.items _ c.loop-k-test.false (omega (arith, c.loop-k.auto.k-end))
    (c.requires.laid (length c.args.all.now) (omega arith)) c.loop-k.invariant c.in_ok-end.ensures
