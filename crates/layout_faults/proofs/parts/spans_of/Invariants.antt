use Rattle.std.proofs.Common.{◌≡◌, ◌++◌, drop}
use Rattle.asm_layout.specs.Places.{member}
use Rattle.asm_source.specs.Second.{spans_from, written}
use Rattle.layout_faults.proofs.parts.spans_of.Given as goal

abbrev pub invariant-loop-k : goal.invariant-loop-k
invariant-loop-k l =
    l.spans.ended.items ++ spans_from l.all (member l.grown) l.k l.spans.from l.spans.org (drop l.k l.all) ≡ spans_from l.all (member l.grown) 0 0 (written l.all 0) l.all
