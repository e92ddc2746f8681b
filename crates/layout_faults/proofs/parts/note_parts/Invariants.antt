use Rattle.std.proofs.Common.{◌≡◌, ◌≤◌, List, [], drop, nat_cmp}
use Rattle.std.specs.BTreeMap.{get}
use Rattle.byte_ranges.specs.declared.kept.Range.{Range}
use Rattle.byte_ranges.specs.Ranges.{Keeps}
use Rattle.asm_source.specs.Faults.{least_after}
use Rattle.asm_source.specs.Second.{part_faults}
use Rattle.layout_faults.proofs.parts.note_parts.Given as goal

abbrev pub invariant-loop-k : goal.invariant-loop-k
invariant-loop-k l = record {
  few : l.kept ≤ l.k;
  earlier : List Range;
  keeps : Keeps earlier (get nat_cmp l.ranges.ends);
  noted : least_after l.first (part_faults l.kept earlier (drop l.k l.spans)) ≡ least_after l.initial.first (part_faults 0 [] l.spans);
}
