use Rattle.std.proofs.Common.{◌≡◌, ◌-◌, ◌^◌, length}
use Rattle.std.specs.Prelude.{flat_map, min}
use Rattle.std.specs.List.{range_with_len}
use Rattle.asm_layout.specs.Places.{member}
use Rattle.asm_source.specs.Faults.{least_after}
use Rattle.asm_source.specs.Second.{item_faults, size_before}
use Rattle.layout_faults.proofs.items.note_items.Given as goal

abbrev pub invariant-loop-k : goal.invariant-loop-k
invariant-loop-k l = record {
  size : l.size ≡ min (size_before l.all (member l.grown) l.k) (2 ^ 64 - 1);
  noted : least_after l.first (flat_map (item_faults l.all (member l.grown)) (range_with_len l.k (length l.all - l.k)))
      ≡ least_after l.initial.first (flat_map (item_faults l.all (member l.grown)) (range_with_len 0 (length l.all)));
}
