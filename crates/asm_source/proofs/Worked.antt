-- Worked sources, by computation.
use Rattle.std.proofs.Common.{refl}
use Rattle.op_table.specs.Table.{row_for, rows}
use Rattle.asm_layout.specs.Growing.{after_turns}
use Rattle.asm_layout.specs.Layout.{place}
use Rattle.asm_source.specs.Examples.{SlotNeedsPrefix}
use Rattle.asm_source.specs.Items.{has_slot, is_relative}
use Rattle.asm_source.specs.Second.{item_faults, next_solid, part_faults, spans_from, second_faults, size_before}

pub slot_needs_prefix : SlotNeedsPrefix
unfolding has_slot is_relative second_faults part_faults item_faults next_solid spans_from size_before place after_turns row_for rows
slot_needs_prefix = record { far = refl; near = refl }
