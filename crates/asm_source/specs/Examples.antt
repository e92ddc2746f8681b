-- Sources whose faults are worked out by hand.
use Rattle.std.specs.Prelude.{◌≡◌, ℕ, false, List, [], ◌∷◌, Option, None, Some, pos}
use Rattle.op_table.specs.declared.op.Op.TheVariants as op
use Rattle.asm_layout.specs.Growing.{after_turns}
use Rattle.asm_source.specs.Faults.{least}
use Rattle.asm_source.specs.declared.fault.Rule.TheVariants.{BadInSlot}
use Rattle.asm_source.specs.declared.item.Item.TheVariants.{Instruction, Space}
use Rattle.asm_source.specs.declared.item.Operand.TheVariants.{Label, Number}
use Rattle.asm_source.specs.declared.item.Written.{Written}
use Rattle.asm_source.specs.Items.{pieces}
use Rattle.asm_source.specs.Second.{items_of, second_faults}
use Rattle.asm_source.specs.declared.fault.Fault.{Fault}

-- `brid 8`, `addik r3, r0, far`, `.space COUNT`, `far: bri 0`
abbrev pub slot_source : ℕ → List Written
slot_source count =
    record { item = Instruction (record { op = op.Brid; rd = 0; ra = 0; rb = 0; imm = 0; flags = 0 }) (Some (Number (pos 8))) false; line = 1; column = 1 }
    ∷ record { item = Instruction (record { op = op.Addik; rd = 3; ra = 0; rb = 0; imm = 0; flags = 0 }) (Some (Label 3)) false; line = 2; column = 1 }
    ∷ record { item = Space count; line = 3; column = 1 }
    ∷ record { item = Instruction (record { op = op.Bri; rd = 0; ra = 0; rb = 0; imm = 0; flags = 0 }) (Some (Number (pos 0))) false; line = 4; column = 6 }
    ∷ []

abbrev pub answer : List Written → ℕ → Option Fault
answer all turns = least (second_faults all (after_turns (pieces (items_of all)) turns))

-- with 32768 bytes the operand in the slot needs a prefix, with 8 it doesn't
pub record SlotNeedsPrefix : Type 0 where
  pub far : answer (slot_source 32768) 1 ≡ Some (record { line = 2; column = 1; rule = BadInSlot })
  pub near : answer (slot_source 8) 0 ≡ None
