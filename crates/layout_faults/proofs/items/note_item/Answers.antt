use Rattle.std.proofs.Common.{◌+◌, ap, ◌∙◌, arith}
use Rattle.asm_source.specs.declared.fault.Rule.TheVariants.{OutOfRange}
use Rattle.asm_source.specs.Faults.{least_after}
use Rattle.asm_source.specs.Second.{fault_if}
use Rattle.asm_layout.specs.Places.{member}
use Rattle.layout_faults.proofs.Noting.{item_noted}
use Rattle.layout_faults.proofs.items.note_item.Goals as goal

pub returns : goal.returns
returns c =
    item_noted c.args.all.now (member c.args.grown.now) c.args.k c.args.size _ _ c.written_at-w.result c.args.first.now c.note_if.new.first c.note_if-2.new.first c.note_if-3.new.first c.note_slot.new.first
    c.written_at-w.ensures (c.requires.laid c.args.k (omega (arith, c.requires.within))) (c.requires.laid (c.args.k + 1) (omega (arith, c.requires.within))) c.requires.size
    (c.note_if.ensures ∙ ap (λ t. least_after c.args.first.now (fault_if t OutOfRange c.written_at-w.result)) c.is_unaligned-unaligned.ensures) c.note_if-2.ensures c.note_if-3.ensures c.note_slot.ensures
