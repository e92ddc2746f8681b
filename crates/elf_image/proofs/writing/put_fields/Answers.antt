use Rattle.elf_image.proofs.WrittenLoops.{all_written, fields_split, no_field, written_more}
use Rattle.elf_image.proofs.writing.put_fields.Goals as goal

pub loop-field-preserved : goal.loop-field-preserved
loop-field-preserved c =
    written_more _ _ _ _ _ _ c.loop-field.invariant (fields_split c.args.order c.args.fields.now c.loop-field.field-index _ c.loop-field-test.true) c.in_ok-put_field.ensures

pub returns : goal.returns
returns c = all_written _ _ _ c.loop-field.invariant (no_field c.args.order c.args.fields.now c.loop-field.field-index c.loop-field-test.false)
