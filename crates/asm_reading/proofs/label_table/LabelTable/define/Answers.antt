use Rattle.std.proofs.Common.{◌≡◌, sym, ap, ◌∙◌}
use Rattle.std.specs.Prelude.{is_some}
use Rattle.asm_reading.specs.Marks.{defined}
use Rattle.asm_reading.specs.Tables.{labels_in}
use Rattle.asm_reading.proofs.Defining.{map_updated, new_added}
use Rattle.asm_reading.proofs.label_table.LabelTable.define.Goals as goal

pub returns-clause-defined : goal.returns-clause-defined
returns-clause-defined c =
    let labels = labels_in c.args.self.now in
    let copied : c.in_ok-key.key.items ≡ c.args.name.now = c.in_ok-key.ensures.items in
    new_added labels (labels_in (record { alloc = c.args.self.now.alloc; items = c.insert.new.self })) c.in_ok-key.key.items c.args.item
    (ap (λ name. is_some (labels name)) copied ∙ sym c.contains_key.ensures ∙ c.if-contains_key.false)
    (map_updated c.args.self.now.items c.insert.new.self (λ key. key.items) c.in_ok-key.key.items c.args.item c.in_ok-insert.ensures.updates)
    ∙ ap (λ name. defined labels name c.args.item) copied
