-- The labels that a table holds.
use Rattle.std.specs.BTreeMap.{get_by}
use Rattle.std.specs.Cmp.Lexicographic.{slice_cmp}
use Rattle.std.specs.Ordering.{nat_cmp}
use Rattle.asm_statement.specs.Labels.{Labels}
use Rattle.asm_reading.specs.declared.label_table.LabelTable.{LabelTable}

abbrev pub labels_in : LabelTable → Labels
labels_in t name = get_by (λ key. slice_cmp nat_cmp name key.items) t.items
