use Rattle.std.proofs.Common.{◌≡◌, ◌-◌, ◌≤◌, drop, length, map}
use Rattle.mb_lex.specs.Lines.{placed_of}
use Rattle.asm_source.specs.Faults.{least_after}
use Rattle.asm_reading.specs.Marks.{all_defined, all_name_faults, behind_names, names_before}
use Rattle.asm_reading.specs.Tables.{labels_in}
use Rattle.asm_reading.proofs.labels.Marked.add_labels.Given as goal

abbrev pub invariant-loop-at : goal.invariant-loop-at
invariant-loop-at l = record {
  within : l.at ≤ length l.tokens;
  labels : all_defined (labels_in l.self.labels) l.item (names_before (map (placed_of l.line) (drop l.at l.tokens))) ≡ all_defined (labels_in l.initial.self.labels) l.item (names_before (map (placed_of l.line) l.tokens));
  first : least_after l.self.first (all_name_faults (labels_in l.self.labels) l.number l.item (names_before (map (placed_of l.line) (drop l.at l.tokens))))
      ≡ least_after l.initial.self.first (all_name_faults (labels_in l.initial.self.labels) l.number l.item (names_before (map (placed_of l.line) l.tokens)));
  behind : behind_names (map (placed_of l.line) (drop l.at l.tokens)) ≡ behind_names (map (placed_of l.line) l.tokens);
}

abbrev pub decreases-loop-at : goal.decreases-loop-at
decreases-loop-at l = length l.tokens - l.at
