use Rattle.std.proofs.Common.{◌≡◌, ◌+◌, ◌-◌, ◌≤◌, drop, length}
use Rattle.asm_reading.specs.Lines.{lines_of}
use Rattle.asm_reading.specs.Reading.{lines_read, read_of}
use Rattle.asm_reading.proofs.reading.Reading.read_lines.Given as goal

abbrev pub invariant-loop-at : goal.invariant-loop-at
invariant-loop-at g l = record {
  within : l.at ≤ length l.source + 1;
  few : l.number ≤ l.at + 1;
  read : lines_read (g.L.Labels.items l.labels) l.number (lines_of (drop l.at l.source)) (read_of l.self) ≡ lines_read (g.L.Labels.items l.labels) 1 (lines_of l.source) (read_of l.initial.self);
}

abbrev pub decreases-loop-at : goal.decreases-loop-at
decreases-loop-at g l = length l.source + 1 - l.at
