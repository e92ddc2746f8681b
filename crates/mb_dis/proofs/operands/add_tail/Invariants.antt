use Rattle.std.proofs.Common.{◌≡◌, ◌+◌, ◌*◌, ◌≤◌, ◌++◌, drop, length}
use Rattle.mb_dis.specs.Statement.{tail_text}
use Rattle.mb_dis.proofs.operands.add_tail.Given as goal

abbrev pub invariant-loop-slot : goal.invariant-loop-slot
invariant-loop-slot l = record {
  room : length l.text ≤ length l.initial.text + 14 * l.slot-index;
  added : l.text ++ tail_text (drop l.slot-index l.slots) l.i ≡ l.initial.text ++ tail_text l.slots l.i;
}
