use Rattle.std.proofs.Common.{◌≡◌, drop}
use Rattle.std.specs.List.{list_any}
use Rattle.mb_debug.specs.Breaks.{hits}
use Rattle.mb_debug.proofs.breaks.is_any_hit.Given as goal

-- it depends on those that are left
abbrev pub invariant-loop-one : goal.invariant-loop-one
invariant-loop-one g l = list_any (hits l.board) l.breaks ≡ list_any (hits l.board) (drop l.one-index l.breaks)
