use Rattle.std.proofs.Common.{◌≡◌, ◌++◌, map, take, drop}
use Rattle.mb_debug.specs.Breaks.{noted}
use Rattle.mb_debug.proofs.breaks.note.Given as goal

-- the first are noted
abbrev pub invariant-loop-k : goal.invariant-loop-k
invariant-loop-k g l = l.breaks ≡ map (noted l.board) (take l.k l.fn.breaks) ++ drop l.k l.fn.breaks
