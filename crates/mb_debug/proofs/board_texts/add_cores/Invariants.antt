use Rattle.std.proofs.Common.{◌≡◌, ◌++◌, ◌-◌, flat_map, length}
use Rattle.std.specs.List.{range_with_len}
use Rattle.mb_debug.specs.Prints.{core_at, cores_text}
use Rattle.mb_debug.proofs.board_texts.add_cores.Given as goal

-- what is there and the cores that are left are all cores
abbrev pub invariant-loop-k : goal.invariant-loop-k
invariant-loop-k g l =
    (l.k-end ≡ length l.board.cores)
    × (l.fn.text.items ++ cores_text l.names l.board ≡ l.text.items ++ flat_map (core_at l.names l.board) (range_with_len l.k (l.k-end - l.k)))
