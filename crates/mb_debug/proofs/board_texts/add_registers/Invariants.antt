use Rattle.std.proofs.Common.{◌≡◌, ◌++◌, ◌-◌, ◌*◌, flat_map}
use Rattle.std.specs.List.{range_with_len}
use Rattle.mb_debug.specs.Prints.{for_each, registers_line}
use Rattle.mb_debug.proofs.board_texts.add_registers.Given as goal

-- what is there and the lines that are left are all lines
abbrev pub invariant-loop-k : goal.invariant-loop-k
invariant-loop-k l =
    l.fn.text.items ++ for_each 8 (λ k. registers_line l.a (4 * k)) ≡ l.text.items ++ flat_map (λ k. registers_line l.a (4 * k)) (range_with_len l.k (8 - l.k))
