use Rattle.std.proofs.Common.{◌≡◌, ◌++◌, ◌-◌, flat_map}
use Rattle.std.specs.List.{range_with_len}
use Rattle.mb_debug.specs.Prints.{mem_byte, mem_text}
use Rattle.mb_debug.proofs.board_texts.add_bytes.Given as goal

-- what is there and the bytes that are left are all bytes
abbrev pub invariant-loop-k : goal.invariant-loop-k
invariant-loop-k g l =
    let memory = (g.C.Core.state l.core).view.memory in
    l.fn.text.items ++ mem_text memory l.addr l.count ≡ l.text.items ++ flat_map (mem_byte memory l.addr l.count) (range_with_len l.k (l.count - l.k))
