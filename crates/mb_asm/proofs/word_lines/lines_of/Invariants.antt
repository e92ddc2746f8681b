use Rattle.std.proofs.Common.{◌≡◌, ◌-◌, ◌++◌, length}
use Rattle.std.specs.Prelude.{flat_map}
use Rattle.std.specs.List.{range_with_len}
use Rattle.asm_layout.specs.Places.{member}
use Rattle.mb_asm.specs.WordLines.{words_of}
use Rattle.mb_asm.proofs.word_lines.lines_of.Given as goal

abbrev pub invariant-loop-k : goal.invariant-loop-k
invariant-loop-k l =
    l.lines.items ++ flat_map (words_of l.all (member l.grown)) (range_with_len l.k (length l.all - l.k)) ≡ flat_map (words_of l.all (member l.grown)) (range_with_len 0 (length l.all))
