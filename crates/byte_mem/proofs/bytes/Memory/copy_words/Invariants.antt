use Rattle.std.proofs.Common.{◌≡◌, take}
use Rattle.std.specs.List.{concat}
use Rattle.byte_mem.specs.Access.{overwritten}
use Rattle.byte_mem.proofs.bytes.Memory.copy_words.Given as goal

abbrev pub invariant-loop-k : goal.invariant-loop-k
invariant-loop-k l = record {
  copied : l.self ≡ overwritten l.initial.self l.at (concat (take l.k l.words));
}
