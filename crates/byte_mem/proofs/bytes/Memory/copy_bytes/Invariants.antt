use Rattle.std.proofs.Common.{◌≡◌, take}
use Rattle.byte_mem.specs.Access.{overwritten}
use Rattle.byte_mem.proofs.bytes.Memory.copy_bytes.Given as goal

abbrev pub invariant-loop-k : goal.invariant-loop-k
invariant-loop-k l = record {
  copied : l.self ≡ overwritten l.initial.self l.at (take l.k l.bytes);
}
