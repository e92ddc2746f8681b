use Rattle.std.proofs.Common.{◌≡◌, ◌++◌, drop, length, map}
use Rattle.asm_source.specs.declared.item.Written.{Written}
use Rattle.asm_source.specs.Items.{piece_of}
use Rattle.mb_asm.proofs.laying.pieces_of.Given as goal

abbrev pub invariant-loop-k : goal.invariant-loop-k
invariant-loop-k l = record {
  same : l.list.items ++ map (λ (w : Written). piece_of w.item) (drop l.k l.all) ≡ map (λ (w : Written). piece_of w.item) l.all;
  len : length l.list.items ≡ l.k;
}
