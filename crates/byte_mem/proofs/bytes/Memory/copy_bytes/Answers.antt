use Rattle.std.proofs.Common.{arith, ap, ◌∙◌, ◌+◌, ◌∷◌, [], List, ℕ}
use Rattle.std.proofs.Math.ListN.{get_or}
use Rattle.byte_mem.specs.Access.{overwritten}
use Rattle.byte_mem.proofs.Filling.{byte_more}
use Rattle.byte_mem.proofs.bytes.Memory.copy_bytes.Goals as goal

pub overflow_add-at : goal.overflow_add-at
overflow_add-at c = omega (arith, c.requires.within, c.requires.small, c.loop-k-test.true)

pub loop-k-preserved : goal.loop-k-preserved
loop-k-preserved c = record {
  copied = c.set_byte.ensures
      ∙ ap (λ (m : List ℕ). overwritten m (c.args.at + c.loop-k.k) (get_or c.args.bytes.now c.loop-k.k 0 ∷ [])) c.loop-k.invariant.copied
      ∙ byte_more c.args.self.now c.args.at c.args.bytes.now c.loop-k.k 0 c.requires.within c.loop-k-test.true;
}
