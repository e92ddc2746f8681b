use Rattle.std.proofs.Common.{◌≡◌, ◌+◌, ◌∷◌, [], length, ap, ◌∙◌, arith, length-append}
use Rattle.asm_source.specs.declared.item.Written.{Written}
use Rattle.asm_source.specs.Items.{piece_of}
use Rattle.mb_asm.proofs.Answering.{two_maps}
use Rattle.mb_asm.proofs.Listing.{mapped_all, mapped_more}
use Rattle.mb_asm.proofs.laying.pieces_of.Goals as goal

pub loop-k-preserved : goal.loop-k-preserved
loop-k-preserved c =
    let longer : length c.push.new.self.items ≡ length c.loop-k.list.items + 1 = ap length c.in_ok-push.ensures.items ∙ length-append c.loop-k.list.items (c.piece-piece.result ∷ []) in
    record {
      same = mapped_more (λ (w : Written). piece_of w.item) c.args.all.now c.loop-k.k _ c.piece-piece.result c.loop-k.list.items c.push.new.self.items _ c.loop-k-test.true c.piece-piece.ensures c.loop-k.invariant.same
          c.in_ok-push.ensures.items;
      len = omega (arith, longer, c.loop-k.invariant.len);
    }

pub returns : goal.returns
returns c = record {
  same = mapped_all (λ (w : Written). piece_of w.item) c.args.all.now c.loop-k.k c.loop-k.list.items _ c.loop-k-test.false c.loop-k.invariant.same ∙ two_maps c.args.all.now;
  len = omega (arith, c.loop-k.invariant.len, c.loop-k.auto.k-end, c.loop-k-test.false);
}
