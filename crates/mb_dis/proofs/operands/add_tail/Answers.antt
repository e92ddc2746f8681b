use Rattle.std.proofs.Common.{[], ◌∷◌, ◌++◌, ap, ◌∙◌}
use Rattle.mb_dis.proofs.Tails.{room_more, tail_ends, tail_more}
use Rattle.mb_dis.proofs.operands.add_tail.Goals as goal

pub loop-slot-preserved : goal.loop-slot-preserved
loop-slot-preserved c =
    let old = c.loop-slot.text in
    record {
      room = room_more _ c.loop-slot.slot-index old c.push.new.self c.as_bytes.result.now c.push-in-loop-slot.new.self c.push.ensures c.push-in-loop-slot.ensures c.as_bytes.ensures.fits c.loop-slot.invariant.room;
      added = tail_more c.args.i.now c.args.slots.now c.loop-slot.slot-index _ old c.push-in-loop-slot.new.self _ c.loop-slot-test.true c.loop-slot.invariant.added
          (c.push-in-loop-slot.ensures ∙ ap (λ xs. xs ++ c.as_bytes.result.now) c.push.ensures ∙ ap (λ xs. old ++ (44 ∷ 32 ∷ []) ++ xs) (c.as_bytes.ensures.bytes ∙ c.slot_text.ensures));
    }

pub returns : goal.returns
returns c = tail_ends c.args.i.now c.args.slots.now c.loop-slot.slot-index c.loop-slot.text _ c.loop-slot-test.false c.loop-slot.invariant.added
