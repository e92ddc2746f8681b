use Rattle.std.proofs.Common.{◌≡◌, ◌-◌, length, sym, ap, ◌∙◌, arith}
use Rattle.std.specs.Prelude.{flat_map}
use Rattle.std.specs.List.{range_with_len}
use Rattle.asm_layout.specs.Places.{member}
use Rattle.asm_source.specs.Faults.{least_after}
use Rattle.asm_source.specs.Second.{item_faults}
use Rattle.layout_faults.proofs.Noting.{all_noted, next_noted, size_first}
use Rattle.layout_faults.proofs.items.note_items.Goals as goal

pub loop-k-init : goal.loop-k-init
loop-k-init c =
    let whole : length c.args.all.now - 0 ≡ length c.args.all.now = omega arith in
    record {
      size = size_first c.args.all.now (member c.args.grown.now);
      noted = ap (λ n. least_after c.args.first.now (flat_map (item_faults c.args.all.now (member c.args.grown.now)) (range_with_len 0 n))) whole;
    }

pub loop-k-preserved : goal.loop-k-preserved
loop-k-preserved c =
    record {
      size = c.size_with-size.ensures (member c.args.grown.now) c.requires.laid c.loop-k.invariant.size;
      noted = next_noted (item_faults c.args.all.now (member c.args.grown.now)) (length c.args.all.now) c.loop-k.k c.loop-k.first c.note_item.new.first c.loop-k-test.true c.note_item.ensures ∙ c.loop-k.invariant.noted;
    }

pub returns : goal.returns
returns c = sym (all_noted (item_faults c.args.all.now (member c.args.grown.now)) (length c.args.all.now) c.loop-k.k c.loop-k.first c.loop-k-test.false) ∙ c.loop-k.invariant.noted
