use Rattle.std.proofs.Common.{sym, ◌∙◌}
use Rattle.asm_statement.proofs.Writing.{text_ends, text_escapes, text_is, text_past}
use Rattle.asm_statement.proofs.values.add_text.Goals as goal
use Rattle.asm_statement.proofs.values.add_text.Goals.{in-Escapes, in-Is+in_ok-add-in-Is}

pub returns-in-Ends : goal.returns-in-Ends
returns-in-Ends c = text_ends c.args.head c.loop-k.escaped c.args.text.now c.loop-k.k c.loop-k.out.items _ c.loop-k-test.true (sym c.text_step.ensures ∙ c.in-Ends.is) c.loop-k.invariant

pub returns : goal.returns
returns c = text_past c.args.head c.loop-k.escaped c.args.text.now c.loop-k.k c.loop-k.out.items _ c.loop-k-test.false c.loop-k.invariant

pub loop-k-preserved : goal.loop-k-preserved
loop-k-preserved c = elim c.match-text_step.branch [
  | in-Escapes w ↦
      rw (w.out-is, w.escaped-is) (text_escapes c.args.head c.loop-k.escaped c.args.text.now c.loop-k.k c.loop-k.out.items _ c.loop-k-test.true (sym c.text_step.ensures ∙ w.in-Escapes.is) c.loop-k.invariant)
  | in-Is+in_ok-add-in-Is w ↦
      rw (w.out-is, w.escaped-is) (text_is c.args.head c.loop-k.escaped c.args.text.now c.loop-k.k _ c.loop-k.out.items w.add.new.out.items _ c.loop-k-test.true (sym c.text_step.ensures ∙ w.in-Is.is) c.loop-k.invariant w.in_ok-add-in-Is.ensures)
]
