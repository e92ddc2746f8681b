use Rattle.std.proofs.Common.{None, Some, sym, ◌∙◌}
use Rattle.op_table.specs.Mnemonics.{text_of}
use Rattle.asm_syntax.specs.Operands.{has_special}
use Rattle.asm_syntax.proofs.Rows.{find_here, find_later, find_past, special_is}
use Rattle.asm_syntax.proofs.names.with_special.Goals as goal

pub loop-k-preserved : goal.loop-k-preserved
loop-k-preserved c =
    c.loop-k.invariant
    ∙ find_later (has_special (text_of c.row_of.result.name) c.args.word.now) c.loop-k.k c.in-Some.other (sym c.in-Some.ensures.listed) (sym c.if-has_special.ensures)

pub returns-then-has_special : goal.returns-then-has_special
returns-then-has_special c =
    special_is c.args.op c.args.word.now c.row_of.result (Some c.in-Some.other) c.row_of.ensures.row
    (c.loop-k.invariant ∙ find_here (has_special (text_of c.row_of.result.name) c.args.word.now) c.loop-k.k c.in-Some.other (sym c.in-Some.ensures.listed) (sym c.if-has_special.ensures))

pub returns : goal.returns
returns c =
    special_is c.args.op c.args.word.now c.row_of.result None c.row_of.ensures.row
    (c.loop-k.invariant ∙ find_past (has_special (text_of c.row_of.result.name) c.args.word.now) c.loop-k.k c.loop-k-test.false)
