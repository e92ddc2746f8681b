use Rattle.std.proofs.Common.{sym, ◌∙◌}
use Rattle.asm_syntax.specs.Spelling.{mnemonic}
use Rattle.asm_syntax.proofs.Rows.{named_here, named_later, named_past}
use Rattle.asm_syntax.proofs.mnemonics.mnemonic.Goals as goal

pub loop-k-preserved : goal.loop-k-preserved
loop-k-preserved c = c.loop-k.invariant ∙ named_later c.args.word.now c.loop-k.k c.in-Some.row (sym c.in-Some.ensures.listed) (sym c.in_default-letters_in.ensures)

pub returns-in-Some-letters_in : goal.returns-in-Some-letters_in
unfolding mnemonic
returns-in-Some-letters_in c =
    sym (c.loop-k.invariant ∙ named_here c.args.word.now c.loop-k.k c.in-Some-letters_in.flags c.in-Some.row (sym c.in-Some.ensures.listed) (sym c.in-Some-letters_in.ensures))

pub returns : goal.returns
unfolding mnemonic
returns c = c.alias.ensures ∙ sym (c.loop-k.invariant ∙ named_past c.args.word.now c.loop-k.k c.loop-k-test.false)
