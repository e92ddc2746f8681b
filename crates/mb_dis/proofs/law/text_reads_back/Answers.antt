use Rattle.std.proofs.Common.{◌≡◌, Some, subst, refl, ap, ◌∙◌}
use Rattle.std.specs.Prelude.{Option, IfSome}
use Rattle.op_table.specs.Table.{row_for}
use Rattle.mb_decode.specs.declared.instruction.Instr.{Instr}
use Rattle.mb_decode.specs.Meaning.{Fits}
use Rattle.mb_dis.specs.Statement.{lexemes, statement, text_by}
use Rattle.mb_lex.specs.Lexemes.{lex}
use Rattle.mb_dis.proofs.Back.{fits_reads_back}
use Rattle.mb_dis.proofs.law.text_reads_back.Goals as goal

fits_of : (o : Option Instr) (i : Instr) → IfSome o (λ j. Fits (row_for j.op).form j) → o ≡ Some i → Fits (row_for i.op).form i
fits_of o i fits is = let P : Option Instr → Type 0 = λ x. IfSome x (λ j. Fits (row_for j.op).form j) in subst P is fits

pub returns : goal.returns
returns c = λ i means.
    let fits : Fits (row_for i.op).form i = fits_of c.decode.result i c.decode.ensures.fits (c.decode.ensures.meaning ∙ means) in
    ap (λ o. statement (lexemes (lex 0 0 (text_by c.args.w o)))) means ∙ fits_reads_back (row_for i.op).form i refl fits
