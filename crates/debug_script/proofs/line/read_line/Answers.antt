use Rattle.std.proofs.Common.{◌<◌, ◌∙◌, length, arith, sym}
use Rattle.debug_script.proofs.Words.{line_words}
use Rattle.debug_script.proofs.line.read_line.Goals as goal

pub returns-in-Ok : goal.returns-in-Ok
returns-in-Ok c =
    let some : 0 < length c.args.line.now = grind arith in
    line_words c.args.names.now c.args.progress.now c.args.line.now _ _ _ _ some c.cut.ensures.first c.cut.ensures.after c.from_word.ensures (sym c.in-Ok.is ∙ c.by_verb.ensures)

pub returns-in-Err : goal.returns-in-Err
returns-in-Err c =
    let some : 0 < length c.args.line.now = grind arith in
    line_words c.args.names.now c.args.progress.now c.args.line.now _ _ _ _ some c.cut.ensures.first c.cut.ensures.after c.from_word.ensures (sym c.in-Err.is ∙ c.by_verb.ensures)
