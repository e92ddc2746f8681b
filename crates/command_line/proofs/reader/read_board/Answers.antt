use Rattle.std.proofs.Common.{◌∙◌, Err, List, ap, map, sym}
use Rattle.command_line.specs.Words.{Text}
use Rattle.command_line.proofs.Commands.{answers_fault, answers_meaning, board_means, board_refused}
use Rattle.command_line.proofs.reader.read_board.Goals as goal

pub returns-in_err-split : goal.returns-in_err-split
returns-in_err-split c =
    let words : List Text = map (λ w. w.now) c.args.words.now in
    answers_fault _ c.from_residual.result c.in_err-split.field-0.0 c.from_residual.ensures.1 (λ usage. board_refused c.args.kind words (c.in_err-split.ensures.usage (ap Err usage)))

pub returns : goal.returns
returns c =
    let words : List Text = map (λ w. w.now) c.args.words.now in
    answers_meaning _ c.on_board.result c.ok_or.result c.ok_or.ensures.value (board_means c.args.kind words c.in_ok-split.split c.in_ok-split.ensures.ok ∙ sym c.on_board.ensures)
