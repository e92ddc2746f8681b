use Rattle.std.proofs.Common.{sym, ◌∙◌, true}
use Rattle.board_file.proofs.Somes.{only_if_some}
use Rattle.board_file.proofs.read.board_name.Goals as goal

pub returns-then-is_board_name : goal.returns-then-is_board_name
returns-then-is_board_name c =
    let holds = sym c.is_board_name.ensures.rule ∙ c.if-is_board_name.true in
    rw holds (only_if_some c.from_text.result true c.args.text.now (c.from_text.ensures.variant ∙ c.is_board_name.ensures.fits c.if-is_board_name.true) c.from_text.ensures.name)
