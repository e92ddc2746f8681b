use Rattle.board_file_laws.proofs.Soundness.{read_is_sound}
use Rattle.board_file_laws.proofs.read_boards_are_sound.Goals as goal

pub returns : goal.returns
returns c = read_is_sound
