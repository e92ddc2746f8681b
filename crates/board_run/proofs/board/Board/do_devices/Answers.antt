use Rattle.board_run.proofs.Latching.{devices_step, moves_room}
use Rattle.board_run.proofs.board.Board.do_devices.Goals as goal

pub latch_changes-requires : goal.latch_changes-requires
latch_changes-requires g c = record { spare = moves_room c.args.self.now c.move_devices.new.self c.move_devices.ensures c.requires.spare }

pub returns : goal.returns
returns g c = devices_step c.args.self.now c.move_devices.new.self c.latch_changes.new.self c.move_devices.ensures c.latch_changes.ensures
