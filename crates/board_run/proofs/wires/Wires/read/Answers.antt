use Rattle.board_machine.specs.Fabric.{shown}
use Rattle.board_run.proofs.Telling.{read_by}
use Rattle.board_run.proofs.wires.Wires.read.Goals as goal

pub returns : goal.returns
returns c = read_by c.args.core c.args.act c.args.addr ((shown c.args.self.now c.args.core).bus_word c.args.addr) c.read_word.result c.args.self.now c.read_word.new.self c.requires c.read_word.ensures
