use Rattle.board_machine.specs.Fabric.{shown}
use Rattle.board_run.proofs.Telling.{written_by}
use Rattle.board_run.proofs.wires.Wires.write.Goals as goal

pub returns : goal.returns
returns c = written_by c.args.core c.args.act c.args.addr c.args.word ((shown c.args.self.now c.args.core).bus_takes c.args.addr c.args.word) c.write_word.result c.args.self.now c.write_word.new.self c.requires c.write_word.ensures
