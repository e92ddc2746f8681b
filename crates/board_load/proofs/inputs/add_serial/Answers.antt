use Rattle.board_load.specs.Jobs.{IsSerialOf}
use Rattle.board_load.proofs.Rowwise.{input_added}
use Rattle.board_load.proofs.inputs.add_serial.Goals as goal

pub returns-in_ok-bytes-in-Some-clause-ok : goal.returns-in_ok-bytes-in-Some-clause-ok
returns-in_ok-bytes-in-Some-clause-ok g c =
    rw c.in-Some.is
    (input_added (IsSerialOf (g.S.Shelf.state c.args.shelf.now).files) c.in-Some.name c.in_ok-bytes-in-Some.bytes c.args.inputs.now.items c.add.new.inputs.items c.add.result
    c.in_ok-bytes-in-Some.ensures.ok c.add.ensures.added)
