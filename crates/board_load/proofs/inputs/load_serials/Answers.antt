use Rattle.std.proofs.lemmas.Result.{err_from_is_err_and}
use Rattle.board_load.proofs.Rowwise.{serial_fails}
use Rattle.board_load.proofs.inputs.load_serials.Goals as goal

pub returns-in_err-add_serial-clause-refused : goal.returns-in_err-add_serial-clause-refused
returns-in_err-add_serial-clause-refused g c =
    let p = err_from_is_err_and c.from_residual.result c.from_residual.ensures.1 in
    rw (p.1, p.2)
    (serial_fails (g.S.Shelf.state c.args.shelf.now) (g.S.Shelf.state c.loop-uart.shelf) (g.S.Shelf.state c.add_serial.new.shelf)
    c.args.uarts.now c.loop-uart.uart-index c.uart-item.result c.loop-uart.inputs.items c.in_err-add_serial.field-0.0
    c.loop-uart-test.true c.uart-item.is c.loop-uart.invariant.quiet c.loop-uart.invariant.inputs c.in_err-add_serial.ensures.refused)
