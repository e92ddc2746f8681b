use Rattle.bus_map.specs.declared.device.Access.TheVariants.{Read}
use Rattle.board_machine.specs.Bus.{offset_in}
use Rattle.board_bus.proofs.Refusing.{refused}
use Rattle.board_bus.proofs.bus.Bus.read.Goals as goal

pub returns-clause-refused : goal.returns-clause-refused
returns-clause-refused c = refused c.args.self.now c.access_at.new.self (Read (offset_in c.args.addr)) c.spot-spot.result c.access_at.result c.access_at.ensures.answer c.access_at.ensures.leaves
