use Rattle.std.proofs.Common.{arith}
use Rattle.board_profile.proofs.Counting.{cycle_whole, host_may, next_may, turns_may}
use Rattle.board_profile.proofs.board.ProfiledBoard.cycle.Goals as goal

pub host-requires : goal.host-requires
host-requires g c = record { spare = host_may c.args.self.now c.devices.new.self c.requires.can c.devices.ensures }

pub turns-requires : goal.turns-requires
turns-requires g c = record { amid = turns_may c.args.self.now c.devices.new.self c.host.new.self c.requires.can c.devices.ensures c.host.ensures }

pub next-requires : goal.next-requires
next-requires g c = record { early = next_may c.args.self.now c.devices.new.self c.host.new.self c.turns.new.self c.requires.can c.devices.ensures c.host.ensures c.turns.ensures }

pub returns : goal.returns
returns g c = cycle_whole c.args.self.now c.devices.new.self c.host.new.self c.turns.new.self c.next.new.self c.requires.can c.devices.ensures c.host.ensures c.turns.ensures c.next.ensures
