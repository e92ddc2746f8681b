-- What a contract sees of the devices of a board, and what a move leaves of them.
use Rattle.std.specs.Prelude.{Option}
use Rattle.bus_map.specs.declared.device.Access.{Access}
use Rattle.board_machine.specs.declared.parts.Spot.{Spot}
use Rattle.board_machine.specs.Bus.{DeviceRows, Devices, accessed_at}

pub record BusState : Type 0 where
  pub rows : DeviceRows
  pub devices : Devices

-- after an access to the device of a spot
abbrev pub accessed : Access → Option Spot → BusState → BusState
accessed a spot b = record b { devices = accessed_at b.devices a spot }
