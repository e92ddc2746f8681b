use Rattle.bus_map.proofs.Building.{IsBuilt}
use Rattle.bus_map.proofs.map.Map.build.Given as goal

abbrev pub invariant-loop-window : goal.invariant-loop-window
invariant-loop-window l = IsBuilt l.windows l.window-index l.devices
