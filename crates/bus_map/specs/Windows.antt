-- The windows on a bus: which one holds an address, and the offset in it.
use Rattle.std.specs.Prelude.{◌≡◌, ℕ, ◌+◌, ◌-◌, ◌&&◌, Bool, true, nat_le, nat_lt, List, map, Option, Contains, find}
use Rattle.std.specs.Option.{option_map}
use Rattle.bus_map.specs.declared.map.Spot.{Spot}
use Rattle.bus_map.specs.declared.map.Window.{Window}

-- whether a window holds an address: it has 4,096 bytes, from its base on
abbrev pub holds : ℕ → Window → Bool
holds addr w = nat_le w.base addr && nat_lt addr (w.base + 4096)

abbrev pub spot_in : ℕ → Window → Spot
spot_in addr w = record { device = w.device; offset = addr - w.base }

-- the device of the first window that holds an address, and the offset in that window
abbrev pub spot_at : List Window → ℕ → Option Spot
spot_at windows addr = option_map (spot_in addr) (find (holds addr) windows)

-- no address is in two windows
abbrev pub DoNotOverlap : List Window → Type 0
DoNotOverlap windows = (addr : ℕ) (v w : Window) → Contains windows v → Contains windows w → holds addr v ≡ true → holds addr w ≡ true → v ≡ w

-- the same spot at each address
abbrev pub FindsAsIn : List Window → List Window → Type 0
FindsAsIn windows others = (addr : ℕ) → spot_at others addr ≡ spot_at windows addr

-- the windows of a table from base to device
abbrev pub windows_of : List (ℕ × ℕ) → List Window
windows_of entries = map (λ e. record { base = e.0; device = e.1 }) entries
