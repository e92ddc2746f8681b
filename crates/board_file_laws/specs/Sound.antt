-- What a board that was read always keeps.
use Rattle.std.specs.Prelude.{◌≡◌, ◌≢◌, ◌⊎◌, ℕ, ◌<◌, ◌≤◌, ◌%◌, List, [], ◌∷◌, ◌++◌, flat_map, length, slice_get, IfSome, Option, Some, true}
use Rattle.std.specs.Cmp.Lexicographic.{slice_cmp}
use Rattle.std.specs.List.{sum_by}
use Rattle.std.specs.Ordering.{is_lt, nat_cmp}
use Rattle.board_file.specs.Board.{IsRead}
use Rattle.board_file.specs.Rules.{most_cores, most_links}
use Rattle.board_file.specs.declared.board.BoardFile.{BoardFile}
use Rattle.board_file.specs.declared.board.CoreRow.{CoreRow}
use Rattle.board_file.specs.declared.board.End.{End}
use Rattle.board_file.specs.declared.board.End.TheVariants.{Port, File}
use Rattle.board_file.specs.declared.board.EventRow.{EventRow}
use Rattle.board_file.specs.declared.board.IntcRow.{IntcRow}
use Rattle.board_file.specs.declared.board.LinkRow.{LinkRow}
use Rattle.board_file.specs.declared.board.TimerRow.{TimerRow}
use Rattle.board_file.specs.declared.board.UartRow.{UartRow}

-- a core ticks, and a device moves, at least in each 1,000,000th cycle; a UART's `every` and its clock are so each
abbrev pub IsClock : ℕ → Type 0
IsClock n = (1 ≤ n) × (n ≤ 1000000)

-- a memory has whole pages of 4,096 bytes, up to 67,108,864 bytes
abbrev pub IsMemory : ℕ → Type 0
IsMemory size = (4096 ≤ size) × (size ≤ 67108864) × (size % 4096 ≡ 0)

-- a link holds 1 to 4,096 items
abbrev pub IsDepth : ℕ → Type 0
IsDepth n = (1 ≤ n) × (n ≤ 4096)

-- the input of an interrupt controller, where one is named, is one of 32
abbrev pub IsInput : Option ℕ → Type 0
IsInput irq = IfSome irq (λ n. n < 32)

-- an end that is a port is one of the 16 ports of one of so many cores
abbrev pub IsPortOf : ℕ → End → Type 0
IsPortOf cores end = (core port : ℕ) → end ≡ Port core port → (core < cores) × (port < 16)

-- an event is of one of so many cores, and not later than cycle 1,000,000,000,000
abbrev pub IsOnBoard : ℕ → EventRow → Type 0
IsOnBoard cores event = (event.core < cores) × (event.cycle ≤ 1000000000000)

-- a name comes before another in byte order
abbrev pub IsBefore : List ℕ → List ℕ → Type 0
IsBefore one other = is_lt (slice_cmp nat_cmp one other) ≡ true

-- the files that links lead to, and those that UARTs send to, in board order
abbrev pub files_at : End → List (List ℕ)
files_at (File name) = name ∷ []
files_at (Port core port) = []

abbrev pub link_files : List LinkRow → List (List ℕ)
link_files links = flat_map (λ link. files_at link.to) links

abbrev pub uart_files : List UartRow → List (List ℕ)
uart_files uarts = flat_map (λ uart. uart.output ∷ []) uarts

abbrev pub output_files : BoardFile → List (List ℕ)
output_files b = link_files b.links ++ uart_files b.uarts

-- no two names are the same
pub record AreDistinct (names : List (List ℕ)) : Type 0 where
  pub lone : (j k : ℕ) (name : List ℕ) → slice_get names j ≡ Some name → slice_get names k ≡ Some name → j ≡ k

-- a file is neither the image of a core nor the input of a link or of a UART
pub record IsFresh (b : BoardFile) (file : List ℕ) : Type 0 where
  pub no_image : (k : ℕ) (core : CoreRow) → slice_get b.cores k ≡ Some core → core.image ≢ file
  pub no_input : (k : ℕ) (link : LinkRow) → slice_get b.links k ≡ Some link → link.from ≢ File file
  pub no_feed : (k : ℕ) (uart : UartRow) → slice_get b.uarts k ≡ Some uart → uart.input ≢ Some file

-- each device moves in each cycle
pub record AreUnclocked (b : BoardFile) : Type 0 where
  pub timers : (k : ℕ) (timer : TimerRow) → slice_get b.timers k ≡ Some timer → timer.clock ≡ 1
  pub intcs : (k : ℕ) (intc : IntcRow) → slice_get b.intcs k ≡ Some intc → intc.clock ≡ 1
  pub uarts : (k : ℕ) (uart : UartRow) → slice_get b.uarts k ≡ Some uart → uart.clock ≡ 1

-- what holds of a board that was read
pub record IsSound (b : BoardFile) : Type 0 where
  -- the version is 1 or 2; there are 1 to 64 cores and at most 256 links, and no more than the version lets be
  pub known_version : (b.version ≡ 1) ⊎ (b.version ≡ 2)
  pub few_cores : (1 ≤ length b.cores) × (length b.cores ≤ 64)
  pub few_links : length b.links ≤ 256
  pub in_version : (length b.cores ≤ most_cores b.version) × (length b.links ≤ most_links b.version)
  -- each clock, memory and depth is in its range, and the memories together have at most 1 GiB
  pub clocks : (k : ℕ) (core : CoreRow) → slice_get b.cores k ≡ Some core → IsClock core.clock
  pub memories : (k : ℕ) (core : CoreRow) → slice_get b.cores k ≡ Some core → IsMemory core.memory
  pub depths : (k : ℕ) (link : LinkRow) → slice_get b.links k ≡ Some link → IsDepth link.depth
  pub total : sum_by (λ core. core.memory) b.cores ≤ 1073741824
  -- each end of a link that is a port is a port of a core of the board
  pub ports : (k : ℕ) (link : LinkRow) → slice_get b.links k ≡ Some link → IsPortOf (length b.cores) link.from × IsPortOf (length b.cores) link.to
  -- no link has files at both ends
  pub one_file : (k : ℕ) (link : LinkRow) (f g : List ℕ) → slice_get b.links k ≡ Some link → link.from ≡ File f → link.to ≡ File g → ⊥
  -- each event is of a core of the board, and in time
  pub events : (k : ℕ) (event : EventRow) → slice_get b.events k ≡ Some event → IsOnBoard (length b.cores) event
  -- at most 64 UARTs, and each device is at an input of a controller, if at any
  pub few_uarts : length b.uarts ≤ 64
  pub timer_inputs : (k : ℕ) (timer : TimerRow) → slice_get b.timers k ≡ Some timer → IsInput timer.irq
  pub uart_inputs : (k : ℕ) (uart : UartRow) → slice_get b.uarts k ≡ Some uart → IsInput uart.irq
  pub uart_turns : (k : ℕ) (uart : UartRow) → slice_get b.uarts k ≡ Some uart → IsClock uart.every
  -- the clock of each device is in its range, and 1 in version 1
  pub timer_clocks : (k : ℕ) (timer : TimerRow) → slice_get b.timers k ≡ Some timer → IsClock timer.clock
  pub intc_clocks : (k : ℕ) (intc : IntcRow) → slice_get b.intcs k ≡ Some intc → IsClock intc.clock
  pub uart_clocks : (k : ℕ) (uart : UartRow) → slice_get b.uarts k ≡ Some uart → IsClock uart.clock
  pub first_clocks : b.version ≡ 1 → AreUnclocked b
  -- two links that begin, or end, at one port of a core are one link
  pub lone_puts : (j k : ℕ) (one other : LinkRow) (core port : ℕ) → slice_get b.links j ≡ Some one → slice_get b.links k ≡ Some other → one.from ≡ Port core port → other.from ≡ Port core port → j ≡ k
  pub lone_gets : (j k : ℕ) (one other : LinkRow) (core port : ℕ) → slice_get b.links j ≡ Some one → slice_get b.links k ≡ Some other → one.to ≡ Port core port → other.to ≡ Port core port → j ≡ k
  -- two links that lead to one file are one link
  pub lone_outputs : (j k : ℕ) (one other : LinkRow) (file : List ℕ) → slice_get b.links j ≡ Some one → slice_get b.links k ≡ Some other → one.to ≡ File file → other.to ≡ File file → j ≡ k
  -- no two links or UARTs have one output file
  pub distinct_outputs : AreDistinct (output_files b)
  -- the output file of a link, or of a UART, is no file that the board reads
  pub fresh_outputs : (k : ℕ) (link : LinkRow) (file : List ℕ) → slice_get b.links k ≡ Some link → link.to ≡ File file → IsFresh b file
  pub fresh_uart_outputs : (k : ℕ) (uart : UartRow) → slice_get b.uarts k ≡ Some uart → IsFresh b uart.output
  -- the names of cores, links and events ascend
  pub core_names : (j k : ℕ) (one other : CoreRow) → j < k → slice_get b.cores j ≡ Some one → slice_get b.cores k ≡ Some other → IsBefore one.name other.name
  pub link_names : (j k : ℕ) (one other : LinkRow) → j < k → slice_get b.links j ≡ Some one → slice_get b.links k ≡ Some other → IsBefore one.name other.name
  pub event_names : (j k : ℕ) (one other : EventRow) → j < k → slice_get b.events j ≡ Some one → slice_get b.events k ≡ Some other → IsBefore one.name other.name

-- each board that is read is sound
abbrev pub ReadIsSound : Type 0
ReadIsSound = (file : List ℕ) (b : BoardFile) → IsRead file b → IsSound b
