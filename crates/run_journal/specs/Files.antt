-- What the entries of a run tell: what left the board, and what a core was answered.
use Rattle.std.specs.Prelude.{ℕ, ◌==◌, ◌&&◌, Bool, true, false, if◌then◌else◌, List, [], ◌∷◌, filter}
use Rattle.std.specs.List.{flat_map}
use Rattle.std.specs.Int.{to_be_bytes}
use mir.Syntax.{w32}
use Rattle.axi_link.specs.declared.item.Item.{Item}
use Rattle.run_journal.specs.declared.entry.Entry.{Entry}
use Rattle.run_journal.specs.declared.entry.What.{What}
use Rattle.run_journal.specs.declared.entry.What.TheVariants.{Wait, LineUp, LineDown, HostSent, HostGot, Left}

-- an item in a file: its control bit as a byte, and its word, the most significant byte first
abbrev pub item_bytes : Item → List ℕ
item_bytes item = (if item.control then 1 else 0) ∷ to_be_bytes w32 item.word

-- what left a link for its file
abbrev pub bytes_got : ℕ → What → List ℕ
bytes_got link (HostGot l item) = if l == link then item_bytes item else []
bytes_got link _ = []

-- what left a UART
abbrev pub bytes_left : ℕ → What → List ℕ
bytes_left uart (Left u byte) = if u == uart then byte ∷ [] else []
bytes_left uart _ = []

-- the output file of a link: the items that the host got from it, in order
abbrev pub link_file : ℕ → List Entry → List ℕ
link_file link = flat_map (λ (e : Entry). bytes_got link e.what)

-- the output file of a UART: the bytes that left it, in order
abbrev pub uart_file : ℕ → List Entry → List ℕ
uart_file uart = flat_map (λ (e : Entry). bytes_left uart e.what)

-- whether an act of a core did it: waits, the changes of a line, and what the host and UARTs move are no act's
abbrev pub is_response : What → Bool
is_response (Wait on) = false
is_response LineUp = false
is_response LineDown = false
is_response (HostSent link item) = false
is_response (HostGot link item) = false
is_response (Left uart byte) = false
is_response _ = true

abbrev pub is_of_act : ℕ → ℕ → Entry → Bool
is_of_act core act e = e.core == core && e.act == act && is_response e.what

-- the responses of a core: what each of its acts was answered, in order; none where the act asked nothing
abbrev pub tape : List Entry → ℕ → ℕ → List Entry
tape entries core act = filter (is_of_act core act) entries
