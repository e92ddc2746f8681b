-- What left the board through one exit, and threads through the entries that tell it.
use Rattle.std.specs.Prelude.{◌≡◌, ℕ, ◌+◌, ◌-◌, ◌≤◌, ◌==◌, Bool, false, if◌then◌else◌, List, [], ◌∷◌, ◌++◌, drop, flat_map, get_or, length, replicate, set}
use Rattle.run_journal.specs.declared.entry.Entry.{Entry}
use Rattle.run_journal.specs.declared.entry.What.{What}
use Rattle.run_journal.specs.declared.entry.What.TheVariants.{HostGot, Left}
use Rattle.run_journal.specs.Files.{bytes_got, bytes_left}
use Rattle.run_output.specs.declared.pieces.Exit.{Exit}
use Rattle.run_output.specs.declared.pieces.Exit.TheVariants.{Link, Uart}

-- whether something left through an exit
abbrev pub leaves_by : Exit → What → Bool
leaves_by (Link link) (HostGot l item) = l == link
leaves_by (Uart uart) (Left u byte) = u == uart
leaves_by _ _ = false

-- what an entry adds to the file of an exit
abbrev pub bytes_at : Exit → Entry → List ℕ
bytes_at (Link link) e = bytes_got link e.what
bytes_at (Uart uart) e = bytes_left uart e.what

-- the file of an exit
abbrev pub file_of : Exit → List Entry → List ℕ
file_of exit = flat_map (bytes_at exit)

-- how many entries there are from the first that left through an exit to the last; 0 where none did
abbrev pub from_first : Exit → List Entry → ℕ
from_first exit [] = 0
from_first exit (e ∷ es) = if leaves_by exit e.what then length es + 1 else from_first exit es

-- entries are told by how many there are from them to the last. For each exit its first entry, and for each entry, the last
-- one first, the next of its exit; 0 is none
pub record Threaded : Type 0 where
  pub links : List ℕ
  pub uarts : List ℕ
  pub next : List ℕ
  pub room : ℕ

-- the next entry of the exit of an entry before those that are threaded
abbrev pub next_of : What → Threaded → ℕ
next_of (HostGot l item) t = get_or t.links l 0
next_of (Left u byte) t = get_or t.uarts u 0
next_of _ t = 0

-- that entry is the first of its exit now
abbrev pub headed : What → ℕ → Threaded → Threaded
headed (HostGot l item) count t = record t { links = set t.links l count }
headed (Left u byte) count t = record t { uarts = set t.uarts u count }
headed _ count t = t

-- one more entry, before those that are threaded
abbrev pub threaded : What → Threaded → Threaded
threaded what t = record (headed what (length t.next + 1) t) { next = t.next ++ next_of what t ∷ [] }

-- no entry is threaded
abbrev pub bare : Threaded → Threaded
bare t = record t { links = replicate (length t.links) 0; uarts = replicate (length t.uarts) 0; next = [] }

-- the threads through these entries
abbrev pub through : Threaded → List Entry → Threaded
through t [] = bare t
through t (e ∷ es) = threaded e.what (through t es)

-- the last of these entries, as many as are threaded
abbrev pub last_of : Threaded → List Entry → List Entry
last_of t entries = drop (length entries - length t.next) entries

-- the threads lie through the last of these entries
pub record Lie (t : Threaded) (entries : List Entry) : Type 0 where
  pub few : length t.next ≤ length entries
  pub threads : t ≡ through t (last_of t entries)

-- whether the threads know the exit
abbrev pub Knows : Threaded → Exit → Type 0
Knows t (Link link) = link + 1 ≤ length t.links
Knows t (Uart uart) = uart + 1 ≤ length t.uarts

-- the first entry of an exit
abbrev pub head_of : Threaded → Exit → ℕ
head_of t (Link link) = get_or t.links link 0
head_of t (Uart uart) = get_or t.uarts uart 0
