-- The text of an entry: a line of words with one space between.
use Rattle.std.specs.Prelude.{ℕ, ◌==◌, Bool, if◌then◌else◌, List, ◌++◌, codes, decimal}
use Rattle.axi_link.specs.declared.item.Item.{Item}
use Rattle.core_regs.specs.declared.causes.Take.{Take}
use Rattle.core_regs.specs.declared.causes.Take.TheVariants.{Interrupt, Break, NonMaskable}
use Rattle.core_regs.specs.declared.causes.StopCause.{StopCause}
use Rattle.core_regs.specs.declared.causes.StopCause.TheVariants.{Illegal, Slot, InstrBus, DataBus}
use Rattle.core_regs.specs.declared.causes.WaitOn.{WaitOn}
use Rattle.run_journal.specs.declared.entry.Entry.{Entry}
use Rattle.run_journal.specs.declared.entry.What.{What}
use Rattle.run_journal.specs.declared.entry.What.TheVariants.{Got, Sent, Seen, Room, Missed, Read, ReadRefused, Wrote, WriteRefused, Took, Raised, Slept, Stopped, Wait, LineUp, LineDown, HostSent, HostGot, Left}
use Rattle.host_io.specs.Digits.{hex_of, hex_of_byte}

-- one more word of a line, after a space
abbrev pub word : List ℕ → List ℕ
word text = codes " " ++ text

-- a number in decimal, with no leading zero
abbrev pub number : ℕ → List ℕ
number n = word (decimal n)

-- a 32-bit word in hexadecimal
abbrev pub hex : ℕ → List ℕ
hex w = word (hex_of w)

abbrev pub bit : Bool → List ℕ
bit b = word (if b then codes "1" else codes "0")

-- an item: its control bit and its word
abbrev pub item_words : Item → List ℕ
item_words item = bit item.control ++ hex item.word

-- an item that went through the port of a core
abbrev pub item_at : List ℕ → ℕ → Item → List ℕ
item_at kind port item = word kind ++ number port ++ item_words item

-- an item that the host moved at a link
abbrev pub item_of : List ℕ → List ℕ → Item → List ℕ
item_of kind link item = word kind ++ word link ++ item_words item

-- what a core waits for, or did not find: room for a put, or an item for a get
abbrev pub side : List ℕ → WaitOn → List ℕ
side kind on = word kind ++ word (if on.full then codes "put" else codes "get") ++ number on.port

-- a 32-bit value
abbrev pub value_of : List ℕ → ℕ → List ℕ
value_of kind value = word kind ++ hex value

-- an access to the bus
abbrev pub access : List ℕ → ℕ → ℕ → List ℕ
access kind addr value = value_of kind addr ++ hex value

abbrev pub take_name : Take → List ℕ
take_name Interrupt = codes "interrupt"
take_name Break = codes "break"
take_name NonMaskable = codes "nonmaskable"

-- why a core stopped, and the word, pc or address of it
abbrev pub stop_words : StopCause → List ℕ
stop_words (Illegal w) = value_of (codes "illegal") w
stop_words (Slot w) = value_of (codes "slot") w
stop_words (InstrBus pc) = value_of (codes "ibus") pc
stop_words (DataBus addr) = value_of (codes "dbus") addr

-- what was done, each word after a space; the second argument is the name of the entry's link or UART
abbrev pub words_of : What → List ℕ → List ℕ
words_of (Got port item) part = item_at (codes "got") port item
words_of (Sent port item) part = item_at (codes "sent") port item
words_of (Seen port item) part = item_at (codes "seen") port item
words_of (Room port) part = word (codes "room") ++ number port
words_of (Missed port full) part = side (codes "missed") (record { port = port; full = full })
words_of (Read addr value) part = access (codes "read") addr value
words_of (ReadRefused addr) part = value_of (codes "readrefused") addr
words_of (Wrote addr value) part = access (codes "wrote") addr value
words_of (WriteRefused addr value) part = access (codes "writerefused") addr value
words_of (Took what) part = word (codes "took") ++ word (take_name what)
words_of (Raised esr) part = value_of (codes "raised") esr
words_of Slept part = word (codes "slept")
words_of (Stopped cause) part = word (codes "stopped") ++ stop_words cause
words_of (Wait on) part = side (codes "wait") on
words_of LineUp part = word (codes "lineup")
words_of LineDown part = word (codes "linedown")
words_of (HostSent link item) part = item_of (codes "hostsent") part item
words_of (HostGot link item) part = item_of (codes "hostgot") part item
words_of (Left uart byte) part = word (codes "left") ++ word part ++ word (hex_of_byte byte)

-- the name of an entry's core, or `-` where it has none
abbrev pub shown_core : ℕ → List ℕ → List ℕ
shown_core core who = if core == 65_535 then codes "-" else who

-- the line of an entry: cycle, core, act, and what was done; the names are those of its core, and of its link or UART
abbrev pub line_of : Entry → List ℕ → List ℕ → List ℕ
line_of e who part =
    decimal e.cycle ++ word (shown_core e.core who) ++ number e.act ++ words_of e.what part ++ codes "\n"
