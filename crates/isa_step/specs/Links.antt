-- UG984's link instructions get, put, getd and putd: with n they do not wait, with t they leave the link, with c the
-- control bit is expected or sent, with e a wrong control bit is raised, and with a takes are held off behind them.
use Rattle.std.specs.Prelude.{ℕ, ◌%◌, ◌==◌, ◌&&◌, not, Bool, bit_and, true, false, Option, Some, None, if◌then◌else◌}
use Rattle.axi_link.specs.declared.item.Item.{Item}
use Rattle.core_regs.specs.declared.registers.Arch.{Arch}
use Rattle.core_regs.specs.State.{exceptions_on, msr_c, msr_fsl, with_flag, write_of}
use Rattle.delay_imm.specs.Slots.{advanced}
use Rattle.trap_entry.specs.declared.cause.Cause.TheVariants.{Stream}
use Rattle.isa_step.specs.declared.acts.Action.{Action}
use Rattle.isa_step.specs.declared.acts.Action.TheVariants.{Got, Sent, Seen, Room, Missed}
use Rattle.isa_step.specs.declared.operands.Given.{Given}
use Rattle.isa_step.specs.Effects.{Effect, Request, Gets, Puts, retires, raises}

-- whether a link instruction has a letter: n is 16, c 8, t 4, a 2 and e 1
unfoldable pub has_letter : ℕ → ℕ → Bool
has_letter letter flags = not (bit_and flags letter == 0)

abbrev pub is_nonblocking : ℕ → Bool
is_nonblocking flags = has_letter 16 flags

abbrev pub has_control : ℕ → Bool
has_control flags = has_letter 8 flags

abbrev pub is_test : ℕ → Bool
is_test flags = has_letter 4 flags

abbrev pub is_atomic : ℕ → Bool
is_atomic flags = has_letter 2 flags

abbrev pub has_exception : ℕ → Bool
has_exception flags = has_letter 1 flags

-- the port: the low four bits of the word, or of rB
abbrev pub port_of : Given → Bool → ℕ
port_of g dynamic = (if dynamic then g.b else g.imm) % 16

-- C tells an access that does not wait whether it missed; other accesses keep it
abbrev pub marked : ℕ → Bool → Arch → Arch
marked flags missed a = if is_nonblocking flags then with_flag a msr_c missed else a

-- past the instruction, with takes held off behind the forms with a
abbrev pub passed : Given → Arch → Arch
passed g a = advanced a (is_atomic g.flags)

-- an access that does not wait found its port empty or full
abbrev pub misses : Given → Arch → ℕ → Bool → Option Effect
misses g a port full =
    if is_nonblocking g.flags then Some (retires g (with_flag (passed g a) msr_c true) (Some (Missed port full)) None) else None

-- an item is taken, or seen by a test
abbrev pub got_or_seen : ℕ → ℕ → Item → Action
got_or_seen flags port item = if is_test flags then Seen port item else Got port item

abbrev pub is_expected : ℕ → Item → Bool
is_expected flags item = if item.control then has_control flags else not (has_control flags)

-- FSL tells an item whose control bit is not the one expected
abbrev pub checked : ℕ → Item → Arch → Arch
checked flags item a = if is_expected flags item then a else with_flag a msr_fsl true

-- whether an item is raised in place of being written
abbrev pub is_raised : ℕ → Item → Arch → Bool
is_raised flags item a = not (is_expected flags item) && has_exception flags && exceptions_on a

-- rD = the item's word
abbrev pub receives : Given → Arch → ℕ → Item → Effect
receives g a port item =
    if is_raised g.flags item a
    then raises (checked g.flags item (marked g.flags false a)) (Stream port item.word) (Some (got_or_seen g.flags port item))
    else retires g (checked g.flags item (marked g.flags false (passed g a))) (Some (got_or_seen g.flags port item)) (write_of g.rd item.word)

abbrev pub gets_from : Given → Arch → ℕ → Request
gets_from g a port = Gets port (receives g a port) (misses g a port false)

-- get, getd
abbrev pub gets : Given → Arch → Bool → Request
gets g a dynamic = gets_from g a (port_of g dynamic)

-- a is sent with the control bit of the form
abbrev pub sent : Given → Item
sent g = record { word = g.a; control = has_control g.flags }

abbrev pub sent_or_room : Given → ℕ → Action
sent_or_room g port = if is_test g.flags then Room port else Sent port (sent g)

abbrev pub sends : Given → Arch → ℕ → Effect
sends g a port = retires g (marked g.flags false (passed g a)) (Some (sent_or_room g port)) None

abbrev pub puts_to : Given → Arch → ℕ → Request
puts_to g a port = Puts port (sends g a port) (misses g a port true)

-- put, putd
abbrev pub puts : Given → Arch → Bool → Request
puts g a dynamic = puts_to g a (port_of g dynamic)
