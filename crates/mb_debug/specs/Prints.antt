-- What the commands of a script print: functions of the names, of the board and of the probes that are attached.
use Rattle.std.specs.Prelude.{ℕ, ◌+◌, ◌*◌, ◌%◌, ◌^◌, ◌==◌, ◌||◌, nat_lt, if◌then◌else◌, List, [], ◌++◌, codes, decimal, flat_map, length, Option, Some, None, slice_get}
use Rattle.std.specs.List.{range_with_len}
use Rattle.axi_link.specs.Channel.{Channel}
use Rattle.core_regs.specs.State.{reg, status_word}
use Rattle.core_regs.specs.declared.registers.Arch.{Arch}
use Rattle.host_io.specs.Digits.{hex_of_byte}
use Rattle.isa_step.specs.declared.acts.Idle.{Idle}
use Rattle.run_journal.specs.declared.entry.Entry.{Entry}
use Rattle.run_journal.specs.declared.entry.What.{What}
use Rattle.run_journal.specs.declared.entry.What.TheVariants.{HostSent, HostGot, Left}
use Rattle.run_journal.specs.Lines.{hex, line_of, number, word}
use Rattle.run_output.specs.Report.{core_line}
use Rattle.exact_machine.specs.Machine.{ExactCore, ExactWorld}
use Rattle.board_run.specs.Boards.{exact_idle}
use Rattle.probe_set.specs.Sets.{Named, state_named}
use Rattle.probe_set.specs.declared.probe.ProbeKind.{ProbeKind}
use Rattle.probe_set.specs.declared.probe.ProbeKind.TheVariants.{Count, Trace, Watch, Cover}
use Rattle.probe_set.specs.declared.probe.ProbeState.{ProbeState}
use Rattle.debug_script.specs.declared.command.Command.{Command}
use Rattle.debug_script.specs.declared.command.Command.TheVariants.{Break, Step, Run, Regs, Mem, Links, Where, Probe, Detach, Probes}
use Rattle.debug_script.specs.declared.names.ScriptNames.{ScriptNames}
use Rattle.mb_debug.specs.Scenes.{Scene}

-- texts for the numbers from 0 on, one after the other
abbrev pub for_each : ℕ → (ℕ → List ℕ) → List ℕ
for_each count text = flat_map text (range_with_len 0 count)

-- a name that the board lacks is shown as `-`
abbrev pub shown : Option (List ℕ) → List ℕ
shown (Some name) = name
shown None = codes "-"

abbrev pub name_of : List (List ℕ) → ℕ → List ℕ
name_of names k = shown (slice_get names k)

-- ---- cycles

unfoldable pub cycle_line : ℕ → List ℕ
cycle_line cycle = codes "cycle" ++ number cycle ++ codes "\n"

-- ---- registers

abbrev pub register : Arch → ℕ → List ℕ
register a n = codes "r" ++ decimal n ++ hex (reg a.regs n)

-- four registers from one on
unfoldable pub registers_line : Arch → ℕ → List ℕ
registers_line a n =
    register a n ++ codes " " ++ register a (n + 1) ++ codes " " ++ register a (n + 2) ++ codes " " ++ register a (n + 3) ++ codes "\n"

unfoldable pub specials_line : Arch → List ℕ
specials_line a =
    codes "pc" ++ hex a.pc ++ word (codes "msr") ++ hex (status_word a) ++ word (codes "ear") ++ hex a.ear
    ++ word (codes "esr") ++ hex a.esr ++ word (codes "btr") ++ hex a.btr ++ word (codes "edr") ++ hex a.edr ++ codes "\n"

unfoldable pub regs_text : Arch → List ℕ
regs_text a = for_each 8 (λ k. registers_line a (4 * k)) ++ specials_line a

abbrev pub regs_of : Option ExactCore → List ℕ
regs_of None = []
regs_of (Some s) = regs_text s.view.arch

-- ---- memory

-- the byte at an address; addresses from 2^32 on have none
abbrev pub byte_at : List ℕ → ℕ → Option ℕ
byte_at memory addr = if nat_lt addr (2 ^ 32) then slice_get memory addr else None

abbrev pub byte_text : Option ℕ → List ℕ
byte_text None = codes "--"
byte_text (Some byte) = hex_of_byte byte

-- byte k of so many: behind it a space, and the line's end after sixteen of them and after the last
abbrev pub mem_byte : List ℕ → ℕ → ℕ → ℕ → List ℕ
mem_byte memory addr count k =
    byte_text (byte_at memory (addr + k)) ++ (if k % 16 == 15 || k + 1 == count then codes "\n" else codes " ")

abbrev pub mem_text : List ℕ → ℕ → ℕ → List ℕ
mem_text memory addr count = for_each count (mem_byte memory addr count)

abbrev pub mem_of : Option ExactCore → ℕ → ℕ → List ℕ
mem_of None addr count = []
mem_of (Some s) addr count = mem_text s.view.memory addr count

-- ---- links and cores

unfoldable pub link_line : List ℕ → ℕ → ℕ → List ℕ
link_line name holds depth =
    codes "link" ++ word name ++ word (codes "holds") ++ number holds ++ word (codes "of") ++ number depth ++ codes "\n"

abbrev pub link_of : List ℕ → Option Channel → List ℕ
link_of name None = []
link_of name (Some c) = link_line name (length c.items) c.depth

abbrev pub link_at : ScriptNames → ExactWorld → ℕ → List ℕ
link_at names w k = link_of (name_of names.links k) (slice_get w.fabric.links k)

abbrev pub links_text : ScriptNames → ExactWorld → List ℕ
links_text names w = for_each (length w.fabric.links) (link_at names w)

abbrev pub core_of : List ℕ → Option Idle → Option ExactCore → List ℕ
core_of name idle None = []
core_of name idle (Some s) = core_line name idle s.view.arch.pc s.acts

abbrev pub core_at : ScriptNames → ExactWorld → ℕ → List ℕ
core_at names w k = core_of (name_of names.cores k) (exact_idle w k) (slice_get w.cores k)

-- the core lines of the report
abbrev pub cores_text : ScriptNames → ExactWorld → List ℕ
cores_text names w = for_each (length w.cores) (core_at names w)

-- ---- probes

abbrev pub kind_name : ProbeKind → List ℕ
kind_name Count = codes "count"
kind_name Trace = codes "trace"
kind_name Watch = codes "watch"
kind_name Cover = codes "cover"

-- the name of the link or UART that an entry is about
abbrev pub part_name : ScriptNames → What → List ℕ
part_name names (HostSent link item) = name_of names.links link
part_name names (HostGot link item) = name_of names.links link
part_name names (Left uart byte) = name_of names.uarts uart
part_name names _ = codes "-"

abbrev pub entry_line : ScriptNames → Entry → List ℕ
entry_line names e = line_of e (name_of names.cores e.core) (part_name names e.what)

unfoldable pub count_line : ProbeKind → ℕ → List ℕ
count_line kind count = kind_name kind ++ number count ++ codes "\n"

-- the newest entries, which a trace alone tells
abbrev pub last_lines : ScriptNames → ProbeState → ProbeKind → List ℕ
last_lines names s Trace = flat_map (entry_line names) s.last
last_lines names s Count = []
last_lines names s Watch = []
last_lines names s Cover = []

abbrev pub probe_text : ScriptNames → Option ProbeState → List ℕ
probe_text names None = []
probe_text names (Some s) = count_line s.kind s.count ++ last_lines names s s.kind

unfoldable pub kind_line : List ℕ → ProbeKind → List ℕ
kind_line name kind = codes "probe" ++ word name ++ word (kind_name kind) ++ codes "\n"

abbrev pub kind_of : Named → List ℕ
kind_of n = kind_line n.name n.state.kind

unfoldable pub dropped_line : List ℕ → List ℕ
dropped_line name = codes "dropped" ++ word name ++ codes "\n"

-- ---- what a command prints, of the scene that it leaves
abbrev pub said : ScriptNames → Command → Scene → List ℕ
said names (Break core addr) s = []
said names (Step count) s = cycle_line s.world.fabric.cycle
said names (Run count) s = cycle_line s.world.fabric.cycle
said names (Regs core) s = regs_of (slice_get s.world.cores core)
said names (Mem core addr count) s = mem_of (slice_get s.world.cores core) addr count
said names Links s = links_text names s.world
said names Where s = cores_text names s.world
said names (Probe name) s = probe_text names (state_named name s.probes)
said names (Detach name) s = dropped_line name
said names Probes s = flat_map kind_of s.probes
