-- The one act that is due: the first of nine rules that applies decides. They stand at the head of step.rt; those that
-- the word at pc decides, from the fourth on, are in Requests.
use Rattle.std.specs.Prelude.{ℕ, ◌%◌, ◌==◌, ◌&&◌, ◌||◌, not, Bool, true, false, List, Option, Some, None, if◌then◌else◌}
use Rattle.axi_link.specs.declared.item.Item.{Item}
use Rattle.core_regs.specs.declared.registers.Arch.{Arch}
use Rattle.core_regs.specs.declared.causes.StopCause.{StopCause}
use Rattle.core_regs.specs.declared.causes.Size.TheVariants.{Word}
use Rattle.core_regs.specs.declared.causes.Take.{Take}
use Rattle.core_regs.specs.declared.causes.Take.TheVariants.{Interrupt, Break, NonMaskable}
use Rattle.core_regs.specs.State.{bare, break_running, exception_running, interrupts_on}
use Rattle.byte_mem.specs.Access.{loaded}
use Rattle.delay_imm.specs.Slots.{may_take}
use Rattle.trap_entry.specs.Entries.{diverted, link_of_take}
use Rattle.mb_decode.specs.Meaning.{meaning}
use Rattle.isa_step.specs.declared.acts.Act.TheVariants as acts
use Rattle.isa_step.specs.declared.acts.Action.TheVariants.{Took}
use Rattle.isa_step.specs.declared.acts.Hopes.{Hopes}
use Rattle.isa_step.specs.declared.acts.Here.{Here}
use Rattle.isa_step.specs.declared.acts.Operands.{Operands}
use Rattle.isa_step.specs.Shown.{Shown}
use Rattle.isa_step.specs.Effects.{View, Effect, Due, Does, Waits, Sleeps, Ends, Stops, Request, Goes, HaltLoop, Gets, Puts, Reads, Writes}
use Rattle.isa_step.specs.Requests.{requested, is_atomic_here, operands_of}

-- a break is in progress or an exception is
abbrev pub is_masked : Arch → Bool
is_masked a = break_running a || exception_running a

-- no take can come any more
unfoldable pub is_closed : Arch → Hopes → Bool
is_closed a hopes =
    not hopes.nonmaskable && (not hopes.maskable || is_masked a) && (not hopes.interrupt || not (interrupts_on a) || is_masked a)

-- the first of a non-maskable break, a maskable one and an interrupt
abbrev pub pick : Bool → Bool → Bool → Option Take
pick true maskable interrupt = Some NonMaskable
pick false true interrupt = Some Break
pick false false true = Some Interrupt
pick false false false = None

-- rule 2: the take that is due, where one may come
abbrev pub take_by : Arch → Shown → Bool → Option Take
take_by a s false = None
take_by a s true =
    pick s.breaks.nonmaskable (s.breaks.maskable && not (is_masked a)) (s.line && interrupts_on a && not (is_masked a))

unfoldable pub take_due : Option Here → Arch → Shown → Option Take
take_due here a s = take_by a s (may_take a (is_atomic_here here))

-- the act of a take
abbrev pub takes : Arch → Take → Effect
takes a t = record {
  arch = diverted a t;
  action = Some (Took t);
  done = record { act = acts.Took t; write = Some (link_of_take a t); store = None; late = None; jumped = false };
}

-- rule 8: an access that finds its port empty or full misses, or waits where it cannot
abbrev pub or_waits : ℕ → Bool → Option Effect → Due
or_waits port full (Some missed) = Does missed
or_waits port full None = Waits port full

-- the answer of a port that has an item or none, and of one that has room or none
abbrev pub by_item : ℕ → (Item → Effect) → Option Effect → Option Item → Due
by_item port effect empty (Some item) = Does (effect item)
by_item port effect empty None = or_waits port false empty

abbrev pub by_room : ℕ → Effect → Option Effect → Bool → Due
by_room port effect full true = Does effect
by_room port effect full false = or_waits port true full

-- what the answer of the outside leaves; by rule 5 the core has ended at the branch to itself where no take can come any more
abbrev pub reply : Arch → Request → Shown → Due
reply a (Goes effect) s = Does effect
reply a (HaltLoop effect) s = if is_closed a s.hopes then Ends else Does effect
reply a (Gets port item empty) s = by_item port item empty (s.first port)
reply a (Puts port room full) s = by_room port room full (s.room port)
reply a (Reads addr answer) s = Does (answer (s.bus_word addr))
reply a (Writes addr word answer) s = Does (answer (s.bus_takes addr word))

-- rule 3: a sleeping core does nothing
abbrev pub awake : Option Here → Operands → Arch → List ℕ → Shown → Bool → Due
awake here o a m s true = Sleeps
awake here o a m s false = reply a (requested here o a m) s

-- rule 1: a stopped core does nothing; rule 2: a take comes before all else
abbrev pub due_by : Option Here → Operands → Arch → List ℕ → Shown → Option Take → Option StopCause → Due
due_by here o a m s t (Some cause) = Stops cause
due_by here o a m s (Some t) None = Does (takes a t)
due_by here o a m s None None = awake here o a m s a.asleep

-- the outcome that is due by the word at pc and the values of its operands: no other register is looked at
unfoldable pub due_with : Option Here → Operands → Arch → List ℕ → Shown → Due
due_with here o a m s = due_by here o a m s (take_due here a s) a.stopped

-- the word at pc, which lies in memory at a multiple of four, and what it means
abbrev pub met : Option ℕ → Option Here
met None = None
met (Some word) = Some (record { word = word; instr = meaning word })

unfoldable pub here_at : Arch → List ℕ → Option Here
here_at a m = if a.pc % 4 == 0 then met (loaded m Word a.order a.pc) else None

abbrev pub here_of : View → Option Here
here_of v = here_at (bare v.arch) v.memory

-- the outcome that is due
abbrev pub due : View → Shown → Due
due v s = due_with (here_of v) (operands_of (here_of v) v.arch.regs) (bare v.arch) v.memory s
