-- Why a core does nothing and nothing can come to it, told from its view and what a shared reference shows.
use Rattle.std.specs.Prelude.{◌≡◌, ◌⊎◌, ℕ, ◌||◌, not, Bool, true, false, List, Option, Some, None, if◌then◌else◌}
use Rattle.axi_link.specs.declared.item.Item.{Item}
use Rattle.core_regs.specs.declared.registers.Arch.{Arch}
use Rattle.core_regs.specs.declared.causes.StopCause.{StopCause}
use Rattle.core_regs.specs.State.{bare}
use Rattle.delay_imm.specs.Slots.{may_take}
use Rattle.isa_step.specs.declared.acts.Here.{Here}
use Rattle.isa_step.specs.declared.acts.Idle.{Idle}
use Rattle.isa_step.specs.declared.acts.Idle.TheVariants.{Ended, Asleep, Waits, Stopped}
use Rattle.isa_step.specs.declared.acts.Operands.{Operands}
use Rattle.isa_step.specs.Shown.{Shown}
use Rattle.isa_step.specs.Effects.{View, Effect, Due, Does, Sleeps, Ends, Stops, Waits as WaitsFor, Request, Goes, HaltLoop, Gets, Puts, Reads, Writes}
use Rattle.isa_step.specs.Due.{due, here_of, is_closed, met}
use Rattle.isa_step.specs.Requests.{is_atomic_here, operands_of, requested}

-- no take can come: none will, or none may
unfoldable pub is_quiet : Arch → Option Here → Shown → Bool
is_quiet a here s = is_closed a s.hopes || not (may_take a (is_atomic_here here))

-- an access that cannot miss waits
abbrev pub stuck : ℕ → Bool → Option Effect → Option Idle
stuck port full None = Some (Waits (record { port = port; full = full }))
stuck port full (Some missed) = None

abbrev pub idle_at_item : ℕ → Option Effect → Option Item → Option Idle
idle_at_item port empty None = stuck port false empty
idle_at_item port empty (Some item) = None

abbrev pub idle_at_room : ℕ → Option Effect → Bool → Option Idle
idle_at_room port full false = stuck port true full
idle_at_room port full true = None

-- where no take can come: a program at its end, and a link access that waits
abbrev pub idle_request : Arch → Request → Shown → Option Idle
idle_request a (Goes effect) s = None
idle_request a (HaltLoop effect) s = if is_closed a s.hopes then Some Ended else None
idle_request a (Gets port item empty) s = idle_at_item port empty (s.first port)
idle_request a (Puts port room full) s = idle_at_room port full (s.room port)
idle_request a (Reads addr answer) s = None
idle_request a (Writes addr word answer) s = None

abbrev pub idle_awake : Option Here → Operands → Arch → List ℕ → Shown → Bool → Option Idle
idle_awake here o a m s true = Some Asleep
idle_awake here o a m s false = idle_request a (requested here o a m) s

abbrev pub idle_quiet : Option Here → Operands → Arch → List ℕ → Shown → Bool → Option Idle
idle_quiet here o a m s false = None
idle_quiet here o a m s true = idle_awake here o a m s a.asleep

abbrev pub idle_by : Option Here → Operands → Arch → List ℕ → Shown → Option StopCause → Option Idle
idle_by here o a m s (Some cause) = Some (Stopped cause)
idle_by here o a m s None = idle_quiet here o a m s (is_quiet a here s)

-- the rest of a core, by the word at pc
abbrev pub idle_of : Arch → Option ℕ → List ℕ → Shown → Option Idle
idle_of a word m s = idle_by (met word) (operands_of (met word) a.regs) (bare a) m s a.stopped

-- the rest of a core, by its view
abbrev pub idle_view : View → Shown → Option Idle
idle_view v s = idle_by (here_of v) (operands_of (here_of v) v.arch.regs) (bare v.arch) v.memory s v.arch.stopped

-- what comes was announced for: the line is high only where there is a controller, and a break is pending only where one is left
-- or pending
pub record IsAnnounced (s : Shown) : Type 0 where
  pub interrupt : s.line ≡ true → s.hopes.interrupt ≡ true
  pub maskable : s.breaks.maskable ≡ true → s.hopes.maskable ≡ true
  pub nonmaskable : s.breaks.nonmaskable ≡ true → s.hopes.nonmaskable ≡ true

-- the same ports, when all that is announced for has come
abbrev pub all_come : Shown → Shown
all_come s = record s {
  line = s.hopes.interrupt;
  breaks = record { maskable = s.hopes.maskable; nonmaskable = s.hopes.nonmaskable };
}

-- why an outcome is no act
abbrev pub idle_due : Due → Option Idle
idle_due (Does effect) = None
idle_due (WaitsFor port full) = Some (Waits (record { port = port; full = full }))
idle_due Sleeps = Some Asleep
idle_due Ends = Some Ended
idle_due (Stops cause) = Some (Stopped cause)

-- at these ports a core rests exactly where no act is due now and none will be, whatever comes of what is announced for
pub record IsRest (s : Shown) : Type 0 where
  pub lasts : (v : View) (why : Idle) → idle_view v s ≡ Some why → idle_due (due v s) ≡ Some why
  pub whole : (v : View) → idle_view v s ≡ None → (idle_due (due v s) ≡ None) ⊎ (idle_due (due v (all_come s)) ≡ None)
