-- What holds of every reached state of a board.
use Rattle.std.specs.Prelude.{◌≡◌, ℕ, ◌≤◌, Bool, true, false, List, length, Some, None, slice_get}
use Rattle.std.specs.List.{AllByRecursion}
use Rattle.core_regs.specs.State.{bare}
use Rattle.isa_step.specs.Effects.{View, Request, Gets, Puts}
use Rattle.isa_step.specs.Due.{here_of}
use Rattle.isa_step.specs.Resting.{IsAnnounced}
use Rattle.isa_step.specs.Requests.{operands_of, requested}
use Rattle.board_file.specs.declared.board.BoardFile.{BoardFile}
use Rattle.run_journal.specs.declared.entry.Entry.{Entry}
use Rattle.board_machine.specs.Fabric.{has_controller, is_wait, logged_wait, or_low, shown}
use Rattle.board_machine.specs.World.{CoreAt, Inputs, Reached, World}
use Rattle.machine_laws.specs.Silence.{IsAwake}

abbrev pub request_at : View → Request
request_at v = requested (here_of v) (operands_of (here_of v) v.arch.regs) (bare v.arch) v.memory

-- a link access that has no act for an empty or a full port
abbrev pub can_wait : Request → Bool
can_wait (Gets port item None) = true
can_wait (Puts port room None) = true
can_wait _ = false

-- the next act is a link access that waits
pub record IsAtWait (v : View) : Type 0 where
  pub awake : IsAwake v
  pub waits : can_wait (request_at v) ≡ true

-- the Wait entries of a core are of its acts so far, or of the one to come
pub record IsWaitWithin (core acts : ℕ) (e : Entry) : Type 0 where
  pub within : e.core ≡ core → is_wait e.what ≡ true → e.act ≤ acts

pub record WaitsHold (core : ℕ) (s : CoreAt) (journal : List Entry) : Type 0 where
  pub each : AllByRecursion (IsWaitWithin core s.acts) journal
  pub kept : (act : ℕ) → logged_wait core journal ≡ Some act → act ≤ s.acts
  pub waits : logged_wait core journal ≡ Some s.acts → IsAtWait s.view

pub record Holds (w : World) : Type 0 where
  -- lines are high only where there is a controller, so lines and breaks come only where they are announced for
  pub wired : (core : ℕ) → or_low (slice_get w.fabric.lines core) ≡ true → has_controller w.fabric core ≡ true
  pub announced : (core : ℕ) → IsAnnounced (shown w.fabric core)
  -- an element for each core
  pub lines : length w.fabric.lines ≡ length w.cores
  pub pending : length w.fabric.pending ≡ length w.cores
  -- an element for each link
  pub links : length w.fabric.links ≡ length w.fabric.rows
  pub feeds : length w.fabric.feeds ≡ length w.fabric.rows
  -- a device for each row
  pub timers : length w.fabric.devices.timers ≡ length w.fabric.bus.timers
  pub intcs : length w.fabric.devices.intcs ≡ length w.fabric.bus.intcs
  pub uarts : length w.fabric.devices.uarts ≡ length w.fabric.bus.uarts
  pub waits : (core : ℕ) (s : CoreAt) → slice_get w.cores core ≡ Some s → WaitsHold core s w.fabric.journal

pub record EachStateHolds : Type 0 where
  pub holds : (b : BoardFile) (views : List View) (inputs : Inputs) (w : World) → Reached b views inputs w → Holds w
