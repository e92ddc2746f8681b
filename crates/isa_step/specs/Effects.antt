-- A core's view, the outcomes of one chance to act, and how an act is put together.
use Rattle.std.specs.Prelude.{ℕ, Bool, true, false, List, Option, Some, None, is_some, if◌then◌else◌}
use Rattle.axi_link.specs.declared.item.Item.{Item}
use Rattle.core_regs.specs.declared.registers.Arch.{Arch}
use Rattle.core_regs.specs.declared.registers.Write.{Write}
use Rattle.core_regs.specs.declared.causes.Order.{Order}
use Rattle.core_regs.specs.declared.causes.StopCause.{StopCause}
use Rattle.core_regs.specs.State.{exceptions_on, write_of, written}
use Rattle.byte_mem.specs.Access.{stored}
use Rattle.delay_imm.specs.Slots.{advanced}
use Rattle.trap_entry.specs.declared.cause.Cause.{Cause}
use Rattle.trap_entry.specs.Entries.{esr_of, trapped, link_of_raise}
use Rattle.isa_step.specs.declared.acts.Act.TheVariants as acts
use Rattle.isa_step.specs.declared.acts.Action.{Action}
use Rattle.isa_step.specs.declared.acts.Done.{Done}
use Rattle.isa_step.specs.declared.acts.Store.{Store}
use Rattle.isa_step.specs.declared.operands.Given.{Given}

-- what a core is to a program: its registers and its memory
pub record View : Type 0 where
  pub arch : Arch
  pub memory : List ℕ

-- an act: the core after it but for its registers, what it does at its ports, and what the core is told of it
pub record Effect : Type 0 where
  pub arch : Arch
  pub action : Option Action
  pub done : Done

-- the outcome that is due
pub data Due : Type 0 where
  Does : (effect : Effect) → Due
  Waits : (port : ℕ) → (full : Bool) → Due
  Sleeps : Due
  Ends : Due
  Stops : (cause : StopCause) → Due

-- what an act asks of the outside before it is done: nothing, whether the core has ended, an item, room, a word of the
-- bus, or that the bus takes a word; an access to a link waits where it has no effect for an empty or a full port
pub data Request : Type 0 where
  Goes : (effect : Effect) → Request
  HaltLoop : (effect : Effect) → Request
  Gets : (port : ℕ) → (item : Item → Effect) → (empty : Option Effect) → Request
  Puts : (port : ℕ) → (room : Effect) → (full : Option Effect) → Request
  Reads : (addr : ℕ) → (answer : Option ℕ → Effect) → Request
  Writes : (addr word : ℕ) → (answer : Bool → Effect) → Request

-- the memory after a store, which changes nothing past the memory's end
abbrev pub after_store : Order → Option Store → List ℕ → List ℕ
after_store order None m = m
after_store order (Some s) m = stored m s.size order s.addr s.word

-- the view after an act
abbrev pub after : View → Effect → View
after v d = record {
  arch = record d.arch { regs = written d.done.write v.arch.regs };
  memory = after_store v.arch.order d.done.store v.memory;
}

-- what a core is told of an instruction that retires
abbrev pub told : Given → Option Write → Bool → Done
told g w jumped = record { act = acts.Retired; write = w; store = None; late = g.late; jumped = jumped }

-- an instruction retires
abbrev pub retires : Given → Arch → Option Action → Option Write → Effect
retires g a action w = record { arch = a; action = action; done = told g w false }

-- an instruction goes on to the next, with a value in rD
abbrev pub yields : Given → Arch → ℕ → Effect
yields g a value = retires g (advanced a false) None (write_of g.rd value)

-- an instruction leads elsewhere
abbrev pub jumps : Given → Arch → Option Write → Effect
jumps g a w = record { arch = a; action = None; done = told g w true }

-- the core stops, and all else of it stays
abbrev pub stops : Arch → StopCause → Option Action → Effect
stops a cause action = record {
  arch = record a { stopped = Some cause };
  action = action;
  done = record { act = acts.Stopped cause; write = None; store = None; late = None; jumped = false };
}

-- an exception is raised
abbrev pub raises : Arch → Cause → Option Action → Effect
raises a cause action = record {
  arch = trapped a cause;
  action = action;
  done = record { act = acts.Raised (esr_of cause (is_some a.slot)); write = link_of_raise a; store = None; late = None; jumped = false };
}

-- a fault is raised where exceptions are on, and stops the core else
abbrev pub faults : Arch → Cause → StopCause → Option Action → Effect
faults a cause stop action = if exceptions_on a then raises a cause action else stops a stop action
