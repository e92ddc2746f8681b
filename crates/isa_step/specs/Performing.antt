-- What a call that does the due act answers and leaves.
use Rattle.std.specs.Prelude.{◌≡◌, ℕ, ◌<◌, List, None, IfSome}
use Rattle.core_regs.specs.declared.registers.Arch.{Arch}
use Rattle.isa_step.specs.declared.acts.Action.{Action}
use Rattle.isa_step.specs.declared.acts.Done.{Done}
use Rattle.isa_step.specs.declared.acts.Idle.TheVariants as idles
use Rattle.isa_step.specs.declared.acts.Outcome.{Outcome}
use Rattle.isa_step.specs.declared.acts.Outcome.TheVariants as outcome
use Rattle.isa_step.specs.declared.acts.Step.{Step}
use Rattle.isa_step.specs.declared.acts.Step.TheVariants as step
use Rattle.isa_step.specs.declared.operands.Given.{Given}
use Rattle.isa_step.specs.Shown.{Moves}
use Rattle.isa_step.specs.Effects.{View, Effect, Due, Does, Waits, Sleeps, Ends, Stops, after, after_store}

-- the act was done: all of the core but its registers, the memory and the ports are as it leaves them
pub record Leads {P : Type 0} (done : P → List Action) (spare : P → ℕ) (leaves : P → Action → P → Type 0) (effect : Effect) (told : Done) (a : Arch) (m : List ℕ) (p : P) (b : Arch) (n : List ℕ) (q : P) : Type 0 where
  pub told_of : told ≡ effect.done
  pub arch : b ≡ record effect.arch { regs = a.regs }
  pub memory : n ≡ after_store a.order effect.done.store m
  pub ports : Moves done spare leaves p effect.action q

-- nothing changed
pub record Keeps {P : Type 0} (a : Arch) (m : List ℕ) (p : P) (b : Arch) (n : List ℕ) (q : P) : Type 0 where
  pub arch : b ≡ a
  pub memory : n ≡ m
  pub ports : q ≡ p

-- by the outcome that is due, and the answer
abbrev pub PerformedBy : {P : Type 0} → (P → List Action) → (P → ℕ) → (P → Action → P → Type 0) → Due → Outcome → Arch → List ℕ → P → Arch → List ℕ → P → Type 0
PerformedBy done spare leaves (Does effect) (outcome.Did told) a m p b n q = Leads done spare leaves effect told a m p b n q
PerformedBy done spare leaves (Waits port full) (outcome.Idle idle) a m p b n q = (idle ≡ idles.Waits (record { port = port; full = full })) × Keeps a m p b n q
PerformedBy done spare leaves Sleeps (outcome.Idle idle) a m p b n q = (idle ≡ idles.Asleep) × Keeps a m p b n q
PerformedBy done spare leaves Ends (outcome.Idle idle) a m p b n q = (idle ≡ idles.Ended) × Keeps a m p b n q
PerformedBy done spare leaves (Stops cause) (outcome.Idle idle) a m p b n q = (idle ≡ idles.Stopped cause) × Keeps a m p b n q
PerformedBy done spare leaves _ _ a m p b n q = ⊥

pub record Performed {P : Type 0} (done : P → List Action) (spare : P → ℕ) (leaves : P → Action → P → Type 0) (due : Due) (answer : Outcome) (a : Arch) (m : List ℕ) (p : P) (b : Arch) (n : List ℕ) (q : P) : Type 0 where
  pub does : PerformedBy done spare leaves due answer a m p b n q

-- what is written and made late is a register
pub record NamesOf (told : Done) : Type 0 where
  pub write : IfSome told.write (λ w. w.reg < 32)
  pub late : IfSome told.late (λ l. l.reg < 32)

abbrev pub Names : Outcome → Type 0
Names (outcome.Did told) = NamesOf told
Names (outcome.Idle idle) = Unit {0}

-- an act that asks nothing of the outside and stores nothing was done on the control registers
pub record Makes (effect : Effect) (told : Done) (a b : Arch) : Type 0 where
  pub told_of : told ≡ effect.done
  pub arch : b ≡ record effect.arch { regs = a.regs }
  pub quiet : effect.action ≡ None
  pub storeless : effect.done.store ≡ None

-- the registers that an instruction writes and makes late are registers
pub record NamesGiven (g : Given) : Type 0 where
  pub rd : g.rd < 32
  pub late : IfSome g.late (λ l. l.reg < 32)

-- the view and the ports after one chance to act, by the outcome that is due and the answer
abbrev pub SteppedBy : {P : Type 0} → (P → List Action) → (P → ℕ) → (P → Action → P → Type 0) → Due → Step → View → P → View → P → Type 0
SteppedBy done spare leaves (Does effect) (step.Did act) v p w q = (act ≡ effect.done.act) × (w ≡ after v effect) × Moves done spare leaves p effect.action q
SteppedBy done spare leaves (Waits port full) (step.Idle idle) v p w q = (idle ≡ idles.Waits (record { port = port; full = full })) × (w ≡ v) × (q ≡ p)
SteppedBy done spare leaves Sleeps (step.Idle idle) v p w q = (idle ≡ idles.Asleep) × (w ≡ v) × (q ≡ p)
SteppedBy done spare leaves Ends (step.Idle idle) v p w q = (idle ≡ idles.Ended) × (w ≡ v) × (q ≡ p)
SteppedBy done spare leaves (Stops cause) (step.Idle idle) v p w q = (idle ≡ idles.Stopped cause) × (w ≡ v) × (q ≡ p)
SteppedBy done spare leaves _ _ v p w q = ⊥

pub record Stepped {P : Type 0} (done : P → List Action) (spare : P → ℕ) (leaves : P → Action → P → Type 0) (due : Due) (answer : Step) (v : View) (p : P) (w : View) (q : P) : Type 0 where
  pub does : SteppedBy done spare leaves due answer v p w q
