-- What a tick of a core with stages leaves.
use Rattle.std.proofs.Common.{ℕ, ◌≡◌, ◌++◌, ◌&&◌, Bool, true, false, List, Option, refl, sym, ap, subst, ◌∙◌, arith}
use Rattle.std.specs.Prelude.{is_some}
use Rattle.core_regs.specs.declared.registers.Arch.{Arch}
use Rattle.core_regs.specs.declared.registers.Write.{Write}
use Rattle.core_regs.specs.State.{bare, written}
use Rattle.mb_decode.specs.declared.instruction.Instr.{Instr}
use Rattle.isa_step.specs.Due.{here_at}
use Rattle.timing_law.specs.Passing.{instr_of}
use Rattle.timing_law.specs.Table.{depth_of}
use Rattle.core_iface.specs.declared.Flight.{Flight}
use Rattle.core_iface.specs.Flights.{applied, begun, file_aged, flights_aged}
use Rattle.pipe_latch.specs.Clocks.{Clocked, IsSet, filled, set, stayed}
use Rattle.pipe_latch.specs.Latches.{InFlight, InStages, flown}
use Rattle.pipe_latch.specs.Stages.{pipe_with}
use Rattle.pipe_latch.specs.declared.in_flight.Stage.{Stage}
use Rattle.pipe_latch.proofs.ClockLemmas.{begins_set, fills_set, stays_set}
use Rattle.pipe_latch.proofs.Depths.{at_depth, deep}
use Rattle.pipe_latch.proofs.FlightLemmas.{aged_applied, registers_after, stages_fly}
use Rattle.pipe_latch.proofs.StagedTurns.{Ages}

pub filled_set : (t u : Clocked) (i : Option Instr) (s : Bool) → u ≡ filled t → IsSet t i s → IsSet u i s
filled_set t u i s is h = subst (λ (x : Clocked). IsSet x i s) (sym is) (fills_set t i s h)

set_of : (a b : Arch) (m n : List ℕ) → b ≡ a → n ≡ m → instr_of (here_at (bare a) m) ≡ instr_of (here_at (bare b) n)
set_of a b m n arch memory = sym (ap (λ (x : Arch). instr_of (here_at (bare x) n)) arch ∙ ap (λ k. instr_of (here_at (bare a) k)) memory)

pub stayed_set : (t u : Clocked) (a b : Arch) (m n : List ℕ) → u ≡ stayed t → b ≡ a → n ≡ m → IsSet t (instr_of (here_at (bare a) m)) (is_some a.slot) → IsSet u (instr_of (here_at (bare b) n)) (is_some b.slot)
stayed_set t u a b m n is arch memory h =
    let kept = stays_set t (instr_of (here_at (bare a) m)) (is_some a.slot) h in
    subst (λ (x : Clocked). IsSet x (instr_of (here_at (bare b) n)) (is_some b.slot)) (sym is)
    (subst (λ (i : Option Instr). IsSet (stayed t) i (is_some b.slot)) (set_of a b m n arch memory)
    (subst (λ s. IsSet (stayed t) (instr_of (here_at (bare a) m)) s) (sym (ap (λ (x : Arch). is_some x.slot) arch)) kept))

pub begun_set : (t u : Clocked) (i : Option Instr) (s : Bool) → u ≡ set i s t → IsSet u i s
begun_set t u i s is = subst (λ (x : Clocked). IsSet x i s) (sym is) (begins_set t i s)

-- the registers of the view are the file with the results in flight
pub forwarded_later : (d : ℕ) (fl fs : List Flight) (file later regs : List ℕ) → InFlight 0 d fl → fs ≡ flights_aged d fl → later ≡ file_aged d fl file
    → regs ≡ applied fl file → regs ≡ applied fs later
forwarded_later d fl fs file later regs flying flights landed before = rw (flights, landed, aged_applied d fl file flying) before

pub forwarded_after : (d : ℕ) (w : Option Write) (fl fs gs : List Flight) (file later regs new : List ℕ) → InFlight 0 d fl → fs ≡ flights_aged d fl → later ≡ file_aged d fl file
    → gs ≡ fs ++ begun w → regs ≡ applied fl file → new ≡ written w regs → new ≡ applied gs later
forwarded_after d w fl fs gs file later regs new flying flights landed begin before write =
    rw (begin, flights, landed, registers_after d w fl file flying) (write ∙ ap (λ xs. written w xs) before)

pub held_of : (held pending fills : Bool) → fills ≡ (held && pending) → fills ≡ true → held ≡ true
held_of true pending fills is fill = refl
held_of false pending fills is fill = sym is ∙ fill

-- the register file and the results in flight after a tick
pub ages_of : (n d : ℕ) (fl fs : List Flight) (file later : List ℕ) (t : Clocked) → d ≡ depth_of t.past.pipe → t.past.pipe ≡ pipe_with n
    → fs ≡ flights_aged d fl → later ≡ file_aged d fl file → Ages file later fl fs d t
ages_of n d fl fs file later t is pipe flights landed = record { flights = flights; file = landed; depth = sym is; deep = deep n d (is ∙ ap depth_of pipe) }

-- the stages that hold them, by the depth as the clock tells it
pub stages_now : (n d : ℕ) (ss : List Stage) (t : Clocked) → d ≡ depth_of t.past.pipe → t.past.pipe ≡ pipe_with n → InStages (depth_of (pipe_with n)) 0 ss → InStages d 0 ss
stages_now n d ss t is pipe h = at_depth d _ ss (is ∙ ap depth_of pipe) h

pub stages_later : (n d : ℕ) (ss : List Stage) (t : Clocked) → d ≡ depth_of t.past.pipe → t.past.pipe ≡ pipe_with n → InStages d 0 ss → InStages (depth_of (pipe_with n)) 0 ss
stages_later n d ss t is pipe h = at_depth _ d ss (sym (is ∙ ap depth_of pipe)) h

pub flies : (n d : ℕ) (ss : List Stage) (t : Clocked) → d ≡ depth_of t.past.pipe → t.past.pipe ≡ pipe_with n → InStages (depth_of (pipe_with n)) 0 ss → InFlight 0 d (flown 0 ss)
flies n d ss t is pipe h = stages_fly d 0 ss (stages_now n d ss t is pipe h) (omega arith)
