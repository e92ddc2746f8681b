-- What cycles enter takes the room that it had: so the entries to tell are no more than the room that was left before.
use Rattle.std.proofs.Common.{◌≡◌, ℕ, zero, suc, ◌+◌, ◌<◌, ◌≤◌, ◌^◌, List, [], ◌∷◌, length, Option, Some, None, refl, sym, ◌∙◌, subst, arith, drop}
use Rattle.std.specs.List.{AllByRecursion}
use Rattle.std.proofs.lemmas.List.{length-drop}
use Rattle.run_journal.specs.declared.entry.Entry.{Entry}
use Rattle.board_machine.specs.Cycles.{events_of}
use Rattle.board_machine.specs.Fabric.{Fabric}
use Rattle.board_machine.specs.declared.events.RunEnd.{RunEnd}
use Rattle.exact_machine.specs.Machine.{ExactWorld}
use Rattle.exact_machine.specs.Runs.{ExactRun, exact_cycles, exact_end}
use Rattle.exact_machine.specs.Stepping.{Steps, need_of}
use Rattle.exact_machine.proofs.Turning.{Fills, cycled}
use Rattle.quiet_cycles.proofs.Running.{end_room}
use Rattle.probe_set.specs.Sets.{HaveRoom, Named}

-- cycles leave one clock a core, and fill the room
record Filled (old new : ExactWorld) : Type 0 where
  clocks : length new.schedule.clocks ≡ length new.cores
  fills : Fills old.fabric new.fabric

fills_none : (f : Fabric) → Fills f f
fills_none f = record { less = omega arith; places = refl }

fills_both : (f g h : Fabric) → Fills f g → Fills g h → Fills f h
fills_both f g h a b = record { less = omega (arith, a.less, b.less); places = omega (arith, a.places, b.places) }

cycles_fill : (limit : ℕ) (old : ExactWorld) (n : ℕ) → length old.schedule.clocks ≡ length old.cores → ((k : ℕ) → k < n → exact_end limit (exact_cycles old k) ≡ None) → Filled old (exact_cycles old n)
cycles_fill limit old zero c on = record { clocks = c; fills = fills_none old.fabric }
cycles_fill limit old (suc n) c on =
    let w = exact_cycles old n in
    let v = exact_cycles old (suc n) in
    let before = cycles_fill limit old n c (λ k l. on k (omega (arith, l))) in
    let one = cycled w v refl in
    record {
      clocks = subst (λ s. length s.clocks ≡ length v.cores) (sym one.schedule) (before.clocks ∙ sym one.cores);
      fills = fills_both old.fabric w.fabric v.fabric before.fills (one.fills before.clocks (end_room limit w (on n (omega arith))));
    }

-- what the probes must have room for, of a journal and its room before and after
pub record AreTold (before later : Fabric) : Type 0 where
  pub there : length before.journal ≤ length later.journal
  pub few : length (drop (length before.journal) later.journal) ≤ before.spare

told_by : (f g : Fabric) → Fills f g → AreTold f g
told_by f g h = record {
  there = omega (arith, h.less, h.places);
  few = omega (arith, h.less, h.places, length-drop (length f.journal) g.journal);
}

pub cycle_tells : (old new : ExactWorld) → length old.schedule.clocks ≡ length old.cores → need_of old ≤ old.fabric.spare → Steps old (events_of old.schedule old.fabric.cycle) new → AreTold old.fabric new.fabric
cycle_tells old new c l h = told_by old.fabric new.fabric ((cycled old new h).fills c l)

pub run_tells : (limit : ℕ) (old new : ExactWorld) (end : RunEnd) → length old.schedule.clocks ≡ length old.cores → ExactRun limit old new end → AreTold old.fabric new.fabric
run_tells limit old new end c r = told_by old.fabric new.fabric (subst (λ w. Fills old.fabric w.fabric) (sym r.ran) (cycles_fill limit old r.count c r.goes_on).fills)

-- so probes that have room for all that may come have room for it
pub room_for : (n m : ℕ) (ns : List Named) → m ≤ n → HaveRoom n ns → HaveRoom m ns
room_for n m [] l h = tt
room_for n m (a ∷ ns) l h = (omega (arith, l, h.0), room_for n m ns l h.1)
