-- Runs by cycles one after the other are one run.
use Rattle.std.proofs.Common.{◌≡◌, ℕ, zero, suc, ◌+◌, List, [], ◌∷◌, ◌++◌, ap, sym, ◌∙◌, subst, arith}
use Rattle.std.proofs.lemmas.List.{append-nil, append_assoc}
use Rattle.isa_step.specs.Effects.{View}
use Rattle.board_file.specs.declared.board.BoardFile.{BoardFile}
use Rattle.board_machine.specs.declared.events.Event.{Event}
use Rattle.board_machine.specs.Cycles.{Cycles, cycles_of, events_of}
use Rattle.board_machine.specs.World.{Inputs, Schedule, Steps, World}
use Rattle.board_machine.proofs.Lasting.{step_kept}
use Rattle.board_machine.proofs.Steps.{steps_append}
use Rattle.journal_laws.specs.Laws.{RanCycles, RunsJoin}
use Rattle.journal_laws.proofs.PaceCycles.{run_cycle}

cycles_append : (s : Schedule) (cycle m n : ℕ) → cycles_of s cycle (m + n) ≡ cycles_of s cycle m ++ cycles_of s (cycle + m) n
cycles_append s cycle m zero =
    let e : m + 0 ≡ m = omega arith in
    ap (cycles_of s cycle) e ∙ sym (append-nil (cycles_of s cycle m))
cycles_append s cycle m (suc n) =
    let e : m + suc n ≡ suc (m + n) = omega arith in
    let c : cycle + (m + n) ≡ cycle + m + n = omega arith in
    ap (cycles_of s cycle) e
    ∙ ap (λ es. es ++ events_of s (cycle + (m + n))) (cycles_append s cycle m n)
    ∙ ap (λ k. (cycles_of s cycle m ++ cycles_of s (cycle + m) n) ++ events_of s k) c
    ∙ append_assoc (cycles_of s cycle m) (cycles_of s (cycle + m) n) (events_of s (cycle + m + n))

-- the schedule never changes
steps_schedule : (w v : World) (es : List Event) → Steps w es v → v.schedule ≡ w.schedule
steps_schedule w v [] h = ap (λ (x : World). x.schedule) h
steps_schedule w v (e ∷ es) h = steps_schedule h.0 v es h.2 ∙ (step_kept w h.0 e h.1).schedule

joined : (b : BoardFile) (views : List View) (inputs : Inputs) (count more : ℕ) (old new : World) → RanCycles b views inputs count old → Cycles old more new → RanCycles b views inputs (count + more) new
joined b views inputs count more old new r h =
    let s : old.schedule ≡ r.first.schedule = steps_schedule r.first old _ r.ran in
    let z = r.began.cycle in
    let k = run_cycle b views inputs count old r in
    let c : old.fabric.cycle ≡ r.first.fabric.cycle + count = omega (arith, z, k) in
    let rest : Steps old (cycles_of r.first.schedule (r.first.fabric.cycle + count) more) new = subst (λ n. Steps old (cycles_of r.first.schedule n more) new) c (subst (λ s. Steps old (cycles_of s old.fabric.cycle more) new) s h) in
    record {
      first = r.first;
      began = r.began;
      ran = subst (λ es. Steps r.first es new) (sym (cycles_append r.first.schedule r.first.fabric.cycle count more)) (steps_append r.first old new _ _ r.ran rest);
    }

pub runs_join : RunsJoin
runs_join = record {
  join = joined;
  reached = λ b views inputs count w r. record { first = r.first; events = _; began = r.began; ran = r.ran };
}
