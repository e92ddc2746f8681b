-- Exact runs one after the other are one run.
use Rattle.std.proofs.Common.{◌≡◌, ℕ, zero, suc, ◌+◌, ◌-◌, ◌<◌, List, [], ◌∷◌, ◌++◌, inl, inr, None, refl, ap, sym, ◌∙◌, arith}
use Rattle.board_machine.specs.declared.events.Event.{Event}
use Rattle.board_machine.specs.declared.events.RunEnd.{RunEnd}
use Rattle.board_machine.specs.Cycles.{events_of}
use Rattle.board_machine.proofs.Lists.{inside_or_past}
use Rattle.exact_machine.specs.Machine.{ExactWorld, exact_step, exact_steps}
use Rattle.exact_machine.specs.Runs.{ExactRun, exact_cycle, exact_cycles, exact_end, exact_events}
use Rattle.exact_machine.specs.Laws.{ExactRunsJoin}

steps_join : (x : ExactWorld) (first more : List Event) → exact_steps x (first ++ more) ≡ exact_steps (exact_steps x first) more
steps_join x [] more = refl
steps_join x (e ∷ first) more = steps_join (exact_step x e) first more

cycles_join : (x : ExactWorld) (count more : ℕ) → exact_cycles x (count + more) ≡ exact_cycles (exact_cycles x count) more
cycles_join x count zero = let e : count + 0 ≡ count = omega arith in ap (exact_cycles x) e
cycles_join x count (suc more) = let e : count + suc more ≡ suc (count + more) = omega arith in ap (exact_cycles x) e ∙ ap exact_cycle (cycles_join x count more)

cycles_step : (x : ExactWorld) (count : ℕ) → exact_cycles x count ≡ exact_steps x (exact_events x count)
cycles_step x zero = refl
cycles_step x (suc n) =
    let last = events_of (exact_cycles x n).schedule (exact_cycles x n).fabric.cycle in
    ap (λ y. exact_steps y last) (cycles_step x n) ∙ sym (steps_join x (exact_events x n) last)

runs_on : (limit : ℕ) (x new : ExactWorld) (end : RunEnd) (count : ℕ) → ((n : ℕ) → n < count → exact_end limit (exact_cycles x n) ≡ None) → ExactRun limit (exact_cycles x count) new end → ExactRun limit x new end
runs_on limit x new end count on r = record {
  count = count + r.count;
  ran = r.ran ∙ sym (cycles_join x count r.count);
  goes_on = λ n l. elim (inside_or_past n count) [
    | inl before ↦ on n before
    | inr past ↦
        let k = n - count in
        let e : count + k ≡ n = omega (arith, past) in
        ap (λ n. exact_end limit (exact_cycles x n)) (sym e) ∙ ap (exact_end limit) (cycles_join x count k) ∙ r.goes_on k (omega (arith, l, past))
  ];
  ends = r.ends;
}

pub runs_join : ExactRunsJoin
runs_join = record { steps = steps_join; cycles = cycles_join; events = cycles_step; runs = runs_on }
