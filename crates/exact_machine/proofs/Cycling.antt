-- Cycles of the exact machine, and runs up to the first end, are those of the open machine.
use Rattle.std.proofs.Common.{◌≡◌, ℕ, zero, suc, ◌+◌, ◌<◌, ◌≤◌, Bool, true, false, List, [], ◌∷◌, length, map, Option, Some, None, refl, ap, sym, ◌∙◌, subst, arith, slice_get, add-zero, cond, if◌then◌else◌, ◌==◌, nat_lt}
use Rattle.std.specs.List.{AllByRecursion}
use Rattle.std.specs.Option.{option_and_then}
use Rattle.std.proofs.lemmas.List.{length-map}
use Rattle.isa_step.specs.Effects.{View}
use Rattle.board_file.specs.declared.board.BoardFile.{BoardFile}
use Rattle.board_machine.specs.declared.events.Event.{Event}
use Rattle.board_machine.specs.declared.events.Event.TheVariants.{Next}
use Rattle.board_machine.specs.declared.events.Rest.{Rest}
use Rattle.board_machine.specs.declared.events.RunEnd.{RunEnd}
use Rattle.board_machine.specs.declared.events.RunEnd.TheVariants.{CyclesSpent, JournalFull}
use Rattle.board_machine.specs.Cycles.{Cycles, Runs, core_of_turn, cycles_of, divides, end_at, end_of, events_of, ticks_where, turn_of, turns}
use Rattle.board_machine.specs.Fabric.{Fabric}
use Rattle.board_machine.specs.Resting.{and_idle, idle_here, is_outside_still, rest_of, rest_to}
use Rattle.board_machine.specs.World.{CoreAt, Inputs, IsThere, Schedule, Steps, World, need}
use Rattle.board_machine.proofs.Lists.{all_append}
use Rattle.board_machine.proofs.Steps.{steps_append}
use Rattle.board_machine.proofs.Turns.{Cycled, cycled, runs_to}
use Rattle.machine_laws.proofs.Going.{apart}
use Rattle.exact_machine.specs.Machine.{ExactCore, ExactWorld, exact_steps, opened, with_slack}
use Rattle.exact_machine.specs.Opening.{AreOpen, IsOpen}
use Rattle.exact_machine.specs.Runs.{ExactRun, exact_cycle, exact_cycles, exact_end, exact_start}
use Rattle.exact_machine.specs.Laws.{AreThere, ExactRunsAreOpen, OpenCycles, OpenReached, OpenRun}
use Rattle.exact_machine.proofs.Beginning.{fresh_count, start_open}
use Rattle.exact_machine.proofs.Opening.{is_with, same_length, seen_same, steps_open, with_cores}

-- the ends are told by no slack

rest_same : (xs : List ExactCore) (ss : List CoreAt) (s : Schedule) (f : Fabric) (n : ℕ) → AreOpen xs ss → rest_to (record { schedule = s; cores = ss; fabric = f }) n ≡ rest_to (record { schedule = s; cores = map (with_slack 0) xs; fabric = f }) n
rest_same xs ss s f zero h = refl
rest_same xs ss s f (suc k) h =
    ap (option_and_then (and_idle (idle_here f k (slice_get ss k)))) (rest_same xs ss s f k h)
    ∙ ap (λ i. option_and_then (and_idle i) (rest_to (record { schedule = s; cores = map (with_slack 0) xs; fabric = f }) k)) (seen_same (idle_here f k) (λ s slack. refl) xs ss k h)

end_needs : (limit : ℕ) (x : ExactWorld) (ss : List CoreAt) (r : Option Rest) → need (with_cores x ss) ≡ need (opened x) → end_of limit (with_cores x ss) r ≡ end_of limit (opened x) r
end_needs limit x ss (Some r) e = refl
end_needs limit x ss None e = ap (λ n. if x.fabric.cycle == limit then Some CyclesSpent else if nat_lt x.fabric.spare n then Some JournalFull else None) e

end_same_at : (limit : ℕ) (x : ExactWorld) (ss : List CoreAt) → AreOpen x.cores ss → end_at limit (with_cores x ss) ≡ exact_end limit x
end_same_at limit x ss h =
    let w = with_cores x ss in
    let count : length ss ≡ length (map (with_slack 0) x.cores) = same_length x.cores ss h ∙ sym (length-map x.cores (with_slack 0)) in
    let rest : rest_of w ≡ rest_of (opened x) =
    ap (λ n. cond (is_outside_still x.fabric) (rest_to w n) None) count
    ∙ ap (λ r. cond (is_outside_still x.fabric) r None) (rest_same x.cores ss x.schedule x.fabric (length (map (with_slack 0) x.cores)) h) in
    let needs : need w ≡ need (opened x) = omega (arith, count) in
    ap (end_of limit w) rest ∙ end_needs limit x ss (rest_of (opened x)) needs

pub end_same : (limit : ℕ) (x : ExactWorld) (w : World) → IsOpen x w → end_at limit w ≡ exact_end limit x
end_same limit x w h = subst (λ w. end_at limit w ≡ exact_end limit x) (sym (is_with x w h)) (end_same_at limit x w.cores h.cores)

-- the events of a cycle name cores that are there

where_there : (n core : ℕ) (b : Bool) → core < n → AllByRecursion (IsThere n) (ticks_where b core)
where_there n core true l = (l, tt)
where_there n core false l = tt

turns_there : (s : Schedule) (cycle k : ℕ) → k ≤ length s.clocks → AllByRecursion (IsThere (length s.clocks)) (turns s cycle k)
turns_there s cycle zero l = tt
turns_there s cycle (suc k) l =
    all_append (IsThere (length s.clocks)) (turns s cycle k) (turn_of s cycle k) (turns_there s cycle k (omega (arith, l)))
    (where_there (length s.clocks) (core_of_turn s cycle k) (divides (slice_get s.clocks (core_of_turn s cycle k)) cycle) (apart.there s cycle k (omega (arith, l))))

pub events_there : (s : Schedule) (cycle : ℕ) → AllByRecursion (IsThere (length s.clocks)) (events_of s cycle)
events_there s cycle = (tt, (tt, all_append (IsThere (length s.clocks)) (turns s cycle (length s.clocks)) (Next ∷ []) (turns_there s cycle (length s.clocks) (omega arith)) (tt, tt)))

-- a cycle

HasClocks : World → Type 0
HasClocks w = length w.schedule.clocks ≡ length w.cores

record OpenCycle (w : World) (x : ExactWorld) : Type 0 where
  next : World
  steps : Steps w (events_of w.schedule w.fabric.cycle) next
  left : Cycled w next
  clocks : HasClocks next
  is_open : IsOpen x next

cycle_open : (x : ExactWorld) (w : World) → IsOpen x w → HasClocks w → OpenCycle w (exact_cycle x)
unfolding HasClocks
cycle_open x w h c =
    let count : length x.schedule.clocks ≡ length x.cores = ap (λ (s : Schedule). length s.clocks) (sym h.schedule) ∙ c ∙ same_length x.cores w.cores h.cores in
    let there : AreThere x (events_of x.schedule x.fabric.cycle) = subst (λ n. AllByRecursion (IsThere n) (events_of x.schedule x.fabric.cycle)) count (events_there x.schedule x.fabric.cycle) in
    let s = steps_open x w (events_of x.schedule x.fabric.cycle) h there in
    let steps : Steps w (events_of w.schedule w.fabric.cycle) s.end =
    subst (λ (t : Schedule). Steps w (events_of t w.fabric.cycle) s.end) (sym h.schedule)
    (subst (λ (f : Fabric). Steps w (events_of x.schedule f.cycle) s.end) (sym h.fabric) s.steps) in
    let left = cycled w s.end steps in
    record {
      next = s.end;
      steps = steps;
      left = left;
      clocks = ap (λ (t : Schedule). length t.clocks) left.schedule ∙ c ∙ sym left.cores;
      is_open = s.is_open;
    }

-- so many cycles

record OpenFar (w : World) (n : ℕ) (x : ExactWorld) : Type 0 where
  far : World
  ran : Cycles w n far
  schedule : far.schedule ≡ w.schedule
  cycle : far.fabric.cycle ≡ w.fabric.cycle + n
  clocks : HasClocks far
  is_open : IsOpen x far

cycles_open : (x : ExactWorld) (w : World) (n : ℕ) → IsOpen x w → HasClocks w → OpenFar w n (exact_cycles x n)
cycles_open x w zero h c = record { far = w; ran = refl; schedule = refl; cycle = sym (add-zero _); clocks = c; is_open = h }
cycles_open x w (suc n) h c =
    let f = cycles_open x w n h c in
    let o = cycle_open (exact_cycles x n) f.far f.is_open f.clocks in
    let last : Steps f.far (events_of w.schedule (w.fabric.cycle + n)) o.next =
    subst (λ (s : Schedule). Steps f.far (events_of s (w.fabric.cycle + n)) o.next) f.schedule
    (subst (λ k. Steps f.far (events_of f.far.schedule k) o.next) f.cycle o.steps) in
    record {
      far = o.next;
      ran = steps_append w f.far o.next (cycles_of w.schedule w.fabric.cycle n) (events_of w.schedule (w.fabric.cycle + n)) f.ran last;
      schedule = o.left.schedule ∙ f.schedule;
      cycle = omega (arith, o.left.cycle, f.cycle);
      clocks = o.clocks;
      is_open = o.is_open;
    }

-- cycles up to the first end

record OpenOn (limit : ℕ) (w : World) (n : ℕ) (x : ExactWorld) : Type 0 where
  far : World
  ran : Runs limit w n far
  clocks : HasClocks far
  is_open : IsOpen x far

goes_open : (limit : ℕ) (x : ExactWorld) (w : World) (n : ℕ) → IsOpen x w → HasClocks w → ((k : ℕ) → k < n → exact_end limit (exact_cycles x k) ≡ None) → OpenOn limit w n (exact_cycles x n)
goes_open limit x w zero h c on = record { far = w; ran = refl; clocks = c; is_open = h }
goes_open limit x w (suc n) h c on =
    let f = goes_open limit x w n h c (λ k l. on k (omega (arith, l))) in
    let o = cycle_open (exact_cycles x n) f.far f.is_open f.clocks in
    record {
      far = o.next;
      ran = (f.far, f.ran, end_same limit (exact_cycles x n) f.far f.is_open ∙ on n (omega arith), o.steps);
      clocks = o.clocks;
      is_open = o.is_open;
    }

run_open : (limit : ℕ) (x new : ExactWorld) (w : World) (end : RunEnd) → IsOpen x w → length x.schedule.clocks ≡ length x.cores → ExactRun limit x new end → OpenRun limit w new end
unfolding HasClocks
run_open limit x new w end h c r =
    let clocks : length w.schedule.clocks ≡ length w.cores = ap (λ (s : Schedule). length s.clocks) h.schedule ∙ c ∙ sym (same_length x.cores w.cores h.cores) in
    let f = goes_open limit x w r.count h clocks r.goes_on in
    let is_open : IsOpen new f.far = subst (λ x. IsOpen x f.far) (sym r.ran) f.is_open in
    record {
      last = f.far;
      ran = runs_to limit w f.far r.count end f.ran (end_same limit new f.far is_open ∙ r.ends);
      is_open = is_open;
    }

-- from the beginning of a board

reached_open : (b : BoardFile) (views : List View) (inputs : Inputs) (room : ℕ) (events : List Event) → length views ≡ length b.cores → AreThere (exact_start b views inputs room) events → OpenReached b views inputs (exact_steps (exact_start b views inputs room) events)
reached_open b views inputs room events l there =
    let s = start_open b views inputs room l in
    let o = steps_open (exact_start b views inputs room) s.first events s.is_open there in
    record { end = o.end; reached = record { first = s.first; events = events; began = s.began; ran = o.steps }; is_open = o.is_open }

ran_open : (b : BoardFile) (views : List View) (inputs : Inputs) (room count : ℕ) → length views ≡ length b.cores → OpenCycles b views inputs count (exact_cycles (exact_start b views inputs room) count)
unfolding HasClocks
ran_open b views inputs room count l =
    let x = exact_start b views inputs room in
    let s = start_open b views inputs room l in
    let clocks : length s.first.schedule.clocks ≡ length s.first.cores =
    ap (λ (t : Schedule). length t.clocks) s.is_open.schedule ∙ length-map b.cores _ ∙ sym (fresh_count b.cores views l) ∙ sym (same_length x.cores s.first.cores s.is_open.cores) in
    let f = cycles_open x s.first count s.is_open clocks in
    record { end = f.far; ran = record { first = s.first; began = s.began; ran = f.ran }; is_open = f.is_open }

pub runs_open : ExactRunsAreOpen
runs_open = record { steps = steps_open; reached = reached_open; cycles = ran_open; runs = run_open }
