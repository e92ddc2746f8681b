-- Scenes that cycles lead to.
use Rattle.std.proofs.Common.{◌≡◌, ℕ, zero, suc, ◌+◌, ◌<◌, ◌≤◌, ◌^◌, Bool, true, false, List, [], ◌∷◌, length, drop, Option, Some, None, map, ◌||◌, inl, inr, refl, sym, ap, ◌∙◌, subst, arith, add-one, ◌⊎◌}
use Rattle.std.specs.Prelude.{IsSome, is_some}
use Rattle.board_machine.specs.declared.events.RunEnd.{RunEnd}
use Rattle.std.proofs.lemmas.List.{length-drop}
use borrow.Author.Count.{below_more}
use Rattle.run_journal.specs.declared.entry.Entry.{Entry}
use Rattle.exact_machine.specs.Machine.{ExactWorld}
use Rattle.exact_machine.specs.Runs.{exact_cycle, exact_cycles, exact_end}
use Rattle.exact_machine.specs.Stepping.{CanCycle, CanRun}
use Rattle.exact_machine.proofs.Turning.{can_go_on, cycled}
use Rattle.quiet_cycles.proofs.Running.{can_begin, end_below, end_room}
use Rattle.std.specs.List.{list_any}
use Rattle.probe_set.specs.Sets.{HaveRoom, Named, all_told_each, any_asks_each}
use Rattle.probe_set.proofs.Telling.{room_told}
use Rattle.mb_debug.specs.Scenes.{RunsOn, Scene, StepsOn, came_to_any, cycles, gained, next, scene, stops}
use Rattle.mb_debug.specs.Scripts.{ByCycles}
use Rattle.mb_debug.specs.Breaks.{hits, noted, place_of}
use Rattle.mb_debug.specs.declared.breaks.Breakpoint.{Breakpoint}
use Rattle.mb_debug.specs.declared.breaks.Place.{Place}
use Rattle.mb_debug.proofs.Breaking.{hit_by_places}

-- a scene of which a run up to a limit may be asked
pub record Ready (limit : ℕ) (s : Scene) : Type 0 where
  pub can : CanRun limit s.world
  pub clocks : length s.world.schedule.clocks ≡ length s.world.cores
  pub room : HaveRoom s.world.fabric.spare s.probes

room_less : (m n : ℕ) (ns : List Named) → m ≤ n → HaveRoom n ns → HaveRoom m ns
room_less m n [] l h = tt
room_less m n (a ∷ ns) l h = (omega (arith, l, h.0), room_less m n ns l h.1)

-- probes that have room for entries and for more have room for more after them
told_room : (es : List Entry) (m n : ℕ) (ns : List Named) → length es + m ≤ n → HaveRoom n ns → HaveRoom m (all_told_each es ns)
told_room [] m n ns few h = room_less m n ns (omega (arith, few)) h
told_room (e ∷ es) m n ns few h = told_room es m (length es + m) _ (omega arith) (room_told e (length es + m) ns (room_less (suc (length es + m)) n ns (omega (arith, few)) h))

-- where no end is reached a cycle may be asked for, and after it the scene is as ready
pub record Goes (limit : ℕ) (s : Scene) : Type 0 where
  pub can : CanCycle s.world
  pub ready : Ready limit (next s)

pub goes : (limit : ℕ) (s : Scene) → Ready limit s → exact_end limit s.world ≡ None → Goes limit s
goes limit s r on =
    let w = s.world in
    let v = exact_cycle w in
    let below = end_below limit w on r.can.before in
    let room = end_room limit w on in
    let c = cycled w v refl in
    let f = c.fills r.clocks room in
    record {
      can = can_begin limit w r.can below room;
      ready = record {
        can = can_go_on limit w v r.can below c;
        clocks = subst (λ t. length t.clocks ≡ length v.cores) (sym c.schedule) (r.clocks ∙ sym c.cores);
        room = told_room (gained w v) v.fabric.spare w.fabric.spare s.probes (omega (arith, f.less, f.places, length-drop (length w.fabric.journal) v.fabric.journal)) r.room;
      };
    }

-- so after cycles before which no end was reached
pub ready_after : (limit : ℕ) (s : Scene) (n : ℕ) → Ready limit s → ((k : ℕ) → k < n → exact_end limit (cycles s k).world ≡ None) → Ready limit (cycles s n)
ready_after limit s zero r on = r
ready_after limit s (suc n) r on = (goes limit (cycles s n) (ready_after limit s n r (λ k l. on k (omega (arith, l)))) (on n (omega arith))).ready

-- the world of so many cycles is the machine's
pub world_after : (s : Scene) (n : ℕ) → (cycles s n).world ≡ exact_cycles s.world n
world_after s zero = refl
world_after s (suc n) = ap exact_cycle (world_after s n)

added : (w : ExactWorld) (a b : ℕ) → exact_cycles (exact_cycles w a) b ≡ exact_cycles w (b + a)
added w a zero = let e : 0 + a ≡ a = omega arith in ap (exact_cycles w) (sym e)
added w a (suc b) = let e : suc b + a ≡ suc (b + a) = omega arith in ap exact_cycle (added w a b) ∙ ap (exact_cycles w) (sym e)

pub by_none : (w : ExactWorld) → ByCycles w w
by_none w = (0, refl)

pub by_both : (u v w : ExactWorld) → ByCycles u v → ByCycles v w → ByCycles u w
by_both u v w a b = (b.0 + a.0, b.1 ∙ ap (λ x. exact_cycles x b.0) a.1 ∙ added u a.0 b.0)

-- a scene that so many cycles led to, before each of which no end was reached
pub record Along (limit : ℕ) (first now : Scene) (done : ℕ) : Type 0 where
  pub ran : now ≡ cycles first done
  pub goes_on : (k : ℕ) → k < done → exact_end limit (cycles first k).world ≡ None
  pub ready : Ready limit now

pub along_none : (limit : ℕ) (s : Scene) → Ready limit s → Along limit s s 0
along_none limit s r = record { ran = refl; goes_on = λ k l. absurd (omega (arith, l)); ready = r }

-- a place below one more is below, or the last
below_last : (P : ℕ → Type 0) (n : ℕ) → ((k : ℕ) → k < n → P k) → P n → (k : ℕ) → k < n + 1 → P k
below_last P n below last k l = below_more P n below last k l

pub along_more : (limit : ℕ) (first now later : Scene) (done : ℕ) → Along limit first now done → exact_end limit now.world ≡ None → later ≡ next now → Along limit first later (done + 1)
along_more limit first now later done a on is = record {
  ran = is ∙ ap next a.ran ∙ ap (cycles first) (sym (add-one done));
  goes_on = below_last (λ k. exact_end limit (cycles first k).world ≡ None) done a.goes_on (subst (λ (s : Scene). exact_end limit s.world ≡ None) a.ran on);
  ready = subst (Ready limit) (sym is) (goes limit now a.ready on).ready;
}

-- whether an end is reached, as the code asks
pub some_end : (limit : ℕ) (w : ExactWorld) (end : Option RunEnd) (is : Bool) → end ≡ exact_end limit w → is ≡ is_some end → is ≡ true → IsSome (exact_end limit w)
some_end limit w end is at told so = some_of (exact_end limit w) (sym (told ∙ ap is_some at) ∙ so) where
  some_of : (e : Option RunEnd) → is_some e ≡ true → IsSome e
  some_of None q = cc
  some_of (Some e) q = refl

pub no_end : (limit : ℕ) (w : ExactWorld) (end : Option RunEnd) (is : Bool) → end ≡ exact_end limit w → is ≡ is_some end → is ≡ false → exact_end limit w ≡ None
no_end limit w end is at told so = none_of (exact_end limit w) (sym (told ∙ ap is_some at) ∙ so) where
  none_of : (e : Option RunEnd) → is_some e ≡ false → e ≡ None
  none_of None q = refl
  none_of (Some e) q = cc

-- steps that end
pub steps_on : (limit count : ℕ) (old new : Scene) (done : ℕ) → done ≤ count → Along limit old new done → (done ≡ count) ⊎ IsSome (exact_end limit new.world) → StepsOn limit count old new
steps_on limit count old new done few a why = record { done = done; few = few; ran = a.ran; goes_on = a.goes_on; why = why }

-- one cycle of a board, and what the probes were told of it
pub next_scene : (old new : ExactWorld) (ns ns' : List Named) → new ≡ exact_cycle old
    → ns' ≡ all_told_each (drop (length old.fabric.journal) new.fabric.journal) ns → scene new ns' ≡ next (scene old ns)
next_scene old new ns ns' is told = ap (scene new) told ∙ ap (λ w. scene w (all_told_each (gained old w) ns)) is

-- whether it stops a run
pub stops_by : (old new : ExactWorld) (ns : List Named) (bs noted_bs : List Breakpoint) (asked hit result : Bool) → new ≡ exact_cycle old
    → asked ≡ any_asks_each (drop (length old.fabric.journal) new.fabric.journal) ns → noted_bs ≡ map (noted old) bs → hit ≡ list_any (hits new) noted_bs
    → result ≡ (asked || hit) → result ≡ stops (map place_of bs) (scene old ns)
stops_by old new ns bs noted_bs asked hit result is ask note any both =
    both ∙ ap (λ a. a || hit) ask ∙ ap (λ h. any_asks_each (gained old new) ns || h) (any ∙ ap (list_any (hits new)) note ∙ hit_by_places old new bs)
    ∙ ap (λ w. any_asks_each (gained old w) ns || came_to_any old w (map place_of bs)) is

-- a run that nothing stopped yet
pub record Unstopped (places : List Place) (first : Scene) (done : ℕ) : Type 0 where
  pub passes : (k : ℕ) → k < done → stops places (cycles first k) ≡ false

pub unstopped_none : (places : List Place) (first : Scene) → Unstopped places first 0
unstopped_none places first = record { passes = λ k l. absurd (omega (arith, l)) }

pub stop_at : (limit : ℕ) (places ps : List Place) (first now : Scene) (done : ℕ) (stop : Bool) → Along limit first now done → ps ≡ places → stop ≡ stops ps now
    → stops places (cycles first done) ≡ stop
stop_at limit places ps first now done stop a same is = sym (is ∙ ap (λ qs. stops qs now) same ∙ ap (stops places) a.ran)

pub unstopped_more : (places : List Place) (first : Scene) (done : ℕ) → Unstopped places first done → stops places (cycles first done) ≡ false → Unstopped places first (done + 1)
unstopped_more places first done u on = record { passes = below_last (λ k. stops places (cycles first k) ≡ false) done u.passes on }

-- runs that end
pub run_on : (limit count : ℕ) (places : List Place) (old new : Scene) (done : ℕ) → done ≤ count → Along limit old new done → Unstopped places old done
    → (done ≡ count) ⊎ IsSome (exact_end limit new.world) → RunsOn limit count places old new
run_on limit count places old new done few a u why = record {
  done = done;
  few = few;
  ran = a.ran;
  goes_on = a.goes_on;
  passes = λ k l. u.passes k (omega (arith, l));
  why = either_of why;
} where
  either_of : (done ≡ count) ⊎ IsSome (exact_end limit new.world) → (done ≡ count) ⊎ IsSome (exact_end limit new.world) ⊎ ((k : ℕ) × (done ≡ k + 1) × (stops places (cycles old k) ≡ true))
  either_of (inl e) = inl e
  either_of (inr e) = inr (inl e)

-- and one that is stopped
pub run_stopped : (limit count : ℕ) (places : List Place) (old new : Scene) (done : ℕ) → done < count → Along limit old new (done + 1) → Unstopped places old done
    → stops places (cycles old done) ≡ true → RunsOn limit count places old new
run_stopped limit count places old new done few a u stop = record {
  done = done + 1;
  few = omega (arith, few);
  ran = a.ran;
  goes_on = a.goes_on;
  passes = λ k l. u.passes k (omega (arith, l));
  why = inr (inr (done, refl, stop));
}
