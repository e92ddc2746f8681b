-- Every run by cycles has the progress bound.
use Rattle.std.proofs.Common.{◌≡◌, ℕ, zero, suc, ◌+◌, ◌*◌, ◌<◌, ◌≤◌, ◌||◌, List, [], ◌∷◌, ◌++◌, length, map, filter, Option, Some, None, refl, ap, sym, ◌∙◌, subst, inl, inr, arith, slice_get, Bool, true, false, add-one}
use Rattle.std.specs.List.{AllByRecursion, fold, list_any}
use Rattle.std.specs.Option.{is_some, option_map}
use Rattle.std.proofs.lemmas.List.{append-nil}
use Rattle.std.proofs.lemmas.Option.{same_Some, slice_get-map}
use Rattle.isa_step.specs.declared.acts.Breaks.{Breaks}
use Rattle.isa_step.specs.declared.acts.Hopes.{Hopes}
use Rattle.isa_step.specs.Effects.{View}
use Rattle.board_file.specs.declared.board.BoardFile.{BoardFile}
use Rattle.board_file.specs.declared.board.LinkRow.{LinkRow}
use Rattle.run_journal.specs.declared.entry.Entry.{Entry}
use Rattle.run_journal.specs.declared.entry.What.{What}
use Rattle.run_journal.specs.declared.entry.What.TheVariants.{LineUp, LineDown, HostSent, HostGot, Left}
use Rattle.board_machine.specs.declared.events.Event.TheVariants.{Devices, Host, Tick, Next}
use Rattle.board_machine.specs.Cycles.{cycles_of, events_of}
use Rattle.board_machine.specs.DeviceMoves.{line_change, line_driven}
use Rattle.board_machine.specs.Fabric.{Fabric, breaks_come, entered, entered_some, entry_of, given, has_come, hopes_at, host_moves, is_break, is_to_come, no_core, or_low, pending_after, shown}
use Rattle.board_machine.specs.World.{CoreAt, Inputs, Schedule, Start, Step, Steps, World, acts_of, line_latched}
use Rattle.board_machine.proofs.DeviceSteps.{done_enters}
use Rattle.board_machine.proofs.Staying.{announced}
use Rattle.board_machine.proofs.Steps.{moves_enter, steps_split}
use Rattle.board_machine.proofs.Waits.{none_kept}
use Rattle.journal_laws.specs.Laws.{KeepsPace, ProgressBoundHolds, RanCycles, order_of}
use Rattle.journal_laws.specs.Progress.{ProgressBound, by_tick, rests_below, ticking, ticks_below}
use Rattle.journal_laws.proofs.BreaksCome.{all_given, any_kept}
use Rattle.journal_laws.proofs.Gone.{AreFewer, gone_ends, gone_fewer}
use Rattle.journal_laws.proofs.LinkRuns.{IsValidIn, start_valid_in, step_valid}
use Rattle.journal_laws.proofs.Lists.{cons_append, no_split_at}
use Rattle.journal_laws.proofs.Moves.{Joins, KeepsParts, devices_keep, host_keeps}
use Rattle.journal_laws.proofs.Orders.{ticks_once, turns_are}
use Rattle.journal_laws.proofs.Pace.{all_imply, all_more, is_past, law_more, past_entry, past_next}
use Rattle.journal_laws.proofs.PaceRuns.{Good, hopes_out, tick_good}
use Rattle.journal_laws.proofs.Paces.{Pace, no_tick, other_pace}
use Rattle.journal_laws.proofs.Takes.{flag_at, flag_of}
use Rattle.journal_laws.proofs.Truths.{or_cases, or_left, or_right}

-- what holds of the cores and the fabric before the first tick of a cycle
record Calm (order : ℕ → List ℕ) (rows : List LinkRow) (views : List View) (cores : List CoreAt) (f : Fabric) : Type 0 where
  has_rows : f.rows ≡ rows
  past : AllByRecursion (λ e. is_past f.cycle [] e ≡ true) f.journal
  law : ProgressBound order rows views f.journal
  pace : (i : ℕ) (s : CoreAt) (v : View) → slice_get cores i ≡ Some s → slice_get views i ≡ Some v → Pace order rows v i f.cycle [] f.journal s (hopes_at f i)

KeepsCalm : (ℕ → List ℕ) → List LinkRow → List View → List CoreAt → Fabric → Fabric → Type 0
KeepsCalm order rows views cores f g = Calm order rows views cores f → Calm order rows views cores g

calm_joins : (order : ℕ → List ℕ) (rows : List LinkRow) (views : List View) (cores : List CoreAt) → Joins (KeepsCalm order rows views cores)
unfolding KeepsCalm
calm_joins order rows views cores = record { itself = λ f k. k; then = λ f g h a b k. b (a k) }

calm_good : (order : ℕ → List ℕ) (rows : List LinkRow) (views : List View) (w : World) → IsValidIn w.fabric → Calm order rows views w.cores w.fabric → Good order rows views [] w
calm_good order rows views w l k = record { valid = l; has_rows = k.has_rows; past = k.past; law = k.law; pace = k.pace }

good_calm : (order : ℕ → List ℕ) (rows : List LinkRow) (views : List View) (w : World) → Good order rows views [] w → Calm order rows views w.cores w.fabric
good_calm order rows views w g = record { has_rows = g.has_rows; past = g.past; law = g.law; pace = g.pace }

-- entries that no tick made

unfoldable pub IsOffTicks : Option What → Type 0
IsOffTicks None = Unit {0}
IsOffTicks (Some what) = by_tick what ≡ false

pub off_pending : (core : ℕ) (what : What) (pending : List Breaks) → by_tick what ≡ false → pending_after core what pending ≡ pending
off_pending core LineUp pending h = refl
off_pending core LineDown pending h = refl
off_pending core (HostSent link item) pending h = refl
off_pending core (HostGot link item) pending h = refl
off_pending core (Left uart byte) pending h = refl
off_pending core _ pending h = cc

entered_calm : (order : ℕ → List ℕ) (rows : List LinkRow) (views : List View) (cores : List CoreAt) (f : Fabric) (by act : ℕ) (what : What) → by_tick what ≡ false → Calm order rows views cores f → Calm order rows views cores (entered by act what f)
entered_calm order rows views cores f by act what t k =
    let e : Entry = entry_of f.cycle by act what in
    record {
      has_rows = k.has_rows;
      past = all_more (is_past f.cycle []) f.journal e k.past (past_entry f.cycle [] e refl (inl t));
      law = law_more order rows views f.cycle [] f.journal e k.past refl (λ first y v. let z : false ≡ true = sym t ∙ y in cc) k.law;
      pace = λ i s v q r. subst (Pace order rows v i f.cycle [] (f.journal ++ e ∷ []) s) (sym (hopes_out f (entered by act what f) i refl refl (ap (λ (ps : List Breaks). slice_get ps i) (off_pending by what f.pending t))))
          (other_pace order rows v i f.cycle [] f.journal s (hopes_at f i) e (omega arith) (no_tick i e t) (λ h. cc) (k.pace i s v q r));
    }

some_calm : (order : ℕ → List ℕ) (rows : List LinkRow) (views : List View) (cores : List CoreAt) (by act : ℕ) (o : Option What) (f : Fabric) → IsOffTicks o → KeepsCalm order rows views cores f (entered_some by act o f)
unfolding KeepsCalm IsOffTicks
some_calm order rows views cores by act None f h k = k
some_calm order rows views cores by act (Some what) f h k = entered_calm order rows views cores f by act what h k

pub change_off : (new old : Bool) → IsOffTicks (line_change new old)
unfolding IsOffTicks
change_off true true = tt
change_off true false = refl
change_off false true = refl
change_off false false = tt

-- the host and the devices

latch_calm : (order : ℕ → List ℕ) (rows : List LinkRow) (views : List View) (cores : List CoreAt) (core : ℕ) (f : Fabric) → KeepsCalm order rows views cores f (line_latched cores core f)
latch_calm order rows views cores core f =
    let new = line_driven f core in
    let old = or_low (slice_get f.lines core) in
    some_calm order rows views cores core (acts_of (slice_get cores core)) (line_change new old) f (change_off new old)

-- where breaks come, what can still come is no more than before

break_hope : (f : Fabric) (i : ℕ) (kind : Bool) → flag_at (fold given f.pending (filter (has_come f.cycle) f.left)) i kind || list_any (is_break i kind) (filter (is_to_come f.cycle) f.left) ≡ true → flag_at f.pending i kind || list_any (is_break i kind) f.left ≡ true
break_hope f i kind h = elim (or_cases (flag_at (fold given f.pending (filter (has_come f.cycle) f.left)) i kind) (list_any (is_break i kind) (filter (is_to_come f.cycle) f.left)) h) [
  | inl x ↦ elim (all_given i kind (filter (has_come f.cycle) f.left) f.pending x) [
    | inl y ↦ or_left (flag_at f.pending i kind) (list_any (is_break i kind) f.left) y
    | inr y ↦ or_right (flag_at f.pending i kind) (list_any (is_break i kind) f.left) (any_kept (is_break i kind) (has_come f.cycle) f.left y)
  ]
  | inr x ↦ or_right (flag_at f.pending i kind) (list_any (is_break i kind) f.left) (any_kept (is_break i kind) (is_to_come f.cycle) f.left x)
]

come_fewer : (f : Fabric) (i : ℕ) → AreFewer (hopes_at (breaks_come f) i) (hopes_at f i)
unfolding flag_of
come_fewer f i = record { interrupt = λ h. h; maskable = break_hope f i false; nonmaskable = break_hope f i true }

come_calm : (order : ℕ → List ℕ) (rows : List LinkRow) (views : List View) (cores : List CoreAt) (f : Fabric) → KeepsCalm order rows views cores f (breaks_come f)
unfolding KeepsCalm
come_calm order rows views cores f k = record {
  has_rows = k.has_rows;
  past = k.past;
  law = k.law;
  pace = λ i s v q r.
      let p = k.pace i s v q r in
      record {
        ticks = p.ticks;
        slack = p.slack;
        bound = elim p.bound [ inl g ↦ inl (gone_fewer s.view (hopes_at (breaks_come f) i) (hopes_at f i) (come_fewer f i) g) | inr b ↦ inr b ];
        asleep = p.asleep;
        stopped = p.stopped;
        within = p.within;
        kept = p.kept;
      };
}

calm_parts : (order : ℕ → List ℕ) (rows : List LinkRow) (views : List View) (cores : List CoreAt) → KeepsParts (KeepsCalm order rows views cores) cores
unfolding KeepsCalm
calm_parts order rows views cores = record {
  devices = λ f d k. record { has_rows = k.has_rows; past = k.past; law = k.law; pace = k.pace };
  byte = λ f uart byte k. entered_calm order rows views cores f no_core 0 (Left uart byte) refl k;
  latch = latch_calm order rows views cores;
}

host_calm : (order : ℕ → List ℕ) (rows : List LinkRow) (views : List View) (cores : List CoreAt) (f : Fabric) (n : ℕ) → KeepsCalm order rows views cores f (host_moves f n)
unfolding KeepsCalm
host_calm order rows views cores f n =
    host_keeps (KeepsCalm order rows views cores) (calm_joins order rows views cores)
    (λ f link item k. entered_calm order rows views cores f no_core 0 (HostSent link item) refl k)
    (λ f link item k. entered_calm order rows views cores f no_core 0 (HostGot link item) refl k) f n

-- the events of a cycle

devices_good : (order : ℕ → List ℕ) (rows : List LinkRow) (views : List View) (w v : World) → Step w Devices v → Good order rows views [] w → Good order rows views [] v
unfolding KeepsCalm
devices_good order rows views w v h g =
    let l = step_valid w v Devices h g.valid in
    calm_good order rows views v l (subst (λ (x : World). Calm order rows views x.cores x.fabric) (sym h) (devices_keep (KeepsCalm order rows views w.cores) w.cores (calm_joins order rows views w.cores) (calm_parts order rows views w.cores) (come_calm order rows views w.cores) w.fabric (good_calm order rows views w g)))

host_good : (order : ℕ → List ℕ) (rows : List LinkRow) (views : List View) (w v : World) → Step w Host v → Good order rows views [] w → Good order rows views [] v
unfolding KeepsCalm
host_good order rows views w v h g =
    let l = step_valid w v Host h g.valid in
    calm_good order rows views v l (subst (λ (x : World). Calm order rows views x.cores x.fabric) (sym h) (host_calm order rows views w.cores w.fabric (length w.fabric.rows) (good_calm order rows views w g)))

next_pace : (order : ℕ → List ℕ) (rows : List LinkRow) (first : View) (i c : ℕ) (journal : List Entry) (s : CoreAt) (hopes : Hopes) → Pace order rows first i c (order c) journal s hopes → Pace order rows first i (c + 1) [] journal s hopes
next_pace order rows first i c journal s hopes p = subst (λ c. Pace order rows first i c [] journal s hopes) (sym (add-one c)) (record {
  ticks = p.ticks ∙ plus_zero _;
  slack = p.slack;
  bound = elim p.bound [ inl g ↦ inl g | inr b ↦ inr (omega (arith, b)) ];
  asleep = p.asleep;
  stopped = p.stopped;
  within = p.within;
  kept = p.kept;
})
  where
    plus_zero : (n : ℕ) → n ≡ n + 0
    plus_zero n = omega arith

next_good : (order : ℕ → List ℕ) (rows : List LinkRow) (views : List View) (w v : World) → Step w Next v → Good order rows views (order w.fabric.cycle) w → Good order rows views [] v
next_good order rows views w v h g = subst (Good order rows views []) (sym h) (record {
  valid = g.valid;
  has_rows = g.has_rows;
  past = all_imply (is_past w.fabric.cycle (order w.fabric.cycle)) (is_past (w.fabric.cycle + 1) []) w.fabric.journal (past_next w.fabric.cycle (order w.fabric.cycle)) g.past;
  law = g.law;
  pace = λ i s x q r. next_pace order rows x i w.fabric.cycle w.fabric.journal s (hopes_at w.fabric i) (g.pace i s x q r);
})

-- good before a cycle, which has this number
record GoodAt (order : ℕ → List ℕ) (rows : List LinkRow) (views : List View) (cycle : ℕ) (w : World) : Type 0 where
  good : Good order rows views [] w
  cycle_is : w.fabric.cycle ≡ cycle

ticks_good : (s : Schedule) (rows : List LinkRow) (views : List View) (cycle : ℕ) (done rest : List ℕ) (w v : World) → ticking s.turn s.clocks cycle ≡ done ++ rest → w.fabric.cycle ≡ cycle → Steps w (map Tick rest ++ Next ∷ []) v → Good (ticking s.turn s.clocks) rows views done w → GoodAt (ticking s.turn s.clocks) rows views (cycle + 1) v
ticks_good s rows views cycle done [] w v cut c h g =
    let order = ticking s.turn s.clocks in
    let e : done ≡ order w.fabric.cycle = sym (append-nil done) ∙ sym cut ∙ ap order (sym c) in
    let n : Good order rows views [] h.0 = next_good order rows views w h.0 h.1 (subst (λ done. Good order rows views done w) e g) in
    subst (GoodAt order rows views (cycle + 1)) (sym h.2) (record { good = n; cycle_is = ap (λ (x : World). x.fabric.cycle) h.1 ∙ ap (λ n. n + 1) c })
ticks_good s rows views cycle done (i ∷ rest) w v cut c h g =
    let order = ticking s.turn s.clocks in
    let t = tick_good order rows views i done rest w h.0 (ap order c ∙ cut) (ticks_once s cycle i done rest cut) h.1 g in
    ticks_good s rows views cycle (done ++ i ∷ []) rest h.0 v (cut ∙ sym (cons_append done rest i)) (t.0 ∙ c) h.2 t.1

cycle_good : (s : Schedule) (rows : List LinkRow) (views : List View) (cycle : ℕ) (w v : World) → Steps w (events_of s cycle) v → GoodAt (ticking s.turn s.clocks) rows views cycle w → GoodAt (ticking s.turn s.clocks) rows views (cycle + 1) v
cycle_good s rows views cycle w v h g =
    let order = ticking s.turn s.clocks in
    let a = h.0 in
    let b = h.2.0 in
    let ca : a.fabric.cycle ≡ w.fabric.cycle = ap (λ (x : World). x.fabric.cycle) h.1 ∙ (done_enters w.cores w.fabric).cycle in
    let cb : b.fabric.cycle ≡ a.fabric.cycle = ap (λ (x : World). x.fabric.cycle) h.2.1 ∙ (moves_enter a.fabric (length a.fabric.rows)).cycle in
    ticks_good s rows views cycle [] (order cycle) b v refl (cb ∙ ca ∙ g.cycle_is) (subst (λ es. Steps b (es ++ Next ∷ []) v) (turns_are s cycle) h.2.2)
    (host_good order rows views a b h.2.1 (devices_good order rows views w a h.1 g.good))

cycles_good : (s : Schedule) (rows : List LinkRow) (views : List View) (cycle n : ℕ) (w v : World) → Steps w (cycles_of s cycle n) v → GoodAt (ticking s.turn s.clocks) rows views cycle w → GoodAt (ticking s.turn s.clocks) rows views (cycle + n) v
cycles_good s rows views cycle zero w v h g =
    subst (GoodAt (ticking s.turn s.clocks) rows views (cycle + 0)) (sym h) (record { good = g.good; cycle_is = omega (arith, g.cycle_is) })
cycles_good s rows views cycle (suc n) w v h g =
    let m = steps_split w v (cycles_of s cycle n) (events_of s (cycle + n)) h in
    let e : cycle + n + 1 ≡ cycle + suc n = omega arith in
    subst (λ c. GoodAt (ticking s.turn s.clocks) rows views c v) e (cycle_good s rows views (cycle + n) m.0 v m.2 (cycles_good s rows views cycle n w m.0 m.1 g))

-- the beginning

start_pace : (order : ℕ → List ℕ) (rows : List LinkRow) (first : View) (i c : ℕ) (journal : List Entry) (s : CoreAt) (hopes : Hopes) → c ≡ 0 → journal ≡ [] → s.acts ≡ 0 → s.ticks ≡ 0 → s.slack < 64 → s.view ≡ first → Pace order rows first i c [] journal s hopes
start_pace order rows first i c journal s hopes z j a k l v = subst (λ c. Pace order rows first i c [] journal s hopes) (sym z) (subst (λ j. Pace order rows first i 0 [] j s hopes) (sym j) (record {
  ticks = k;
  slack = l;
  bound = inr (omega (arith, a, k, l));
  asleep = λ x. ap (λ (v : View). v.arch.asleep) (sym v) ∙ x;
  stopped = λ x. ap (λ (v : View). is_some v.arch.stopped) (sym v) ∙ x;
  within = λ act q. (let n : None ≡ Some act = sym (none_kept i) ∙ q in cc);
  kept = λ q. (let n : None ≡ Some s.acts = sym (none_kept i) ∙ q in cc);
}))

start_good : (order : ℕ → List ℕ) (b : BoardFile) (views : List View) (inputs : Inputs) (w : World) → Start b views inputs w → Good order b.links views [] w
start_good order b views inputs w s = record {
  valid = start_valid_in b views inputs w s;
  has_rows = s.has_rows;
  past = subst (AllByRecursion (λ e. is_past w.fabric.cycle [] e ≡ true)) (sym s.journal) tt;
  law = record { each = λ before later e first q t v. absurd (no_split_at before later e (sym s.journal ∙ q)) };
  pace = λ i c v q r.
      let e : Some c.view ≡ Some v = ap (option_map (λ (s : CoreAt). s.view)) (sym q) ∙ sym (slice_get-map (λ (s : CoreAt). s.view) w.cores i) ∙ ap (λ (vs : List View). slice_get vs i) s.has_views ∙ r in
      let f = s.fresh i c q in
      start_pace order b.links v i w.fabric.cycle w.fabric.journal c (hopes_at w.fabric i) s.cycle s.journal f.0 f.1 f.2 (same_Some _ _ e);
}

-- the journal of every run by cycles has the progress bound

run_good : (b : BoardFile) (views : List View) (inputs : Inputs) (count : ℕ) (w : World) → RanCycles b views inputs count w → GoodAt (order_of b) b.links views count w
run_good b views inputs count w r =
    let s = r.first.schedule in
    let first : GoodAt (ticking s.turn s.clocks) b.links views r.first.fabric.cycle r.first = record { good = start_good (ticking s.turn s.clocks) b views inputs r.first r.began; cycle_is = refl } in
    let all = cycles_good s b.links views r.first.fabric.cycle count r.first w r.ran first in
    let e : r.first.fabric.cycle + count ≡ count = omega (arith, r.began.cycle) in
    subst (λ (s : Schedule). GoodAt (ticking s.turn s.clocks) b.links views count w) r.began.has_schedule (subst (λ n. GoodAt (ticking s.turn s.clocks) b.links views n w) e all)

-- the cycle number is that of the cycles that ran
pub run_cycle : (b : BoardFile) (views : List View) (inputs : Inputs) (count : ℕ) (w : World) → RanCycles b views inputs count w → w.fabric.cycle ≡ count
run_cycle b views inputs count w r = (run_good b views inputs count w r).cycle_is

no_more : (n : ℕ) → n + 0 ≡ n
no_more n = omega arith

keeps_pace : (b : BoardFile) (views : List View) (count : ℕ) (w : World) → GoodAt (order_of b) b.links views count w → KeepsPace b views count w
keeps_pace b views count w g = record {
  ticks = λ i s v q r. (let p = g.good.pace i s v q r in p.ticks ∙ no_more (ticks_below (order_of b) i w.fabric.cycle) ∙ ap (ticks_below (order_of b) i) g.cycle_is);
  bound = λ i s v q r e. (
      let p = g.good.pace i s v q r in
      subst (λ n. ticks_below (order_of b) i n + 1 ≤ 64 * (s.acts + 1) + rests_below (order_of b) b.links v i w.fabric.journal n) g.cycle_is (elim p.bound [
        | inl x ↦ absurd (e (gone_ends s.view (shown w.fabric i) (announced w.fabric i) x))
        | inr y ↦ (let t = p.ticks in omega (arith, y, t))
      ]));
}

pub progress_bound_holds : ProgressBoundHolds
progress_bound_holds = record {
  law = λ b views inputs count w r. (run_good b views inputs count w r).good.law;
  at_end = λ b views inputs count w r. keeps_pace b views count w (run_good b views inputs count w r);
}
