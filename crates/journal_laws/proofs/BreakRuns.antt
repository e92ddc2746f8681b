-- A run by cycles passes no break over.
use Rattle.std.proofs.Common.{◌≡◌, ℕ, zero, suc, ◌+◌, ◌<◌, ◌&&◌, not, nat_lt, List, [], ◌∷◌, ◌++◌, length, filter, map, Option, Some, None, refl, ap, sym, ◌∙◌, subst, inl, inr, ◌⊎◌, arith, slice_get, Bool, true, false}
use Rattle.std.specs.List.{AllByRecursion}
use Rattle.std.proofs.lemmas.List.{append-nil, append_assoc}
use Rattle.std.proofs.lemmas.Bool.{cases_eq, le-ltb, ltb-true}
use Rattle.std.proofs.lemmas.Option.{slice_get_within}
use Rattle.isa_step.specs.declared.acts.Breaks.{Breaks}
use Rattle.isa_step.specs.Effects.{View}
use Rattle.isa_step.specs.Due.{due}
use Rattle.board_file.specs.declared.board.BoardFile.{BoardFile}
use Rattle.board_file.specs.declared.board.EventRow.{EventRow}
use Rattle.run_journal.specs.declared.entry.Entry.{Entry}
use Rattle.run_journal.specs.declared.entry.What.{What}
use Rattle.run_journal.specs.declared.entry.What.TheVariants.{HostSent, HostGot, Left}
use Rattle.board_machine.specs.declared.events.Event.TheVariants.{Devices, Host, Tick, Next}
use Rattle.board_machine.specs.Cycles.{cycles_of, events_of}
use Rattle.board_machine.specs.DeviceMoves.{line_change, line_driven}
use Rattle.board_machine.specs.Fabric.{Fabric, breaks_come, entered, entered_some, entry_of, is_break, no_core, or_low, or_none, shown}
use Rattle.board_machine.specs.World.{CoreAt, Inputs, Reached, Schedule, Start, Step, Steps, TickStep, World, acts_of}
use Rattle.board_machine.proofs.Keeping.{keeps_runs}
use Rattle.board_machine.proofs.Lists.{all_append}
use Rattle.board_machine.proofs.DeviceSteps.{done_enters}
use Rattle.board_machine.proofs.Steps.{moves_enter, steps_split}
use Rattle.board_machine.proofs.Tells.{which}
use Rattle.machine_laws.proofs.Holding.{each_state_holds}
use Rattle.journal_laws.specs.BreakLaw.{BreakLaw}
use Rattle.journal_laws.specs.Laws.{BreakLawHolds}
use Rattle.journal_laws.specs.Progress.{by_tick, ticking}
use Rattle.journal_laws.proofs.Breaks.{Serves, come_serves, is_later, left_later, serves_later}
use Rattle.journal_laws.proofs.BreaksCome.{keep_by}
use Rattle.journal_laws.proofs.BreakTicks.{OwnBreaks, law_off, own_breaks}
use Rattle.journal_laws.proofs.Lists.{no_split_at}
use Rattle.journal_laws.proofs.Moves.{Joins, KeepsParts, host_keeps, later_keeps}
use Rattle.journal_laws.proofs.Orders.{turns_are}
use Rattle.journal_laws.proofs.PaceCycles.{IsOffTicks, change_off, off_pending}
use Rattle.journal_laws.proofs.PaceTicks.{made}
use Rattle.journal_laws.proofs.Recorded.{one_more}
use Rattle.journal_laws.proofs.Takes.{flag_at, flag_of}
use Rattle.journal_laws.proofs.Truths.{and_both}

-- moves that leave breaks alone, and whose entries no tick made
record IsQuiet (f g : Fabric) : Type 0 where
  pending : g.pending ≡ f.pending
  left : g.left ≡ f.left
  cycle : g.cycle ≡ f.cycle
  more : List Entry
  journal : g.journal ≡ f.journal ++ more
  off : AllByRecursion (λ (e : Entry). by_tick e.what ≡ false) more

quiet_same : (f g : Fabric) → g.pending ≡ f.pending → g.left ≡ f.left → g.cycle ≡ f.cycle → g.journal ≡ f.journal → IsQuiet f g
quiet_same f g p l c j = record { pending = p; left = l; cycle = c; more = []; journal = j ∙ sym (append-nil f.journal); off = tt }

quiet_then : (f g h : Fabric) → IsQuiet f g → IsQuiet g h → IsQuiet f h
quiet_then f g h a b = record {
  pending = b.pending ∙ a.pending;
  left = b.left ∙ a.left;
  cycle = b.cycle ∙ a.cycle;
  more = a.more ++ b.more;
  journal = b.journal ∙ ap (λ j. j ++ b.more) a.journal ∙ append_assoc f.journal a.more b.more;
  off = all_append (λ (e : Entry). by_tick e.what ≡ false) a.more b.more a.off b.off;
}

quiet_joins : Joins IsQuiet
quiet_joins = record { itself = λ f. quiet_same f f refl refl refl refl; then = quiet_then }

entered_quiet : (by act : ℕ) (what : What) (f : Fabric) → by_tick what ≡ false → IsQuiet f (entered by act what f)
entered_quiet by act what f t = record { pending = off_pending by what f.pending t; left = refl; cycle = refl; more = entry_of f.cycle by act what ∷ []; journal = refl; off = (t, tt) }

some_quiet : (by act : ℕ) (o : Option What) (f : Fabric) → IsOffTicks o → IsQuiet f (entered_some by act o f)
unfolding IsOffTicks
some_quiet by act None f h = quiet_same f f refl refl refl refl
some_quiet by act (Some what) f h = entered_quiet by act what f h

quiet_parts : (cores : List CoreAt) → KeepsParts IsQuiet cores
quiet_parts cores = record {
  devices = λ f d. quiet_same f (record f { devices = d }) refl refl refl refl;
  byte = λ f uart byte. entered_quiet no_core 0 (Left uart byte) f refl;
  latch = λ core f.
      let new = line_driven f core in
      let old = or_low (slice_get f.lines core) in
      some_quiet core (acts_of (slice_get cores core)) (line_change new old) f (change_off new old);
}

-- between two events: the breaks below a cycle have come, each is pending or was taken, and none was passed over
record ServedIn (b : BoardFile) (views : List View) (inputs : Inputs) (n : ℕ) (w : World) : Type 0 where
  reached : Reached b views inputs w
  left : w.fabric.left ≡ filter (is_later n) b.events
  serves : (i : ℕ) (s : CoreAt) → slice_get w.cores i ≡ Some s → Serves b.events n i s.acts w.fabric
  law : BreakLaw b.events views w.fabric.journal

quiet_served : (b : BoardFile) (views : List View) (n : ℕ) (i : ℕ) (s : CoreAt) (f g : Fabric) → IsQuiet f g → Serves b.events n i s.acts f → Serves b.events n i s.acts g
quiet_served b views n i s f g q k = serves_later b.events n i s.acts s.acts f g q.more (omega arith) (λ kind h. ap (λ (ps : List Breaks). flag_at ps i kind) q.pending ∙ h) q.journal k

devices_served : (b : BoardFile) (views : List View) (inputs : Inputs) (c : ℕ) (w v : World) → Step w Devices v → w.fabric.cycle ≡ c → ServedIn b views inputs c w → ServedIn b views inputs (c + 1) v
devices_served b views inputs c w v h e k =
    let f = w.fabric in
    let q : IsQuiet (breaks_come f) v.fabric = subst (λ (x : World). IsQuiet (breaks_come f) x.fabric) (sym h) (later_keeps IsQuiet w.cores quiet_joins (quiet_parts w.cores) f) in
    let left : f.left ≡ filter (is_later f.cycle) b.events = k.left ∙ ap (λ n. filter (is_later n) b.events) (sym e) in
    let pending = (each_state_holds.holds b views inputs w k.reached).pending in
    record {
      reached = one_more b views inputs w v Devices k.reached h;
      left = q.left ∙ left_later b.events f.left f.cycle left ∙ ap (λ n. filter (is_later (n + 1)) b.events) e;
      serves = λ i s there.
          let was : slice_get w.cores i ≡ Some s = ap (λ (x : World). slice_get x.cores i) (sym h) ∙ there in
          let within : i < length f.pending = subst (λ n. i < n) (sym pending) (slice_get_within w.cores i s was) in
          let now = come_serves b.events i s.acts f left within (subst (λ n. Serves b.events n i s.acts f) (sym e) (k.serves i s was)) in
          quiet_served b views (c + 1) i s (breaks_come f) v.fabric q (subst (λ n. Serves b.events (n + 1) i s.acts (breaks_come f)) e now);
      law = subst (BreakLaw b.events views) (sym q.journal) (law_off b.events views f.journal q.more q.off k.law);
    }

host_served : (b : BoardFile) (views : List View) (inputs : Inputs) (n : ℕ) (w v : World) → Step w Host v → ServedIn b views inputs n w → ServedIn b views inputs n v
host_served b views inputs n w v h k =
    let f = w.fabric in
    let q : IsQuiet f v.fabric = subst (λ (x : World). IsQuiet f x.fabric) (sym h) (host_keeps IsQuiet quiet_joins (λ f link item. entered_quiet no_core 0 (HostSent link item) f refl) (λ f link item. entered_quiet no_core 0 (HostGot link item) f refl) f (length f.rows)) in
    record {
      reached = one_more b views inputs w v Host k.reached h;
      left = q.left ∙ k.left;
      serves = λ i s there. quiet_served b views n i s f v.fabric q (k.serves i s (ap (λ (x : World). slice_get x.cores i) (sym h) ∙ there));
      law = subst (BreakLaw b.events views) (sym q.journal) (law_off b.events views f.journal q.more q.off k.law);
    }

next_served : (b : BoardFile) (views : List View) (inputs : Inputs) (n : ℕ) (w v : World) → Step w Next v → ServedIn b views inputs n w → ServedIn b views inputs n v
next_served b views inputs n w v h k = record {
  reached = one_more b views inputs w v Next k.reached h;
  left = ap (λ (x : World). x.fabric.left) h ∙ k.left;
  serves = λ i s there. subst (λ (x : World). Serves b.events n i s.acts x.fabric) (sym h) (serves_later b.events n i s.acts s.acts w.fabric _ [] (omega arith) (λ kind x. x) (sym (append-nil w.fabric.journal)) (k.serves i s (ap (λ (x : World). slice_get x.cores i) (sym h) ∙ there)));
  law = subst (λ (x : World). BreakLaw b.events views x.fabric.journal) (sym h) k.law;
}

serves_at : (b : BoardFile) (views : List View) (n core : ℕ) (w v : World) (h : TickStep core w v) (o : OwnBreaks b.events views core h.was w.fabric h.is v.fabric) (i : ℕ) (s : CoreAt) → w.fabric.cycle + 1 ≡ n
    → ((i : ℕ) (s : CoreAt) → slice_get w.cores i ≡ Some s → Serves b.events n i s.acts w.fabric) → ((i ≡ core) × (h.is ≡ s)) ⊎ ((i ≡ core → ⊥) × (slice_get w.cores i ≡ Some s)) → Serves b.events n i s.acts v.fabric
serves_at b views n core w v h o i s e k (inl p) =
    subst (λ i. Serves b.events n i s.acts v.fabric) (sym p.0) (subst (λ (s : CoreAt). Serves b.events n core s.acts v.fabric) p.1 (subst (λ n. Serves b.events n core h.is.acts v.fabric) e o.serves))
serves_at b views n core w v h o i s e k (inr p) =
    serves_later b.events n i s.acts s.acts w.fabric v.fabric (made w.fabric.cycle core h.was.acts o.es) (omega arith) (λ kind x. ap (λ (p : Option Breaks). flag_of kind (or_none p)) (o.out.pending i (λ z. p.0 (sym z))) ∙ x) o.out.journal (k i s p.1)

tick_served : (b : BoardFile) (views : List View) (inputs : Inputs) (n core : ℕ) (w v : World) → Step w (Tick core) v → w.fabric.cycle + 1 ≡ n → ServedIn b views inputs n w → (v.fabric.cycle ≡ w.fabric.cycle) × ServedIn b views inputs n v
tick_served b views inputs n core w v h e k =
    let told = (keeps_runs w w [] refl b views inputs k.reached).told in
    let o = own_breaks b.events views core (due h.was.view (shown w.fabric core)) h.was w.fabric h.is v.fabric refl h.may (λ first q. told.each core h.was first h.there q) (subst (λ n. Serves b.events n core h.was.acts w.fabric) (sym e) (k.serves core h.was h.there)) k.law in (
      o.out.cycle,
      record {
        reached = one_more b views inputs w v (Tick core) k.reached h;
        left = o.out.left ∙ k.left;
        serves = λ i s there. serves_at b views n core w v h o i s e k.serves (which core i w v h s (cases_eq i core) there);
        law = o.law;
      },
    )

ticks_served : (b : BoardFile) (views : List View) (inputs : Inputs) (c : ℕ) (cores : List ℕ) (w v : World) → Steps w (map Tick cores ++ Next ∷ []) v → w.fabric.cycle ≡ c → ServedIn b views inputs (c + 1) w → (v.fabric.cycle ≡ c + 1) × ServedIn b views inputs (c + 1) v
ticks_served b views inputs c [] w v h e k =
    let n = next_served b views inputs (c + 1) w h.0 h.1 k in
    let cycle : h.0.fabric.cycle ≡ c + 1 = ap (λ (x : World). x.fabric.cycle) h.1 ∙ ap (λ n. n + 1) e in
    (ap (λ (x : World). x.fabric.cycle) h.2 ∙ cycle, subst (ServedIn b views inputs (c + 1)) (sym h.2) n)
ticks_served b views inputs c (core ∷ cores) w v h e k =
    let t = tick_served b views inputs (c + 1) core w h.0 h.1 (ap (λ n. n + 1) e) k in
    ticks_served b views inputs c cores h.0 v h.2 (t.0 ∙ e) t.1

-- before a cycle of this number, the breaks of earlier cycles have come
record ServedAt (b : BoardFile) (views : List View) (inputs : Inputs) (cycle : ℕ) (w : World) : Type 0 where
  cycle_is : w.fabric.cycle ≡ cycle
  served : ServedIn b views inputs cycle w

cycle_served : (b : BoardFile) (views : List View) (inputs : Inputs) (s : Schedule) (cycle : ℕ) (w v : World) → Steps w (events_of s cycle) v → ServedAt b views inputs cycle w → ServedAt b views inputs (cycle + 1) v
cycle_served b views inputs s cycle w v h k =
    let a = h.0 in
    let e = h.2.0 in
    let ca : a.fabric.cycle ≡ cycle = ap (λ (x : World). x.fabric.cycle) h.1 ∙ (done_enters w.cores w.fabric).cycle ∙ k.cycle_is in
    let ce : e.fabric.cycle ≡ cycle = ap (λ (x : World). x.fabric.cycle) h.2.1 ∙ (moves_enter a.fabric (length a.fabric.rows)).cycle ∙ ca in
    let t = ticks_served b views inputs cycle (ticking s.turn s.clocks cycle) e v (subst (λ es. Steps e (es ++ Next ∷ []) v) (turns_are s cycle) h.2.2) ce
    (host_served b views inputs (cycle + 1) a e h.2.1 (devices_served b views inputs cycle w a h.1 k.cycle_is k.served)) in
    record { cycle_is = t.0; served = t.1 }

cycles_served : (b : BoardFile) (views : List View) (inputs : Inputs) (s : Schedule) (cycle n : ℕ) (w v : World) → Steps w (cycles_of s cycle n) v → ServedAt b views inputs cycle w → ServedAt b views inputs (cycle + n) v
cycles_served b views inputs s cycle zero w v h k =
    let e : cycle ≡ cycle + 0 = omega arith in
    subst (λ c. ServedAt b views inputs c v) e (subst (ServedAt b views inputs cycle) (sym h) k)
cycles_served b views inputs s cycle (suc n) w v h k =
    let m = steps_split w v (cycles_of s cycle n) (events_of s (cycle + n)) h in
    let e : cycle + n + 1 ≡ cycle + suc n = omega arith in
    subst (λ c. ServedAt b views inputs c v) e (cycle_served b views inputs s (cycle + n) m.0 v m.2 (cycles_served b views inputs s cycle n w m.0 m.1 k))

-- before the first cycle all breaks are left, and none has come

all_later : (rs : List EventRow) → filter (is_later 0) rs ≡ rs
all_later [] = refl
all_later (r ∷ rs) = keep_by (is_later 0) r rs true (ap not (le-ltb r.cycle 0 (omega arith))) ∙ ap (λ xs. r ∷ xs) (all_later rs)

none_come : (P : EventRow → Type 0) (i : ℕ) (kind : Bool) (rs : List EventRow) → AllByRecursion (λ (r : EventRow). is_break i kind r && nat_lt r.cycle 0 ≡ true → P r) rs
none_come P i kind [] = tt
none_come P i kind (r ∷ rs) = ((λ h. absurd (omega (arith, ltb-true r.cycle 0 (and_both (is_break i kind r) (nat_lt r.cycle 0) h).1))), none_come P i kind rs)

start_served : (b : BoardFile) (views : List View) (inputs : Inputs) (w : World) → Start b views inputs w → ServedAt b views inputs 0 w
start_served b views inputs w s = record {
  cycle_is = s.cycle;
  served = record {
    reached = record { first = w; events = []; began = s; ran = refl };
    left = s.left ∙ sym (all_later b.events);
    serves = λ i c there. record { each = λ kind. none_come _ i kind b.events };
    law = record { each = λ before later e first q t v. absurd (no_split_at before later e (sym s.journal ∙ q)) };
  };
}

pub break_law_holds : BreakLawHolds
break_law_holds = record {
  law = λ b views inputs count w r.
      let first = subst (λ n. ServedAt b views inputs n r.first) (sym r.began.cycle) (start_served b views inputs r.first r.began) in
      (cycles_served b views inputs r.first.schedule r.first.fabric.cycle count r.first w r.ran first).served.law;
}
