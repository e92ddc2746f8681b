-- Every step of the board machine keeps the link law.
use Rattle.std.proofs.Common.{◌≡◌, ℕ, zero, suc, List, [], ◌∷◌, length, map, Option, Some, None, refl, ap, sym, ◌∙◌, subst, inl, inr, slice_get, Bool, true, false, cond}
use Rattle.axi_link.specs.declared.item.Item.{Item}
use Rattle.axi_link.specs.Channel.{Channel, empty}
use Rattle.core_regs.specs.declared.causes.Take.{Take}
use Rattle.core_regs.specs.declared.causes.WaitOn.{WaitOn}
use Rattle.isa_step.specs.declared.acts.Act.{Act}
use Rattle.isa_step.specs.declared.acts.Act.TheVariants as acts
use Rattle.isa_step.specs.Shown.{Shown}
use Rattle.isa_step.specs.Effects.{View, Effect, Due, Does, Waits, Sleeps, Ends, Stops}
use Rattle.isa_step.specs.Due.{due}
use Rattle.board_file.specs.declared.board.BoardFile.{BoardFile}
use Rattle.board_file.specs.declared.board.LinkRow.{LinkRow}
use Rattle.run_journal.specs.declared.entry.Entry.{Entry}
use Rattle.run_journal.specs.declared.entry.What.{What}
use Rattle.run_journal.specs.declared.entry.What.TheVariants.{Got, Sent, Seen, Room, Missed, Took, Wait, HostSent, HostGot, Left}
use Rattle.board_machine.specs.declared.events.Event.{Event}
use Rattle.board_machine.specs.declared.events.Event.TheVariants.{Devices, Host, Tick, Next}
use Rattle.board_machine.specs.declared.events.HostPart.{HostPart}
use Rattle.board_machine.specs.declared.events.HostPart.TheVariants.{Sends, Takes, Nothing}
use Rattle.board_machine.specs.DeviceMoves.{line_change, line_driven}
use Rattle.board_machine.specs.Fabric.{Fabric, act_leaves, entered, entered_some, entries_of_action, entry_of, entry_of_act, first_in, got_of, host_moves, is_logged, link_from, link_to, move_by, next_of, next_sent, no_core, or_low, part_at, room_in, sent_of, shown}
use Rattle.board_machine.specs.World.{CoreAt, Inputs, Start, Step, Steps, TickMay, World, acts_of}
use Rattle.board_machine.proofs.Lasting.{step_kept}
use Rattle.journal_laws.specs.LinkLaw.{LinkLaw, MayStand}
use Rattle.journal_laws.specs.Laws.{LinkLawHolds}
use Rattle.journal_laws.proofs.Asking.{Agrees, AgreesIf, ShowsNone, act_splits, wait_shows}
use Rattle.journal_laws.proofs.Moves.{Joins, KeepsParts, devices_keep}
use Rattle.journal_laws.proofs.Links.{IsValid, entry_valid, start_valid, stands_empty, stands_first, stands_full, stands_room}

abbrev pub IsValidIn : Fabric → Type 0
IsValidIn f = IsValid f.rows f.links f.journal

-- what agrees with what a fabric shows stands in its journal

pub none_stands : (f : Fabric) (core port : ℕ) (full : Bool) → IsValidIn f → ShowsNone (shown f core) port full → MayStand f.rows f.journal core (Missed port full)
none_stands f core port true k h = stands_full f.rows f.links f.journal core port k.linked h
none_stands f core port false k h = stands_empty f.rows f.links f.journal core port k.linked h

agrees_stands : (f : Fabric) (core : ℕ) (what : What) → IsValidIn f → Agrees (shown f core) what → MayStand f.rows f.journal core what
agrees_stands f core (Got port item) k h = stands_first f.rows f.links f.journal (link_to f.rows core port) item k.linked h
agrees_stands f core (Seen port item) k h = stands_first f.rows f.links f.journal (link_to f.rows core port) item k.linked h
agrees_stands f core (Sent port item) k h = stands_room f.rows f.links f.journal (link_from f.rows core port) k.linked h
agrees_stands f core (Room port) k h = stands_room f.rows f.links f.journal (link_from f.rows core port) k.linked h
agrees_stands f core (Missed port full) k h = none_stands f core port full k h
agrees_stands f core (Wait on) k h = none_stands f core on.port on.full k h
agrees_stands f core (Took t) k h = elim h [ ]
agrees_stands f core (HostSent link item) k h = elim h [ ]
agrees_stands f core (HostGot link item) k h = elim h [ ]
agrees_stands f core _ k h = tt

entered_valid : (core act : ℕ) (what : What) (f : Fabric) → MayStand f.rows f.journal core what → IsValidIn f → IsValidIn (entered core act what f)
entered_valid core act what f s k = entry_valid f.rows f.links f.journal (entry_of f.cycle core act what) s k

agreed_valid : (core act : ℕ) (o : Option What) (f : Fabric) → AgreesIf (shown f core) o → IsValidIn f → IsValidIn (entered_some core act o f)
agreed_valid core act None f h k = k
agreed_valid core act (Some what) f h k = entered_valid core act what f (agrees_stands f core what k h) k

-- entries that touch no link
abbrev IsOffLinks : Option What → Type 0
IsOffLinks o = (s : Shown) → AgreesIf s o

act_off : (a : Act) → IsOffLinks (entry_of_act a)
act_off acts.Retired s = tt
act_off acts.Slept s = tt
act_off (acts.Took t) s = tt
act_off (acts.Raised esr) s = tt
act_off (acts.Stopped cause) s = tt

off_valid : (core act : ℕ) (o : Option What) (f : Fabric) → IsOffLinks o → IsValidIn f → IsValidIn (entered_some core act o f)
off_valid core act o f h k = agreed_valid core act o f (h (shown f core)) k

-- a tick

act_valid : (core act : ℕ) (effect : Effect) (f : Fabric) → AgreesIf (shown f core) (entries_of_action effect.action) → IsValidIn f → IsValidIn (act_leaves core act effect f)
act_valid core act effect f h k =
    let g = entered_some core act (entries_of_action effect.action) f in
    off_valid core act (entry_of_act effect.done.act) g (act_off effect.done.act) (agreed_valid core act (entries_of_action effect.action) f h k)

wait_valid : (core act : ℕ) (on : WaitOn) (f : Fabric) (kept : Bool) → ShowsNone (shown f core) on.port on.full → IsValidIn f → IsValidIn (cond kept f (entered core act (Wait on) f))
wait_valid core act on f true h k = k
wait_valid core act on f false h k = entered_valid core act (Wait on) f (none_stands f core on.port on.full k h) k

took_valid : (core act : ℕ) (t : Take) (f : Fabric) → IsValidIn f → IsValidIn (entered core act (Took t) f)
took_valid core act t f k = entered_valid core act (Took t) f tt k

done_valid : (core act : ℕ) (v : View) (effect : Effect) (f : Fabric) → due v (shown f core) ≡ Does effect → IsValidIn f → IsValidIn (act_leaves core act effect f)
done_valid core act v effect f e k = elim (act_splits v (shown f core) effect e) [
  | inl t ↦ subst (λ effect. IsValidIn (act_leaves core act effect f)) (sym t.is) (took_valid core act t.take f k)
  | inr i ↦ act_valid core act effect f i.agrees k
]

tick_valid : (core : ℕ) (d : Due) (old : CoreAt) (before : Fabric) (new : CoreAt) (later : Fabric) → due old.view (shown before core) ≡ d → TickMay core d old before new later → IsValidIn before → IsValidIn later
tick_valid core (Does effect) old before new later e (inl a) k = subst IsValidIn (sym a.fabric) (done_valid core old.acts old.view effect before e k)
tick_valid core (Does effect) old before new later e (inr i) k = subst IsValidIn (sym i.fabric) k
tick_valid core (Waits port full) old before new later e (inl i) k =
    let on : WaitOn = record { port = port; full = full } in
    subst IsValidIn (sym i.fabric) (wait_valid core old.acts on before (is_logged core old.acts before.journal) (wait_shows old.view (shown before core) port full e) k)
tick_valid core (Waits port full) old before new later e (inr i) k = subst IsValidIn (sym i.fabric) k
tick_valid core Sleeps old before new later e i k = subst IsValidIn (sym i.fabric) k
tick_valid core Ends old before new later e i k = subst IsValidIn (sym i.fabric) k
tick_valid core (Stops cause) old before new later e i k = subst IsValidIn (sym i.fabric) k

-- the host's moves

room_found : (t : Bool) (o : Option Item) (x : Item) → cond {A = Option Item} t o None ≡ Some x → t ≡ true
room_found true o x h = refl
room_found false o x h = cc

sent_valid : (link : ℕ) (o : Option Item) (f : Fabric) → next_sent f link ≡ o → IsValidIn f → IsValidIn (entered_some no_core 0 (sent_of link o) f)
sent_valid link None f h k = k
sent_valid link (Some x) f h k = entered_valid no_core 0 (HostSent link x) f (stands_room f.rows f.links f.journal (Some link) k.linked (room_found (room_in (slice_get f.links link)) (next_of (slice_get f.feeds link)) x h)) k

got_valid : (link : ℕ) (o : Option Item) (f : Fabric) → first_in (slice_get f.links link) ≡ o → IsValidIn f → IsValidIn (entered_some no_core 0 (got_of link o) f)
got_valid link None f h k = k
got_valid link (Some x) f h k = entered_valid no_core 0 (HostGot link x) f (stands_first f.rows f.links f.journal (Some link) x k.linked h) k

part_valid : (link : ℕ) (part : HostPart) (f : Fabric) → IsValidIn f → IsValidIn (entered_some no_core 0 (move_by f link part) f)
part_valid link Sends f k = sent_valid link (next_sent f link) f refl k
part_valid link Takes f k = got_valid link (first_in (slice_get f.links link)) f refl k
part_valid link Nothing f k = k

host_valid : (f : Fabric) (n : ℕ) → IsValidIn f → IsValidIn (host_moves f n)
host_valid f zero k = k
host_valid f (suc n) k = let g = host_moves f n in part_valid n (part_at (slice_get g.rows n)) g (host_valid f n k)

-- the step of the devices

KeepsLaw : Fabric → Fabric → Type 0
KeepsLaw f g = IsValidIn f → IsValidIn g

law_joins : Joins KeepsLaw
unfolding KeepsLaw
law_joins = record { itself = λ f k. k; then = λ f g h a b k. b (a k) }

change_off : (new old : Bool) → IsOffLinks (line_change new old)
change_off true true s = tt
change_off true false s = tt
change_off false true s = tt
change_off false false s = tt

law_parts : (cores : List CoreAt) → KeepsParts KeepsLaw cores
unfolding KeepsLaw
law_parts cores = record {
  devices = λ f d k. k;
  byte = λ f uart byte k. entered_valid no_core 0 (Left uart byte) f tt k;
  latch = λ core f k.
      let new = line_driven f core in
      let old = or_low (slice_get f.lines core) in
      off_valid core (acts_of (slice_get cores core)) (line_change new old) f (change_off new old) k;
}

-- each step

pub step_valid : (w v : World) (e : Event) → Step w e v → IsValidIn w.fabric → IsValidIn v.fabric
unfolding KeepsLaw
step_valid w v Devices h k = subst (λ (v : World). IsValidIn v.fabric) (sym h) (devices_keep KeepsLaw w.cores law_joins (law_parts w.cores) (λ f k. k) w.fabric k)
step_valid w v Host h k = subst (λ (v : World). IsValidIn v.fabric) (sym h) (host_valid w.fabric (length w.fabric.rows) k)
step_valid w v (Tick core) h k = tick_valid core (due h.was.view (shown w.fabric core)) h.was w.fabric h.is v.fabric refl h.may k
step_valid w v Next h k = subst (λ (v : World). IsValidIn v.fabric) (sym h) k

pub steps_valid : (w v : World) (es : List Event) → Steps w es v → IsValidIn w.fabric → IsValidIn v.fabric
steps_valid w v [] h k = subst (λ (v : World). IsValidIn v.fabric) (sym h) k
steps_valid w v (e ∷ es) h k = steps_valid h.0 v es h.2 (step_valid w h.0 e h.1 k)

-- rows never change
pub steps_rows : (w v : World) (es : List Event) → Steps w es v → v.fabric.rows ≡ w.fabric.rows
steps_rows w v [] h = ap (λ (x : World). x.fabric.rows) h
steps_rows w v (e ∷ es) h = steps_rows h.0 v es h.2 ∙ (step_kept w h.0 e h.1).rows

by_fields : (rows first : List LinkRow) (links : List Channel) (journal : List Entry) → first ≡ rows → links ≡ map (λ (r : LinkRow). empty r.depth) rows → journal ≡ [] → IsValid first links journal
by_fields rows first links journal r l j = rw (r, l, j) (start_valid rows)

pub start_valid_in : (b : BoardFile) (views : List View) (inputs : Inputs) (w : World) → Start b views inputs w → IsValidIn w.fabric
start_valid_in b views inputs w s = by_fields b.links w.fabric.rows w.fabric.links w.fabric.journal s.has_rows s.links s.journal

pub link_law_holds : LinkLawHolds
link_law_holds = record {
  law = λ b views inputs w r.
      let all = steps_valid r.first w r.events r.ran (start_valid_in b views inputs r.first r.began) in
      subst (λ rows. LinkLaw rows w.fabric.journal) (steps_rows r.first w r.events r.ran ∙ r.began.has_rows) all.law;
}
