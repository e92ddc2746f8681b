-- A core's account of its acts, its line and its breaks, and what an entry leaves of it.
use Rattle.std.proofs.Common.{◌≡◌, ℕ, zero, suc, ◌+◌, ◌<◌, ◌≤◌, ◌==◌, ◌&&◌, List, [], ◌∷◌, ◌++◌, length, filter, flat_map, Option, Some, None, refl, ap, sym, ◌∙◌, arith, slice_get, Bool, true, false, nat_lt}
use Rattle.std.specs.List.{fold, list_any}
use Rattle.std.proofs.lemmas.Bool.{eq-eqb, ne_eqb, lt-ltb, le-ltb}
use Rattle.std.proofs.lemmas.List.Sums.{fold-append}
use Rattle.isa_step.specs.declared.acts.Action.{Action}
use Rattle.isa_step.specs.declared.acts.Breaks.{Breaks}
use Rattle.isa_step.specs.Effects.{View}
use Rattle.isa_step.specs.History.{one_more, state_after}
use Rattle.board_file.specs.declared.board.EventRow.{EventRow}
use Rattle.run_journal.specs.declared.entry.Entry.{Entry}
use Rattle.run_journal.specs.declared.entry.What.{What}
use Rattle.run_journal.specs.declared.entry.What.TheVariants.{Took}
use Rattle.run_journal.specs.Files.{is_of_act, is_response, tape}
use Rattle.board_machine.specs.Places.{set_some}
use Rattle.board_machine.specs.Fabric.{Fabric, cleared, entered, entry_of, line_set, line_told, or_none, pending_after}
use Rattle.board_machine.specs.History.{actions_in, responses, view_told}
use Rattle.board_machine.proofs.Journals.{note_tapes, of_note}
use Rattle.board_machine.proofs.Lists.{and_false_left, and_false_right, slice_get_set_same, slice_get_set_other}
use Rattle.journal_laws.specs.Progress.{as_one}
use Rattle.journal_laws.specs.TakeLaw.{IsRightAct, breaks_of, breaks_taken, changes_line, has_break, high, is_change, is_rise, takes_break}
use Rattle.journal_laws.proofs.Lists.{filter_more, filter_skips}

unfoldable pub flag_of : Bool → Breaks → Bool
flag_of true b = b.nonmaskable
flag_of false b = b.maskable

-- whether a break of a kind is pending
abbrev pub flag_at : List Breaks → ℕ → Bool → Bool
flag_at pending core kind = flag_of kind (or_none (slice_get pending core))

pub record Account (breaks : List EventRow) (first : View) (core acts : ℕ) (line : Bool) (f : Fabric) : Type 0 where
  pub right : (act : ℕ) → act < acts → IsRightAct breaks first f.journal core act
  pub has_line : slice_get f.lines core ≡ Some line
  pub is_high : (act : ℕ) → acts ≤ act → high f.journal core act ≡ line
  pub enough : (kind : Bool) → breaks_taken f.journal core kind + as_one (flag_at f.pending core kind) + breaks_of f.left core kind ≤ breaks_of breaks core kind
  pub come : (kind : Bool) → flag_at f.pending core kind ≡ true → has_break breaks core kind f.cycle ≡ true
  pub all_from : (p : EventRow → Bool) → list_any p f.left ≡ true → list_any p breaks ≡ true

-- journals that say the same of a core's first acts

state_same : (v : View) (t u : ℕ → List Action) (k : ℕ) → ((j : ℕ) → j < k → t j ≡ u j) → state_after v t k ≡ state_after v u k
unfolding state_after
state_same v t u zero h = refl
state_same v t u (suc k) h = ap (λ es. one_more es (state_after v t k)) (h k (omega arith)) ∙ ap (one_more (u k)) (state_same v t u k (λ j l. h j (omega (arith, l))))

actions_of : List Entry → List Action
actions_of es = flat_map (λ (e : Entry). actions_in e.what) es

pub determined_same : (first : View) (a b : List Entry) (core k : ℕ) → ((j : ℕ) → j < k → tape b core j ≡ tape a core j) → view_told first b core k ≡ view_told first a core k
unfolding actions_of
determined_same first a b core k h = state_same first (responses b core) (responses a core) k (λ j l. ap actions_of (h j l))

pub right_same : (breaks : List EventRow) (first : View) (a b : List Entry) (core k : ℕ) → ((j : ℕ) → j ≤ k → tape b core j ≡ tape a core j) → high b core k ≡ high a core k → IsRightAct breaks first a core k → IsRightAct breaks first b core k
right_same breaks first a b core k t h r = record {
  view = r.view;
  determined = determined_same first a b core k (λ j l. t j (omega (arith, l))) ∙ r.determined;
  takes = rw (t k (omega arith), h) r.takes;
  passes = rw (t k (omega arith), h) r.passes;
}

-- an entry that says nothing of a core

pub record IsForeign (core : ℕ) (e : Entry) : Type 0 where
  pub of : (act : ℕ) → is_of_act core act e ≡ false
  pub line : (act : ℕ) → changes_line core act e ≡ false
  pub take : (kind : Bool) → (e.core == core && takes_break kind e.what) ≡ false

foreign_account : (breaks : List EventRow) (first : View) (core acts : ℕ) (line : Bool) (f : Fabric) (by act : ℕ) (what : What) → IsForeign core (entry_of f.cycle by act what)
    → slice_get (line_set by (line_told what) f.lines) core ≡ slice_get f.lines core → slice_get (pending_after by what f.pending) core ≡ slice_get f.pending core
    → Account breaks first core acts line f → Account breaks first core acts line (entered by act what f)
foreign_account breaks first core acts line f by act what n l p a =
    let e : Entry = entry_of f.cycle by act what in
    let t : (k : ℕ) → tape (f.journal ++ e ∷ []) core k ≡ tape f.journal core k = λ k. filter_skips (is_of_act core k) f.journal e (n.of k) in
    let h : (k : ℕ) → high (f.journal ++ e ∷ []) core k ≡ high f.journal core k = λ k. ap (λ es. fold (λ b (e : Entry). is_rise e.what) false es) (filter_skips (changes_line core k) f.journal e (n.line k)) in
    let c : (kind : Bool) → breaks_taken (f.journal ++ e ∷ []) core kind ≡ breaks_taken f.journal core kind = λ kind. ap length (filter_skips (λ (e : Entry). e.core == core && takes_break kind e.what) f.journal e (n.take kind)) in
    let g : (kind : Bool) → flag_at (pending_after by what f.pending) core kind ≡ flag_at f.pending core kind = λ kind. ap (λ (o : Option Breaks). flag_of kind (or_none o)) p in
    record {
      right = λ k b. right_same breaks first f.journal (f.journal ++ e ∷ []) core k (λ j m. t j) (h k) (a.right k b);
      has_line = l ∙ a.has_line;
      is_high = λ k m. h k ∙ a.is_high k m;
      enough = λ kind. rw (c kind, g kind) (a.enough kind);
      come = λ kind m. a.come kind (sym (g kind) ∙ m);
      all_from = a.all_from;
    }

other_foreign : (core : ℕ) (e : Entry) → (e.core ≡ core → ⊥) → IsForeign core e
other_foreign core e n = record {
  of = λ k. rw (ne_eqb e.core core n) refl;
  line = λ k. rw (ne_eqb e.core core n) refl;
  take = λ kind. rw (ne_eqb e.core core n) refl;
}

touch_other : {X : Type 0} (g : X → X) (k core : ℕ) (xs : List X) (o : Option X) → slice_get xs k ≡ o → (k ≡ core → ⊥) → slice_get (set_some xs k g o) core ≡ slice_get xs core
touch_other g k core xs None e n = refl
touch_other g k core xs (Some x) e n = slice_get_set_other xs core k (g x) (λ s. n (sym s))

pub pending_other : (by core : ℕ) (what : What) (pending : List Breaks) → (by ≡ core → ⊥) → slice_get (pending_after by what pending) core ≡ slice_get pending core
pending_other by core (Took t) pending n = touch_other (cleared t) by core pending (slice_get pending by) refl n
pending_other by core _ pending n = refl

line_other : (by core : ℕ) (o : Option Bool) (lines : List Bool) → (by ≡ core → ⊥) → slice_get (line_set by o lines) core ≡ slice_get lines core
line_other by core None lines n = refl
line_other by core (Some high) lines n = slice_get_set_other lines core by high (λ s. n (sym s))

-- entries of another core
pub other_account : (breaks : List EventRow) (first : View) (core acts : ℕ) (line : Bool) (f : Fabric) (by act : ℕ) (what : What) → (by ≡ core → ⊥) → Account breaks first core acts line f → Account breaks first core acts line (entered by act what f)
other_account breaks first core acts line f by act what n a =
    foreign_account breaks first core acts line f by act what (other_foreign core (entry_of f.cycle by act what) n) (line_other by core (line_told what) f.lines n) (pending_other by core what f.pending n) a

-- entries that no act made, and that change no line
pub record SaysNothing (what : What) : Type 0 where
  pub response : is_response what ≡ false
  pub change : is_change what ≡ false
  pub take : (kind : Bool) → takes_break kind what ≡ false
  pub latches : line_told what ≡ None
  pub pending : (core : ℕ) (pending : List Breaks) → pending_after core what pending ≡ pending

nothing_foreign : (core : ℕ) (e : Entry) → SaysNothing e.what → IsForeign core e
nothing_foreign core e s = record {
  of = λ k. of_note core k e s.response;
  line = λ k. and_false_right (e.core == core && nat_lt e.act (k + 1)) (is_change e.what) s.change;
  take = λ kind. and_false_right (e.core == core) (takes_break kind e.what) (s.take kind);
}

pub nothing_account : (breaks : List EventRow) (first : View) (core acts : ℕ) (line : Bool) (f : Fabric) (by act : ℕ) (what : What) → SaysNothing what → Account breaks first core acts line f → Account breaks first core acts line (entered by act what f)
nothing_account breaks first core acts line f by act what s a =
    foreign_account breaks first core acts line f by act what (nothing_foreign core (entry_of f.cycle by act what) s) (ap (λ o. slice_get (line_set by o f.lines) core) s.latches) (ap (λ (ps : List Breaks). slice_get ps core) (s.pending by f.pending)) a

-- a change of the core's own line, entered with its number of acts

pub record IsEdge (what : What) (up : Bool) : Type 0 where
  pub response : is_response what ≡ false
  pub change : is_change what ≡ true
  pub rise : is_rise what ≡ up
  pub take : (kind : Bool) → takes_break kind what ≡ false
  pub latches : line_told what ≡ Some up
  pub pending : (core : ℕ) (pending : List Breaks) → pending_after core what pending ≡ pending

pub edge_account : (breaks : List EventRow) (first : View) (core acts : ℕ) (line : Bool) (f : Fabric) (what : What) (up : Bool) → IsEdge what up → Account breaks first core acts line f → Account breaks first core acts up (entered core acts what f)
edge_account breaks first core acts line f what up s a =
    let e : Entry = entry_of f.cycle core acts what in
    let last = λ (es : List Entry). fold (λ b (e : Entry). is_rise e.what) false es in
    let t : (k : ℕ) → tape (f.journal ++ e ∷ []) core k ≡ tape f.journal core k = λ k. note_tapes f.journal e s.response core k in
    let early : (k : ℕ) → k < acts → changes_line core k e ≡ false = λ k l. and_false_left (core == core && nat_lt acts (k + 1)) (is_change what) (and_false_right (core == core) (nat_lt acts (k + 1)) (le-ltb acts (k + 1) (omega (arith, l)))) in
    let late : (k : ℕ) → acts ≤ k → changes_line core k e ≡ true = λ k l. rw (eq-eqb core core refl, lt-ltb acts (k + 1) (omega (arith, l))) s.change in
    let before : (k : ℕ) → k < acts → high (f.journal ++ e ∷ []) core k ≡ high f.journal core k = λ k l. ap last (filter_skips (changes_line core k) f.journal e (early k l)) in
    let now : (k : ℕ) → acts ≤ k → high (f.journal ++ e ∷ []) core k ≡ up = λ k l. ap last (filter_more (changes_line core k) f.journal e true (late k l)) ∙ fold-append (λ b (e : Entry). is_rise e.what) false (filter (changes_line core k) f.journal) (e ∷ []) ∙ s.rise in
    let c : (kind : Bool) → breaks_taken (f.journal ++ e ∷ []) core kind ≡ breaks_taken f.journal core kind = λ kind. ap length (filter_skips (λ (e : Entry). e.core == core && takes_break kind e.what) f.journal e (and_false_right (core == core) (takes_break kind what) (s.take kind))) in
    let p : pending_after core what f.pending ≡ f.pending = s.pending core f.pending in
    record {
      right = λ k b. right_same breaks first f.journal (f.journal ++ e ∷ []) core k (λ j m. t j) (before k b) (a.right k b);
      has_line = ap (λ o. slice_get (line_set core o f.lines) core) s.latches ∙ slice_get_set_same f.lines core line up a.has_line;
      is_high = λ k m. now k m;
      enough = λ kind. rw (c kind, p) (a.enough kind);
      come = λ kind m. a.come kind (ap (λ (ps : List Breaks). flag_at ps core kind) (sym p) ∙ m);
      all_from = a.all_from;
    }
