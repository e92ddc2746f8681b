-- The entries that an act makes, and what they leave.
use Rattle.std.proofs.Common.{◌≡◌, ℕ, ◌==◌, List, [], ◌∷◌, ◌++◌, Option, Some, None, refl, ap, sym, ◌∙◌, slice_get, true, false, option_to_list}
use Rattle.std.specs.List.{AllByRecursion}
use Rattle.std.proofs.lemmas.List.{append-nil, append_assoc, map-append}
use Rattle.isa_step.specs.declared.acts.Act.{Act}
use Rattle.isa_step.specs.declared.acts.Act.TheVariants as acts
use Rattle.isa_step.specs.declared.acts.Action.{Action}
use Rattle.isa_step.specs.declared.acts.Action.TheVariants as action
use Rattle.isa_step.specs.Effects.{Effect}
use Rattle.run_journal.specs.declared.entry.Entry.{Entry}
use Rattle.run_journal.specs.declared.entry.What.{What}
use Rattle.board_machine.specs.Fabric.{Fabric, act_leaves, entered_some, entries_of_action, entry_of, entry_of_act, entry_of_action, is_wait, logged_wait}
use Rattle.board_machine.proofs.Lists.{all_append}
use Rattle.journal_laws.specs.Progress.{by_tick}
use Rattle.journal_laws.proofs.Lists.{cons_append}
use Rattle.journal_laws.proofs.Paces.{kept_more, no_wait}
use Rattle.journal_laws.proofs.PaceTicks.{AllTick, made}
use Rattle.journal_laws.proofs.Takes.{pending_other}

-- the entries of an act are by a tick, and no waits

abbrev pub IsByAct : What → Type 0
IsByAct what = (by_tick what ≡ true) × (is_wait what ≡ false)

pub by_action : (a : Action) → IsByAct (entry_of_action a)
by_action (action.Took t) = (refl, refl)
by_action (action.Got p x) = (refl, refl)
by_action (action.Sent p x) = (refl, refl)
by_action (action.Seen p x) = (refl, refl)
by_action (action.Room p) = (refl, refl)
by_action (action.Missed p b) = (refl, refl)
by_action (action.Read p w) = (refl, refl)
by_action (action.ReadRefused p) = (refl, refl)
by_action (action.Wrote p w) = (refl, refl)
by_action (action.WriteRefused p w) = (refl, refl)

pub by_actions : (o : Option Action) → AllByRecursion IsByAct (option_to_list (entries_of_action o))
by_actions None = tt
by_actions (Some a) = (by_action a, tt)

pub by_act : (a : Act) → AllByRecursion IsByAct (option_to_list (entry_of_act a))
by_act acts.Retired = tt
by_act acts.Slept = ((refl, refl), tt)
by_act (acts.Took t) = tt
by_act (acts.Raised esr) = ((refl, refl), tt)
by_act (acts.Stopped cause) = ((refl, refl), tt)

pub all_tick : (es : List What) → AllByRecursion IsByAct es → AllTick es
all_tick [] h = tt
all_tick (what ∷ es) h = (h.0.0, all_tick es h.1)

-- they leave the wait that is kept
pub none_waits : (i c act : ℕ) (journal : List Entry) (es : List What) → AllByRecursion IsByAct es → logged_wait i (journal ++ made c i act es) ≡ logged_wait i journal
none_waits i c act journal [] h = ap (logged_wait i) (append-nil journal)
none_waits i c act journal (what ∷ es) h =
    let e : Entry = entry_of c i act what in
    ap (logged_wait i) (sym (cons_append journal (made c i act es) e))
    ∙ none_waits i c act (journal ++ e ∷ []) es h.1
    ∙ kept_more i journal e
    ∙ no_wait i e (logged_wait i journal) (e.core == i) refl h.0.1

-- what the entries of a tick leave of a fabric

pub record TickOut (i act : ℕ) (before later : Fabric) (es : List What) : Type 0 where
  pub journal : later.journal ≡ before.journal ++ made before.cycle i act es
  pub cycle : later.cycle ≡ before.cycle
  pub rows : later.rows ≡ before.rows
  pub bus : later.bus ≡ before.bus
  pub left : later.left ≡ before.left
  pub pending : (k : ℕ) → (i ≡ k → ⊥) → slice_get later.pending k ≡ slice_get before.pending k

pub still_out : (i act : ℕ) (f : Fabric) → TickOut i act f f []
still_out i act f = record { journal = sym (append-nil f.journal); cycle = refl; rows = refl; bus = refl; left = refl; pending = λ k n. refl }

pub some_out : (i act : ℕ) (o : Option What) (f : Fabric) → TickOut i act f (entered_some i act o f) (option_to_list o)
some_out i act None f = still_out i act f
some_out i act (Some what) f = record { journal = refl; cycle = refl; rows = refl; bus = refl; left = refl; pending = λ k n. pending_other i k what f.pending n }

pub out_then : (i act : ℕ) (f g h : Fabric) (xs ys : List What) → TickOut i act f g xs → TickOut i act g h ys → TickOut i act f h (xs ++ ys)
out_then i act f g h xs ys a b = record {
  journal = b.journal ∙ ap (λ j. j ++ made g.cycle i act ys) a.journal ∙ ap (λ c. (f.journal ++ made f.cycle i act xs) ++ made c i act ys) a.cycle
      ∙ append_assoc f.journal (made f.cycle i act xs) (made f.cycle i act ys) ∙ ap (λ es. f.journal ++ es) (sym (map-append (entry_of f.cycle i act) xs ys));
  cycle = b.cycle ∙ a.cycle;
  rows = b.rows ∙ a.rows;
  bus = b.bus ∙ a.bus;
  left = b.left ∙ a.left;
  pending = λ k n. b.pending k n ∙ a.pending k n;
}

unfoldable pub effect_whats : Effect → List What
effect_whats effect = option_to_list (entries_of_action effect.action) ++ option_to_list (entry_of_act effect.done.act)

pub act_out : (i act : ℕ) (effect : Effect) (f : Fabric) → TickOut i act f (act_leaves i act effect f) (effect_whats effect)
unfolding effect_whats
act_out i act effect f =
    let g = entered_some i act (entries_of_action effect.action) f in
    out_then i act f g (act_leaves i act effect f) _ _ (some_out i act (entries_of_action effect.action) f) (some_out i act (entry_of_act effect.done.act) g)

pub effect_acts : (effect : Effect) → AllByRecursion IsByAct (effect_whats effect)
unfolding effect_whats
effect_acts effect = all_append IsByAct _ _ (by_actions effect.action) (by_act effect.done.act)
