-- Which wait is kept, event by event.
use Rattle.std.proofs.Common.{◌≡◌, ℕ, List, [], ◌∷◌, ◌++◌, Option, Some, None, refl, ap, sym, ◌∙◌, inl, inr, Bool, true, false, cond, ◌&&◌, ◌==◌}
use Rattle.std.specs.List.{AllByRecursion, fold}
use Rattle.std.proofs.lemmas.List.Sums.{fold-append}
use Rattle.std.proofs.lemmas.Bool.{cases_eq, eq-eqb, ne_eqb}
use Rattle.core_regs.specs.declared.causes.WaitOn.{WaitOn}
use Rattle.isa_step.specs.declared.acts.Act.{Act}
use Rattle.isa_step.specs.declared.acts.Act.TheVariants as acts
use Rattle.isa_step.specs.declared.acts.Action.{Action}
use Rattle.isa_step.specs.declared.acts.Action.TheVariants as action
use Rattle.isa_step.specs.Effects.{Effect}
use Rattle.run_journal.specs.declared.entry.Entry.{Entry}
use Rattle.run_journal.specs.declared.entry.What.{What}
use Rattle.run_journal.specs.declared.entry.What.TheVariants.{Wait}
use Rattle.board_machine.specs.declared.events.Event.{Event}
use Rattle.board_machine.specs.declared.events.Event.TheVariants.{Tick}
use Rattle.board_machine.specs.Fabric.{Fabric, act_leaves, entered, entered_some, entries_of_action, entry_of, entry_of_act, is_wait, kept_after, logged_wait}
use Rattle.board_machine.specs.World.{Step, World}
use Rattle.machine_laws.specs.Stamps.{IsStamped, maker}
use Rattle.machine_laws.proofs.Stamping.{step_stamped}

kept_append : (core : ℕ) (journal es : List Entry) → logged_wait core (journal ++ es) ≡ fold (kept_after core) (logged_wait core journal) es
unfolding logged_wait
kept_append core journal es = fold-append (kept_after core) None journal es

-- an entry that is no wait of this core
and_no : (a : Bool) → a && false ≡ false
and_no true = refl
and_no false = refl

passes : (core : ℕ) (kept : Option ℕ) (e : Entry) → (e.core == core && is_wait e.what) ≡ false → kept_after core kept e ≡ kept
passes core kept e h = rw h refl

not_wait : (core : ℕ) (e : Entry) (what : What) (event : Event) → e.what ≡ what → maker e.core what ≡ event → (event ≡ Tick core → ⊥) → (e.core == core && is_wait what) ≡ false
not_wait core e (Wait on) event q m ne = elim (cases_eq e.core core) [
  | inl same ↦ absurd (ne (sym m ∙ ap Tick same))
  | inr other ↦ rw (ne_eqb e.core core other) refl
]
not_wait core e what event q m ne = and_no (e.core == core)

all_pass : (core cycle : ℕ) (event : Event) (kept : Option ℕ) (es : List Entry) → (event ≡ Tick core → ⊥) → AllByRecursion (IsStamped cycle event) es → fold (kept_after core) kept es ≡ kept
all_pass core cycle event kept [] ne h = refl
all_pass core cycle event kept (e ∷ es) ne h =
    ap (λ k. fold (kept_after core) k es) (passes core kept e (not_wait core e e.what event refl h.0.made ne)) ∙ all_pass core cycle event kept es ne h.1

pub others_keep : (core : ℕ) (w v : World) (event : Event) → (event ≡ Tick core → ⊥) → Step w event v → logged_wait core v.fabric.journal ≡ logged_wait core w.fabric.journal
others_keep core w v event ne h =
    let s = step_stamped w v event h in
    ap (logged_wait core) s.journal ∙ kept_append core w.fabric.journal s.added ∙ all_pass core w.fabric.cycle event (logged_wait core w.fabric.journal) s.added ne s.each

-- entries of acts

unfoldable pub IsNoWait : Option What → Type 0
IsNoWait None = Unit {0}
IsNoWait (Some what) = is_wait what ≡ false

pub action_no_wait : (a : Option Action) → IsNoWait (entries_of_action a)
unfolding IsNoWait
action_no_wait None = tt
action_no_wait (Some (action.Took t)) = refl
action_no_wait (Some (action.Got p x)) = refl
action_no_wait (Some (action.Sent p x)) = refl
action_no_wait (Some (action.Seen p x)) = refl
action_no_wait (Some (action.Room p)) = refl
action_no_wait (Some (action.Missed p b)) = refl
action_no_wait (Some (action.Read a w)) = refl
action_no_wait (Some (action.ReadRefused a)) = refl
action_no_wait (Some (action.Wrote a w)) = refl
action_no_wait (Some (action.WriteRefused a w)) = refl

pub act_no_wait : (a : Act) → IsNoWait (entry_of_act a)
unfolding IsNoWait
act_no_wait acts.Retired = tt
act_no_wait acts.Slept = refl
act_no_wait (acts.Took t) = tt
act_no_wait (acts.Raised esr) = refl
act_no_wait (acts.Stopped cause) = refl

some_kept : (core act : ℕ) (o : Option What) (f : Fabric) → IsNoWait o → logged_wait core (entered_some core act o f).journal ≡ logged_wait core f.journal
unfolding IsNoWait
some_kept core act None f h = refl
some_kept core act (Some what) f h =
    kept_append core f.journal (entry_of f.cycle core act what ∷ [])
    ∙ passes core (logged_wait core f.journal) (entry_of f.cycle core act what) (ap (λ b. core == core && b) h ∙ and_no (core == core))

pub acts_keep : (core act : ℕ) (effect : Effect) (f : Fabric) → logged_wait core (act_leaves core act effect f).journal ≡ logged_wait core f.journal
acts_keep core act effect f =
    some_kept core act (entry_of_act effect.done.act) (entered_some core act (entries_of_action effect.action) f) (act_no_wait effect.done.act)
    ∙ some_kept core act (entries_of_action effect.action) f (action_no_wait effect.action)

pub wait_keeps : (core act : ℕ) (on : WaitOn) (f : Fabric) → logged_wait core (entered core act (Wait on) f).journal ≡ Some act
wait_keeps core act on f =
    kept_append core f.journal (entry_of f.cycle core act (Wait on) ∷ [])
    ∙ ap (λ b. cond (b && true) (Some act) (logged_wait core f.journal)) (eq-eqb core core refl)
