-- Every run keeps what a run has.
use Rattle.std.proofs.Common.{◌≡◌, ℕ, zero, suc, Bool, List, [], ◌∷◌, ◌++◌, map, Some, false, true, refl, ap, sym, ◌∙◌, slice_get}
use Rattle.std.specs.Option.{option_map}
use Rattle.std.specs.List.{list_any}
use Rattle.std.proofs.lemmas.Option.{same_Some, slice_get-map}
use Rattle.isa_step.specs.Effects.{View}
use Rattle.isa_step.specs.History.{state_after}
use Rattle.run_journal.specs.declared.entry.Entry.{Entry}
use Rattle.run_journal.specs.Files.{tape}
use Rattle.board_file.specs.declared.board.BoardFile.{BoardFile}
use Rattle.board_machine.specs.declared.events.Event.{Event}
use Rattle.board_machine.specs.World.{Inputs, World, CoreAt, Start, Reached, Steps}
use Rattle.board_machine.specs.History.{Tells, is_take, responses}
use Rattle.board_machine.specs.Runs.{KeepsRest, KeepsRuns}
use Rattle.board_machine.specs.Fabric.{has_controller, or_low}
use Rattle.board_machine.proofs.Steps.{steps_append}
use Rattle.board_machine.proofs.Staying.{steps_rest}
use Rattle.board_machine.proofs.Lines.{IsWired, steps_wired}
use Rattle.board_machine.proofs.Tells.{steps_tell}

after_none : (v x : View) (t : _) (k : ℕ) → k ≡ 0 → v ≡ x → state_after v t k ≡ Some x
unfolding state_after
after_none v x t k e f = rw (e, f) refl

start_tells : (b : BoardFile) (views : List View) (inputs : Inputs) (w : World) → Start b views inputs w → Tells views w.cores w.fabric.journal
start_tells b views inputs w s = record {
  each = λ core c v q r.
      let e : Some c.view ≡ Some v = ap (option_map (λ (s : CoreAt). s.view)) (sym q) ∙ sym (slice_get-map (λ (s : CoreAt). s.view) w.cores core) ∙ ap (λ (vs : List View). slice_get vs core) s.has_views ∙ r in
      after_none v c.view (responses w.fabric.journal core) c.acts (s.fresh core c q).0 (sym (same_Some _ _ e));
  takes = λ core act c first q r h.
      let z : false ≡ true = sym (ap (λ j. list_any (λ (e : Entry). is_take e.what) (tape j core act)) s.journal) ∙ h in
      cc;
  none_ahead = λ core act c q l. ap (λ (j : List Entry). tape j core act) s.journal;
}

pub keeps_runs : (old new : World) (es : List Event) → Steps old es new → KeepsRuns old new
keeps_runs old new es h b views inputs r =
    let all = steps_append r.first old new r.events es r.ran h in
    record {
      reached = record { first = r.first; events = r.events ++ es; began = r.began; ran = all };
      told = steps_tell views r.first new (r.events ++ es) all (start_tells b views inputs r.first r.began);
    }

-- each line is low

low_at : (cores : List CoreAt) (core : ℕ) → or_low (slice_get (map (λ s. false) cores) core) ≡ false
low_at [] core = refl
low_at (s ∷ cores) zero = refl
low_at (s ∷ cores) (suc core) = low_at cores core

start_wired : (b : BoardFile) (views : List View) (inputs : Inputs) (w : World) → Start b views inputs w → IsWired w.fabric
start_wired b views inputs w s = record {
  line = λ core e.
      let low : or_low (slice_get w.fabric.lines core) ≡ false = ap (λ (ls : List Bool). or_low (slice_get ls core)) s.lines ∙ low_at w.cores core in
      let z : false ≡ true = sym low ∙ e in
      cc;
}

-- a line is high only where the core has a controller
pub wired : (b : BoardFile) (views : List View) (inputs : Inputs) (w : World) → Reached b views inputs w → (core : ℕ) → or_low (slice_get w.fabric.lines core) ≡ true → has_controller w.fabric core ≡ true
wired b views inputs w r = (steps_wired r.first w r.events r.ran (start_wired b views inputs r.first r.began)).line

pub keeps_rest : (old new : World) (es : List Event) → Steps old es new → KeepsRest old new
keeps_rest old new es h b views inputs r s = steps_rest old new es h s
