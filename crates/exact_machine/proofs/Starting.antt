-- A board at its beginning can be run up to any limit that a command can name.
use Rattle.std.proofs.Common.{◌≡◌, ℕ, zero, suc, ◌≤◌, ◌^◌, List, [], ◌∷◌, Some, sym, ap, subst, arith, slice_get}
use Rattle.std.proofs.lemmas.Option.{same_Some}
use Rattle.isa_step.specs.Effects.{View}
use Rattle.board_file.specs.declared.board.BoardFile.{BoardFile}
use Rattle.board_file.specs.declared.board.CoreRow.{CoreRow}
use Rattle.board_machine.specs.World.{Inputs}
use Rattle.exact_machine.specs.Machine.{ExactCore, ExactWorld}
use Rattle.exact_machine.specs.Runs.{exact_start, fresh_core, fresh_cores}
use Rattle.exact_machine.specs.Stepping.{CanRun}

fresh_ticks : (rows : List CoreRow) (views : List View) (k : ℕ) (s : ExactCore) → slice_get (fresh_cores rows views) k ≡ Some s → s.ticks ≡ 0
fresh_ticks [] views k s e = cc
fresh_ticks (row ∷ rows) [] k s e = cc
fresh_ticks (row ∷ rows) (view ∷ views) zero s e = ap (λ (x : ExactCore). x.ticks) (sym (same_Some (fresh_core row view) s e))
fresh_ticks (row ∷ rows) (view ∷ views) (suc k) s e = fresh_ticks rows views k s e

pub can_run : (b : BoardFile) (views : List View) (inputs : Inputs) (room limit : ℕ) (x : ExactWorld) → x ≡ exact_start b views inputs room → limit ≤ 2 ^ 62 → CanRun limit x
can_run b views inputs room limit x is few = subst (CanRun limit) (sym is) (record {
  before = omega arith;
  young = λ k s at. let none = fresh_ticks b.cores views k s at in omega (arith, none, few);
  early = few;
})
