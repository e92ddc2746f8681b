-- The beginning of an exact run is one of the open machine.
use Rattle.std.proofs.Common.{◌≡◌, ℕ, zero, suc, ◌<◌, List, [], ◌∷◌, length, map, Some, refl, ap, subst, arith, slice_get}
use Rattle.std.specs.Prelude.{is_some}
use Rattle.std.proofs.lemmas.Option.{same_Some}
use Rattle.isa_step.specs.Effects.{View}
use Rattle.isa_step.specs.Due.{here_of}
use Rattle.board_file.specs.declared.board.BoardFile.{BoardFile}
use Rattle.board_file.specs.declared.board.CoreRow.{CoreRow}
use Rattle.timing_law.specs.Passing.{instr_of}
use Rattle.timing_law.specs.Past.{fresh}
use Rattle.board_machine.specs.World.{CoreAt, Inputs, Start, World}
use Rattle.exact_machine.specs.Machine.{ExactCore, with_slack}
use Rattle.exact_machine.specs.Opening.{AreOpen, IsOpen, IsOpenCore}
use Rattle.exact_machine.specs.Runs.{exact_start, fresh_core, fresh_cores, fresh_fabric, pipe_of}
use Rattle.exact_machine.proofs.Pasts.{due_near, fresh_near}

full : ExactCore → CoreAt
full = with_slack 63

core_open : (row : CoreRow) (view : View) → IsOpenCore (fresh_core row view) (full (fresh_core row view))
unfolding full
core_open row view =
    let past = fresh (pipe_of row.pipeline) in
    let near = fresh_near (pipe_of row.pipeline) in
    let soon = due_near past (instr_of (here_of view)) (is_some view.arch.slot) 4 near in
    record { core = refl; below = omega arith; enough = omega (arith, soon); near = near }

cores_open : (rows : List CoreRow) (views : List View) → AreOpen (fresh_cores rows views) (map full (fresh_cores rows views))
cores_open [] views = tt
cores_open (row ∷ rows) [] = tt
cores_open (row ∷ rows) (view ∷ views) = (core_open row view, cores_open rows views)

views_same : (rows : List CoreRow) (views : List View) → length views ≡ length rows → map (λ (s : CoreAt). s.view) (map full (fresh_cores rows views)) ≡ views
unfolding full
views_same [] [] l = refl
views_same [] (view ∷ views) l = cc
views_same (row ∷ rows) [] l = cc
views_same (row ∷ rows) (view ∷ views) l = ap (λ vs. view ∷ vs) (views_same rows views (omega (arith, l)))

IsFresh : CoreAt → Type 0
IsFresh s = (s.acts ≡ 0) × (s.ticks ≡ 0) × (s.slack < 64)

each_fresh : (rows : List CoreRow) (views : List View) (k : ℕ) (s : CoreAt) → slice_get (map full (fresh_cores rows views)) k ≡ Some s → IsFresh s
unfolding full IsFresh
each_fresh [] views k s q = cc
each_fresh (row ∷ rows) [] k s q = cc
each_fresh (row ∷ rows) (view ∷ views) zero s q = subst IsFresh (same_Some (full (fresh_core row view)) s q) (refl, refl, omega arith)
each_fresh (row ∷ rows) (view ∷ views) (suc k) s q = each_fresh rows views k s q

for_each : {X Y Z : Type 0} (f : X → Y) (z : Z) (xs : List X) → map (λ x. z) xs ≡ map (λ y. z) (map f xs)
for_each f z [] = refl
for_each f z (x ∷ xs) = ap (λ zs. z ∷ zs) (for_each f z xs)

pub record OpenStart (b : BoardFile) (views : List View) (inputs : Inputs) (room : ℕ) : Type 0 where
  pub first : World
  pub began : Start b views inputs first
  pub is_open : IsOpen (exact_start b views inputs room) first

pub start_open : (b : BoardFile) (views : List View) (inputs : Inputs) (room : ℕ) → length views ≡ length b.cores → OpenStart b views inputs room
unfolding IsFresh
start_open b views inputs room l =
    let cores = fresh_cores b.cores views in
    record {
      first = record { schedule = (exact_start b views inputs room).schedule; cores = map full cores; fabric = fresh_fabric b cores inputs room };
      began = record {
        has_schedule = refl;
        has_views = views_same b.cores views l;
        fresh = each_fresh b.cores views;
        has_rows = refl;
        cycle = refl;
        links = refl;
        feeds = refl;
        has_bus = refl;
        devices = refl;
        lines = for_each full _ cores;
        pending = for_each full _ cores;
        left = refl;
        journal = refl;
      };
      is_open = record { schedule = refl; cores = cores_open b.cores views; fabric = refl };
    }

pub fresh_count : (rows : List CoreRow) (views : List View) → length views ≡ length rows → length (fresh_cores rows views) ≡ length rows
fresh_count [] views l = refl
fresh_count (row ∷ rows) [] l = cc
fresh_count (row ∷ rows) (view ∷ views) l = ap suc (fresh_count rows views (omega (arith, l)))
