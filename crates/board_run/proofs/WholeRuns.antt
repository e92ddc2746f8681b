-- What is told of each run from a board's beginning.
use Rattle.std.proofs.Common.{◌≡◌, ℕ, zero, suc, List, [], ◌∷◌, length, map, refl, sym, ap, ◌∙◌}
use Rattle.std.proofs.lemmas.List.{length-map}
use Rattle.isa_step.specs.Effects.{View}
use Rattle.board_file.specs.declared.board.BoardFile.{BoardFile}
use Rattle.board_file.specs.declared.board.CoreRow.{CoreRow}
use Rattle.board_machine.specs.declared.events.RunEnd.{RunEnd}
use Rattle.board_machine.specs.declared.events.Event.{Event}
use Rattle.board_machine.specs.Cycles.{RunsTo, cycles_of, events_of}
use Rattle.board_machine.specs.Fabric.{Fabric}
use Rattle.board_machine.specs.Runs.{IsRunFrom}
use Rattle.board_machine.specs.World.{Inputs, Start, World}
use Rattle.board_machine.proofs.Keeping.{keeps_runs}
use Rattle.net_law.proofs.Files.{follows_network}
use Rattle.exact_machine.specs.Machine.{ExactWorld, exact_step, exact_steps}
use Rattle.exact_machine.specs.Opening.{IsOpen}
use Rattle.exact_machine.specs.Runs.{ExactRun, exact_cycles, exact_start}
use Rattle.exact_machine.proofs.Beginning.{fresh_count, start_open}
use Rattle.exact_machine.proofs.Cycling.{runs_open}
use Rattle.exact_machine.proofs.Opening.{step_cores}
use Rattle.board_run.specs.Runs.{IsOpenRun, IsRunOf}
use Rattle.board_run.proofs.LawsKept.{has_laws, has_progress}

-- a run of the board machine
open_run : (b : BoardFile) (views : List View) (inputs : Inputs) (entries limit : ℕ) (first last : World) (end : RunEnd) → Start b views inputs first → first.fabric.spare ≡ entries
    → RunsTo limit first last end → IsOpenRun b views inputs entries limit last end
open_run b views inputs entries limit first last end began room ran =
    let is_run : IsRunFrom b views inputs last =
    keeps_runs first last (cycles_of first.schedule first.fabric.cycle ran.count) ran.cycles b views inputs (record { first = first; events = []; began = began; ran = refl }) in
    record {
      first = first;
      began = began;
      room = room;
      ran = ran;
      told = is_run.told;
      laws = has_laws b views inputs last is_run.reached;
      progress = (ran.count, has_progress b views inputs ran.count last (record { first = first; began = began; ran = ran.cycles }));
      network = λ is. follows_network b views inputs last is is_run.reached;
    }

steps_count : (x : ExactWorld) (es : List Event) → length (exact_steps x es).cores ≡ length x.cores
steps_count x [] = refl
steps_count x (e ∷ es) = steps_count (exact_step x e) es ∙ step_cores x e

cycles_count : (x : ExactWorld) (n : ℕ) → length (exact_cycles x n).cores ≡ length x.cores
cycles_count x zero = refl
cycles_count x (suc n) = steps_count (exact_cycles x n) (events_of (exact_cycles x n).schedule (exact_cycles x n).fabric.cycle) ∙ cycles_count x n

-- a run keeps the number of cores
pub run_count : (limit : ℕ) (old new : ExactWorld) (end : RunEnd) → ExactRun limit old new end → length new.cores ≡ length old.cores
run_count limit old new end r = ap (λ (x : ExactWorld). length x.cores) r.ran ∙ cycles_count old r.count

-- a run of the exact machine
pub run_of : (b : BoardFile) (views : List View) (inputs : Inputs) (entries limit : ℕ) (last : ExactWorld) (end : RunEnd) → length views ≡ length b.cores
    → ExactRun limit (exact_start b views inputs entries) last end → IsRunOf b views inputs entries limit last end
run_of b views inputs entries limit last end count ran =
    let start = start_open b views inputs entries count in
    let clocks : length (map (λ (row : CoreRow). row.clock) b.cores) ≡ length (exact_start b views inputs entries).cores =
    length-map b.cores (λ (row : CoreRow). row.clock) ∙ sym (fresh_count b.cores views count) in
    let run = runs_open.runs limit (exact_start b views inputs entries) last start.first end start.is_open clocks ran in
    record {
      ran = ran;
      open_last = run.last;
      is_open = run.is_open;
      is_run = open_run b views inputs entries limit start.first run.last end start.began (ap (λ (f : Fabric). f.spare) start.is_open.fabric) run.ran;
    }
