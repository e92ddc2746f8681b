-- What a run tells the probes, and that young probes have room for it.
use Rattle.std.proofs.Common.{◌≡◌, ℕ, ◌<◌, ◌^◌, List, [], ◌∷◌, Option, drop, length, subst, sym, arith}
use Rattle.isa_step.specs.Effects.{View}
use Rattle.board_file.specs.declared.board.BoardFile.{BoardFile}
use Rattle.board_machine.specs.World.{Inputs}
use Rattle.exact_machine.specs.Machine.{ExactWorld}
use Rattle.exact_machine.specs.Runs.{exact_start}
use Rattle.probe_set.specs.Sets.{HaveRoom, Named, all_told_each}
use Rattle.host_io.specs.Outside.{ShelfState, SinkState, SourceState}
use Rattle.command_line.specs.declared.command.Command.{Command}
use Rattle.probes.specs.Stock.{stock}
use Rattle.mb_sim.specs.Probes.{AreYoung, TellsProbes}
use Rattle.mb_sim.specs.Program.{AnswersFrom, AnswersScriptFrom}
use Rattle.mb_sim.specs.Top.{Answers, AnswersScript}
use Rattle.mb_sim.specs.declared.status.Status.{Status}
use Rattle.mb_sim.specs.declared.status.Status.TheVariants.{NoMemory}
use Rattle.mb_sim.proofs.Debugging.{nothing_read}
use Rattle.mb_sim.proofs.Exact.{nothing_done}

pub have_room : (n : ℕ) (ns : List Named) → n < 2 ^ 63 → AreYoung ns → HaveRoom n ns
have_room n [] l h = tt
have_room n (a ∷ ns) l h = (omega (arith, l, h.0), have_room n ns l h.1)

-- a board begins with an empty journal, so that a run from there tells all entries
pub tells_all : (b : BoardFile) (views : List View) (inputs : Inputs) (room : ℕ) (first last : ExactWorld) (probes probes' : List Named) → first ≡ exact_start b views inputs room
    → probes' ≡ all_told_each (drop (length first.fabric.journal) last.fabric.journal) probes → TellsProbes last probes probes'
tells_all b views inputs room first last probes probes' began told =
    let P : ExactWorld → Type 0 = λ x. probes' ≡ all_told_each (drop (length x.fabric.journal) last.fabric.journal) probes in
    subst P began told

-- the program's probes are young
pub young_stock : AreYoung stock
young_stock = (omega arith, (omega arith, (omega arith, (omega arith, tt))))

-- what is said of the program's probes
pub answers_from : (o : Option Command) (shelf shelf' : ShelfState) (out out' : SinkState) (probes probes' : List Named) (status : Status) → probes ≡ stock
    → Answers o shelf shelf' out out' probes probes' status → AnswersFrom stock o shelf shelf' out out' status
answers_from o shelf shelf' out out' probes probes' status is says = (probes', subst (λ ps. Answers o shelf shelf' out out' ps probes' status) is says)

pub script_answers_from : (o : Option Command) (shelf shelf' : ShelfState) (source source' : SourceState) (out out' : SinkState) (probes probes' : List Named) (status : Status) → probes ≡ stock
    → AnswersScript o shelf shelf' source source' out out' probes probes' status → AnswersScriptFrom stock o shelf shelf' source source' out out' status
script_answers_from o shelf shelf' source source' out out' probes probes' status is says = (probes', subst (λ ps. AnswersScript o shelf shelf' source source' out out' ps probes' status) is says)

-- want of memory before anything was done
pub refused_from : (o : Option Command) (shelf : ShelfState) (out : SinkState) (status : Status) → status ≡ NoMemory → AnswersFrom stock o shelf shelf out out status
refused_from o shelf out status is = subst (AnswersFrom stock o shelf shelf out out) (sym is) (stock, nothing_done o shelf out stock)

pub script_refused_from : (o : Option Command) (shelf : ShelfState) (source : SourceState) (out : SinkState) (status : Status) → status ≡ NoMemory
    → AnswersScriptFrom stock o shelf shelf source source out out status
script_refused_from o shelf source out status is = subst (AnswersScriptFrom stock o shelf shelf source source out out) (sym is) (stock, nothing_read o shelf source out stock)
