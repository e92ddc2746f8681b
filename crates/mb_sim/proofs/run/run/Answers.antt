use Rattle.std.proofs.Common.{length, map, arith, refl, sym, ap, subst, ◌∙◌}
use Rattle.host_io.specs.Outside.{ShelfState}
use Rattle.any_core.specs.States.{any_state}
use Rattle.any_core.specs.declared.AnyCore.{AnyCore}
use Rattle.mb_sim.specs.Board.{no_memory}
use Rattle.mb_sim.specs.Top.{CountsLoads, CountsWrites}
use Rattle.exact_machine.proofs.Beginning.{fresh_count}
use Rattle.exact_machine.specs.Machine.{ExactWorld}
use Rattle.board_file.specs.declared.board.BoardFile.{BoardFile}
use Rattle.exact_machine.proofs.Starting.{can_run}
use Rattle.mb_sim.proofs.Boards.{loaded_count, puts_loads, puts_stores, puts_writes, says_played, says_refused}
use Rattle.mb_sim.proofs.Probes.{have_room}
use Rattle.mb_sim.proofs.run.run.Goals as goal

pub play-requires : goal.play-requires
play-requires g c =
    let views = map (λ (core : AnyCore). (any_state core).view) c.in-Ok.job.cores.items in
    record {
      can = can_run c.in-Ok.job.board views (record { links = c.in-Ok.job.inputs.links; uarts = c.in-Ok.job.inputs.uarts }) c.args.words.now.entries c.args.words.now.cycles c.in-Some.ready.board
          c.in-Some.ensures.start (omega (arith, c.requires.few));
      count = ap (λ (x : ExactWorld). length x.cores) c.in-Some.ensures.start
          ∙ fresh_count c.in-Ok.job.board.cores views (loaded_count (g.S.Shelf.state c.args.shelf.now).files c.in-Ok.job.board.network c.in-Ok.job.board.cores views c.in-Ok.ensures.ok.has_cores)
          ∙ ap (λ (b : BoardFile). length b.cores) (sym c.in-Some.ensures.file);
      room = have_room c.in-Some.ready.board.fabric.spare _ (omega (arith, c.in-Some.ensures.room)) c.requires.young;
    }

pub returns-in-Err-clause-says : goal.returns-in-Err-clause-says
returns-in-Err-clause-says g c =
    says_refused c.args.words.now _ _ _ _ c.status_of_refusal.result c.in-Err.refusal c.status_of_refusal.ensures c.in-Err.ensures.refused c.in-Err.ensures.keeps.files

pub returns-in-None-clause-says : goal.returns-in-None-clause-says
returns-in-None-clause-says g c = no_memory c.in-Ok.ensures.quiet refl refl

pub returns-in-Some-clause-says : goal.returns-in-Some-clause-says
returns-in-Some-clause-says g c =
    says_played c.args.words.now (g.S.Shelf.state c.args.shelf.now) (g.S.Shelf.state c.load_job.new.shelf) (g.S.Shelf.state c.play.new.shelf) (g.O.Sink.state c.args.out.now) (g.O.Sink.state c.play.new.out) _ _ c.play.result
    c.in-Ok.job.board c.in-Some.ready.outputs (map (λ (core : AnyCore). (any_state core).view) c.in-Ok.job.cores.items) (record { links = c.in-Ok.job.inputs.links; uarts = c.in-Ok.job.inputs.uarts }) c.in-Some.ready.board
    c.in-Ok.ensures.ok c.in-Some.ensures.file c.in-Some.ensures.start c.in-Ok.ensures.quiet c.play.ensures.plays

pub returns-in-Some-clause-loads : goal.returns-in-Some-clause-loads
returns-in-Some-clause-loads g c =
    let P : ShelfState → Type 0 = λ s. CountsLoads s.faults.load_faults (g.S.Shelf.state c.play.new.shelf).faults.load_faults c.play.result in
    subst P c.in-Ok.ensures.quiet (puts_loads _ _ _ _ _ _ _ _ _ c.play.ensures.plays.puts)

pub returns-in-Some-clause-writes : goal.returns-in-Some-clause-writes
returns-in-Some-clause-writes g c = puts_writes _ _ _ _ _ _ _ _ _ c.play.ensures.plays.puts

pub returns-in-Some-clause-shelf_writes : goal.returns-in-Some-clause-shelf_writes
returns-in-Some-clause-shelf_writes g c =
    let P : ShelfState → Type 0 = λ s. CountsWrites s.faults.write_faults (g.S.Shelf.state c.play.new.shelf).faults.write_faults c.play.result in
    subst P c.in-Ok.ensures.quiet (puts_stores _ _ _ _ _ _ _ _ _ c.play.ensures.plays.puts)
