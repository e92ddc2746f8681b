use Rattle.std.proofs.Common.{Ok, Err, refl, subst, sym}
use Rattle.board_file.specs.declared.board.BoardFile.{BoardFile}
use Rattle.mb_sim.specs.declared.status.Status.{Status}
use Rattle.mb_sim.specs.Board.{Prints, PutsOut, file_stops}
use Rattle.mb_sim.proofs.Boards.{outputs_are, prints_out}
use Rattle.mb_sim.proofs.run.write_results.Goals as goal

pub returns-in-Ok : goal.returns-in-Ok
returns-in-Ok g c =
    let R : BoardFile → Type 0 = λ b. Prints b c.args.ready.now.board c.args.end (g.O.Sink.state c.args.out.now) (g.O.Sink.state c.print.new.out) c.print.result in
    record {
      puts = prints_out c.args.journal.now c.args.ready.now.outputs c.args.ready.now.board c.args.end (g.S.Shelf.state c.args.shelf.now) (g.S.Shelf.state c.write.new.shelf)
          (g.O.Sink.state c.args.out.now) (g.O.Sink.state c.print.new.out) c.print.result
          (outputs_are c.args.ready.now.outputs c.args.ready.now.board c.journal.result.now.entries c.args.journal.now (g.S.Shelf.state c.args.shelf.now) (g.S.Shelf.state c.write.new.shelf) (Ok tt) c.journal.ensures.entries c.in-Ok.ensures.outputs)
          (subst R c.in-Ok.ensures.board c.print.ensures);
    }

pub returns-in-Err : goal.returns-in-Err
returns-in-Err g c =
    let P : Status → Type 0 = λ s. PutsOut c.args.journal.now c.args.ready.now.outputs c.args.ready.now.board c.args.end (g.S.Shelf.state c.args.shelf.now) (g.S.Shelf.state c.write.new.shelf) (g.O.Sink.state c.args.out.now) (g.O.Sink.state c.args.out.now) s in
    record {
      puts = subst P (sym c.status_of_output.ensures) (file_stops c.in-Err.fault
          (outputs_are c.args.ready.now.outputs c.args.ready.now.board c.journal.result.now.entries c.args.journal.now (g.S.Shelf.state c.args.shelf.now) (g.S.Shelf.state c.write.new.shelf) (Err c.in-Err.fault) c.journal.ensures.entries c.in-Err.ensures.outputs)
          refl);
    }
