use Rattle.run_output.proofs.Written.{sent_either}
use Rattle.run_output.proofs.chunks.OutputWriter.finish.Goals as goal

pub returns : goal.returns
returns g c = λ before done w. sent_either before (g.S.Shelf.state c.args.shelf.now) (g.S.Shelf.state c.send.new.shelf) c.args.name.now c.args.self.now done c.send.result w c.send.ensures.sent
