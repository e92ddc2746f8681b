use Rattle.std.proofs.Common.{sym}
use Rattle.core_iface.proofs.Keeping.{is_busy}
use Rattle.pipe_latch.proofs.staged.StagedCoreCore.idle.Goals as goal

pub returns-then-self : goal.returns-then-self
returns-then-self g c = sym (is_busy c.args.self.now.arch c.args.self.now.memory (g.P.Sees.shows c.args.ports.now)
    (c.args.self.now.goes c.if-self.true) (c.args.self.now.runs c.if-self.true) (c.args.self.now.awake c.if-self.true))
