use Rattle.core_iface.proofs.PlainTimes.{go_so}
use Rattle.core_iface.proofs.pace.Pace.go.Goals as goal

pub returns-clause-value : goal.returns-clause-value
returns-clause-value c = go_so c.self.inside.ticks c.self.inside.stays c.self.inside.free c.self.inside.redirect c.lead.new.redirect c.self.inside.ready c.args.late c.args.flow c.args.pc c.args.self.now
    c.self.view_is c.self.invariant.0 c.self.invariant.1 c.requires.free c.lead.ensures
