use Rattle.core_iface.proofs.PlainTimes.{moved_either}
use Rattle.core_iface.proofs.pace.Pace.act.Goals as goal

pub returns-in-Retired-clause-value : goal.returns-in-Retired-clause-value
returns-in-Retired-clause-value c = moved_either c.args.here.now c.args.done.now c.args.pc c.args.self.now c.retire.new.self c.requires.timed.pipe c.in-Retired.is
    (rw (← c.instr_of.ensures.value, ← c.flow_of.ensures) c.retire.ensures.value)
