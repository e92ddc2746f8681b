use Rattle.op_table.proofs.Names.{names_differ}
use Rattle.op_table.proofs.lookup.names_differ.Goals as goal

pub returns : goal.returns
returns c = names_differ
