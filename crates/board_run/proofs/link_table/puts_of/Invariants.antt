use Rattle.std.proofs.Common.{◌≡◌, length}
use Rattle.board_machine.specs.Fabric.{link_from}
use Rattle.board_run.specs.LinkTable.{AreLinks, link_at}
use Rattle.board_run.proofs.link_table.puts_of.Given as goal

abbrev pub invariant-loop-place : goal.invariant-loop-place
invariant-loop-place l = AreLinks (link_at link_from l.rows) 0 l.links.items × (length l.links.items ≡ l.place)
