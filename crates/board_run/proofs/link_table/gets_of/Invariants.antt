use Rattle.std.proofs.Common.{◌≡◌, length}
use Rattle.board_machine.specs.Fabric.{link_to}
use Rattle.board_run.specs.LinkTable.{AreLinks, link_at}
use Rattle.board_run.proofs.link_table.gets_of.Given as goal

abbrev pub invariant-loop-place : goal.invariant-loop-place
invariant-loop-place l = AreLinks (link_at link_to l.rows) 0 l.links.items × (length l.links.items ≡ l.place)
