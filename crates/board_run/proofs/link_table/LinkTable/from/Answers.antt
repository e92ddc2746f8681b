use Rattle.std.proofs.Common.{◌≡◌, ◌+◌, ◌*◌, ℕ, List, Option, Some, ap, subst, ◌∙◌, slice_get}
use Rattle.board_file.specs.declared.board.LinkRow.{LinkRow}
use Rattle.board_machine.specs.Fabric.{link_from}
use Rattle.board_run.proofs.Linking.{found_at}
use Rattle.board_run.proofs.link_table.LinkTable.from.Goals as goal

pub returns-in-Some : goal.returns-in-Some
returns-in-Some c =
    let there : slice_get c.self.inside.puts.items (c.args.core * 16 + c.args.port) ≡ Some c.in-Some.link = subst (λ (links : List (Option ℕ)). slice_get links (c.args.core * 16 + c.args.port) ≡ Some c.in-Some.link) c.as_slice.ensures.value c.in-Some.ensures.place in
    found_at link_from c.self.inside.rows.items c.self.inside.puts.items c.args.core c.args.port c.in-Some.link c.self.invariant.1 c.in-Some.ensures.port there ∙ ap (λ (rows : List LinkRow). link_from rows c.args.core c.args.port) c.self.view_is
