use Rattle.std.proofs.Common.{rules, ◌≡◌, Some}
use Rattle.toml.specs.Data.{as_table}
use Rattle.toml.specs.View.{members_view, view}
use Rattle.board_file.specs.Bus.{both, memory_sum, size_in}
use Rattle.board_file.proofs.Sums.{next_one}
use Rattle.board_file.proofs.bus.are_affordable.Goals as goal

pub members-preserved : goal.members-preserved
members-preserved c =
    let size : size_in (as_table (view c.in-Some.row.now)) ≡ Some c.in-Some-size_of_row.size = search rules in
    let split : memory_sum (members_view c.members.row-iterator) ≡ both (size_in (as_table (view c.in-Some.row.now))) (memory_sum (members_view c.next.new.self)) = search rules in
    next_one c.members.sum _ _ _ _ _ _ c.members.invariant split size (search rules)
