use Rattle.toml.specs.View.{members_view}
use Rattle.board_file.proofs.Sums.{SumsTo}
use Rattle.board_file.specs.Bus.{memory_sum}
use Rattle.board_file.proofs.bus.are_affordable.Given as goal

-- the sum so far, kept within 64 bits, and those that are left
abbrev pub invariant-members : goal.invariant-members
invariant-members l = SumsTo l.sum (memory_sum (members_view l.row-iterator)) (memory_sum (members_view l.cores.entries))
