use Rattle.std.proofs.Common.{flat_map, take, Ok}
use Rattle.std.specs.List.{enumerate_from}
use Rattle.host_io.specs.Outside.{Adds}
use Rattle.mb_sim.specs.Profiled.{line_of_profile}
use Rattle.mb_sim.proofs.profile.print_profiles.Given as goal

abbrev pub invariant-loop-k : goal.invariant-loop-k
invariant-loop-k g l =
    Adds (g.O.Sink.state l.fn.out) (g.O.Sink.state l.out) (flat_map (line_of_profile l.board.profiles) (take l.k (enumerate_from 0 l.rows))) (Ok tt)
