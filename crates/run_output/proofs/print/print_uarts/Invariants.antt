use Rattle.std.proofs.Common.{flat_map, take, Ok}
use Rattle.std.specs.List.{enumerate_from}
use Rattle.host_io.specs.Outside.{Adds}
use Rattle.run_output.specs.Tally.{counted_uart_line}
use Rattle.run_output.proofs.print.print_uarts.Given as goal

abbrev pub invariant-loop-k : goal.invariant-loop-k
invariant-loop-k g l =
    Adds (g.O.Sink.state l.fn.out) (g.O.Sink.state l.out) (flat_map (counted_uart_line l.tally) (take l.k (enumerate_from 0 l.rows))) (Ok tt)
