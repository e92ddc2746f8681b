use Rattle.std.proofs.Common.{◌≡◌, flat_map, take}
use Rattle.toml.specs.View.{table_view}
use Rattle.board_file.specs.Claims.{claims_by}
use Rattle.board_file.proofs.claims.claims_on_cores.Given as goal

abbrev pub invariant-loop-usage : goal.invariant-loop-usage
invariant-loop-usage l = l.claims.items ≡ flat_map (claims_by (table_view l.root)) (take l.usage-index l.usages)
