use Rattle.std.proofs.Common.{◌≡◌, ◌++◌, flat_map, take}
use Rattle.mb_debug.specs.Prints.{entry_line}
use Rattle.mb_debug.proofs.probe_texts.add_entries.Given as goal

-- the lines of the first are there
abbrev pub invariant-loop-e : goal.invariant-loop-e
invariant-loop-e l = l.text.items ≡ l.fn.text.items ++ flat_map (entry_line l.names) (take l.e-index l.entries)
