use Rattle.std.proofs.Common.{◌≡◌, ◌+◌, ◌≤◌, ◌++◌}
use Rattle.std.specs.Prelude.{option_copied}
use Rattle.debug_script.proofs.Reading.{left_len}
use Rattle.debug_script.specs.Parts.{parts_after}
use Rattle.debug_script.specs.Scripts.{lines_read, result_map, script_of}
use Rattle.debug_script.proofs.script.read_script.Given as goal

abbrev pub invariant-loop-rest : goal.invariant-loop-rest
invariant-loop-rest l = record {
  reads : script_of l.names l.fn.text ≡ result_map (λ cs. l.script ++ cs) (lines_read l.names l.progress l.number (parts_after 10 (option_copied l.rest)));
  short : l.number + left_len (option_copied l.rest) ≤ 1048578;
  few : l.progress.breaks + 1 ≤ l.number;
}

abbrev pub decreases-loop-rest : goal.decreases-loop-rest
decreases-loop-rest l = left_len (option_copied l.rest)
