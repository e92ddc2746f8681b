use Rattle.std.proofs.Common.{◌≡◌, ◌++◌, false, drop}
use Rattle.asm_statement.specs.Values.{text_bytes}
use Rattle.asm_statement.proofs.Writing.{byte_items}
use Rattle.asm_statement.proofs.values.add_text.Given as goal

abbrev pub invariant-loop-k : goal.invariant-loop-k
invariant-loop-k l = l.out.items ++ byte_items l.head (text_bytes l.escaped (drop l.k l.text)) ≡ l.initial.out.items ++ byte_items l.head (text_bytes false l.text)
