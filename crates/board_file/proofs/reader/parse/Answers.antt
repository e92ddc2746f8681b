use Rattle.std.proofs.Common.{arith}
use Rattle.toml.specs.Errors.{IsMemory}
use Rattle.board_file.specs.Board.{no_memory, not_toml}
use Rattle.board_file.specs.Tree.{IsToml}
use Rattle.board_file.proofs.reader.parse.Goals as goal

pub returns-then-is_memory-clause-err : goal.returns-then-is_memory-clause-err
returns-then-is_memory-clause-err c = no_memory

pub returns-else-is_memory-clause-err : goal.returns-else-is_memory-clause-err
returns-else-is_memory-clause-err c =
    let other : IsMemory c.in-Err.error → ⊥ = λ memory. let told = c.is_memory.ensures.1 memory in grind arith in
    let no_toml : IsToml c.args.file.now → ⊥ = λ t.
    let none = c.in-Err.ensures.refused other t.1.0 in
    let some = t.1.1 in
    grind arith in
    rw (c.from_bytes.ensures, c.code.ensures) (not_toml no_toml)
