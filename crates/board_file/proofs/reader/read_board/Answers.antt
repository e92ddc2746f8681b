use Rattle.std.proofs.Common.{◌≡◌, ℕ, List, Result, Ok, Err, IfErr, subst, sym, ◌∙◌}
use Rattle.std.specs.Result.{IsErr, IsErrAnd}
use Rattle.toml.specs.View.{table_view}
use Rattle.board_file.specs.Board.{IsRefusal, no_memory, least_fault}
use Rattle.board_file.specs.declared.board.BoardFile.{BoardFile}
use Rattle.board_file.specs.declared.fault.BoardFault.{BoardFault}
use Rattle.board_file.specs.declared.fault.BoardFault.TheVariants.{NoMemory}
use Rattle.board_file.proofs.Least.{least_is_least}
use Rattle.board_file.proofs.WholeBoard.{is_read}
use Rattle.board_file.proofs.reader.read_board.Goals as goal

no_memory_refuses : (file : List ℕ) (r : Result BoardFile BoardFault) → IsErr r → IsErrAnd r (λ fault. fault ≡ NoMemory) → IfErr r (IsRefusal file)
no_memory_refuses file (Ok board) is and = tt
no_memory_refuses file (Err fault) is and = subst (IsRefusal file) (sym and) no_memory

pub returns-in_err-fault-clause-err : goal.returns-in_err-fault-clause-err
returns-in_err-fault-clause-err c = no_memory_refuses c.args.file.now _ c.from_residual-in_err-fault.ensures.0 c.from_residual-in_err-fault.ensures.1

pub returns-in-Some-clause-err : goal.returns-in-Some-clause-err
returns-in-Some-clause-err c =
    rw c.refusal.ensures (least_fault (table_view c.in_ok-root.root) c.in-Some.fault c.in_ok-root.ensures.ok (least_is_least _ c.in-Some.fault (sym c.in_ok-fault.ensures ∙ c.in-Some.is)))

pub returns-in_err-board-clause-err : goal.returns-in_err-board-clause-err
returns-in_err-board-clause-err c = no_memory_refuses c.args.file.now _ c.from_residual-in_err-board.ensures.0 c.from_residual-in_err-board.ensures.1

pub returns-clause-ok : goal.returns-clause-ok
returns-clause-ok c =
    is_read c.args.file.now (table_view c.in_ok-root.root) c.in_ok-board.board c.in_ok-root.ensures.ok (sym c.in_ok-fault.ensures ∙ c.in_default.is) c.in_ok-board.ensures.board c.in_ok-board.ensures.ascends
