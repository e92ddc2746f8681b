use Rattle.std.proofs.Common.{◌≡◌, ◌≤◌, ℕ, List, Some, slice_get, subst, arith}
use Rattle.board_file.specs.declared.board.CoreRow.{CoreRow}
use Rattle.board_file.specs.declared.board.IntcRow.{IntcRow}
use Rattle.board_file.specs.declared.board.LinkRow.{LinkRow}
use Rattle.board_file.specs.declared.board.TimerRow.{TimerRow}
use Rattle.board_file.specs.declared.board.UartRow.{UartRow}
use Rattle.board_run.specs.Boards.{IsInput}
use Rattle.board_run.proofs.tests.build.is_buildable.Goals as goal

pub returns : goal.returns
returns c t =
    let cores = c.len.ensures in
    let links = c.len-else-len-gt64.ensures in
    let uarts = c.len-else-len-gt256.ensures in
    let few_cores = c.if-len-gt64.false in
    let few_links = c.if-len-gt256.false in
    let few_uarts = c.if-len-gt64-2.false in
    record {
      few_cores = omega (arith, cores, few_cores);
      few_links = omega (arith, links, few_links);
      clocks = subst (λ (rows : List CoreRow). (k : ℕ) (row : CoreRow) → slice_get rows k ≡ Some row → 1 ≤ row.clock) c.as_slice.ensures (c.has_clocks.ensures c.if-not-has_clocks.false);
      depths = subst (λ (rows : List LinkRow). (k : ℕ) (row : LinkRow) → slice_get rows k ≡ Some row → (1 ≤ row.depth) × (row.depth ≤ 4096)) c.as_slice-2.ensures (c.has_depths.ensures c.if-not-has_depths.false);
      timers = subst (λ (rows : List TimerRow). (k : ℕ) (row : TimerRow) → slice_get rows k ≡ Some row → IsInput row.irq × (1 ≤ row.clock)) c.as_slice-3.ensures (c.have_inputs.ensures c.if-not-have_inputs.false);
      intcs = subst (λ (rows : List IntcRow). (k : ℕ) (row : IntcRow) → slice_get rows k ≡ Some row → 1 ≤ row.clock) c.as_slice-4.ensures (c.have_clocks.ensures c.if-not-have_clocks.false);
      few_uarts = omega (arith, uarts, few_uarts);
      uarts = subst (λ (rows : List UartRow). (k : ℕ) (row : UartRow) → slice_get rows k ≡ Some row → IsInput row.irq × (1 ≤ row.every) × (1 ≤ row.clock)) c.as_slice-5.ensures (c.have_turns.ensures t);
    }
