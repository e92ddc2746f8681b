use Rattle.std.proofs.Common.{map, ap, ◌∙◌}
use Rattle.board_file.specs.declared.board.CoreRow.{CoreRow}
use Rattle.board_file.specs.declared.board.LinkRow.{LinkRow}
use Rattle.board_file.specs.declared.board.UartRow.{UartRow}
use Rattle.debug_job.proofs.names.script_names.Goals as goal

pub returns : goal.returns
returns g c = λ i. record {
  cores = (c.from_vec.ensures ∙ c.in_ok-core_names.ensures ∙ ap (map (λ (row : CoreRow). row.name)) c.as_slice.ensures) i;
  links = (c.from_vec-2.ensures ∙ c.in_ok-link_names.ensures ∙ ap (map (λ (row : LinkRow). row.name)) c.as_slice-2.ensures) i;
  uarts = (c.from_vec-3.ensures ∙ c.in_ok-uart_names.ensures ∙ ap (map (λ (row : UartRow). row.name)) c.as_slice-3.ensures) i;
  probes = (c.from_vec-4.ensures ∙ c.in_ok-probe_names.ensures ∙ ap (map (λ probe. probe.name)) c.attached.ensures) i;
  symbols = c.from_vec-5.ensures i;
}
