use Rattle.std.proofs.Common.{◌≡◌, ◌<◌, ℕ, Some, length, ap, sym, ◌∙◌, arith, subst, slice_get}
use Rattle.std.specs.Prelude.{All, IfSome}
use Rattle.std.proofs.lemmas.List.{length-map}
use Rattle.board_file.specs.declared.board.IntcRow.{IntcRow}
use Rattle.board_file.specs.declared.board.TimerRow.{TimerRow}
use Rattle.board_file.specs.declared.board.UartRow.{UartRow}
use Rattle.board_bus.proofs.Building.{all_of, serials_length}
use Rattle.board_bus.proofs.bus.Bus.new.Goals as goal

pub invariant_of-result : goal.invariant_of-result
invariant_of-result c = (
  ap length c.in_ok-timers_of.ensures ∙ length-map c.args.timers.now _ ∙ sym (ap length c.in_ok-copied_timers.ensures),
  ap length c.in_ok-intcs_of.ensures ∙ length-map c.args.intcs.now _ ∙ sym (ap length c.in_ok-copied_intcs.ensures),
  ap length c.in_ok-serials_of.ensures ∙ serials_length c.args.uarts.now c.args.inputs.now ∙ sym (ap length c.in_ok-copied_uarts.ensures),
  omega (arith, ap length c.in_ok-copied_uarts.ensures, c.requires.few),
  rw c.in_ok-copied_timers.ensures (all_of (λ (r : TimerRow). IfSome r.irq (λ n. n < 32)) c.args.timers.now (λ k row q. (c.requires.timers k row q).0)),
  rw c.in_ok-copied_uarts.ensures (all_of (λ (r : UartRow). IfSome r.irq (λ n. n < 32)) c.args.uarts.now (λ k row q. (c.requires.uarts k row q).0)),
  rw c.in_ok-copied_timers.ensures (all_of (λ (r : TimerRow). 0 < r.clock) c.args.timers.now (λ k row q. (c.requires.timers k row q).1)),
  rw c.in_ok-copied_intcs.ensures (all_of (λ (r : IntcRow). 0 < r.clock) c.args.intcs.now c.requires.intcs),
  rw c.in_ok-copied_uarts.ensures (all_of (λ (r : UartRow). (0 < r.every) × (0 < r.clock)) c.args.uarts.now (λ k row q. ((c.requires.uarts k row q).1, (c.requires.uarts k row q).2))),
)
