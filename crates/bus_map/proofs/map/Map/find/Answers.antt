use Rattle.std.proofs.Common.{sym, ap, ◌∙◌}
use Rattle.bus_map.specs.Windows.{spot_at}
use Rattle.bus_map.proofs.Ranges.{last_is_far, last_is_near, none_below}
use Rattle.bus_map.proofs.map.Map.find.Goals as goal

pub returns-in_err-base : goal.returns-in_err-base
returns-in_err-base c =
    let none = none_below c.self.inside.devices c.args.addr c.range.result c.range.ensures.ordered (c.range.ensures.in_range tt) c.in_err-base.ensures.steps.0 in
    c.from_residual.ensures ∙ sym none ∙ ap (λ m. spot_at m c.args.addr) c.self.view_is

pub returns-then-offset-lt-WINDOW_BYTES : goal.returns-then-offset-lt-WINDOW_BYTES
returns-then-offset-lt-WINDOW_BYTES c =
    let near = last_is_near c.self.inside.devices c.args.addr c.in_ok-base.base.now c.in_ok-base.device.now c.range.result c.next_back.new.self c.range.ensures.ordered c.self.invariant
    (c.range.ensures.in_range tt) c.in_ok-base.ensures.steps c.if-offset-lt-WINDOW_BYTES.true in
    sym near ∙ ap (λ m. spot_at m c.args.addr) c.self.view_is

pub returns-else-offset-lt-WINDOW_BYTES : goal.returns-else-offset-lt-WINDOW_BYTES
returns-else-offset-lt-WINDOW_BYTES c =
    let far = last_is_far c.self.inside.devices c.args.addr c.in_ok-base.base.now c.in_ok-base.device.now c.range.result c.next_back.new.self c.range.ensures.ordered
    (c.range.ensures.in_range tt) c.in_ok-base.ensures.steps c.if-offset-lt-WINDOW_BYTES.false in
    sym far ∙ ap (λ m. spot_at m c.args.addr) c.self.view_is
