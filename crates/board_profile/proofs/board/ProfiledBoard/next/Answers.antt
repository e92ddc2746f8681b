use Rattle.std.proofs.Common.{refl, ap, ◌∙◌}
use Rattle.board_machine.specs.declared.events.Event.TheVariants.{Next}
use Rattle.exact_machine.specs.Machine.{ExactWorld}
use Rattle.board_profile.specs.Profiles.{profiled_step}
use Rattle.board_profile.proofs.Counting.{counts_stay, profiled_is}
use Rattle.board_profile.proofs.board.ProfiledBoard.next.Goals as goal

pub invariant_of-self : goal.invariant_of-self
invariant_of-self g c = counts_stay c.self.inside.board c.next_cycle.new.self _ (ap (λ (x : ExactWorld). x.cores) c.next_cycle.ensures.step) c.self.invariant

pub returns : goal.returns
returns g c = profiled_is c.self.inside.board c.next_cycle.new.self _ _ Next c.next_cycle.ensures.step refl ∙ ap (λ w. profiled_step w Next) c.self.view_is
