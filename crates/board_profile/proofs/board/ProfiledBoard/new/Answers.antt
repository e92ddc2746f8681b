use Rattle.std.proofs.Common.{◌≡◌, ℕ, List, map, replicate, refl, ap, sym, ◌∙◌, subst}
use Rattle.exact_machine.specs.Profile.{Profile, nothing}
use Rattle.board_profile.specs.Profiles.{Counts, counts_of}
use Rattle.board_profile.proofs.Counting.{new_counts, new_profiles}
use Rattle.board_profile.proofs.board.ProfiledBoard.new.Goals as goal

pub invariant_of-result : goal.invariant_of-result
invariant_of-result g c =
    let zeros = ap (map counts_of) (c.in_ok-profiles.ensures.items_if_clones_equal (λ y e. e)) ∙ new_profiles c.cores-cores.result _ refl in
    subst (λ (ps : List Profile). Counts c.args.board.cores ps) (sym zeros) (new_counts c.args.board.cores c.cores-cores.result c.cores-cores.ensures)

pub returns : goal.returns
returns g c =
    let zeros = ap (map counts_of) (c.in_ok-profiles.ensures.items_if_clones_equal (λ y e. e)) ∙ new_profiles c.cores-cores.result _ refl ∙ ap (λ (n : ℕ). replicate n nothing) c.cores-cores.ensures in
    λ i. record { world = c.args.board; profiles = zeros i }
