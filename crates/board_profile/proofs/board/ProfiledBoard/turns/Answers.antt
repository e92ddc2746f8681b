use Rattle.std.proofs.Common.{◌≡◌, ℕ, ◌<◌, length, sym, ◌∙◌, arith, subst}
use Rattle.board_profile.proofs.Counting.{AreTurns, turn_may, turn_more}
use Rattle.board_profile.proofs.board.ProfiledBoard.turns.Goals as goal

pub turn-requires : goal.turn-requires
turn-requires g c =
    let ready = turn_may c.args.self.now c.loop-k.self c.loop-k.k c.requires.amid (sym c.turn_count-k-end.ensures.turns ∙ c.turn_count-k-end.ensures.cores) (omega (arith, c.loop-k-test.true, c.turn_count-k-end.ensures.cores)) c.loop-k.invariant in
    record { there = ready.there; young = ready.young; spare = ready.spare }

pub loop-k-preserved : goal.loop-k-preserved
loop-k-preserved g c =
    turn_more c.args.self.now c.loop-k.self c.turn.new.self c.loop-k.k c.requires.amid (sym c.turn_count-k-end.ensures.turns ∙ c.turn_count-k-end.ensures.cores) (omega (arith, c.loop-k-test.true, c.turn_count-k-end.ensures.cores)) c.loop-k.invariant c.turn.ensures

pub returns : goal.returns
returns g c =
    let all : c.loop-k.k ≡ length c.args.self.now.world.schedule.clocks = omega (arith, c.loop-k-test.false, c.loop-k.auto.k-end, c.turn_count-k-end.ensures.turns) in
    subst (λ (k : ℕ). AreTurns c.args.self.now k c.loop-k.self) all c.loop-k.invariant
