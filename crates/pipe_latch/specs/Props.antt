-- The invariants of latches are propositions.
use Rattle.std.proofs.Common.{ℕ, ◌+◌, List, [], ◌∷◌}
use Rattle.std.proofs.Props.{props}
use Rattle.core_regs.specs.declared.causes.Order.{Order}
use Rattle.pipe_latch.specs.declared.fetching.Fetched.{Fetched}
use Rattle.pipe_latch.specs.declared.in_flight.Stage.{Stage}
use Rattle.pipe_latch.specs.Latches.{AreWords, InStages}

pub stages_prop : (depth age : ℕ) (ss : List Stage) → IsProp (InStages depth age ss)
stages_prop depth age [] = hlevel props
stages_prop depth age (s ∷ ss) = hlevel (props, stages_prop depth (age + 1) ss)

pub words_prop : (m : List ℕ) (order : Order) (fs : List Fetched) → IsProp (AreWords m order fs)
words_prop m order [] = hlevel props
words_prop m order (f ∷ fs) = hlevel (props, words_prop m order fs)
