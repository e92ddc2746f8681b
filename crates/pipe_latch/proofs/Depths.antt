-- How deep a pipeline with stages is.
use Rattle.std.proofs.Common.{ℕ, ◌≡◌, ◌≤◌, ◌==◌, Bool, true, false, if◌then◌else◌, sym, subst, arith, List}
use Rattle.timing_law.specs.declared.pipe.Pipe.TheVariants.{Three, Five, Eight}
use Rattle.timing_law.specs.Table.{depth_of}
use Rattle.pipe_latch.specs.Latches.{InStages}
use Rattle.pipe_latch.specs.declared.in_flight.Stage.{Stage}
use Rattle.pipe_latch.specs.Stages.{pipe_with}

by_tests : (three five : Bool) → (1 ≤ depth_of (if three then Three else if five then Five else Eight)) × (depth_of (if three then Three else if five then Five else Eight) ≤ 5)
by_tests true five = (omega arith, omega arith)
by_tests false true = (omega arith, omega arith)
by_tests false false = (omega arith, omega arith)

pub in_bounds : (n d : ℕ) → d ≡ depth_of (pipe_with n) → (1 ≤ d) × (d ≤ 5)
in_bounds n d is = subst (λ k. (1 ≤ k) × (k ≤ 5)) (sym is) (by_tests (n == 3) (n == 5))

not_none : (d : ℕ) → 1 ≤ d → (d == 0) ≡ false
not_none d le = grind (arith, le)

pub deep : (n d : ℕ) → d ≡ depth_of (pipe_with n) → (d == 0) ≡ false
deep n d is = not_none d (in_bounds n d is).0

pub at_depth : (d e : ℕ) (ss : List Stage) → d ≡ e → InStages e 0 ss → InStages d 0 ss
at_depth d e ss is h = subst (λ k. InStages k 0 ss) (sym is) h
