-- One beginning, one limit: one run.
use Rattle.std.proofs.Common.{◌≡◌, ℕ, zero, suc, ◌<◌, List, [], ◌∷◌, map, Some, None, refl, ap, sym, ◌∙◌, subst, ◌⊎◌, inl, inr, arith}
use Rattle.std.proofs.lemmas.Option.{same_Some}
use Rattle.isa_step.specs.Effects.{View}
use Rattle.board_file.specs.declared.board.BoardFile.{BoardFile}
use Rattle.board_machine.specs.declared.events.RunEnd.{RunEnd}
use Rattle.board_machine.specs.World.{CoreAt, Inputs, World}
use Rattle.exact_machine.specs.Machine.{ExactCore, ExactWorld, with_slack}
use Rattle.exact_machine.specs.Opening.{AreOpen, AreSame, IsOpen, StandsFor, without_slack}
use Rattle.exact_machine.specs.Runs.{ExactRun, exact_cycles, exact_end, exact_start}
use Rattle.exact_machine.specs.Laws.{RanExactly, RunsAreDetermined}

same_both : (x : ExactWorld) (w v : World) → StandsFor x w → StandsFor x v → AreSame w v
same_both x w v a b = record { schedule = a.schedule ∙ sym b.schedule; cores = a.cores ∙ sym b.cores; fabric = a.fabric ∙ sym b.fabric }

cores_stand : (xs : List ExactCore) (ss : List CoreAt) → AreOpen xs ss → map without_slack ss ≡ map without_slack (map (with_slack 0) xs)
cores_stand [] [] h = refl
cores_stand [] (s ∷ ss) h = absurd h
cores_stand (x ∷ xs) [] h = absurd h
cores_stand (x ∷ xs) (s ∷ ss) h = ap (λ s. without_slack s ∷ map without_slack ss) h.0.core ∙ ap (λ ss. with_slack 0 x ∷ ss) (cores_stand xs ss h.1)

pub open_stands : (x : ExactWorld) (w : World) → IsOpen x w → StandsFor x w
open_stands x w h = record { schedule = h.schedule; cores = cores_stand x.cores w.cores h.cores; fabric = h.fabric }

one_or_other : (m n : ℕ) → (m ≡ n) ⊎ ((m < n) ⊎ (n < m))
one_or_other zero zero = inl refl
one_or_other zero (suc n) = inr (inl (omega arith))
one_or_other (suc m) zero = inr (inr (omega arith))
one_or_other (suc m) (suc n) = elim (one_or_other m n) [
  | inl e ↦ inl (ap suc e)
  | inr o ↦ elim o [
    | inl l ↦ inr (inl (omega (arith, l)))
    | inr l ↦ inr (inr (omega (arith, l)))
  ]
]

-- a run that goes on has no end there
not_before : (limit : ℕ) (old new other : ExactWorld) (end last : RunEnd) → (a : ExactRun limit old new end) → (b : ExactRun limit old other last) → a.count < b.count → ⊥
not_before limit old new other end last a b l =
    let z : Some end ≡ None = sym a.ends ∙ ap (exact_end limit) a.ran ∙ b.goes_on a.count l in
    cc

one_end : (limit : ℕ) (old new other : ExactWorld) (end last : RunEnd) → ExactRun limit old new end → ExactRun limit old other last → (new ≡ other) × (end ≡ last)
one_end limit old new other end last a b = elim (one_or_other a.count b.count) [
  | inl e ↦
      let same : new ≡ other = a.ran ∙ ap (exact_cycles old) e ∙ sym b.ran in
      (same, same_Some end last (sym a.ends ∙ ap (exact_end limit) same ∙ b.ends))
  | inr o ↦ elim o [
    | inl l ↦ absurd (not_before limit old new other end last a b l)
    | inr l ↦ absurd (not_before limit old other new last end b a l)
  ]
]

one_run : (b : BoardFile) (views : List View) (inputs : Inputs) (room limit : ℕ) (w v : World) (end last : RunEnd) → RanExactly b views inputs room limit w end → RanExactly b views inputs room limit v last → AreSame w v × (end ≡ last)
one_run b views inputs room limit w v end last p q =
    let one = one_end limit (exact_start b views inputs room) p.last q.last end last p.ran q.ran in
    (same_both q.last w v (subst (λ x. StandsFor x w) one.0 p.stands) q.stands, one.1)

pub determined : RunsAreDetermined
determined = record { same = same_both; stands = open_stands; one_end = one_end; one_run = one_run }
