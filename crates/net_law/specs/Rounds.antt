-- A system of actors: one action of an actor is a partial function, and in a round each actor tries one.
use Rattle.std.specs.Prelude.{ℕ, zero, suc, List, Option}
use Rattle.std.specs.List.{fold}
use Rattle.std.specs.Option.{unwrap_or}

abbrev pub round : {S A : Type 0} → (A → S → Option S) → List A → S → S
round {S} {A} act all state = fold (λ (s : S) (a : A). unwrap_or (act a s) s) state all

abbrev pub rounds : {S A : Type 0} → (A → S → Option S) → List A → S → ℕ → S
rounds act all state zero = state
rounds act all state (suc r) = round act all (rounds act all state r)
