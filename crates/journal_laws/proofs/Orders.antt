-- The events of a cycle are the ticks of the cores that tick in it, each once.
use Rattle.std.proofs.Common.{◌≡◌, ℕ, zero, suc, ◌<◌, ◌≤◌, ◌==◌, List, [], ◌∷◌, ◌++◌, length, map, filter, refl, ap, sym, ◌∙◌, subst, inl, inr, arith, slice_get, Bool, true, false, cond, add-one}
use Rattle.std.specs.List.{range_with_len}
use Rattle.std.proofs.lemmas.List.{append-nil, map-append}
use Rattle.std.proofs.lemmas.List.Folds.{list_any-append}
use Rattle.std.proofs.lemmas.List.FromFn.{filter_of_map_range_with_len_more}
use Rattle.std.proofs.lemmas.Bool.{ne_eqb}
use Rattle.board_machine.specs.declared.events.Event.TheVariants.{Tick}
use Rattle.board_machine.specs.Cycles.{core_of_turn, divides, ticks_where, turn_of, turns}
use Rattle.board_machine.specs.World.{Schedule}
use Rattle.board_machine.proofs.Turns.{turns_apart}
use Rattle.journal_laws.specs.Progress.{has, ticking}
use Rattle.journal_laws.proofs.Lists.{split_at_more}
use Rattle.journal_laws.proofs.Truths.{or_no}

-- those of the first k turns
abbrev ticking_to : Schedule → ℕ → ℕ → List ℕ
ticking_to s cycle k = filter (λ core. divides (slice_get s.clocks core) cycle) (map (core_of_turn s cycle) (range_with_len 0 k))

one_ticking : Schedule → ℕ → ℕ → List ℕ
one_ticking s cycle k = cond (divides (slice_get s.clocks (core_of_turn s cycle k)) cycle) (core_of_turn s cycle k ∷ []) []

one_more : (s : Schedule) (cycle k : ℕ) → ticking_to s cycle (suc k) ≡ ticking_to s cycle k ++ one_ticking s cycle k
unfolding one_ticking
one_more s cycle k =
    ap (ticking_to s cycle) (sym (add-one k)) ∙ filter_of_map_range_with_len_more (λ core. divides (slice_get s.clocks core) cycle) (core_of_turn s cycle) 0 k k (omega arith)

tick_where : (b : Bool) (core : ℕ) → ticks_where b core ≡ map Tick (cond b (core ∷ []) [])
tick_where true core = refl
tick_where false core = refl

turns_to : (s : Schedule) (cycle k : ℕ) → turns s cycle k ≡ map Tick (ticking_to s cycle k)
unfolding one_ticking
turns_to s cycle zero = refl
turns_to s cycle (suc k) =
    ap (λ es. es ++ turn_of s cycle k) (turns_to s cycle k)
    ∙ ap (λ es. map Tick (ticking_to s cycle k) ++ es) (tick_where (divides (slice_get s.clocks (core_of_turn s cycle k)) cycle) (core_of_turn s cycle k))
    ∙ sym (map-append Tick (ticking_to s cycle k) (one_ticking s cycle k))
    ∙ ap (map Tick) (sym (one_more s cycle k))

pub turns_are : (s : Schedule) (cycle : ℕ) → turns s cycle (length s.clocks) ≡ map Tick (ticking s.turn s.clocks cycle)
turns_are s cycle = turns_to s cycle (length s.clocks)

-- no core ticks twice in a cycle

not_one : (x core : ℕ) (b : Bool) → (core ≡ x → ⊥) → has x (cond b (core ∷ []) []) ≡ false
not_one x core true n = or_no (core == x) false (ne_eqb core x n) refl
not_one x core false n = refl

not_among : (s : Schedule) (cycle x k : ℕ) → ((j : ℕ) → j < k → core_of_turn s cycle j ≡ x → ⊥) → has x (ticking_to s cycle k) ≡ false
unfolding one_ticking
not_among s cycle x zero n = refl
not_among s cycle x (suc k) n =
    ap (has x) (one_more s cycle k)
    ∙ list_any-append (λ other. other == x) (ticking_to s cycle k) (one_ticking s cycle k)
    ∙ or_no (has x (ticking_to s cycle k)) (has x (one_ticking s cycle k)) (not_among s cycle x k (λ j l. n j (omega (arith, l))))
    (not_one x (core_of_turn s cycle k) (divides (slice_get s.clocks (core_of_turn s cycle k)) cycle) (n k (omega arith)))

abbrev IsOnce : List ℕ → Type 0
IsOnce xs = (i : ℕ) (done rest : List ℕ) → xs ≡ done ++ i ∷ rest → has i done ≡ false

once_more : (xs : List ℕ) (core : ℕ) (b : Bool) → has core xs ≡ false → IsOnce xs → IsOnce (xs ++ cond b (core ∷ []) [])
once_more xs core false n h i done rest e = h i done rest (sym (append-nil xs) ∙ e)
once_more xs core true n h i done rest e = elim (split_at_more done rest xs i core e) [
  | inl p ↦ ap (has i) p.0 ∙ ap (λ x. has x xs) p.1 ∙ n
  | inr p ↦ h i done p.0 p.1
]

none_once : IsOnce []
none_once i [] rest e = cc
none_once i (x ∷ done) rest e = cc

once_to : (s : Schedule) (cycle k : ℕ) → k ≤ length s.clocks → IsOnce (ticking_to s cycle k)
unfolding one_ticking
once_to s cycle zero l = none_once
once_to s cycle (suc k) l =
    let core = core_of_turn s cycle k in
    let n = not_among s cycle core k (λ j b e. omega (arith, b, turns_apart s.turn (length s.clocks) cycle j k (omega (arith, b, l)) (omega (arith, l)) e)) in
    subst IsOnce (sym (one_more s cycle k)) (once_more (ticking_to s cycle k) core (divides (slice_get s.clocks core) cycle) n (once_to s cycle k (omega (arith, l))))

-- no core stands twice in the order of a cycle
pub ticks_once : (s : Schedule) (cycle i : ℕ) (done rest : List ℕ) → ticking s.turn s.clocks cycle ≡ done ++ i ∷ rest → has i done ≡ false
ticks_once s cycle i done rest e = once_to s cycle (length s.clocks) (omega arith) i done rest e
