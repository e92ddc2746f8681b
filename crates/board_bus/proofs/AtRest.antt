-- Devices that pass their tests are at rest.
use Rattle.std.proofs.Common.{◌≡◌, ℕ, zero, suc, ◌<◌, List, [], ◌∷◌, length, Option, Some, None, refl, ap, sym, ◌∙◌, subst, inl, inr, ◌⊎◌, arith, slice_get, Bool, true, false, cond, ◌&&◌, ◌||◌, ◌==◌, not}
use Rattle.std.specs.Prelude.{bit_or, if◌then◌else◌, position}
use Rattle.std.specs.List.{list_all}
use Rattle.std.proofs.lemmas.Bool.Decides.{nat_tests}
use Rattle.std.proofs.lemmas.Option.{same_Some, slice_get_within}
use Rattle.axi_intc.specs.declared.intc.Intc.{Intc}
use Rattle.axi_intc.specs.Machine.{hie, output}
use Rattle.axi_intc.specs.Machine as intc
use Rattle.axi_timer.specs.declared.counter.Counter.{Counter}
use Rattle.axi_timer.specs.declared.timer.Timer.{Timer}
use Rattle.axi_timer.specs.Machine.{arht, counted, cycled_counter, ent, load, loaded, udt}
use Rattle.axi_timer.specs.Machine as timer
use Rattle.bus_map.specs.Bits.{has}
use Rattle.board_file.specs.declared.board.IntcRow.{IntcRow}
use Rattle.board_machine.specs.Bus.{DeviceRows, Devices, Serial, is_done}
use Rattle.board_machine.specs.DeviceMoves.{controller, inputs_of, output_of}
use Rattle.board_machine.specs.Fabric.{is_on}
use Rattle.board_machine.proofs.Lists.{and_left, and_right, last_or_before}
use Rattle.quiet_cycles.specs.Quiet.{AreAtRest}
use Rattle.board_bus.specs.RestTests.{counter_rests, intc_rests, intc_rests_at, intcs_rest, serial_rests, timer_rests}

not_true : (b : Bool) → not b ≡ true → b ≡ false
not_true true e = cc
not_true false e = refl

all_at : {X : Type 0} (p : X → Bool) (xs : List X) (k : ℕ) (x : X) → list_all p xs ≡ true → slice_get xs k ≡ Some x → p x ≡ true
all_at p [] k x e q = cc
all_at p (y ∷ xs) zero x e q = subst (λ x. p x ≡ true) (same_Some y x q) (and_left (p y) (list_all p xs) e)
all_at p (y ∷ xs) (suc k) x e q = all_at p xs k x (and_right (p y) (list_all p xs) e) q

-- a counter, by its tests

stays_by : (load ent over arht : Bool) (c once more : Counter) → not load && (not ent || (over && not arht)) ≡ true → (if load then once else if not ent then c else if over then (if arht then once else c) else more) ≡ c
stays_by true ent over arht c once more e = cc
stays_by false false over arht c once more e = refl
stays_by false true false arht c once more e = cc
stays_by false true true true c once more e = cc
stays_by false true true false c once more e = refl

counter_stays : (c : Counter) → counter_rests c ≡ true → cycled_counter c ≡ c
counter_stays c e = stays_by (has load c.tcsr.0) (has ent c.tcsr.0) c.over (has arht c.tcsr.0) c (loaded c) (counted (has udt c.tcsr.0) c) e

timer_stays : (t : Timer) → timer_rests t ≡ true → timer.cycled t ≡ t
timer_stays t e =
    let first = counter_stays t.first (and_left (counter_rests t.first) (counter_rests t.second) e) in
    let second = counter_stays t.second (and_right (counter_rests t.first) (counter_rests t.second) e) in
    λ i. record { first = first i; second = second i }

-- a controller

same_number : (m n : ℕ) → m == n ≡ true → m ≡ n
same_number m n e = grind (arith, nat_tests)

takes_none : (enabled : Bool) (inputs : ℕ) (c : Intc) → not enabled || (bit_or c.isr inputs == c.isr) ≡ true → (if enabled then record c { isr = bit_or c.isr inputs } else c) ≡ c
takes_none true inputs c e = ap (λ isr. record c { isr = isr }) (same_number (bit_or c.isr inputs) c.isr e)
takes_none false inputs c e = refl

intc_stays : (inputs : ℕ) (c : Intc) → intc_rests inputs c ≡ true → intc.cycled inputs c ≡ c
intc_stays inputs c e = takes_none (has hie c.mer.0) inputs c e

RestsAt : DeviceRows → Devices → ℕ → Type 0
RestsAt bus d k = intc_rests_at bus d (slice_get bus.intcs k) (slice_get d.intcs k) ≡ true

rests_last : (bus : DeviceRows) (d : Devices) (n k : ℕ) → ((j : ℕ) → j < n → RestsAt bus d j) → RestsAt bus d n → (k ≡ n) ⊎ (k < n) → RestsAt bus d k
rests_last bus d n k before last (inl same) = subst (RestsAt bus d) (sym same) last
rests_last bus d n k before last (inr less) = before k less

rests_at : (bus : DeviceRows) (d : Devices) (n k : ℕ) → intcs_rest bus d n ≡ true → k < n → RestsAt bus d k
unfolding RestsAt
rests_at bus d zero k e l = absurd (omega (arith, l))
rests_at bus d (suc n) k e l = rests_last bus d n k (λ j m. rests_at bus d n j (and_left (intcs_rest bus d n) _ e) m) (and_right (intcs_rest bus d n) _ e) (last_or_before k n l)

is_low : (intcs : List Intc) → list_all (λ c. not (output c)) intcs ≡ true → (k : ℕ) (o : Option Intc) → slice_get intcs k ≡ o → output_of o ≡ false
is_low intcs e k None q = refl
is_low intcs e k (Some c) q = not_true (output c) (all_at (λ c. not (output c)) intcs k c e q)

low_by : (intcs : List Intc) → list_all (λ c. not (output c)) intcs ≡ true → (o : Option ℕ) → output_of (controller intcs o) ≡ false
low_by intcs e None = refl
low_by intcs e (Some k) = is_low intcs e k (slice_get intcs k) refl

pub are_at_rest : (bus : DeviceRows) (d : Devices) → list_all timer_rests d.timers ≡ true → list_all serial_rests d.uarts ≡ true → list_all (λ c. not (output c)) d.intcs ≡ true → intcs_rest bus d (length bus.intcs) ≡ true → AreAtRest bus d
unfolding RestsAt
are_at_rest bus d timers uarts low intcs = record {
  timers = λ k t q. timer_stays t (all_at timer_rests d.timers k t timers q);
  uarts = λ k u q.
      let e = all_at serial_rests d.uarts k u uarts q in
      (and_left (is_done u) (not u.port.edge) e, not_true u.port.edge (and_right (is_done u) (not u.port.edge) e));
  intcs = λ k r c p q.
      let e : intc_rests_at bus d (slice_get bus.intcs k) (slice_get d.intcs k) ≡ true = rests_at bus d (length bus.intcs) k intcs (slice_get_within bus.intcs k r p) in
      intc_stays (inputs_of bus d r.core) c (ap (λ o. intc_rests_at bus d o (Some c)) (sym p) ∙ ap (intc_rests_at bus d (slice_get bus.intcs k)) (sym q) ∙ e);
  low = λ core. low_by d.intcs low (position (is_on core) bus.intcs);
}
