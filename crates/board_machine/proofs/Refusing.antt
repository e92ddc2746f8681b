-- A device that refuses an access is left as it was.
use Rattle.std.proofs.Common.{◌≡◌, ℕ, List, [], ◌∷◌, ◌++◌, Option, Some, None, refl, ap, sym, ◌∙◌, slice_get, slice_set, Bool, true, false, cond, drop}
use Rattle.std.specs.Option.{option_map, option_and_then}
use Rattle.bus_map.specs.declared.device.Access.{Access}
use Rattle.bus_map.specs.declared.device.Access.TheVariants.{Read, Write}
use Rattle.axi_timer.specs.declared.timer.Timer.{Timer}
use Rattle.axi_timer.specs.declared.registers.Register.{Register as TimerRegister}
use Rattle.axi_timer.specs.Machine as timer
use Rattle.axi_intc.specs.declared.intc.Intc.{Intc}
use Rattle.axi_intc.specs.declared.registers.Register.{Register as IntcRegister}
use Rattle.axi_intc.specs.Machine as intc
use Rattle.uart_lite.specs.declared.registers.Register.{Register}
use Rattle.uart_lite.specs.declared.registers.Register.TheVariants.{Rx, Tx, Stat, Ctrl}
use Rattle.uart_lite.specs.Machine.{SerialPort, is_full}
use Rattle.uart_lite.specs.Machine as uart
use Rattle.board_machine.specs.declared.parts.Spot.{Spot}
use Rattle.board_machine.specs.declared.parts.Spot.TheVariants.{Timer as AtTimer, Intc as AtIntc, Uart as AtUart}
use Rattle.board_machine.specs.Places.{set_some}
use Rattle.board_machine.specs.Bus.{Devices, Serial, accessed_at, answer_at, port_accessed}
use Rattle.board_machine.proofs.Lists.{set_itself}

answers_zero : Option ℕ
answers_zero = Some 0

taken_same : (t : Timer) (r : TimerRegister) (word : ℕ) (taken : Bool) → cond taken answers_zero None ≡ None → cond taken (timer.written t r word) t ≡ t
unfolding answers_zero
taken_same t r word true e = cc
taken_same t r word false e = refl

timer_write : (t : Timer) (o : Option TimerRegister) (word : ℕ) → option_and_then (timer.write_answer word) o ≡ None → timer.written_at t o word ≡ t
unfolding answers_zero
timer_write t None word e = refl
timer_write t (Some r) word e = taken_same t r word (timer.is_taken r word) e

timer_refused : (t : Timer) (a : Access) → timer.answer t a ≡ None → timer.accessed t a ≡ t
timer_refused t (Read offset) e = refl
timer_refused t (Write offset word) e = timer_write t (timer.register_at offset) word e

intc_write : (c : Intc) (o : Option IntcRegister) (word : ℕ) → option_map {U = ℕ} (λ r. 0) o ≡ None → intc.written_at c o word ≡ c
intc_write c None word e = refl
intc_write c (Some r) word e = cc

intc_refused : (c : Intc) (a : Access) → intc.answer c a ≡ None → intc.accessed c a ≡ c
intc_refused c (Read offset) e = refl
intc_refused c (Write offset word) e = intc_write c (intc.register_at offset) word e

nothing_drops : (xs : List ℕ) → slice_get xs 0 ≡ None → drop 1 xs ≡ xs
nothing_drops [] e = refl
nothing_drops (x ∷ xs) e = cc

uart_read : (u : SerialPort) (o : Option Register) → option_and_then (uart.value_of u) o ≡ None → uart.read_at u o ≡ u
uart_read u None e = refl
uart_read u (Some Rx) e = ap (λ rx. record u { rx = rx }) (nothing_drops u.rx e)
uart_read u (Some Tx) e = cc
uart_read u (Some Stat) e = cc
uart_read u (Some Ctrl) e = cc

full_same : (u : SerialPort) (word : ℕ) (full : Bool) → cond full None answers_zero ≡ None → cond full u (record u { tx = u.tx ++ word ∷ [] }) ≡ u
unfolding answers_zero
full_same u word true e = refl
full_same u word false e = cc

uart_write : (u : SerialPort) (o : Option Register) (word : ℕ) → option_and_then (uart.taken_by u) o ≡ None → uart.written_at u o word ≡ u
unfolding answers_zero
uart_write u None word e = refl
uart_write u (Some Rx) word e = refl
uart_write u (Some Tx) word e = full_same u _ (is_full u.tx) e
uart_write u (Some Stat) word e = refl
uart_write u (Some Ctrl) word e = cc

uart_refused : (u : SerialPort) (a : Access) → uart.answer u a ≡ None → uart.accessed u a ≡ u
uart_refused u (Read offset) e = uart_read u (uart.register_at offset) e
uart_refused u (Write offset word) e = uart_write u (uart.register_at offset) word e

-- an element that a change leaves
pub touched_same : {X : Type 0} (xs : List X) (k : ℕ) (change : X → X) (o : Option X) → slice_get xs k ≡ o → ((x : X) → o ≡ Some x → change x ≡ x) → set_some xs k change o ≡ xs
touched_same xs k change None e same = refl
touched_same xs k change (Some x) e same = ap (slice_set xs k) (same x refl) ∙ set_itself xs k x e

refused_by : {X : Type 0} (o : Option X) (answer : X → Option ℕ) (x : X) → option_and_then answer o ≡ None → o ≡ Some x → answer x ≡ None
refused_by o answer x e q = sym (ap (option_and_then answer) q) ∙ e

pub refused_same : (d : Devices) (a : Access) (spot : Option Spot) → answer_at d a spot ≡ None → accessed_at d a spot ≡ d
unfolding answer_at accessed_at
refused_same d a None e = refl
refused_same d a (Some (AtTimer k)) e = ap (λ timers. record d { timers = timers }) (touched_same d.timers k (λ t. timer.accessed t a) (slice_get d.timers k) refl (λ t q. timer_refused t a (refused_by (slice_get d.timers k) (λ t. timer.answer t a) t e q)))
refused_same d a (Some (AtIntc k)) e = ap (λ intcs. record d { intcs = intcs }) (touched_same d.intcs k (λ c. intc.accessed c a) (slice_get d.intcs k) refl (λ c q. intc_refused c a (refused_by (slice_get d.intcs k) (λ c. intc.answer c a) c e q)))
refused_same d a (Some (AtUart k)) e = ap (λ uarts. record d { uarts = uarts }) (touched_same d.uarts k (port_accessed a) (slice_get d.uarts k) refl (λ u q. ap (λ port. record u { port = port }) (uart_refused u.port a (refused_by (slice_get d.uarts k) (λ (u : Serial). uart.answer u.port a) u e q))))
