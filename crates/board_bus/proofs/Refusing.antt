-- A bus that refuses an access is left as it was.
use Rattle.std.proofs.Common.{◌≡◌, ℕ, Option, Some, None, Result, refl, ap, sym, ◌∙◌, subst}
use Rattle.std.specs.Prelude.{IsErr, Ok}
use Rattle.std.proofs.lemmas.Bool.{false≢true}
use Rattle.bus_map.specs.Answers.{Answers}
use Rattle.bus_map.specs.declared.device.Access.{Access}
use Rattle.bus_map.specs.declared.device.BadAccess.{BadAccess}
use Rattle.board_machine.specs.declared.parts.Spot.{Spot}
use Rattle.board_machine.specs.Bus.{Devices, answer_at}
use Rattle.board_machine.proofs.Refusing.{refused_same}
use Rattle.board_bus.specs.State.{BusState, accessed}

no_err : (word : ℕ) (result : Result ℕ BadAccess) → result ≡ Ok word → IsErr result → ⊥
no_err word result e h = false≢true (subst IsErr e h)

refused_by : (b : BusState) (a : Access) (spot : Option Spot) (o : Option ℕ) (result : Result ℕ BadAccess) → answer_at b.devices a spot ≡ o → Answers o result → IsErr result → accessed a spot b ≡ b
refused_by b a spot None result e h is = ap (λ (d : Devices). record b { devices = d }) (refused_same b.devices a spot e)
refused_by b a spot (Some word) result e h is = absurd (no_err word result h is)

pub refused : (b new : BusState) (a : Access) (spot : Option Spot) (result : Result ℕ BadAccess) → Answers (answer_at b.devices a spot) result → new ≡ accessed a spot b → IsErr result → new ≡ b
refused b new a spot result h e is = e ∙ refused_by b a spot (answer_at b.devices a spot) result refl h is
