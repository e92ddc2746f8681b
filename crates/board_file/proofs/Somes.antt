-- An option of which it is known whether it is some, and which value it then has.
use Rattle.std.proofs.Common.{◌≡◌, Bool, true, false, Option, Some, None, IfSome, ap, refl, arith}
use Rattle.std.specs.Option.{is_some}
use Rattle.board_file.specs.Read.{only_if}

pub only_if_some : {X : Type 0} (o : Option X) (holds : Bool) (x : X) → is_some o ≡ holds → IfSome o (λ y. y ≡ x) → o ≡ only_if holds x
only_if_some (Some y) true x there same = ap Some same
only_if_some (Some y) false x there same = grind (arith, there)
only_if_some None true x there same = grind (arith, there)
only_if_some None false x there same = refl
