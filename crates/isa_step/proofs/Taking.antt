-- Where nothing is offered, nothing is taken.
use Rattle.std.specs.Prelude.{◌≡◌, Bool, true, false, Option, None}
use Rattle.std.proofs.Common.{refl}
use Rattle.core_regs.specs.declared.registers.Arch.{Arch}
use Rattle.isa_step.specs.Shown.{Shown}
use Rattle.isa_step.specs.Due.{take_by}

pub none_by : (a : Arch) (s : Shown) (b : Bool) → take_by a s true ≡ None → take_by a s b ≡ None
none_by a s true e = e
none_by a s false e = refl
