-- What a core of any pipeline means.
use Rattle.core_iface.specs.Cores.{CoreState}
use Rattle.core_iface.specs.Plain.{plain_state}
use Rattle.pipe_latch.specs.Cores.{staged_state}
use Rattle.any_core.specs.declared.AnyCore.{AnyCore}
use Rattle.any_core.specs.declared.AnyCore.TheVariants.{Plain, Three, Five, Eight}

abbrev pub any_state : AnyCore → CoreState
any_state (Plain core) = plain_state core
any_state (Three core) = staged_state core
any_state (Five core) = staged_state core
any_state (Eight core) = staged_state core
