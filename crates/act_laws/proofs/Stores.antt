-- What is late is no store.
use Rattle.std.specs.Prelude.{◌≡◌, false, is_none}
use Rattle.std.proofs.Common.{refl}
use Rattle.op_table.specs.declared.kinds.Kind.{Kind}
use Rattle.op_table.specs.declared.kinds.Kind.TheVariants.{Store}
use Rattle.op_table.specs.Kinds.{latency_of, stores}

pub late_is_no_store : (kind : Kind) → is_none (latency_of kind) ≡ false → stores kind ≡ false
unfolding latency_of
late_is_no_store (Store size) h = cc
late_is_no_store _ h = refl
