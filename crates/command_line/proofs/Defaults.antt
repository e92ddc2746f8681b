-- A row that a default adds.
use Rattle.std.proofs.Common.{◌≡◌, false, List, [], ◌∷◌, Some, refl}
use Rattle.std.specs.Str.{bytes_eq}
use Rattle.clap.specs.Walk.{Row, Text, first_of, has_row, with_values}
use Rattle.clap.specs.declared.builder.value_parser.Reading.{Reading}
use Rattle.clap.specs.declared.parser.matches.ValueSource.{ValueSource}
use Rattle.command_line.proofs.Filled.{first_step, neither, same_text}

pub default_first : (n : Text) (how : Reading) (source : ValueSource) (v : Text) (rows : List Row) → has_row n rows ≡ false → first_of n (with_values n how source (v ∷ []) rows) ≡ Some v
default_first n how source v [] new = rw (same_text n) refl
default_first n how source v (r ∷ rs) new =
    let (here, others) = neither (bytes_eq r.id n) (has_row n rs) new in
    rw (here, here) (default_first n how source v rs others)

pub default_other : (n m : Text) (how : Reading) (source : ValueSource) (v : Text) (rows : List Row) → bytes_eq n m ≡ false → has_row n rows ≡ false
    → first_of m (with_values n how source (v ∷ []) rows) ≡ first_of m rows
default_other n m how source v [] other new = rw other refl
default_other n m how source v (r ∷ rs) other new =
    let (here, others) = neither (bytes_eq r.id n) (has_row n rs) new in
    rw here (first_step m r (with_values n how source (v ∷ []) rs) rs (bytes_eq r.id m) refl (default_other n m how source v rs other others))
