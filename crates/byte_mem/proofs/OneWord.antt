-- What the code writes into one word.
use Rattle.std.proofs.Common.{arith, ℕ, ◌≡◌, ◌+◌, ◌/◌, ◌%◌, ◌≤◌, bit_and, List, length}
use Rattle.std.proofs.Math.ListN.{get_or, set}
use Rattle.std.proofs.Math.Numerals.{add-one}
use Rattle.std.proofs.lemmas.Nat.{and_mask}
use Rattle.core_regs.specs.declared.causes.Order.{Order}
use Rattle.core_regs.specs.declared.causes.Order.TheVariants.{Big, Little}
use Rattle.core_regs.specs.declared.causes.Size.TheVariants.{Byte, Half}
use Rattle.byte_mem.specs.Access.{encoded, overwritten}
use Rattle.byte_mem.proofs.Overwriting.{sets_overwrite}

pub byte_lane : (order : Order) (word : List ℕ) (at value : ℕ) → at + 1 ≤ length word
    → set word at (bit_and value 255) ≡ overwritten word at (encoded order Byte value)
byte_lane Big word at value within = rw (and_mask value 8) (sets_overwrite word at (encoded Big Byte value) within)
byte_lane Little word at value within = rw (and_mask value 8) (sets_overwrite word at (encoded Little Byte value) within)

high_byte : (value : ℕ) → value % 65536 / 256 % 256 ≡ value / 256 % 256
high_byte value = omega arith

low_byte : (value : ℕ) → value % 65536 % 256 ≡ value % 256
low_byte value = omega arith

pub half_lanes : (order : Order) (word : List ℕ) (at value : ℕ) → at + 2 ≤ length word
    → set (set word at (get_or (encoded order Half (bit_and value 65535)) 0 0)) (at + 1) (get_or (encoded order Half (bit_and value 65535)) 1 0) ≡ overwritten word at (encoded order Half value)
half_lanes Big word at value within =
    rw (and_mask value 16, high_byte value, low_byte value, add-one at) (sets_overwrite word at (encoded Big Half value) within)
half_lanes Little word at value within =
    rw (and_mask value 16, high_byte value, low_byte value, add-one at) (sets_overwrite word at (encoded Little Half value) within)
