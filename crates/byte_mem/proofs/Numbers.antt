-- Numbers and their bytes, at each size and in both orders.
use Rattle.std.proofs.Common.{arith, refl, ℕ, ◌≡◌, ◌*◌, ◌%◌, ◌^◌, ◌≤◌, length}
use Rattle.core_regs.specs.declared.causes.Order.{Order}
use Rattle.core_regs.specs.declared.causes.Order.TheVariants.{Big, Little}
use Rattle.core_regs.specs.declared.causes.Size.{Size}
use Rattle.core_regs.specs.declared.causes.Size.TheVariants.{Byte, Half, Word}
use Rattle.byte_mem.specs.Access.{bytes_of, encoded, number}

pub some_bytes : (size : Size) → 1 ≤ bytes_of size
some_bytes Byte = omega arith
some_bytes Half = omega arith
some_bytes Word = omega arith

pub length_encoded : (order : Order) (size : Size) (value : ℕ) → length (encoded order size value) ≡ bytes_of size
length_encoded Big Byte value = refl
length_encoded Big Half value = refl
length_encoded Big Word value = refl
length_encoded Little Byte value = refl
length_encoded Little Half value = refl
length_encoded Little Word value = refl

pub number_encoded : (order : Order) (size : Size) (value : ℕ) → number order size (encoded order size value) ≡ value % 2 ^ (8 * bytes_of size)
number_encoded Big Byte value = omega arith
number_encoded Big Half value = omega arith
number_encoded Big Word value = omega arith
number_encoded Little Byte value = omega arith
number_encoded Little Half value = omega arith
number_encoded Little Word value = omega arith
