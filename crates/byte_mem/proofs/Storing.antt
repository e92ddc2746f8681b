-- What a load, a store and a copy say of one another.
use Rattle.std.proofs.Common.{arith, ap, ◌∙◌, ℕ, ◌≡◌, ◌+◌, ◌-◌, ◌*◌, ◌%◌, ◌^◌, ◌≤◌, ◌<◌, ◌⊎◌, true, Some, List, length, slice_get, slice_range}
use Rattle.std.proofs.lemmas.Bool.{cond-true, leb-true}
use Rattle.core_regs.specs.declared.causes.Order.{Order}
use Rattle.core_regs.specs.declared.causes.Size.{Size}
use Rattle.byte_mem.specs.Access.{bytes_of, encoded, fits, loaded, number, overwritten, stored}
use Rattle.byte_mem.proofs.Numbers.{length_encoded, some_bytes, number_encoded}
use Rattle.byte_mem.proofs.Overwriting.{fits_within, length_overwritten, overwritten_elsewhere, overwritten_here}

pub length_stored : (m : List ℕ) (size : Size) (order : Order) (addr value : ℕ) → length (stored m size order addr value) ≡ length m
unfolding stored
length_stored m size order addr value = length_overwritten m addr (encoded order size value)

pub stored_elsewhere : (m : List ℕ) (size : Size) (order : Order) (addr value k : ℕ) → (k < addr) ⊎ (addr + bytes_of size ≤ k)
    → slice_get (stored m size order addr value) k ≡ slice_get m k
unfolding stored
stored_elsewhere m size order addr value k apart =
    overwritten_elsewhere m addr (encoded order size value) k (rw (length_encoded order size value) apart)

pub loaded_stored : (m : List ℕ) (size : Size) (order : Order) (addr value : ℕ) → fits m addr (bytes_of size) ≡ true
    → loaded (stored m size order addr value) size order addr ≡ Some (value % 2 ^ (8 * bytes_of size))
unfolding loaded stored
loaded_stored m size order addr value fit =
    let counted = leb-true (bytes_of size) (length m - addr) fit in
    let some = some_bytes size in
    let long = length_encoded order size value in
    let same = length_overwritten m addr (encoded order size value) in
    let here : slice_range (overwritten m addr (encoded order size value)) addr (addr + bytes_of size) ≡ encoded order size value =
    rw (← long) (overwritten_here m addr (encoded order size value) (omega arith)) in
    cond-true (fits (overwritten m addr (encoded order size value)) addr (bytes_of size)) _ _ (fits_within (overwritten m addr (encoded order size value)) addr (bytes_of size) (omega arith))
    ∙ ap (λ bs. Some (number order size bs)) here
    ∙ ap Some (number_encoded order size value)
