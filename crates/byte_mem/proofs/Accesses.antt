-- Aligned accesses meet one word.
use Rattle.std.proofs.Common.{arith, ap, ◌∙◌, ℕ, ◌≡◌, ◌+◌, ◌-◌, ◌/◌, ◌%◌, ◌≤◌, ◌<◌, true, false, Some, None, List, length, slice_range}
use Rattle.std.specs.List.{concat, All}
use Rattle.std.proofs.Math.ListN.{get_or, set}
use Rattle.std.proofs.lemmas.Bool.{cond-true, cond-false, lt-leb}
use Rattle.core_regs.specs.declared.causes.Order.{Order}
use Rattle.core_regs.specs.declared.causes.Size.{Size}
use Rattle.core_regs.specs.declared.causes.Size.TheVariants.{Byte, Half, Word}
use Rattle.byte_mem.specs.Access.{bytes_of, encoded, fits, loaded, number, overwritten, stored}
use Rattle.byte_mem.specs.Words.{IsWord}
use Rattle.byte_mem.proofs.Joined.{length_joined, range_joined, overwritten_joined}
use Rattle.byte_mem.proofs.Numbers.{length_encoded, some_bytes}
use Rattle.byte_mem.proofs.Overwriting.{fits_within}

pub in_one_word : (size : Size) (addr : ℕ) → addr % bytes_of size ≡ 0 → addr % 4 + bytes_of size ≤ 4
in_one_word Byte addr aligned = omega arith
in_one_word Half addr aligned = omega arith
in_one_word Word addr aligned = omega arith

pub fits_word : (ws : List (List ℕ)) (size : Size) (addr : ℕ) → All IsWord ws → addr % bytes_of size ≡ 0 → addr / 4 < length ws
    → fits (concat ws) addr (bytes_of size) ≡ true
fits_word ws size addr whole aligned within =
    let long = length_joined ws whole in
    let inside = in_one_word size addr aligned in
    fits_within (concat ws) addr (bytes_of size) (omega arith)

pub fits_no_word : (ws : List (List ℕ)) (size : Size) (addr : ℕ) → All IsWord ws → length ws ≤ addr / 4
    → fits (concat ws) addr (bytes_of size) ≡ false
fits_no_word ws size addr whole past =
    let long = length_joined ws whole in
    let some = some_bytes size in
    lt-leb (bytes_of size) (length (concat ws) - addr) (omega arith)

pub loaded_word : (ws : List (List ℕ)) (size : Size) (order : Order) (addr : ℕ) (d : List ℕ) → All IsWord ws → addr % bytes_of size ≡ 0 → addr / 4 < length ws
    → loaded (concat ws) size order addr ≡ Some (number order size (slice_range (get_or ws (addr / 4) d) (addr % 4) (addr % 4 + bytes_of size)))
unfolding loaded
loaded_word ws size order addr d whole aligned within =
    cond-true (fits (concat ws) addr (bytes_of size)) _ _ (fits_word ws size addr whole aligned within)
    ∙ ap (λ bs. Some (number order size bs)) (range_joined ws addr (bytes_of size) d whole within (in_one_word size addr aligned))

pub loaded_no_word : (ws : List (List ℕ)) (size : Size) (order : Order) (addr : ℕ) → All IsWord ws → length ws ≤ addr / 4
    → loaded (concat ws) size order addr ≡ None
unfolding loaded
loaded_no_word ws size order addr whole past =
    cond-false (fits (concat ws) addr (bytes_of size)) _ _ (fits_no_word ws size addr whole past)

pub stored_word : (ws : List (List ℕ)) (size : Size) (order : Order) (addr value : ℕ) (d : List ℕ) → All IsWord ws → addr % bytes_of size ≡ 0 → addr / 4 < length ws
    → concat (set ws (addr / 4) (overwritten (get_or ws (addr / 4) d) (addr % 4) (encoded order size value))) ≡ stored (concat ws) size order addr value
unfolding stored
stored_word ws size order addr value d whole aligned within =
    let long = length_encoded order size value in
    let inside = in_one_word size addr aligned in
    overwritten_joined ws addr (encoded order size value) d whole within (omega arith)

pub stored_no_word : (ws : List (List ℕ)) (size : Size) (order : Order) (addr value : ℕ) → All IsWord ws → length ws ≤ addr / 4
    → stored (concat ws) size order addr value ≡ concat ws
unfolding stored
stored_no_word ws size order addr value whole past =
    cond-false (fits (concat ws) addr (length (encoded order size value))) _ _
    (ap (fits (concat ws) addr) (length_encoded order size value) ∙ fits_no_word ws size addr whole past)
