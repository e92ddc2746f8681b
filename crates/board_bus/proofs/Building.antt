-- Devices at their beginning.
use Rattle.std.proofs.Common.{◌≡◌, ℕ, zero, suc, ◌<◌, List, [], ◌∷◌, length, Some, refl, ap, arith, slice_get, slice_index_or}
use Rattle.board_file.specs.declared.board.UartRow.{UartRow}
use Rattle.board_machine.specs.World.{blobs_left, serials_of}

-- what holds of each row by its place
pub all_of : {X : Type 0} (P : X → Type 0) (rows : List X) → ((k : ℕ) (row : X) → slice_get rows k ≡ Some row → P row) → (k : ℕ) (d : X) → k < length rows → P (slice_index_or rows k d)
all_of P [] h k d l = absurd (omega (arith, l))
all_of P (r ∷ rs) h zero d l = h 0 r refl
all_of P (r ∷ rs) h (suc k) d l = all_of P rs (λ j row q. h (suc j) row q) k d (omega (arith, l))

pub serials_length : (rows : List UartRow) (blobs : List (List ℕ)) → length (serials_of rows blobs) ≡ length rows
serials_length [] blobs = refl
serials_length (r ∷ rs) blobs = ap suc (serials_length rs (blobs_left r.input blobs))
