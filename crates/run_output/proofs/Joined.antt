-- A file that is written piece by piece.
use Rattle.std.proofs.Common.{◌≡◌, ℕ, ◌+◌, ◌≤◌, length, List, ◌++◌, take, drop, slice_get, flat_map, Some, Err, sym, ap, subst, ◌∙◌, append_assoc, append-nil}
use Rattle.std.proofs.lemmas.List.{take_all}
use Rattle.host_io.specs.declared.faults.StoreFault.{StoreFault}
use Rattle.host_io.specs.Outside.{ShelfState}
use Rattle.piece_output.specs.Stored.{Wrote, IsWriting}
use Rattle.piece_output.proofs.Added.{pieces_next, pieces_all}
use Rattle.piece_output.proofs.Written.{failed_longer}

-- the piece of one more item was added
pub piece_added : {X : Type 0} (old now : ShelfState) (name buffer done piece : List ℕ) (f : X → List ℕ) (xs : List X) (k : ℕ) (x : X)
    → slice_get xs k ≡ Some x → piece ≡ f x → IsWriting old now name buffer ((done ++ flat_map f (take k xs)) ++ piece)
    → IsWriting old now name buffer (done ++ flat_map f (take (k + 1) xs))
piece_added old now name buffer done piece f xs k x at is w =
    let P : List ℕ → Type 0 = λ bytes. IsWriting old now name buffer bytes in
    subst P (ap (λ ys. (done ++ flat_map f (take k xs)) ++ ys) is ∙ append_assoc done (flat_map f (take k xs)) (f x) ∙ ap (λ ys. done ++ ys) (sym (pieces_next f xs k x at))) w

-- the piece of an item was refused
pub piece_refused : {X : Type 0} (old new : ShelfState) (name done piece : List ℕ) (f : X → List ℕ) (xs : List X) (k : ℕ) (x : X) (fault : StoreFault)
    → slice_get xs k ≡ Some x → piece ≡ f x → Wrote old new name ((done ++ flat_map f (take k xs)) ++ piece) (Err fault)
    → Wrote old new name (done ++ flat_map f xs) (Err fault)
piece_refused old new name done piece f xs k x fault at is h =
    let P : List ℕ → Type 0 = λ bytes. Wrote old new name bytes (Err fault) in
    let front = done ++ flat_map f (take k xs) in
    subst P (append_assoc front (f x) (flat_map f (drop (k + 1) xs)) ∙ append_assoc done (flat_map f (take k xs)) (f x ++ flat_map f (drop (k + 1) xs))
    ∙ ap (λ ys. done ++ ys) (sym (append_assoc (flat_map f (take k xs)) (f x) (flat_map f (drop (k + 1) xs))) ∙ sym (pieces_all f xs k x at)))
    (failed_longer old new name (front ++ f x) (flat_map f (drop (k + 1) xs)) fault (subst P (ap (λ ys. front ++ ys) is) h))

-- the pieces of no item, and of all
pub no_piece : {X : Type 0} (old now : ShelfState) (name buffer done : List ℕ) (f : X → List ℕ) (xs : List X) → IsWriting old now name buffer done
    → IsWriting old now name buffer (done ++ flat_map f (take 0 xs))
no_piece old now name buffer done f xs w = let P : List ℕ → Type 0 = λ bytes. IsWriting old now name buffer bytes in subst P (sym (append-nil done)) w

pub all_pieces : {X : Type 0} (old now : ShelfState) (name buffer done : List ℕ) (f : X → List ℕ) (xs : List X) (k : ℕ) → length xs ≤ k
    → IsWriting old now name buffer (done ++ flat_map f (take k xs)) → IsWriting old now name buffer (done ++ flat_map f xs)
all_pieces old now name buffer done f xs k passed w =
    let P : List ℕ → Type 0 = λ bytes. IsWriting old now name buffer bytes in
    subst P (ap (λ ys. done ++ flat_map f ys) (take_all k xs passed)) w
