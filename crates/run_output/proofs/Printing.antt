-- Texts that are written one after another.
use Rattle.std.specs.Prelude.{⊤}
use Rattle.std.proofs.Common.{◌≡◌, ℕ, ◌+◌, ◌≤◌, ◌<◌, List, ◌++◌, length, take, drop, get_or, slice_get, flat_map, Some, Result, Ok, Err, sym, ap, subst, ◌∙◌, arith}
use Rattle.std.specs.List.{enumerate_from}
use Rattle.std.proofs.lemmas.List.{take_all}
use Rattle.std.proofs.lemmas.List.FromFn.{get_or-enumerate_from, length-enumerate_from}
use Rattle.std.proofs.lemmas.Option.{slice_get-get_or}
use Rattle.host_io.specs.declared.faults.StoreFault.{StoreFault}
use Rattle.host_io.specs.Outside.{SinkState, Adds}
use Rattle.piece_output.proofs.Added.{adds_cut, adds_then, pieces_next, pieces_all}

-- a row beside its number
pub numbered : {X : Type 0} (xs : List X) (k : ℕ) (x : X) → k < length xs → x ≡ get_or xs k x → slice_get (enumerate_from 0 xs) k ≡ Some (k, x)
numbered xs k x within at =
    let same : length (enumerate_from 0 xs) ≡ length xs = length-enumerate_from 0 xs in
    let from_0 : 0 + k ≡ k = omega arith in
    slice_get-get_or (enumerate_from 0 xs) k (k, x) (omega arith)
    ∙ ap Some (get_or-enumerate_from 0 xs k (k, x) within ∙ ap (λ n. (n, get_or xs k x)) from_0 ∙ ap (λ y. (k, y)) (sym at))

-- the line of one more row was written
pub line_added : {X : Type 0} (old mid new : SinkState) (f : (ℕ × X) → List ℕ) (xs : List X) (k : ℕ) (x : X) (line : List ℕ)
    → k < length xs → x ≡ get_or xs k x → line ≡ f (k, x) → Adds old mid (flat_map f (take k (enumerate_from 0 xs))) (Ok tt)
    → Adds mid new line (Ok tt) → Adds old new (flat_map f (take (k + 1) (enumerate_from 0 xs))) (Ok tt)
line_added old mid new f xs k x line within at is before h =
    let P : List ℕ → Type 0 = λ text. Adds old new text (Ok tt) in
    let rows : List _ = enumerate_from 0 xs in
    subst P (ap (λ ys. flat_map f (take k rows) ++ ys) is ∙ sym (pieces_next f rows k (k, x) (numbered xs k x within at)))
    (adds_then old mid new (flat_map f (take k rows)) line (Ok tt) before h)

-- the line of a row was refused
pub line_refused : {X : Type 0} (old mid new : SinkState) (f : (ℕ × X) → List ℕ) (xs : List X) (k : ℕ) (x : X) (line : List ℕ) (fault : StoreFault)
    → k < length xs → x ≡ get_or xs k x → line ≡ f (k, x) → Adds old mid (flat_map f (take k (enumerate_from 0 xs))) (Ok tt)
    → Adds mid new line (Err fault) → Adds old new (flat_map f (enumerate_from 0 xs)) (Err fault)
line_refused old mid new f xs k x line fault within at is before h =
    let P : List ℕ → Type 0 = λ text. Adds old new text (Err fault) in
    let rows : List _ = enumerate_from 0 xs in
    subst P (ap (λ ys. (flat_map f (take k rows) ++ ys) ++ flat_map f (drop (k + 1) rows)) is ∙ sym (pieces_all f rows k (k, x) (numbered xs k x within at)))
    (adds_cut old new (flat_map f (take k rows) ++ line) (flat_map f (drop (k + 1) rows)) fault
    (adds_then old mid new (flat_map f (take k rows)) line (Err fault) before h))

-- the lines of all rows were written
pub all_lines : {X : Type 0} (old new : SinkState) (f : (ℕ × X) → List ℕ) (xs : List X) (k : ℕ) → length xs ≤ k
    → Adds old new (flat_map f (take k (enumerate_from 0 xs))) (Ok tt) → Adds old new (flat_map f (enumerate_from 0 xs)) (Ok tt)
all_lines old new f xs k passed h =
    let P : List ℕ → Type 0 = λ text. Adds old new text (Ok tt) in
    let same : length (enumerate_from 0 xs) ≡ length xs = length-enumerate_from 0 xs in
    subst P (ap (flat_map f) (take_all k (enumerate_from 0 xs) (omega arith))) h

-- a text of a value that the code sees under another name
pub adds_of : {A : Type 0} (old new : SinkState) (text : A → List ℕ) (seen of : A) (result : Result ⊤ StoreFault) → seen ≡ of
    → Adds old new (text seen) result → Adds old new (text of) result
adds_of old new text seen of result same h = let P : _ → Type 0 = λ a. Adds old new (text a) result in subst P same h
