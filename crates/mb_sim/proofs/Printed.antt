-- Lines that are written one after another.
use Rattle.std.specs.Io.KnownBytes.{append_known}
use Rattle.std.proofs.Common.{◌≡◌, ℕ, ◌+◌, ◌<◌, ◌≤◌, List, [], ◌∷◌, ◌++◌, length, take, drop, slice_get, Option, Some, None, Ok, Err, refl, sym, ap, subst, arith, append-nil}
use Rattle.std.specs.Prelude.{◌==◌, true}
use Rattle.std.proofs.lemmas.List.{take_all}
use Rattle.host_io.specs.declared.faults.StoreFault.{StoreFault}
use Rattle.host_io.specs.Outside.{SinkState, Adds}
use Rattle.run_journal.specs.declared.entry.Entry.{Entry}
use Rattle.board_machine.proofs.Lists.{slice_get_in}
use Rattle.piece_output.proofs.Added.{adds_cut, adds_then, pieces_all, pieces_next}
use Rattle.mb_sim.specs.Raw.{printed, printed_at, printed_of}

nothing_known : (known : Option (List ℕ)) → known ≡ append_known known []
nothing_known None = refl
nothing_known (Some bytes) = ap Some (sym (append-nil bytes))

-- no line leaves a stream as it is
pub no_line : (old : SinkState) (line : List ℕ) → (length line == 0) ≡ true → Adds old old line (Ok tt)
no_line old [] empty = (nothing_known old.written, refl)
no_line old (byte ∷ bytes) empty = absurd (grind (arith, empty))

-- the line of one more entry
pub entry_added : (old mid new : SinkState) (entries : List Entry) (k : ℕ) → k < length entries → Adds old mid (printed (take k entries)) (Ok tt)
    → Adds mid new (printed_at (slice_get entries k)) (Ok tt) → Adds old new (printed (take (k + 1) entries)) (Ok tt)
entry_added old mid new entries k l before h =
    let P : List ℕ → Type 0 = λ text. Adds old new text (Ok tt) in
    let Q : Option Entry → Type 0 = λ o. Adds mid new (printed_at o) (Ok tt) in
    let x = slice_get_in entries k l in
    subst P (sym (pieces_next printed_of entries k x.0 x.1)) (adds_then old mid new (printed (take k entries)) (printed_of x.0) (Ok tt) before (subst Q x.1 h))

-- the line of an entry was refused
pub entry_refused : (old mid new : SinkState) (entries : List Entry) (k : ℕ) (fault : StoreFault) → k < length entries → Adds old mid (printed (take k entries)) (Ok tt)
    → Adds mid new (printed_at (slice_get entries k)) (Err fault) → Adds old new (printed entries) (Err fault)
entry_refused old mid new entries k fault l before h =
    let P : List ℕ → Type 0 = λ text. Adds old new text (Err fault) in
    let Q : Option Entry → Type 0 = λ o. Adds mid new (printed_at o) (Err fault) in
    let x = slice_get_in entries k l in
    subst P (sym (pieces_all printed_of entries k x.0 x.1))
    (adds_cut old new (printed (take k entries) ++ printed_of x.0) (printed (drop (k + 1) entries)) fault
    (adds_then old mid new (printed (take k entries)) (printed_of x.0) (Err fault) before (subst Q x.1 h)))

pub all_printed : (old new : SinkState) (entries : List Entry) (k : ℕ) → length entries ≤ k → Adds old new (printed (take k entries)) (Ok tt) → Adds old new (printed entries) (Ok tt)
all_printed old new entries k l h = let P : List ℕ → Type 0 = λ text. Adds old new text (Ok tt) in subst P (ap printed (take_all k entries l)) h
