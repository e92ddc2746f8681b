-- A front of the bytes came to the end of a file or of what a writer holds.
use Rattle.std.specs.Prelude.{⊤}
use Rattle.std.proofs.Common.{◌≡◌, ℕ, ◌+◌, min, List, ◌++◌, length, take, drop, Option, Result, Ok, Err, OnOk, OnErr, inl, inr, sym, ap, subst, ◌∙◌, arith, append_assoc, take-append-drop, length-append}
use Rattle.std.proofs.Math.Seq.{take-append_seam}
use Rattle.std.proofs.lemmas.List.{take_min}
use Rattle.std.specs.Io.KnownBytes.{Appends}
use Rattle.host_io.specs.declared.faults.StoreFault.{StoreFault}
use Rattle.host_io.specs.Outside.{Files, Grows, MayGrow, SameFiles}
use Rattle.host_io.specs.Streams.{AppendsPrefix}

-- a file that grew by a front of the bytes, or not at all
pub may_grow : (name part bytes : List ℕ) (moved : ℕ) (old new : Files) (r : Result ⊤ StoreFault) → part ≡ take moved bytes
    → OnOk r (Grows name part old new) → OnErr r (SameFiles old new) → MayGrow name bytes old new
may_grow name part bytes moved old new (Ok done) is grown same =
    let P : List ℕ → Type 0 = λ front. Grows name front old new in
    inr (min moved (length bytes), omega arith, subst P (is ∙ sym (take_min moved bytes)) grown)
may_grow name part bytes moved old new (Err fault) is grown same = inl same

-- what holds after a call holds at its refusal
pub at_refusal : {T E : Type 0} (r : Result T E) (P : Type 0) → P → OnErr r P
at_refusal (Ok x) P holds = tt
at_refusal (Err fault) P holds = holds

-- n more bytes go over from the rest to those that are done
pub moved_over : (all done rest : List ℕ) (n : ℕ) → all ≡ done ++ rest → all ≡ (done ++ take n rest) ++ drop n rest
moved_over all done rest n split =
    split ∙ ap (λ l. done ++ l) (sym (take-append-drop n rest)) ∙ sym (append_assoc done (take n rest) (drop n rest))

-- those that are done are a front of all
pub front_written : (old new : Option (List ℕ)) (all done rest : List ℕ) → all ≡ done ++ rest → Appends old new done → AppendsPrefix old new all
front_written old new all done rest split written =
    let P : List ℕ → Type 0 = λ front. Appends old new front in
    let front : done ≡ take (length done) all = sym (ap (take (length done)) split ∙ take-append_seam done rest) in
    let total : length all ≡ length done + length rest = ap length split ∙ length-append done rest in
    (length done, omega arith, subst P front written)
