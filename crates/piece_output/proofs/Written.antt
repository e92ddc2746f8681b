-- How the starts and appends of a file make up its writing.
use Rattle.std.proofs.Common.{◌≡◌, ℕ, ◌+◌, ◌≤◌, List, [], ◌∷◌, ◌++◌, length, take, Option, Some, None, Ok, Err, unwrap_or, inl, inr, refl, sym, ap, subst, ◌∙◌, arith, append_assoc, append-nil, length-append}
use Rattle.std.specs.Prelude.{◌==◌, true}
use Rattle.std.proofs.lemmas.List.{take-append-le}
use Rattle.std.proofs.Math.Seq.{take-append-add}
use Rattle.host_io.specs.declared.faults.ShelfFaults.{ShelfFaults}
use Rattle.host_io.specs.declared.faults.StoreFault.{StoreFault}
use Rattle.host_io.specs.declared.faults.StoreFault.TheVariants.{Failed, NoMemory}
use Rattle.host_io.specs.Outside.{Files, ShelfState, SameFiles, WhereTold, Grows, MayGrow, MayEmpty, Starts, Appends, CountsWriteFault}
use Rattle.piece_output.specs.Stored.{Holds, MayHoldPart, Wrote, IsWriting}

pub told_map : (a b : Option Files) (P Q : Files → Files → Type 0) → ((x y : Files) → P x y → Q x y) → WhereTold a b P → WhereTold a b Q
told_map None None P Q f h = tt
told_map None (Some y) P Q f h = absurd h
told_map (Some x) None P Q f h = absurd h
told_map (Some x) (Some y) P Q f h = f x y h

-- what holds of the files over two calls
pub told_twice : (a b c : Option Files) (P Q R : Files → Files → Type 0) → ((x y z : Files) → P x y → Q y z → R x z)
    → WhereTold a b P → WhereTold b c Q → WhereTold a c R
told_twice None None None P Q R f g h = tt
told_twice None None (Some z) P Q R f g h = absurd h
told_twice None (Some y) c P Q R f g h = absurd g
told_twice (Some x) None c P Q R f g h = absurd g
told_twice (Some x) (Some y) None P Q R f g h = absurd h
told_twice (Some x) (Some y) (Some z) P Q R f g h = f x y z g h

grown : (name sent more : List ℕ) (x y z : Files) → Holds name sent x y → Grows name more y z → Holds name (sent ++ more) x z
grown name sent more x y z before (content, at, changed) =
    let same : content ≡ sent = ap (λ o. unwrap_or o []) (sym at ∙ before.changed) in
    record {
      changed = changed.changed ∙ ap (λ xs. Some (xs ++ more)) same;
      others = λ other ne. changed.others other ne ∙ before.others other ne;
    }

same_after : (name sent : List ℕ) (x y z : Files) → Holds name sent x y → SameFiles y z → Holds name sent x z
same_after name sent x y z before same =
    record { changed = same name ∙ before.changed; others = λ other ne. same other ∙ before.others other ne }

-- that many bytes of the two parts of a file
part_of : (name sent more : List ℕ) (k : ℕ) (x z : Files) → k ≤ length more → Holds name (sent ++ take k more) x z
    → MayHoldPart name (sent ++ more) x z
part_of name sent more k x z within held =
    let P : List ℕ → Type 0 = λ xs. Holds name xs x z in
    inr (
      length sent + k,
      (let total : length (sent ++ more) ≡ length sent + length more = length-append sent more in omega arith),
      subst P (sym (take-append-add sent more k)) held,
    )

may_be_grown : (name sent more : List ℕ) (x y z : Files) → Holds name sent x y → MayGrow name more y z → MayHoldPart name (sent ++ more) x z
may_be_grown name sent more x y z before (inl same) =
    let P : List ℕ → Type 0 = λ xs. Holds name xs x z in
    part_of name sent more 0 x z (omega arith) (subst P (sym (append-nil sent)) (same_after name sent x y z before same))
may_be_grown name sent more x y z before (inr (k, within, grows)) =
    part_of name sent more k x z within (grown name sent (take k more) x y z before grows)

may_be_started : (name bytes : List ℕ) (x y : Files) → MayEmpty name x y → MayHoldPart name bytes x y
may_be_started name bytes x y (inl same) = inl same
may_be_started name bytes x y (inr emptied) = inr (0, omega arith, emptied)

part_more : (name bytes more : List ℕ) (x y : Files) → MayHoldPart name bytes x y → MayHoldPart name (bytes ++ more) x y
part_more name bytes more x y (inl same) = inl same
part_more name bytes more x y (inr (k, within, held)) =
    let P : List ℕ → Type 0 = λ xs. Holds name xs x y in
    inr (
      k,
      (let total : length (bytes ++ more) ≡ length bytes + length more = length-append bytes more in omega arith),
      subst P (sym (take-append-le k bytes more within)) held,
    )

-- a failed start
pub start_failed : (old new : ShelfState) (name bytes : List ℕ) (fault : StoreFault) → Starts old new name (Err fault) → Wrote old new name bytes (Err fault)
start_failed old new name bytes Failed (files, counted) =
    (told_map old.files new.files (MayEmpty name) (MayHoldPart name bytes) (may_be_started name bytes) files, counted)
start_failed old new name bytes NoMemory (files, quiet) =
    (told_map old.files new.files (MayEmpty name) (MayHoldPart name bytes) (may_be_started name bytes) files, quiet)

-- the buffer was appended
pub all_sent : (old mid new : ShelfState) (name buffer bytes : List ℕ) → IsWriting old mid name buffer bytes
    → Appends mid new name buffer (Ok tt) → Wrote old new name bytes (Ok tt)
all_sent old mid new name buffer bytes w (files, quiet) =
    let P : List ℕ → Type 0 = λ xs. Wrote old new name xs (Ok tt) in
    subst P (sym w.all) (
      told_twice old.files mid.files new.files (Holds name w.sent) (Grows name buffer) (Holds name (w.sent ++ buffer)) (grown name w.sent buffer) w.wrote.0 files,
      quiet ∙ w.wrote.1,
    )

-- a failed append
pub send_failed : (old mid new : ShelfState) (name buffer bytes : List ℕ) (fault : StoreFault) → IsWriting old mid name buffer bytes
    → Appends mid new name buffer (Err fault) → Wrote old new name bytes (Err fault)
send_failed old mid new name buffer bytes Failed w (files, counted) =
    let P : List ℕ → Type 0 = λ xs. Wrote old new name xs (Err Failed) in
    let Q : ShelfFaults → Type 0 = λ f. CountsWriteFault f new.faults name in
    subst P (sym w.all) (
      told_twice old.files mid.files new.files (Holds name w.sent) (MayGrow name buffer) (MayHoldPart name (w.sent ++ buffer)) (may_be_grown name w.sent buffer) w.wrote.0 files,
      subst Q w.wrote.1 counted,
    )
send_failed old mid new name buffer bytes NoMemory w (files, quiet) =
    let P : List ℕ → Type 0 = λ xs. Wrote old new name xs (Err NoMemory) in
    subst P (sym w.all) (
      told_twice old.files mid.files new.files (Holds name w.sent) (MayGrow name buffer) (MayHoldPart name (w.sent ++ buffer)) (may_be_grown name w.sent buffer) w.wrote.0 files,
      quiet ∙ w.wrote.1,
    )

-- what is left of a file after a refusal is a part of a longer one too
pub failed_longer : (old new : ShelfState) (name bytes more : List ℕ) (fault : StoreFault) → Wrote old new name bytes (Err fault)
    → Wrote old new name (bytes ++ more) (Err fault)
failed_longer old new name bytes more Failed (files, counted) =
    (told_map old.files new.files (MayHoldPart name bytes) (MayHoldPart name (bytes ++ more)) (part_more name bytes more) files, counted)
failed_longer old new name bytes more NoMemory (files, quiet) =
    (told_map old.files new.files (MayHoldPart name bytes) (MayHoldPart name (bytes ++ more)) (part_more name bytes more) files, quiet)

-- a piece was appended
pub piece_sent : (old mid new : ShelfState) (name rest piece behind bytes : List ℕ) → rest ≡ piece ++ behind → IsWriting old mid name rest bytes
    → Appends mid new name piece (Ok tt) → IsWriting old new name behind bytes
piece_sent old mid new name rest piece behind bytes split w h =
    record {
      sent = w.sent ++ piece;
      all = w.all ∙ ap (λ xs. w.sent ++ xs) split ∙ sym (append_assoc w.sent piece behind);
      wrote = all_sent old mid new name piece (w.sent ++ piece) (record { sent = w.sent; all = refl; wrote = w.wrote }) h;
    }

-- a piece was refused
pub piece_failed : (old mid new : ShelfState) (name rest piece behind bytes : List ℕ) (fault : StoreFault) → rest ≡ piece ++ behind → IsWriting old mid name rest bytes
    → Appends mid new name piece (Err fault) → Wrote old new name bytes (Err fault)
piece_failed old mid new name rest piece behind bytes fault split w h =
    let P : List ℕ → Type 0 = λ xs. Wrote old new name xs (Err fault) in
    subst P (append_assoc w.sent piece behind ∙ ap (λ xs. w.sent ++ xs) (sym split) ∙ sym w.all)
    (failed_longer old new name (w.sent ++ piece) behind fault
    (send_failed old mid new name piece (w.sent ++ piece) fault (record { sent = w.sent; all = refl; wrote = w.wrote }) h))

-- the file is empty, and all bytes come next
pub all_left : (old new : ShelfState) (name bytes : List ℕ) → Starts old new name (Ok tt) → IsWriting old new name bytes bytes
all_left old new name bytes h = record { sent = []; all = refl; wrote = h }

-- nothing is left
pub none_left : (old now : ShelfState) (name rest bytes : List ℕ) → (length rest == 0) ≡ true → IsWriting old now name rest bytes → Wrote old now name bytes (Ok tt)
none_left old now name [] bytes empty w = let P : List ℕ → Type 0 = λ xs. Wrote old now name xs (Ok tt) in subst P (sym (w.all ∙ append-nil w.sent)) w.wrote
none_left old now name (x ∷ xs) bytes empty w = absurd (grind (arith, empty))
