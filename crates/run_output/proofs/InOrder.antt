-- Files that are written one after another, and how they stand then.
use Rattle.std.specs.Prelude.{⊤}
use Rattle.std.proofs.Common.{◌≡◌, ◌≢◌, ℕ, zero, suc, ◌<◌, List, [], ◌∷◌, ◌++◌, ◌+◌, ◌≤◌, flat_map, take, drop, get_or, length, slice_get, Option, Some, None, Result, Ok, Err, unwrap_or, inl, inr, refl, sym, ap, subst, ◌∙◌, arith}
use Rattle.std.proofs.lemmas.Option.{slice_get_within}
use Rattle.host_io.specs.declared.faults.StoreFault.{StoreFault}
use Rattle.host_io.specs.declared.faults.StoreFault.TheVariants.{Failed, NoMemory}
use Rattle.host_io.specs.declared.faults.ShelfFaults.{ShelfFaults}
use Rattle.host_io.specs.Outside.{Files, ShelfState, WhereTold, CountsWriteFault}
use Rattle.piece_output.specs.Stored.{Holds, MayHoldPart, Wrote}
use Rattle.run_output.specs.declared.outputs.OutputFault.{OutputFault}
use Rattle.run_output.specs.declared.outputs.OutputFault.TheVariants as fault
use Rattle.std.specs.List.{enumerate_from}
use Rattle.std.proofs.lemmas.List.{take_all}
use Rattle.std.proofs.lemmas.List.FromFn.{length-enumerate_from}
use Rattle.piece_output.proofs.Added.{pieces_next, pieces_all}
use Rattle.run_output.proofs.Printing.{numbered}
use Rattle.run_output.specs.Outputs.{Output, WroteOutputs, WroteAll, AreApart, IsAsBeforeOrPart, Leaves, Tells, WritingsAreTold}
use Rattle.piece_output.proofs.Written.{told_map, told_twice}

-- files that were written, and then more of them
pub wrote_more : (old mid new : ShelfState) (front behind : List Output) (result : Result ⊤ StoreFault) → WroteAll old mid front (Ok tt)
    → WroteAll mid new behind result → WroteAll old new (front ++ behind) result
wrote_more old mid new [] behind result done h = let P : ShelfState → Type 0 = λ s. WroteAll s new behind result in subst P done h
wrote_more old mid new (o ∷ os) behind (Ok done) (next, wrote, others) h = (next, wrote, wrote_more next mid new os behind (Ok done) others h)
wrote_more old mid new (o ∷ os) behind (Err fault) (next, wrote, others) h =
    inr (next, wrote, wrote_more next mid new os behind (Err fault) others h)

-- files that were written, and then one more
pub wrote_next : (old mid new : ShelfState) (front : List Output) (o : Output) → WroteAll old mid front (Ok tt)
    → Wrote mid new o.name o.bytes (Ok tt) → WroteAll old new (front ++ o ∷ []) (Ok tt)
wrote_next old mid new front o done h = wrote_more old mid new front (o ∷ []) (Ok tt) done (new, h, refl)

-- files that were written, and then one that was refused
pub wrote_up_to : (old mid new : ShelfState) (front behind : List Output) (o : Output) (fault : StoreFault) → WroteAll old mid front (Ok tt)
    → Wrote mid new o.name o.bytes (Err fault) → WroteAll old new (front ++ o ∷ behind) (Err fault)
wrote_up_to old mid new front behind o fault done h = wrote_more old mid new front (o ∷ behind) (Err fault) done (inl h)

-- what was written before a refusal is part of a longer list
wrote_cut : (old new : ShelfState) (front behind : List Output) (fault : StoreFault) → WroteAll old new front (Err fault)
    → WroteAll old new (front ++ behind) (Err fault)
wrote_cut old new [] behind fault h = absurd h
wrote_cut old new (o ∷ os) behind fault (inl refused) = inl refused
wrote_cut old new (o ∷ os) behind fault (inr (mid, wrote, others)) = inr (mid, wrote, wrote_cut mid new os behind fault others)

-- outputs that were written, and then more of them
pub outputs_then : (old mid new : ShelfState) (front behind : List Output) (result : Result ⊤ OutputFault) → WroteAll old mid front (Ok tt)
    → WroteOutputs mid new behind result → WroteOutputs old new (front ++ behind) result
outputs_then old mid new front behind (Ok done) before h = wrote_more old mid new front behind (Ok tt) before h
outputs_then old mid new front behind (Err (fault.Failed file)) before (h, bad) = (wrote_more old mid new front behind (Err Failed) before h, bad)
outputs_then old mid new front behind (Err fault.NoMemory) before h = wrote_more old mid new front behind (Err NoMemory) before h

-- outputs of which one was refused, and others that were not begun
pub outputs_cut : (old new : ShelfState) (front behind : List Output) (refusal : OutputFault) → WroteOutputs old new front (Err refusal)
    → WroteOutputs old new (front ++ behind) (Err refusal)
outputs_cut old new front behind (fault.Failed file) (h, bad) = (wrote_cut old new front behind Failed h, bad)
outputs_cut old new front behind fault.NoMemory h = wrote_cut old new front behind NoMemory h

-- the outputs of one more row
pub row_written : {X : Type 0} (old mid new : ShelfState) (f : (ℕ × X) → List Output) (xs : List X) (k : ℕ) (x : X)
    → k < length xs → x ≡ get_or xs k x → WroteAll old mid (flat_map f (take k (enumerate_from 0 xs))) (Ok tt)
    → WroteAll mid new (f (k, x)) (Ok tt) → WroteAll old new (flat_map f (take (k + 1) (enumerate_from 0 xs))) (Ok tt)
row_written old mid new f xs k x within at before h =
    let P : List Output → Type 0 = λ outputs. WroteAll old new outputs (Ok tt) in
    let rows : List _ = enumerate_from 0 xs in
    subst P (sym (pieces_next f rows k (k, x) (numbered xs k x within at)))
    (wrote_more old mid new (flat_map f (take k rows)) (f (k, x)) (Ok tt) before h)

pub row_refused : {X : Type 0} (old mid new : ShelfState) (f : (ℕ × X) → List Output) (xs : List X) (k : ℕ) (x : X) (refusal : OutputFault)
    → k < length xs → x ≡ get_or xs k x → WroteAll old mid (flat_map f (take k (enumerate_from 0 xs))) (Ok tt)
    → WroteOutputs mid new (f (k, x)) (Err refusal) → WroteOutputs old new (flat_map f (enumerate_from 0 xs)) (Err refusal)
row_refused old mid new f xs k x refusal within at before h =
    let P : List Output → Type 0 = λ outputs. WroteOutputs old new outputs (Err refusal) in
    let rows : List _ = enumerate_from 0 xs in
    subst P (sym (pieces_all f rows k (k, x) (numbered xs k x within at)))
    (outputs_cut old new (flat_map f (take k rows) ++ f (k, x)) (flat_map f (drop (k + 1) rows)) refusal
    (outputs_then old mid new (flat_map f (take k rows)) (f (k, x)) (Err refusal) before h))

pub all_rows : {X : Type 0} (old new : ShelfState) (f : (ℕ × X) → List Output) (xs : List X) (k : ℕ) → length xs ≤ k
    → WroteAll old new (flat_map f (take k (enumerate_from 0 xs))) (Ok tt) → WroteAll old new (flat_map f (enumerate_from 0 xs)) (Ok tt)
all_rows old new f xs k passed h =
    let P : List Output → Type 0 = λ outputs. WroteAll old new outputs (Ok tt) in
    let same : length (enumerate_from 0 xs) ≡ length xs = length-enumerate_from 0 xs in
    subst P (ap (flat_map f) (take_all k (enumerate_from 0 xs) (omega arith))) h

-- the outputs of a value that the code sees under another name
pub outputs_under : {A : Type 0} (old new : ShelfState) (f : A → List Output) (seen of : A) (result : Result ⊤ OutputFault) → seen ≡ of
    → WroteOutputs old new (f seen) result → WroteOutputs old new (f of) result
outputs_under old new f seen of result same h = let P : _ → Type 0 = λ a. WroteOutputs old new (f a) result in subst P same h

-- the name of a later output is another
other_name : (o p : Output) (os : List Output) (k : ℕ) → AreApart (o ∷ os) → slice_get os k ≡ Some p → p.name ≢ o.name
other_name o p os k apart at same = let no : suc k ≡ 0 = apart.apart (suc k) 0 p o at refl same in absurd (omega (arith, no))

tail_apart : (o : Output) (os : List Output) → AreApart (o ∷ os) → AreApart os
tail_apart o os apart =
    record { apart = λ i j a b at_i at_j same. let next : suc i ≡ suc j = apart.apart (suc i) (suc j) a b at_i at_j same in omega (arith, next) }

same_output : (o p : Output) → Some o ≡ Some p → o ≡ p
same_output o p e = ap (λ x. unwrap_or x o) e

no_output : (o : Output) (k : ℕ) → slice_get [] k ≡ Some o → ⊥
no_output o k at = let within : k < 0 = slice_get_within [] k o at in omega (arith, within)

leaves_none : (x : Files) → Leaves x x [] 0
leaves_none x =
    record {
      whole = λ k o h at. absurd (no_output o k at);
      here = λ o at. absurd (no_output o 0 at);
      later = λ k o h at. absurd (no_output o k at);
      others = λ name away. refl;
    }

whole_more : (o : Output) (os : List Output) (place : ℕ) (x y z : Files) → AreApart (o ∷ os) → Holds o.name o.bytes x y → Leaves y z os place
    → (k : ℕ) (p : Output) → k < suc place → slice_get (o ∷ os) k ≡ Some p → z p.name ≡ Some p.bytes
whole_more o os place x y z apart held rest zero p h at =
    let P : Output → Type 0 = λ q. z q.name ≡ Some q.bytes in
    subst P (same_output o p at) (rest.others o.name (λ k q at_k. other_name o q os k apart at_k) ∙ held.changed)
whole_more o os place x y z apart held rest (suc k) p h at = rest.whole k p (omega (arith, h)) at

later_more : (o : Output) (os : List Output) (place : ℕ) (x y z : Files) → AreApart (o ∷ os) → Holds o.name o.bytes x y → Leaves y z os place
    → (k : ℕ) (p : Output) → suc place < k → slice_get (o ∷ os) k ≡ Some p → z p.name ≡ x p.name
later_more o os place x y z apart held rest zero p h at = absurd (omega (arith, h))
later_more o os place x y z apart held rest (suc k) p h at =
    rest.later k p (omega (arith, h)) at ∙ held.others p.name (other_name o p os k apart at)

-- a file was written, and others after it
leaves_more : (o : Output) (os : List Output) (place : ℕ) → AreApart (o ∷ os) → (x y z : Files) → Holds o.name o.bytes x y → Leaves y z os place
    → Leaves x z (o ∷ os) (suc place)
leaves_more o os place apart x y z held rest =
    record {
      whole = whole_more o os place x y z apart held rest;
      here = λ p at. let P : Option (List ℕ) → Type 0 = λ before. IsAsBeforeOrPart before (z p.name) p.bytes in
          subst P (held.others p.name (other_name o p os place apart at)) (rest.here p at);
      later = later_more o os place x y z apart held rest;
      others = λ name away. rest.others name (λ k p at. away (suc k) p at) ∙ held.others name (λ e. away 0 o refl (sym e));
    }

part_here : (o : Output) (x z : Files) → MayHoldPart o.name o.bytes x z → IsAsBeforeOrPart (x o.name) (z o.name) o.bytes
part_here o x z (inl same) = inl (same o.name)
part_here o x z (inr (k, within, held)) = inr (k, within, held.changed)

part_others : (o : Output) (x z : Files) → MayHoldPart o.name o.bytes x z → (name : List ℕ) → name ≢ o.name → z name ≡ x name
part_others o x z (inl same) name ne = same name
part_others o x z (inr (k, within, held)) name ne = held.others name ne

later_none : (o : Output) (os : List Output) (x z : Files) → AreApart (o ∷ os) → MayHoldPart o.name o.bytes x z
    → (k : ℕ) (p : Output) → 0 < k → slice_get (o ∷ os) k ≡ Some p → z p.name ≡ x p.name
later_none o os x z apart part zero p h at = absurd (omega (arith, h))
later_none o os x z apart part (suc k) p h at = part_others o x z part p.name (other_name o p os k apart at)

-- a file was refused, and no other was begun
leaves_part : (o : Output) (os : List Output) → AreApart (o ∷ os) → (x z : Files) → MayHoldPart o.name o.bytes x z → Leaves x z (o ∷ os) 0
leaves_part o os apart x z part =
    record {
      whole = λ k p h at. absurd (omega (arith, h));
      here = λ p at. let P : Output → Type 0 = λ q. IsAsBeforeOrPart (x q.name) (z q.name) q.bytes in
          subst P (same_output o p at) (part_here o x z part);
      later = later_none o os x z apart part;
      others = λ name away. part_others o x z part name (λ e. away 0 o refl (sym e));
    }

told_none : (files : Option Files) → WhereTold files files (λ before after. Leaves before after [] 0)
told_none None = tt
told_none (Some x) = leaves_none x

-- a file was written, and one after it was refused
refused_more : (old mid new : ShelfState) (o : Output) (os : List Output) (fault : StoreFault) → AreApart (o ∷ os)
    → Wrote old mid o.name o.bytes (Ok tt) → Tells mid new os (Err fault) → Tells old new (o ∷ os) (Err fault)
refused_more old mid new o os Failed apart wrote (place, p, at, files, counted) =
    let Q : ShelfFaults → Type 0 = λ f. CountsWriteFault f new.faults p.name in (
      suc place,
      p,
      at,
      told_twice old.files mid.files new.files (Holds o.name o.bytes) (λ y z. Leaves y z os place) (λ x z. Leaves x z (o ∷ os) (suc place))
          (leaves_more o os place apart) wrote.0 files,
      subst Q wrote.1 counted,
    )
refused_more old mid new o os NoMemory apart wrote (place, p, at, files, quiet) = (
  suc place,
  p,
  at,
  told_twice old.files mid.files new.files (Holds o.name o.bytes) (λ y z. Leaves y z os place) (λ x z. Leaves x z (o ∷ os) (suc place))
      (leaves_more o os place apart) wrote.0 files,
  quiet ∙ wrote.1,
)

refused_here : (old new : ShelfState) (o : Output) (os : List Output) (fault : StoreFault) → AreApart (o ∷ os)
    → Wrote old new o.name o.bytes (Err fault) → Tells old new (o ∷ os) (Err fault)
refused_here old new o os Failed apart (files, counted) =
    (0, o, refl, told_map old.files new.files (MayHoldPart o.name o.bytes) (λ x z. Leaves x z (o ∷ os) 0) (leaves_part o os apart) files, counted)
refused_here old new o os NoMemory apart (files, quiet) =
    (0, o, refl, told_map old.files new.files (MayHoldPart o.name o.bytes) (λ x z. Leaves x z (o ∷ os) 0) (leaves_part o os apart) files, quiet)

pub tells : WritingsAreTold
tells old new [] (Ok done) apart same =
    let P : ShelfState → Type 0 = λ s. Tells old s [] (Ok tt) in subst P (sym same) (told_none old.files, refl)
tells old new [] (Err fault) apart h = absurd h
tells old new (o ∷ os) (Ok done) apart (mid, wrote, others) =
    let t : Tells mid new os (Ok tt) = tells mid new os (Ok tt) (tail_apart o os apart) others in (
      told_twice old.files mid.files new.files (Holds o.name o.bytes) (λ y z. Leaves y z os (length os)) (λ x z. Leaves x z (o ∷ os) (suc (length os)))
          (leaves_more o os (length os) apart) wrote.0 t.0,
      t.1 ∙ wrote.1,
    )
tells old new (o ∷ os) (Err fault) apart (inl refused) = refused_here old new o os fault apart refused
tells old new (o ∷ os) (Err fault) apart (inr (mid, wrote, others)) =
    refused_more old mid new o os fault apart wrote (tells mid new os (Err fault) (tail_apart o os apart) others)
