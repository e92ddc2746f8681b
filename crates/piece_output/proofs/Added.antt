-- Texts that are added to a sink one after another.
use Rattle.std.specs.Prelude.{⊤}
use Rattle.std.specs.Io.KnownBytes.{append_known}
use Rattle.std.proofs.Common.{◌≡◌, ℕ, suc, ◌+◌, ◌≤◌, List, [], ◌∷◌, ◌++◌, length, take, drop, get_or, slice_get, flat_map, Option, Some, None, Result, Ok, Err, refl, sym, ap, subst, ◌∙◌, arith, append_assoc, append-nil, length-append}
use Rattle.std.proofs.lemmas.List.{take-append-drop, take-append-le, take_all}
use Rattle.std.proofs.lemmas.List.Concat.{flat_map-append}
use Rattle.std.proofs.lemmas.Option.{slice_get_within, get_or_from_slice_get}
use Rattle.std.proofs.Math.Seq.{take-append-add, take-suc}
use Rattle.host_io.specs.declared.faults.StoreFault.{StoreFault}
use Rattle.host_io.specs.declared.faults.StoreFault.TheVariants.{Failed, NoMemory}
use Rattle.host_io.specs.Outside.{SinkState, Adds, AddsPrefix, Counted}

append_known_twice : (known : Option (List ℕ)) (xs ys : List ℕ) → append_known (append_known known xs) ys ≡ append_known known (xs ++ ys)
append_known_twice None xs ys = refl
append_known_twice (Some bytes) xs ys = ap Some (append_assoc bytes xs ys)

append_known_nothing : (known : Option (List ℕ)) → known ≡ append_known known []
append_known_nothing None = refl
append_known_nothing (Some bytes) = ap Some (sym (append-nil bytes))

whole : (old mid new : Option (List ℕ)) (front behind : List ℕ) → mid ≡ append_known old front → new ≡ append_known mid behind
    → new ≡ append_known old (front ++ behind)
whole old mid new front behind before after =
    after ∙ ap (λ known. append_known known behind) before ∙ append_known_twice old front behind

prefix_after : (old mid new : Option (List ℕ)) (front behind : List ℕ) → mid ≡ append_known old front → AddsPrefix mid new behind
    → AddsPrefix old new (front ++ behind)
prefix_after old mid new front behind before (k, within, added) = (
  length front + k,
  (let total : length (front ++ behind) ≡ length front + length behind = length-append front behind in omega arith),
  whole old mid new front (take k behind) before added ∙ ap (append_known old) (sym (take-append-add front behind k)),
)

prefix_longer : (old new : Option (List ℕ)) (front behind : List ℕ) → AddsPrefix old new front → AddsPrefix old new (front ++ behind)
prefix_longer old new front behind (k, within, added) = (
  k,
  (let total : length (front ++ behind) ≡ length front + length behind = length-append front behind in omega arith),
  added ∙ ap (append_known old) (sym (take-append-le k front behind within)),
)

-- nothing was written
pub adds_nothing : (old : SinkState) → Adds old old [] (Ok tt)
adds_nothing old = (append_known_nothing old.written, refl)

-- a text, and then another
pub adds_then : (old mid new : SinkState) (front behind : List ℕ) (result : Result ⊤ StoreFault) → Adds old mid front (Ok tt)
    → Adds mid new behind result → Adds old new (front ++ behind) result
adds_then old mid new front behind (Ok done) (written, quiet) (more, still) =
    (whole old.written mid.written new.written front behind written more, still ∙ quiet)
adds_then old mid new front behind (Err Failed) (written, quiet) (part, counted) =
    let P : ℕ → Type 0 = λ n. Counted n new.faults in
    (prefix_after old.written mid.written new.written front behind written part, subst P quiet counted)
adds_then old mid new front behind (Err NoMemory) (written, quiet) (part, still) =
    (prefix_after old.written mid.written new.written front behind written part, still ∙ quiet)

-- a text that was refused, and another that did not come
pub adds_cut : (old new : SinkState) (front behind : List ℕ) (fault : StoreFault) → Adds old new front (Err fault)
    → Adds old new (front ++ behind) (Err fault)
adds_cut old new front behind Failed (part, counted) = (prefix_longer old.written new.written front behind part, counted)
adds_cut old new front behind NoMemory (part, quiet) = (prefix_longer old.written new.written front behind part, quiet)

-- ---- a text for each of a list

-- the pieces before an item, and its own
pub pieces_next : {X Y : Type 0} (f : X → List Y) (xs : List X) (k : ℕ) (x : X) → slice_get xs k ≡ Some x
    → flat_map f (take (k + 1) xs) ≡ flat_map f (take k xs) ++ f x
pieces_next f xs k x at =
    let one : k + 1 ≡ suc k = omega arith in
    ap (λ n. flat_map f (take n xs)) one
    ∙ ap (flat_map f) (take-suc xs k x (slice_get_within xs k x at))
    ∙ flat_map-append f (take k xs) (get_or xs k x ∷ [])
    ∙ ap (λ ys. flat_map f (take k xs) ++ ys) (append-nil (f (get_or xs k x)) ∙ ap f (get_or_from_slice_get xs k x x at))

-- and those behind it
pub pieces_all : {X Y : Type 0} (f : X → List Y) (xs : List X) (k : ℕ) (x : X) → slice_get xs k ≡ Some x
    → flat_map f xs ≡ (flat_map f (take k xs) ++ f x) ++ flat_map f (drop (k + 1) xs)
pieces_all f xs k x at =
    ap (flat_map f) (sym (take-append-drop (k + 1) xs))
    ∙ flat_map-append f (take (k + 1) xs) (drop (k + 1) xs)
    ∙ ap (λ ys. ys ++ flat_map f (drop (k + 1) xs)) (pieces_next f xs k x at)

-- the text of one more was added
pub text_added : {X : Type 0} (f : X → List ℕ) (old mid new : SinkState) (xs : List X) (k : ℕ) (x : X) → slice_get xs k ≡ Some x
    → Adds old mid (flat_map f (take k xs)) (Ok tt) → Adds mid new (f x) (Ok tt) → Adds old new (flat_map f (take (k + 1) xs)) (Ok tt)
text_added f old mid new xs k x at before h =
    let P : List ℕ → Type 0 = λ text. Adds old new text (Ok tt) in
    subst P (sym (pieces_next f xs k x at)) (adds_then old mid new (flat_map f (take k xs)) (f x) (Ok tt) before h)

-- the text of one was refused
pub text_refused : {X : Type 0} (f : X → List ℕ) (old mid new : SinkState) (xs : List X) (k : ℕ) (x : X) (fault : StoreFault) → slice_get xs k ≡ Some x
    → Adds old mid (flat_map f (take k xs)) (Ok tt) → Adds mid new (f x) (Err fault) → Adds old new (flat_map f xs) (Err fault)
text_refused f old mid new xs k x fault at before h =
    let P : List ℕ → Type 0 = λ text. Adds old new text (Err fault) in
    subst P (sym (pieces_all f xs k x at))
    (adds_cut old new (flat_map f (take k xs) ++ f x) (flat_map f (drop (k + 1) xs)) fault (adds_then old mid new (flat_map f (take k xs)) (f x) (Err fault) before h))

-- all were added
pub all_added : {X : Type 0} (f : X → List ℕ) (old new : SinkState) (xs : List X) (k : ℕ) → length xs ≤ k
    → Adds old new (flat_map f (take k xs)) (Ok tt) → Adds old new (flat_map f xs) (Ok tt)
all_added f old new xs k l h = let P : List ℕ → Type 0 = λ text. Adds old new text (Ok tt) in subst P (ap (flat_map f) (take_all k xs l)) h
