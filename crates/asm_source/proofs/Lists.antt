-- What holds of all items of a list, and of both answers of a test.
use Rattle.std.proofs.Common.{suc, Bool, true, false, List, [], ◌∷◌, ◌++◌, map, arith}
use Rattle.std.specs.Prelude.{if◌then◌else◌}
use Rattle.std.specs.List.{All}
use Rattle.std.proofs.lemmas.List.Elements.{All-cons, All-nil}

-- a property of both answers of a test
pub either : {X : Type 0} (P : X → Type 0) (b : Bool) (x y : X) → P x → P y → P (if b then x else y)
either P true x y h k = h
either P false x y h k = k

abbrev pub Every : {X : Type 0} → (X → Type 0) → List X → Type 0
Every P [] = Unit {0}
Every P (x ∷ xs) = P x × Every P xs

pub every_append : {X : Type 0} (P : X → Type 0) (xs ys : List X) → Every P xs → Every P ys → Every P (xs ++ ys)
every_append P [] ys h k = k
every_append P (x ∷ xs) ys h k = (h.0, every_append P xs ys h.1 k)

pub every_map : {X Y : Type 0} (P : Y → Type 0) (f : X → Y) (xs : List X) → Every (λ x. P (f x)) xs → Every P (map f xs)
every_map P f [] h = tt
every_map P f (x ∷ xs) h = (h.0, every_map P f xs h.1)

pub every_by : {X : Type 0} (P : X → Type 0) (xs : List X) → ((x : X) → P x) → Every P xs
every_by P [] h = tt
every_by P (x ∷ xs) h = (h x, every_by P xs h)

pub every_all : {X : Type 0} (P : X → Type 0) (xs : List X) → All P xs → Every P xs
every_all P [] h = tt
every_all P (x ∷ xs) h = (h 0 x (omega arith), every_all P xs (λ k d lt. h (suc k) d (omega (arith, lt))))

pub all_every : {X : Type 0} (P : X → Type 0) (xs : List X) → Every P xs → All P xs
all_every P [] h = All-nil P
all_every P (x ∷ xs) h = All-cons P x xs h.0 (all_every P xs h.1)
