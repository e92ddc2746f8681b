-- Lists of names of which no two are the same.
use Rattle.std.proofs.Common.{◌≡◌, ◌⊎◌, inl, inr, ℕ, zero, suc, List, [], ◌∷◌, ◌++◌, flat_map, slice_get, Some, refl, sym, ap, ◌∙◌, arith}
use Rattle.std.specs.Bool.{⊤}
use Rattle.board_file.specs.declared.board.End.{End}
use Rattle.board_file.specs.declared.board.End.TheVariants.{Port, File}
use Rattle.board_file.specs.declared.board.LinkRow.{LinkRow}
use Rattle.board_file.specs.declared.board.UartRow.{UartRow}
use Rattle.board_file_laws.specs.Sound.{AreDistinct, files_at, link_files, uart_files}

abbrev IsIn : List ℕ → List (List ℕ) → Type 0
IsIn s [] = ⊥
IsIn s (x ∷ xs) = (x ≡ s) ⊎ IsIn s xs

same_some : (m n : List ℕ) → Some m ≡ Some n → m ≡ n
same_some m n e = grind (arith, e)

in_at : (xs : List (List ℕ)) (k : ℕ) (s : List ℕ) → slice_get xs k ≡ Some s → IsIn s xs
in_at [] k s e = grind (arith, e)
in_at (x ∷ xs) zero s e = inl (same_some x s e)
in_at (x ∷ xs) (suc k) s e = inr (in_at xs k s e)

-- each name is none of the later ones
abbrev AreNew : List (List ℕ) → Type 0
AreNew [] = ⊤
AreNew (x ∷ xs) = (IsIn x xs → ⊥) × AreNew xs

first_again : (x s : List ℕ) (xs : List (List ℕ)) (k : ℕ) → (IsIn x xs → ⊥) → Some x ≡ Some s → slice_get xs k ≡ Some s → ⊥
first_again x s xs k new e f = let same = same_some x s e in new (rw (sym same) at (in_at xs k s f))

one_place : (xs : List (List ℕ)) → AreNew xs → (j k : ℕ) (s : List ℕ) → slice_get xs j ≡ Some s → slice_get xs k ≡ Some s → j ≡ k
one_place [] n j k s e f = grind (arith, e)
one_place (x ∷ xs) n zero zero s e f = refl
one_place (x ∷ xs) n zero (suc k) s e f = elim (first_again x s xs k n.0 e f) [ ]
one_place (x ∷ xs) n (suc j) zero s e f = elim (first_again x s xs j n.0 f e) [ ]
one_place (x ∷ xs) n (suc j) (suc k) s e f = ap suc (one_place xs n.1 j k s e f)

distinct : (xs : List (List ℕ)) → AreNew xs → AreDistinct xs
distinct xs n = record { lone = one_place xs n }

in_either : (s : List ℕ) (xs ys : List (List ℕ)) → IsIn s (xs ++ ys) → IsIn s xs ⊎ IsIn s ys
in_either s [] ys h = inr h
in_either s (x ∷ xs) ys (inl same) = inl (inl same)
in_either s (x ∷ xs) ys (inr more) = later (in_either s xs ys more)
  where
    later : IsIn s xs ⊎ IsIn s ys → ((x ≡ s) ⊎ IsIn s xs) ⊎ IsIn s ys
    later (inl h) = inl (inr h)
    later (inr h) = inr h

neither : (s : List ℕ) (xs ys : List (List ℕ)) → (IsIn s xs → ⊥) → (IsIn s ys → ⊥) → IsIn s (xs ++ ys) → ⊥
neither s xs ys first second h = by_side (in_either s xs ys h)
  where
    by_side : IsIn s xs ⊎ IsIn s ys → ⊥
    by_side (inl i) = first i
    by_side (inr i) = second i

new_append : (xs ys : List (List ℕ)) → AreNew xs → AreNew ys → ((s : List ℕ) → IsIn s xs → IsIn s ys → ⊥) → AreNew (xs ++ ys)
new_append [] ys n m apart = m
new_append (x ∷ xs) ys n m apart = (neither x xs ys n.0 (λ i. apart x (inl refl) i), new_append xs ys n.1 m (λ s i j. apart s (inr i) j))

-- a name that a row has
record IsOf {X : Type 0} (f : X → List (List ℕ)) (xs : List X) (s : List ℕ) : Type 0 where
  place : ℕ
  row : X
  there : slice_get xs place ≡ Some row
  has : IsIn s (f row)

found : {X : Type 0} (f : X → List (List ℕ)) (xs : List X) (s : List ℕ) → IsIn s (flat_map f xs) → IsOf f xs s
found f [] s h = elim h [ ]
found f (x ∷ xs) s h = by_side (in_either s (f x) (flat_map f xs) h) (λ i. found f xs s i)
  where
    by_side : IsIn s (f x) ⊎ IsIn s (flat_map f xs) → (IsIn s (flat_map f xs) → IsOf f xs s) → IsOf f (x ∷ xs) s
    by_side (inl i) more = record { place = zero; row = x; there = refl; has = i }
    by_side (inr i) more = let o = more i in record { place = suc o.place; row = o.row; there = o.there; has = o.has }

-- rows that have no name twice, and of which no two have one name
new_rows : {X : Type 0} (f : X → List (List ℕ)) (xs : List X) → ((x : X) → AreNew (f x)) → ((j k : ℕ) (x y : X) (s : List ℕ) → slice_get xs j ≡ Some x → slice_get xs k ≡ Some y → IsIn s (f x) → IsIn s (f y) → j ≡ k) → AreNew (flat_map f xs)
new_rows f [] each lone = tt
new_rows f (x ∷ xs) each lone =
    new_append (f x) (flat_map f xs) (each x)
    (new_rows f xs each (λ j k y z s e g h i. let same = lone (suc j) (suc k) y z s e g h i in omega (arith, same)))
    (λ s h i. let o = found f xs s i in let same = lone zero (suc o.place) x o.row s refl o.there h o.has in absurd o.place same)
  where
    absurd : (k : ℕ) → zero ≡ suc k → ⊥
    absurd k e = omega (arith, e)

-- the file of an end
file_in : (end : End) (s : List ℕ) → IsIn s (files_at end) → end ≡ File s
file_in (File name) s (inl same) = rw same refl
file_in (File name) s (inr h) = elim h [ ]
file_in (Port core port) s h = elim h [ ]

new_end : (end : End) → AreNew (files_at end)
new_end (File name) = ((λ h. h), tt)
new_end (Port core port) = tt

abbrev pub AreLoneLinks : List LinkRow → Type 0
AreLoneLinks links = (j k : ℕ) (one other : LinkRow) (file : List ℕ) → slice_get links j ≡ Some one → slice_get links k ≡ Some other → one.to ≡ File file → other.to ≡ File file → j ≡ k

abbrev pub AreLoneUarts : List UartRow → Type 0
AreLoneUarts uarts = (j k : ℕ) (one other : UartRow) (file : List ℕ) → slice_get uarts j ≡ Some one → slice_get uarts k ≡ Some other → one.output ≡ file → other.output ≡ file → j ≡ k

abbrev pub AreApartKinds : List LinkRow → List UartRow → Type 0
AreApartKinds links uarts = (j k : ℕ) (link : LinkRow) (uart : UartRow) (file : List ℕ) → slice_get links j ≡ Some link → slice_get uarts k ≡ Some uart → link.to ≡ File file → uart.output ≡ file → ⊥

new_links : (links : List LinkRow) → AreLoneLinks links → AreNew (link_files links)
new_links links lone = new_rows (λ link. files_at link.to) links (λ link. new_end link.to) (λ j k one other s e f h i. lone j k one other s e f (file_in one.to s h) (file_in other.to s i))

only : (name s : List ℕ) → IsIn s (name ∷ []) → name ≡ s
only name s (inl same) = same
only name s (inr h) = elim h [ ]

new_uarts : (uarts : List UartRow) → AreLoneUarts uarts → AreNew (uart_files uarts)
new_uarts uarts lone = new_rows (λ uart. uart.output ∷ []) uarts (λ uart. ((λ h. h), tt)) (λ j k one other s e f h i. lone j k one other s e f (only one.output s h) (only other.output s i))

-- where no two links lead to one file, the files that they lead to are distinct
pub distinct_link_files : (links : List LinkRow) → AreLoneLinks links → AreDistinct (link_files links)
distinct_link_files links lone = distinct (link_files links) (new_links links lone)

pub distinct_files : (links : List LinkRow) (uarts : List UartRow) → AreLoneLinks links → AreLoneUarts uarts → AreApartKinds links uarts → AreDistinct (link_files links ++ uart_files uarts)
distinct_files links uarts lone also apart =
    distinct (link_files links ++ uart_files uarts) (new_append (link_files links) (uart_files uarts) (new_links links lone) (new_uarts uarts also) (λ s h i.
    let l = found (λ link. files_at link.to) links s h in
    let u = found (λ uart. uart.output ∷ []) uarts s i in
    apart l.place u.place l.row u.row s l.there u.there (file_in l.row.to s l.has) (only u.row.output s u.has)))

-- distinct names stay distinct with one more that is none of them
at_in : (xs : List (List ℕ)) (s : List ℕ) → IsIn s xs → (k : ℕ) × (slice_get xs k ≡ Some s)
at_in [] s h = elim h [ ]
at_in (x ∷ xs) s (inl same) = (zero, ap Some same)
at_in (x ∷ xs) s (inr more) = let p = at_in xs s more in (suc p.0, p.1)

new_from : (xs : List (List ℕ)) → AreDistinct xs → AreNew xs
new_from [] d = tt
new_from (x ∷ xs) d =
    (λ i. let p = at_in xs x i in absurd p.0 (d.lone zero (suc p.0) x refl p.1), new_from xs (record { lone = λ j k s e f. let same = d.lone (suc j) (suc k) s e f in omega (arith, same) }))
  where
    absurd : (k : ℕ) → zero ≡ suc k → ⊥
    absurd k e = omega (arith, e)

pub distinct_and : (names : List (List ℕ)) (name : List ℕ) → AreDistinct names → ((k : ℕ) → slice_get names k ≡ Some name → ⊥) → AreDistinct (names ++ name ∷ [])
distinct_and names name d other =
    distinct (names ++ name ∷ []) (new_append names (name ∷ []) (new_from names d) ((λ h. h), tt) (λ s h i. let p = at_in names s h in other p.0 (p.1 ∙ ap Some (sym (only name s i)))))

-- a name to which no link leads and no UART sends is no output file
pub no_output : (links : List LinkRow) (uarts : List UartRow) (name : List ℕ) → ((k : ℕ) (link : LinkRow) → slice_get links k ≡ Some link → link.to ≡ File name → ⊥) → ((k : ℕ) (uart : UartRow) → slice_get uarts k ≡ Some uart → uart.output ≡ name → ⊥)
    → (k : ℕ) → slice_get (link_files links ++ uart_files uarts) k ≡ Some name → ⊥
no_output links uarts name no_link no_uart k e =
    neither name (link_files links) (uart_files uarts)
    (λ h. let l = found (λ link. files_at link.to) links name h in no_link l.place l.row l.there (file_in l.row.to name l.has))
    (λ h. let u = found (λ uart. uart.output ∷ []) uarts name h in no_uart u.place u.row u.there (only u.row.output name u.has))
    (in_at (link_files links ++ uart_files uarts) k name e)
