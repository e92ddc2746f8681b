-- A file without fault is that of its items, and one with a fault breaks there.
use Rattle.std.proofs.Common.{ℕ, ◌≡◌, ◌+◌, ◌*◌, ◌<◌, ◌++◌, ◌∷◌, [], ◌⊎◌, ◌∙◌, ◌^◌, ap₂, ◌==◌, Bool, true, false, List, Option, None, Some, if◌then◌else◌, ap, arith, get_or, inl, inr, length, length-append, refl, slice_index_or, suc, sym, zero}
use Rattle.std.specs.Int.{from_be_bytes, to_be_bytes}
use Rattle.std.specs.List.{All}
use Rattle.std.proofs.lemmas.Bool.{ltb-true}
use Rattle.std.proofs.lemmas.Nat.{be_bytes_4, from_be_bytes-to_be_bytes_4}
use Rattle.std.proofs.lemmas.List.Elements.{All-drop, All-tail, All-take}
use mir.Syntax.{w32}
use Rattle.axi_link.specs.declared.item.Item.{Item}
use Rattle.run_journal.specs.Files.{item_bytes}
use Rattle.link_file.specs.File.{BeginsWithItem, BreaksAt, fault_from, file_of, is_control, item_of, items_of}

abbrev Bytes : List ℕ → Type 0
Bytes xs = All (λ b. b < 256) xs

four_small : (a b c d : ℕ) → a < 256 → b < 256 → c < 256 → d < 256 → (i : ℕ) → get_or (a ∷ b ∷ c ∷ d ∷ []) i 0 < 256
four_small a b c d p q r s zero = p
four_small a b c d p q r s (suc zero) = q
four_small a b c d p q r s (suc (suc zero)) = r
four_small a b c d p q r s (suc (suc (suc zero))) = s
four_small a b c d p q r s (suc (suc (suc (suc i)))) = omega arith

control_is : (c : ℕ) → c < 2 → (if c == 1 then 1 else 0) ≡ c
control_is zero small = refl
control_is (suc zero) small = refl
control_is (suc (suc c)) small = absurd (omega arith)

-- an item's bytes, of the bytes that it was made of
item_back : (c b3 b2 b1 b0 : ℕ) → is_control c ≡ true → Bytes (c ∷ b3 ∷ b2 ∷ b1 ∷ b0 ∷ [])
    → item_bytes (item_of c (b3 ∷ b2 ∷ b1 ∷ b0 ∷ [])) ≡ c ∷ b3 ∷ b2 ∷ b1 ∷ b0 ∷ []
item_back c b3 b2 b1 b0 e small =
    let word = be_bytes_4 (b3 ∷ b2 ∷ b1 ∷ b0 ∷ []) (from_be_bytes w32 (b3 ∷ b2 ∷ b1 ∷ b0 ∷ [])) refl
    (four_small b3 b2 b1 b0 (small 1 0 (omega arith)) (small 2 0 (omega arith)) (small 3 0 (omega arith)) (small 4 0 (omega arith))) refl in
    ap (λ x. x ∷ to_be_bytes w32 (from_be_bytes w32 (b3 ∷ b2 ∷ b1 ∷ b0 ∷ []))) (control_is c (ltb-true c 2 e)) ∙ ap (λ xs. c ∷ xs) word

join : (c b3 b2 b1 b0 : ℕ) (rest : List ℕ) → is_control c ≡ true → Bytes (c ∷ b3 ∷ b2 ∷ b1 ∷ b0 ∷ [])
    → file_of (items_of rest) ≡ rest → file_of (items_of (c ∷ b3 ∷ b2 ∷ b1 ∷ b0 ∷ rest)) ≡ c ∷ b3 ∷ b2 ∷ b1 ∷ b0 ∷ rest
join c b3 b2 b1 b0 rest e small more = ap (λ xs. xs ++ file_of (items_of rest)) (item_back c b3 b2 b1 b0 e small) ∙ ap (λ xs. c ∷ b3 ∷ b2 ∷ b1 ∷ b0 ∷ xs) more

-- the first five bytes, and the others
head_bytes : (c b3 b2 b1 b0 : ℕ) (rest : List ℕ) → Bytes (c ∷ b3 ∷ b2 ∷ b1 ∷ b0 ∷ rest) → Bytes (c ∷ b3 ∷ b2 ∷ b1 ∷ b0 ∷ [])
head_bytes c b3 b2 b1 b0 rest small = All-take (λ b. b < 256) 5 (c ∷ b3 ∷ b2 ∷ b1 ∷ b0 ∷ rest) small

rest_bytes : (c b3 b2 b1 b0 : ℕ) (rest : List ℕ) → Bytes (c ∷ b3 ∷ b2 ∷ b1 ∷ b0 ∷ rest) → Bytes rest
rest_bytes c b3 b2 b1 b0 rest small = All-drop (λ b. b < 256) 5 (c ∷ b3 ∷ b2 ∷ b1 ∷ b0 ∷ rest) small

fine_here : (b : Bool) (x : Option ℕ) (at : ℕ) → (if b then x else Some at) ≡ None → (b ≡ true) × (x ≡ None)
fine_here true x at e = (refl, e)
fine_here false x at e = grind arith

pub whole_file : (bytes : List ℕ) (at : ℕ) → Bytes bytes → fault_from at bytes ≡ None → file_of (items_of bytes) ≡ bytes
whole_file (c ∷ b3 ∷ b2 ∷ b1 ∷ b0 ∷ rest) at small e =
    let h = fine_here (is_control c) (fault_from (at + 5) rest) at e in
    join c b3 b2 b1 b0 rest h.0 (head_bytes c b3 b2 b1 b0 rest small) (whole_file rest (at + 5) (rest_bytes c b3 b2 b1 b0 rest small) h.1)
whole_file (c ∷ b3 ∷ b2 ∷ b1 ∷ []) at small e = grind arith
whole_file (c ∷ b3 ∷ b2 ∷ []) at small e = grind arith
whole_file (c ∷ b3 ∷ []) at small e = grind arith
whole_file (c ∷ []) at small e = grind arith
whole_file [] at small e = refl

-- what breaks a file whose first byte is at this offset
abbrev BreaksFrom : ℕ → List ℕ → ℕ → Type 0
BreaksFrom start bytes at = (items : List Item) × (rest : List ℕ) × (bytes ≡ file_of items ++ rest) × (start + 5 * length items ≡ at)
    × (rest ≡ [] → ⊥) × (BeginsWithItem rest → ⊥)

fault_cases : (b : Bool) (x : Option ℕ) (start at : ℕ) → (if b then x else Some start) ≡ Some at → ((b ≡ true) × (x ≡ Some at)) ⊎ ((b ≡ false) × (start ≡ at))
fault_cases true x start at e = inl (refl, e)
fault_cases false x start at e = inr (refl, grind arith)

no_control : (c : ℕ) (b : Bool) → is_control c ≡ false → c ≡ (if b then 1 else 0) → ⊥
no_control c true big e = grind arith
no_control c false big e = grind arith

no_item : (c : ℕ) (rest : List ℕ) → is_control c ≡ false → BeginsWithItem (c ∷ rest) → ⊥
no_item c rest big (item, more, e) = no_control c item.control big (ap (λ xs. slice_index_or xs 0 0) e)

too_short : (rest : List ℕ) → length rest < 5 → BeginsWithItem rest → ⊥
too_short rest short (item, more, e) = let h = ap length e ∙ length-append (item_bytes item) more in let five : length (item_bytes item) ≡ 5 = refl in omega (arith, h, five)

broken_here : (start at : ℕ) (rest : List ℕ) → Some start ≡ Some at → (rest ≡ [] → ⊥) → (BeginsWithItem rest → ⊥) → BreaksFrom start rest at
broken_here start at rest e some stuck = ([], rest, refl, grind arith, some, stuck)

breaks_later : (c b3 b2 b1 b0 start at : ℕ) (rest : List ℕ) → is_control c ≡ true → Bytes (c ∷ b3 ∷ b2 ∷ b1 ∷ b0 ∷ []) → BreaksFrom (start + 5) rest at
    → BreaksFrom start (c ∷ b3 ∷ b2 ∷ b1 ∷ b0 ∷ rest) at
breaks_later c b3 b2 b1 b0 start at rest e small (items, more, is, place, some, stuck) =
    let item = item_of c (b3 ∷ b2 ∷ b1 ∷ b0 ∷ []) in
    (item ∷ items, more, ap (λ xs. c ∷ b3 ∷ b2 ∷ b1 ∷ b0 ∷ xs) is ∙ sym (ap (λ xs. (xs ++ file_of items) ++ more) (item_back c b3 b2 b1 b0 e small)), omega arith, some, stuck)

pub fault_breaks : (bytes : List ℕ) (start at : ℕ) → Bytes bytes → fault_from start bytes ≡ Some at → BreaksFrom start bytes at
fault_breaks (c ∷ b3 ∷ b2 ∷ b1 ∷ b0 ∷ rest) start at small e =
    elim (fault_cases (is_control c) (fault_from (start + 5) rest) start at e) [
      | inl fine ↦ breaks_later c b3 b2 b1 b0 start at rest fine.0 (head_bytes c b3 b2 b1 b0 rest small) (fault_breaks rest (start + 5) at (rest_bytes c b3 b2 b1 b0 rest small) fine.1)
      | inr bad ↦ broken_here start at (c ∷ b3 ∷ b2 ∷ b1 ∷ b0 ∷ rest) (ap Some bad.1) (λ e. grind arith) (no_item c (b3 ∷ b2 ∷ b1 ∷ b0 ∷ rest) bad.0)
    ]
fault_breaks (c ∷ b3 ∷ b2 ∷ b1 ∷ []) start at small e = broken_here start at _ e (λ e. grind arith) (too_short (c ∷ b3 ∷ b2 ∷ b1 ∷ []) (omega arith))
fault_breaks (c ∷ b3 ∷ b2 ∷ []) start at small e = broken_here start at _ e (λ e. grind arith) (too_short (c ∷ b3 ∷ b2 ∷ []) (omega arith))
fault_breaks (c ∷ b3 ∷ []) start at small e = broken_here start at _ e (λ e. grind arith) (too_short (c ∷ b3 ∷ []) (omega arith))
fault_breaks (c ∷ []) start at small e = broken_here start at _ e (λ e. grind arith) (too_short (c ∷ []) (omega arith))
fault_breaks [] start at small e = absurd (grind arith)

from_start : (bytes : List ℕ) (at : ℕ) → BreaksFrom 0 bytes at → BreaksAt bytes at
from_start bytes at (items, rest, is, place, some, stuck) = (items, rest, is, omega (arith, place), some, stuck)

pub file_breaks : (bytes : List ℕ) (at : ℕ) → Bytes bytes → fault_from 0 bytes ≡ Some at → BreaksAt bytes at
file_breaks bytes at small e = from_start bytes at (fault_breaks bytes 0 at small e)

abbrev Words : List Item → Type 0
Words items = All (λ item. item.word < 2 ^ 32) items

control_back : (b : Bool) → ((if b then 1 else 0) == 1) ≡ b
control_back true = refl
control_back false = refl

control_small : (b : Bool) → is_control (if b then 1 else 0) ≡ true
control_small true = refl
control_small false = refl

item_again : (item : Item) → item.word < 2 ^ 32 → item_of (if item.control then 1 else 0) (to_be_bytes w32 item.word) ≡ item
item_again item small = ap₂ (λ w b. record { word = w; control = b }) (from_be_bytes-to_be_bytes_4 item.word small) (control_back item.control)

pub items_again : (items : List Item) → Words items → items_of (file_of items) ≡ items
items_again [] small = refl
items_again (item ∷ items) small =
    ap₂ (λ x xs. x ∷ xs) (item_again item (small zero item (omega arith))) (items_again items (All-tail (λ (i : Item). i.word < 2 ^ 32) item items small))

pub no_fault : (items : List Item) (start : ℕ) → fault_from start (file_of items) ≡ None
no_fault [] start = refl
no_fault (item ∷ items) start =
    ap (λ b. if b then fault_from (start + 5) (file_of items) else Some start) (control_small item.control) ∙ no_fault items (start + 5)
