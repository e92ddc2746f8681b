-- Parts that are built item by item.
use Rattle.std.proofs.Common.{◌≡◌, ℕ, zero, suc, ◌+◌, ◌<◌, ◌≤◌, Bool, true, false, nat_lt, List, [], ◌∷◌, ◌++◌, length, map, drop, filter, get_or, None, Some, refl, sym, ap, ◌∙◌, subst, inl, inr, arith, append_assoc, drop-cons, add-one}
use Rattle.std.specs.List.{All}
use Rattle.std.proofs.lemmas.Bool.{cases_Bool, lt-ltb, ltb-true, ltb-false}
use Rattle.std.proofs.lemmas.List.{append-nil, drop_all, length-map, map-append}
use Rattle.std.proofs.lemmas.List.Elements.{All-append, All-cons, All-nil}
use Rattle.core_regs.specs.declared.causes.Order.{Order}
use Rattle.elf_image.specs.declared.image.Part.{Part}
use Rattle.asm_layout.specs.Layout.{Numbers, place}
use Rattle.asm_source.proofs.Piles.{not_part, onto_more, onto_none}
use Rattle.asm_source.specs.declared.item.Item.{Item}
use Rattle.asm_source.specs.declared.item.Item.TheVariants as item
use Rattle.asm_source.specs.declared.item.Written.{Written}
use Rattle.asm_source.specs.Items.{piece_of, pieces, prefixed}
use Rattle.asm_source.specs.Second.{is_part, items_of}
use Rattle.asm_source.specs.Source.{AreParts, Content, Holds, Piled, contents, has_contents, onto, parts_from, parts_of}
use Rattle.asm_image.specs.declared.building.Building.{Building}
use Rattle.asm_image.specs.Built.{IsBuilt, IsPlain, Puts, address_of, closed, pair_of, part_at}
use Rattle.asm_image.proofs.Holding.{holds_append, holds_same, none_held, some_held}

cut : {X : Type 0} (xs : List X) (k : ℕ) (d : X) → k < length xs → drop k xs ≡ get_or xs k d ∷ drop (k + 1) xs
cut xs k d within = drop-cons xs k d within ∙ ap (λ n. get_or xs k d ∷ drop n xs) (sym (add-one k))

parts_append : (order : Order) (xs ys : List (ℕ × List ℕ)) (ps qs : List Piled) → AreParts order xs ps → AreParts order ys qs → AreParts order (xs ++ ys) (ps ++ qs)
unfolding AreParts
parts_append order xs ys [] qs h g = subst (λ (zs : List (ℕ × List ℕ)). AreParts order zs qs) (ap (λ zs. zs ++ ys) (sym h)) g
parts_append order xs ys (p ∷ ps) qs h g = (h.0, h.1 ++ ys, ap (λ zs. zs ++ ys) h.2, h.3, parts_append order h.1 ys ps qs h.4 g)

one_part : (order : Order) (start : ℕ) (bytes : List ℕ) (cs : List Content) → Holds order bytes cs → AreParts order ((start, bytes) ∷ []) (record { address = start; holds = cs } ∷ [])
unfolding AreParts
one_part order start bytes cs h = (bytes, [], refl, h, refl)

-- the open part is ended: it is kept where it has contents
pub record Ends (order : Order) (b : Building) (piled ps : List Piled) (held : List Content) : Type 0 where
  pub more : List Piled
  pub done : AreParts order (map pair_of (closed b)) more
  pub plain : All IsPlain (closed b)
  pub left : piled ++ filter has_contents (record { address = b.start; holds = held ++ [] } ∷ ps) ≡ more ++ filter has_contents ps

pub ended : (order : Order) (b : Building) (piled ps : List Piled) (held : List Content) → AreParts order (map pair_of b.parts.items) piled → All IsPlain b.parts.items → Holds order b.bytes.items held → Ends order b piled ps held
ended order b piled ps held done plain holds = elim (cases_Bool (nat_lt 0 (length b.bytes.items))) [
  | inl some ↦
      let here : Piled = record { address = b.start; holds = held ++ [] } in
      let full : nat_lt 0 (length (held ++ [])) ≡ true = lt-ltb 0 _ (rw append-nil (some_held order b.bytes.items held (ltb-true 0 _ some) holds)) in
      let last : Holds order b.bytes.items (held ++ []) = rw append-nil holds in
      let all : AreParts order (map pair_of b.parts.items ++ (b.start, b.bytes.items) ∷ []) (piled ++ here ∷ []) =
      parts_append order (map pair_of b.parts.items) ((b.start, b.bytes.items) ∷ []) piled (here ∷ []) done (one_part order b.start b.bytes.items (held ++ []) last) in
      record {
        more = piled ++ here ∷ [];
        done = rw some (subst (λ (xs : List (ℕ × List ℕ)). AreParts order xs (piled ++ here ∷ [])) (sym (map-append pair_of b.parts.items (part_at b.start b.bytes.items ∷ []))) all);
        plain = rw some (All-append IsPlain b.parts.items (part_at b.start b.bytes.items ∷ []) plain (All-cons IsPlain _ [] (refl, refl) (All-nil IsPlain)));
        left = rw full (sym (append_assoc piled (here ∷ []) (filter has_contents ps)));
      }
  | inr none ↦
      let empty : held ≡ [] = let least = ltb-false 0 (length b.bytes.items) none in none_held order b.bytes.items held (omega arith) holds in
      record { more = piled; done = rw none done; plain = rw none plain; left = rw empty refl }
]

-- ---- items, as they are read

pub count_same : (all : List Written) → length (items_of all) ≡ length all
count_same all = length-map all (λ (w : Written). w.item)

pub pieces_same : (all : List Written) → length (pieces (items_of all)) ≡ length all
pieces_same all = length-map (items_of all) piece_of ∙ count_same all

pub item_at : (all : List Written) (k : ℕ) (d : Written) → k < length all → get_or (items_of all) k d.item ≡ (get_or all k d).item
item_at [] k d within = absurd (omega arith)
item_at (w ∷ all) zero d within = refl
item_at (w ∷ all) (suc k) d within = item_at all k d (omega (arith, within))

pub begins_part : (it : Item) (address : ℕ) → address_of it ≡ Some address → it ≡ item.Part address
begins_part (item.Part a) address is = cc
begins_part (item.Instruction i value after_imm) address is = absurd (grind arith)
begins_part (item.Word value) address is = absurd (grind arith)
begins_part (item.Half value) address is = absurd (grind arith)
begins_part (item.Byte value) address is = absurd (grind arith)
begins_part (item.Space count) address is = absurd (grind arith)
begins_part (item.Aligned alignment) address is = absurd (grind arith)

pub begins_none : (it : Item) → address_of it ≡ None → is_part it ≡ false
begins_none (item.Part a) none = absurd (grind arith)
begins_none (item.Instruction i value after_imm) none = refl
begins_none (item.Word value) none = refl
begins_none (item.Half value) none = refl
begins_none (item.Byte value) none = refl
begins_none (item.Space count) none = refl
begins_none (item.Aligned alignment) none = refl

pub put_same : (order : Order) (old new : List ℕ) (at : ℕ → ℕ) (it other : Item) (long is_long : Bool) (here place_here next place_next : ℕ) → it ≡ other → long ≡ is_long → here ≡ place_here → next ≡ place_next
    → Puts order old new (contents order at it long here next) → Puts order old new (contents order at other is_long place_here place_next)
put_same order old new at it other long is_long here place_here next place_next p q r s puts = subst (λ (cs : List Content). Puts order old new cs) (λ i. contents order at (p i) (q i) (r i) (s i)) puts

module _ (order : Order) (items : List Item) (F : Numbers) (k : ℕ) (d : Item) (b new : Building) (within : k < length items) (built : IsBuilt order items F k b) where
  -- a part begins
  pub part_begun : (address : ℕ) → get_or items k d ≡ item.Part address → new.parts.items ≡ closed b → new.bytes.items ≡ [] → new.start ≡ address → IsBuilt order items F (k + 1) new
  unfolding parts_from Holds
  part_begun address is parts bytes start =
      let at = place (pieces items) F in
      let ps = parts_from order F at (k + 1) address (drop (k + 1) items) in
      let end = ended order b built.piled ps built.held built.done built.plain built.open_holds in
      let split : onto built.held (parts_from order F at k b.start (drop k items)) ≡ record { address = b.start; holds = built.held ++ [] } ∷ ps = rw (cut items k d within, is) refl in
      record {
        piled = end.more;
        held = [];
        done = subst (λ (xs : List Part). AreParts order (map pair_of xs) end.more) (sym parts) end.done;
        plain = subst (λ (xs : List Part). All IsPlain xs) (sym parts) end.plain;
        open_holds = bytes;
        left = ap (λ a. end.more ++ filter has_contents (onto [] (parts_from order F at (k + 1) a (drop (k + 1) items)))) start
            ∙ ap (λ qs. end.more ++ filter has_contents qs) (onto_none ps) ∙ sym end.left
            ∙ ap (λ qs. built.piled ++ filter has_contents qs) (sym split) ∙ built.left;
      }

  -- an item of the open part
  pub item_put : is_part (get_or items k d) ≡ false → new.parts.items ≡ b.parts.items → new.start ≡ b.start
      → Puts order b.bytes.items new.bytes.items (contents order (place (pieces items) F) (get_or items k d) (prefixed (get_or items k d) (F k)) (place (pieces items) F k) (place (pieces items) F (k + 1)))
      → IsBuilt order items F (k + 1) new
  item_put none parts start puts =
      let at = place (pieces items) F in
      let it = get_or items k d in
      let cs = contents order at it (prefixed it (F k)) (at k) (at (k + 1)) in
      let ps = parts_from order F at (k + 1) b.start (drop (k + 1) items) in
      let split : onto built.held (parts_from order F at k b.start (drop k items)) ≡ onto (built.held ++ cs) ps =
      ap (λ its. onto built.held (parts_from order F at k b.start its)) (cut items k d within) ∙ ap (onto built.held) (not_part order F at k b.start it (drop (k + 1) items) none) ∙ onto_more built.held cs ps in
      record {
        piled = built.piled;
        held = built.held ++ cs;
        done = subst (λ (xs : List Part). AreParts order (map pair_of xs) built.piled) (sym parts) built.done;
        plain = subst (λ (xs : List Part). All IsPlain xs) (sym parts) built.plain;
        open_holds = holds_same order (b.bytes.items ++ puts.bytes) new.bytes.items (built.held ++ cs) puts.added (holds_append order b.bytes.items puts.bytes built.held cs built.open_holds puts.holds);
        left = ap (λ a. built.piled ++ filter has_contents (onto (built.held ++ cs) (parts_from order F at (k + 1) a (drop (k + 1) items)))) start
            ∙ ap (λ qs. built.piled ++ filter has_contents qs) (sym split) ∙ built.left;
      }

-- the same, as an item is read
pub item_added : (order : Order) (all : List Written) (F : Numbers) (k : ℕ) (d : Written) (b new : Building) (long : Bool) (here next : ℕ) → k < length all → IsBuilt order (items_of all) F k b
    → address_of (get_or all k d).item ≡ None → long ≡ prefixed (get_or all k d).item (F k) → here ≡ place (pieces (items_of all)) F k → next ≡ place (pieces (items_of all)) F (k + 1)
    → new.parts.items ≡ b.parts.items → new.start ≡ b.start
    → Puts order b.bytes.items new.bytes.items (contents order (place (pieces (items_of all)) F) (get_or all k d).item long here next) → IsBuilt order (items_of all) F (k + 1) new
item_added order all F k d b new long here next within built none is_long at ends parts start puts =
    let same : (get_or all k d).item ≡ get_or (items_of all) k d.item = sym (item_at all k d within) in
    item_put order (items_of all) F k d.item b new (omega (arith, count_same all, within)) built (ap is_part (sym same) ∙ begins_none (get_or all k d).item none) parts start
    (put_same order b.bytes.items new.bytes.items (place (pieces (items_of all)) F) (get_or all k d).item (get_or (items_of all) k d.item) long (prefixed (get_or (items_of all) k d.item) (F k)) here
    (place (pieces (items_of all)) F k) next (place (pieces (items_of all)) F (k + 1)) same (is_long ∙ ap (λ (i : Item). prefixed i (F k)) same) at ends puts)

-- the last part ends
pub record Whole (order : Order) (items : List Item) (F : Numbers) (parts : List Part) : Type 0 where
  pub are : AreParts order (map pair_of parts) (parts_of order items F)
  pub plain : All IsPlain parts

pub all_built : (order : Order) (items : List Item) (F : Numbers) (k : ℕ) (b : Building) (parts : List Part) → length items ≤ k → IsBuilt order items F k b → parts ≡ closed b → Whole order items F parts
unfolding parts_from
all_built order items F k b parts past built is =
    let at = place (pieces items) F in
    let end = ended order b built.piled [] built.held built.done built.plain built.open_holds in
    let split : onto built.held (parts_from order F at k b.start (drop k items)) ≡ record { address = b.start; holds = built.held ++ [] } ∷ [] = rw (drop_all k items past) refl in
    let all : end.more ≡ parts_of order items F = sym (append-nil end.more) ∙ sym end.left ∙ ap (λ qs. built.piled ++ filter has_contents qs) (sym split) ∙ built.left in
    record {
      are = subst (λ (xs : List Part). AreParts order (map pair_of xs) (parts_of order items F)) (sym is) (subst (λ (ps : List Piled). AreParts order (map pair_of (closed b)) ps) all end.done);
      plain = subst (λ (xs : List Part). All IsPlain xs) (sym is) end.plain;
    }

pub none_built : (order : Order) (items : List Item) (F : Numbers) (b : Building) → b.parts.items ≡ [] → b.bytes.items ≡ [] → b.start ≡ 0 → IsBuilt order items F 0 b
unfolding AreParts Holds
none_built order items F b parts bytes start = record {
  piled = [];
  held = [];
  done = ap (map pair_of) parts;
  plain = subst (λ (xs : List Part). All IsPlain xs) (sym parts) (All-nil IsPlain);
  open_holds = bytes;
  left = ap (λ a. filter has_contents (onto [] (parts_from order F (place (pieces items) F) 0 a items))) start ∙ ap (filter has_contents) (onto_none (parts_from order F (place (pieces items) F) 0 0 items));
}
