-- How many bytes and parts an image has.
use Rattle.std.proofs.Common.{◌≡◌, ℕ, zero, suc, ◌+◌, ◌-◌, ◌<◌, ◌≤◌, Bool, true, false, List, [], ◌∷◌, ◌++◌, length, drop, filter, get_or, replicate, None, Some, refl, sym, ap, ◌∙◌, inl, inr, arith, add-one, length-append}
use Rattle.std.specs.Prelude.{nat_lt, not, ◌||◌, if◌then◌else◌}
use Rattle.std.proofs.lemmas.Bool.{cases_Bool, lt-ltb}
use Rattle.std.proofs.lemmas.List.{drop-drop, length-drop, length-replicate}
use Rattle.core_regs.specs.declared.causes.Order.{Order}
use Rattle.core_regs.specs.declared.causes.Order.TheVariants.{Big, Little}
use Rattle.mb_decode.specs.declared.instruction.Instr.{Instr}
use Rattle.asm_layout.specs.declared.piece.Piece.TheVariants.{Bytes}
use Rattle.asm_layout.specs.Layout.{Numbers, end_of, place}
use Rattle.asm_source.specs.declared.item.Item.{Item}
use Rattle.asm_source.specs.declared.item.Item.TheVariants as item
use Rattle.asm_source.specs.declared.item.Operand.TheVariants.{Number, Label}
use Rattle.asm_source.specs.declared.item.Written.{Written}
use Rattle.asm_source.specs.Items.{is_short, piece_of, pieces, prefixed}
use Rattle.asm_source.specs.Second.{is_part, items_of, place_of, size_before, spans_from, written}
use Rattle.asm_source.specs.Laws.{FaultlessIsSmall, bytes_in}
use Rattle.asm_source.specs.Source.{AreParts, Code, Content, Datum, Holds, Piled, bytes_of, contents, has_contents, onto, parts_from, parts_of, plain, with_value}
use Rattle.asm_source.proofs.Faultless.{count, few_bytes, few_parts}
use Rattle.asm_source.proofs.Lists.{either}
use Rattle.asm_source.proofs.Piles.{not_part, onto_more, onto_none}

-- ---- contents

abbrev size : List Content → ℕ
size [] = 0
size (Code i ∷ cs) = 4 + size cs
size (Datum b ∷ cs) = 1 + size cs

size_append : (cs ds : List Content) → size (cs ++ ds) ≡ size cs + size ds
size_append [] ds = omega arith
size_append (Code i ∷ cs) ds = omega (arith, size_append cs ds)
size_append (Datum b ∷ cs) ds = omega (arith, size_append cs ds)

size_plain : (bytes : List ℕ) → size (plain bytes) ≡ length bytes
size_plain [] = refl
size_plain (b ∷ bytes) = omega (arith, size_plain bytes)

some_size : (c : Content) (cs : List Content) → 0 < size (c ∷ cs)
some_size (Code i) cs = omega arith
some_size (Datum b) cs = omega arith

pub four_bytes : (order : Order) (w : ℕ) → length (bytes_of order 4 w) ≡ 4
four_bytes Big w = refl
four_bytes Little w = refl

two_bytes : (order : Order) (w : ℕ) → length (bytes_of order 2 w) ≡ 2
two_bytes Big w = refl
two_bytes Little w = refl

value_size : (i : Instr) (long : Bool) (value : ℕ) → size (with_value i long value) ≡ (if long then 8 else 4)
value_size i true value = refl
value_size i false value = refl

other_size : (short : Bool) (here : ℕ) → here + (if not short then 8 else 4) ≡ here + (if short then 4 else 8)
other_size true here = refl
other_size false here = refl

zeros_size : (here next : ℕ) → here ≤ next → here + size (plain (replicate (next - here) 0)) ≡ next
zeros_size here next later = omega (arith, size_plain (replicate (next - here) 0), length-replicate {A = ℕ} (next - here) 0, later)

-- an item that begins no part puts bytes from its place to the next
contents_size : (order : Order) (at : ℕ → ℕ) (it : Item) (grown : Bool) (here : ℕ) → is_part it ≡ false
    → here + size (contents order at it (prefixed it grown) here (end_of (piece_of it) grown here)) ≡ end_of (piece_of it) grown here
contents_size order at (item.Instruction i None after_imm) grown here none = refl
contents_size order at (item.Instruction i (Some (Number z)) after_imm) grown here none =
    ap (λ n. here + n) (value_size i (not (after_imm || is_short z)) _) ∙ other_size (after_imm || is_short z) here
contents_size order at (item.Instruction i (Some (Label label)) after_imm) grown here none = ap (λ n. here + n) (value_size i grown _)
contents_size order at (item.Word value) grown here none = ap (λ n. here + n) (size_plain _ ∙ four_bytes order _)
contents_size order at (item.Half value) grown here none = ap (λ n. here + n) (size_plain _ ∙ two_bytes order _)
contents_size order at (item.Byte value) grown here none = refl
contents_size order at (item.Space bytes) grown here none = zeros_size here (here + bytes) (omega arith)
contents_size order at (item.Aligned alignment) grown here none = zeros_size here (end_of (piece_of (item.Aligned alignment)) grown here) (omega arith)
contents_size order at (item.Part address) grown here none = absurd (grind arith)

-- ---- piles

abbrev total : List Piled → ℕ
total [] = 0
total (p ∷ ps) = size p.holds + total ps

total_onto : (cs : List Content) (ps : List Piled) → total (onto cs ps) ≤ size cs + total ps
total_onto cs [] = omega arith
total_onto cs (p ∷ ps) = omega (arith, size_append cs p.holds)

total_kept : (ps : List Piled) → total (filter has_contents ps) ≤ total ps
total_kept [] = omega arith
total_kept (p ∷ ps) =
    let rest = total_kept ps in
    either (λ qs. total qs ≤ total (p ∷ ps)) (has_contents p) (p ∷ filter has_contents ps) (filter has_contents ps) (omega arith) (omega arith)

-- a part that ends at `to` is kept only where it has bytes
one_kept : (start from to : ℕ) (held : List Content) (ps : List Piled) (n : ℕ) → from + size held ≡ to → length (filter has_contents ps) ≤ n
    → length (filter has_contents (record { address = start; holds = held ++ [] } ∷ ps)) ≤ (if nat_lt from to then n + 1 else n)
one_kept start from to [] ps n is few = either (λ m. length (filter has_contents ps) ≤ m) (nat_lt from to) (n + 1) n (omega (arith, few)) few
one_kept start from to (c ∷ held) ps n is few =
    let here : Piled = record { address = start; holds = (c ∷ held) ++ [] } in
    rw (lt-ltb from to (omega (arith, is, some_size c held))) (either (λ qs. length qs ≤ n + 1) (has_contents here) (here ∷ filter has_contents ps) (filter has_contents ps) (omega (arith, few)) (omega (arith, few)))

address_in : Item → ℕ
address_in (item.Part address) = address
address_in _ = 0

part_begins : (order : Order) (F : Numbers) (at : ℕ → ℕ) (k start : ℕ) (it : Item) (rest : List Item) → is_part it ≡ true
    → parts_from order F at k start (it ∷ rest) ≡ record { address = start; holds = [] } ∷ parts_from order F at (k + 1) (address_in it) rest
unfolding parts_from address_in
part_begins order F at k start (item.Part address) rest is = refl
part_begins order F at k start (item.Instruction i value after_imm) rest is = absurd (grind arith)
part_begins order F at k start (item.Word value) rest is = absurd (grind arith)
part_begins order F at k start (item.Half value) rest is = absurd (grind arith)
part_begins order F at k start (item.Byte value) rest is = absurd (grind arith)
part_begins order F at k start (item.Space bytes) rest is = absurd (grind arith)
part_begins order F at k start (item.Aligned alignment) rest is = absurd (grind arith)

-- ---- items, from one on

read_here : {X : Type 0} (xs : List X) (k : ℕ) (d x : X) (rest : List X) → x ∷ rest ≡ drop k xs → get_or xs k d ≡ x
read_here [] zero d x rest is = absurd (omega (arith, ap length is))
read_here [] (suc k) d x rest is = absurd (omega (arith, ap length is))
read_here (y ∷ xs) zero d x rest is = sym (ap (λ zs. get_or zs 0 d) is)
read_here (y ∷ xs) (suc k) d x rest is = read_here xs k d x rest is

pieces_here : (all : List Written) (k : ℕ) (w : Written) (ws : List Written) → w ∷ ws ≡ drop k all → get_or (pieces (items_of all)) k (Bytes 0) ≡ piece_of w.item
pieces_here [] zero w ws is = absurd (omega (arith, ap length is))
pieces_here [] (suc k) w ws is = absurd (omega (arith, ap length is))
pieces_here (v ∷ all) zero w ws is = sym (ap (λ vs. get_or (pieces (items_of vs)) 0 (Bytes 0)) is)
pieces_here (v ∷ all) (suc k) w ws is = pieces_here all k w ws is

tail_here : {X : Type 0} (xs : List X) (k : ℕ) (x : X) (rest : List X) → x ∷ rest ≡ drop k xs → rest ≡ drop (k + 1) xs
tail_here xs k x rest is = ap (drop 1) is ∙ drop-drop 1 k xs

one_more : {X : Type 0} (xs : List X) (k : ℕ) (x : X) (rest : List X) → x ∷ rest ≡ drop k xs → k < length xs
one_more xs k x rest is = omega (arith, ap length is, length-drop k xs)

module _ (order : Order) (all : List Written) (F : Numbers) where
  next_place : (k : ℕ) (w : Written) (ws : List Written) → w ∷ ws ≡ drop k all → place_of all F (k + 1) ≡ end_of (piece_of w.item) (F k) (place_of all F k)
  unfolding place
  next_place k w ws is = ap (place_of all F) (add-one k) ∙ ap (λ p. end_of p (F k) (place_of all F k)) (pieces_here all k w ws is)

  -- what an item puts
  put : (k : ℕ) (w : Written) → List Content
  put k w = contents order (place_of all F) w.item (prefixed w.item (F k)) (place_of all F k) (place_of all F (k + 1))

  put_size : (k : ℕ) (w : Written) (ws : List Written) → w ∷ ws ≡ drop k all → is_part w.item ≡ false → place_of all F k + size (put k w) ≡ place_of all F (k + 1)
  unfolding put
  put_size k w ws is none =
      let next = next_place k w ws is in
      ap (λ n. place_of all F k + size (contents order (place_of all F) w.item (prefixed w.item (F k)) (place_of all F k) n)) next
      ∙ contents_size order (place_of all F) w.item (F k) (place_of all F k) none ∙ sym next

  -- as many parts as ranges with bytes
  parts_few : (k from start : ℕ) (org : Written) (held : List Content) (ws : List Written) → ws ≡ drop k all → from + size held ≡ place_of all F k
      → length (filter has_contents (onto held (parts_from order F (place_of all F) k start (items_of ws)))) ≤ count (spans_from all F k from org ws)
  unfolding parts_from spans_from count put
  parts_few k from start org held [] is so_far = one_kept start from (place_of all F k) held [] 0 so_far (omega arith)
  parts_few k from start org held (w ∷ ws) is so_far = elim (cases_Bool (is_part w.item)) [
    | inl part ↦
        let rest = parts_few (k + 1) (place_of all F (k + 1)) (address_in w.item) w [] ws (tail_here all k w ws is) (omega arith) in
        let same = onto_none (parts_from order F (place_of all F) (k + 1) (address_in w.item) (items_of ws)) in
        rw (part, part_begins order F (place_of all F) k start w.item (items_of ws) part) (one_kept start from (place_of all F k) held (parts_from order F (place_of all F) (k + 1) (address_in w.item) (items_of ws)) _ so_far (rw same at rest))
    | inr none ↦
        let rest = parts_few (k + 1) from start org (held ++ put k w) ws (tail_here all k w ws is) (omega (arith, so_far, size_append held (put k w), put_size k w ws is none)) in
        rw (none, not_part order F (place_of all F) k start w.item (items_of ws) none, onto_more held (put k w) (parts_from order F (place_of all F) (k + 1) start (items_of ws))) rest
  ]

  -- as many bytes as the items have
  bytes_few : (k start : ℕ) (ws : List Written) → ws ≡ drop k all → k ≤ length all
      → size_before all F k + total (parts_from order F (place_of all F) k start (items_of ws)) ≤ size_before all F (length all)
  unfolding parts_from size_before put
  bytes_few k start [] is within =
      let last : k ≡ length all = omega (arith, ap length is, length-drop k all, within) in
      omega (arith, ap (size_before all F) last)
  bytes_few k start (w ∷ ws) is within =
      let more : k < length all = one_more all k w ws is in
      let here : written all k ≡ w = read_here all k _ w ws is in
      let step : size_before all F (k + 1) ≡ size_before all F k + (if is_part w.item then 0 else place_of all F (k + 1) - place_of all F k) =
      ap (size_before all F) (add-one k) ∙ ap (λ (v : Written). size_before all F k + (if is_part v.item then 0 else place_of all F (k + 1) - place_of all F k)) here in
      elim (cases_Bool (is_part w.item)) [
        | inl part ↦
            let rest = bytes_few (k + 1) (address_in w.item) ws (tail_here all k w ws is) (omega arith) in
            let now : size_before all F (k + 1) ≡ size_before all F k + 0 = step ∙ ap (λ b. size_before all F k + (if b then 0 else place_of all F (k + 1) - place_of all F k)) part in
            rw (part_begins order F (place_of all F) k start w.item (items_of ws) part) (omega (arith, rest, now))
        | inr none ↦
            let rest = bytes_few (k + 1) start ws (tail_here all k w ws is) (omega arith) in
            let now : size_before all F (k + 1) ≡ size_before all F k + (place_of all F (k + 1) - place_of all F k) =
            step ∙ ap (λ b. size_before all F k + (if b then 0 else place_of all F (k + 1) - place_of all F k)) none in
            let grown = total_onto (put k w) (parts_from order F (place_of all F) (k + 1) start (items_of ws)) in
            rw (not_part order F (place_of all F) k start w.item (items_of ws) none) (omega (arith, rest, now, grown, put_size k w ws is none))
      ]

-- ---- images

held_size : (order : Order) (bytes : List ℕ) (cs : List Content) → Holds order bytes cs → length bytes ≡ size cs
unfolding Holds
held_size order bytes [] h = ap length h
held_size order bytes (Datum b ∷ cs) h = ap length h.1 ∙ ap suc (held_size order h.0 cs h.2) ∙ omega arith
held_size order bytes (Code i ∷ cs) h =
    omega (arith, ap length h.4, length-append (bytes_of order 4 h.0) h.1, four_bytes order h.0, held_size order h.1 cs h.5)

same_count : (order : Order) (images : List (ℕ × List ℕ)) (ps : List Piled) → AreParts order images ps → length images ≡ length ps
unfolding AreParts
same_count order images [] h = ap length h
same_count order images (p ∷ ps) h = ap length h.2 ∙ ap suc (same_count order h.1 ps h.4)

same_size : (order : Order) (images : List (ℕ × List ℕ)) (ps : List Piled) → AreParts order images ps → length (bytes_in images) ≡ total ps
unfolding AreParts
same_size order images [] h = ap (λ xs. length (bytes_in xs)) h
same_size order images (p ∷ ps) h =
    omega (arith, ap (λ xs. length (bytes_in xs)) h.2, length-append h.0 (bytes_in h.1), held_size order h.0 p.holds h.3, same_size order h.1 ps h.4)

pub faultless_is_small : FaultlessIsSmall
unfolding place
faultless_is_small order all F images sound are =
    let ps = parts_from order F (place_of all F) 0 0 (items_of all) in
    let parts = parts_few order all F 0 0 0 (written all 0) [] all refl refl in
    let bytes = bytes_few order all F 0 0 all refl (omega arith) in
    let same = onto_none ps in
    record {
      parts = omega (arith, rw same at parts, few_parts all F sound, same_count order images (parts_of order (items_of all) F) are);
      bytes = omega (arith, bytes, few_bytes all F sound, same_size order images (parts_of order (items_of all) F) are, total_kept ps);
    }
