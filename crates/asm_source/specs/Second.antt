-- The faults of the second round: those that need the layout of the grown set.
use Rattle.std.specs.Prelude.{ℕ, zero, suc, ◌+◌, ◌-◌, ◌%◌, ◌==◌, nat_lt, Bool, true, false, not, ◌&&◌, ◌||◌, List, [], ◌∷◌, ◌++◌, flat_map, map, length, get_or, if◌then◌else◌, Option, None, Some}
use Rattle.std.specs.List.{list_any, range_with_len}
use Rattle.op_table.specs.Table.{row_for}
use Rattle.byte_ranges.specs.declared.kept.Range.{Range}
use Rattle.byte_ranges.specs.Ranges.{has_bytes, shares_byte}
use Rattle.asm_layout.specs.Layout.{Numbers, place}
use Rattle.asm_source.specs.declared.fault.Fault.{Fault}
use Rattle.asm_source.specs.declared.fault.Rule.{Rule}
use Rattle.asm_source.specs.declared.fault.Rule.TheVariants.{OutOfRange, BadInSlot, EmptySlot, SharedByte, TooMuch}
use Rattle.asm_source.specs.declared.item.Item.{Item}
use Rattle.asm_source.specs.declared.item.Item.TheVariants.{Instruction, Space, Part}
use Rattle.asm_source.specs.declared.item.Span.{Span}
use Rattle.asm_source.specs.declared.item.Written.{Written}
use Rattle.asm_source.specs.Items.{has_slot, pieces, prefixed}

abbrev pub items_of : List Written → List Item
items_of all = map (λ (w : Written). w.item) all

abbrev pub written : List Written → ℕ → Written
written all k = get_or all k (record { item = Space 0; line = 0; column = 0 })

abbrev pub fault_if : Bool → Rule → Written → List Fault
fault_if fails rule w = if fails then record { line = w.line; column = w.column; rule = rule } ∷ [] else []

abbrev pub is_instruction : Item → Bool
is_instruction (Instruction i value after_imm) = true
is_instruction _ = false

abbrev pub is_part : Item → Bool
is_part (Part address) = true
is_part _ = false

-- the layout of a source under F
abbrev pub place_of : List Written → Numbers → ℕ → ℕ
place_of all F = place (pieces (items_of all)) F

-- how many bytes item k has
abbrev pub size_of : List Written → Numbers → ℕ → ℕ
size_of all F k = if is_part (written all k).item then 0 else place_of all F (k + 1) - place_of all F k

unfoldable pub size_before : List Written → Numbers → ℕ → ℕ
size_before all F zero = 0
size_before all F (suc k) = size_before all F k + size_of all F k

-- an item that parts what stands before it from what stands behind it: it has bytes, or begins a part
abbrev pub is_solid : List Written → Numbers → ℕ → Bool
is_solid all F k = is_part (written all k).item || not (size_of all F k == 0)

-- the first of the next `left` items from k on that is solid
unfoldable pub next_solid : List Written → Numbers → ℕ → ℕ → Option ℕ
next_solid all F zero k = None
next_solid all F (suc left) k = if is_solid all F k then Some k else next_solid all F left (k + 1)

-- what stands in the slot of an instruction
abbrev pub in_slot : Numbers → Written → Written → ℕ → Item → List Fault
in_slot F branch w k (Instruction i value after_imm) = fault_if (prefixed w.item (F k) || not (row_for i.op).slot_ok) BadInSlot w
in_slot F branch w k _ = fault_if true EmptySlot branch

abbrev pub slot_by : List Written → Numbers → Written → Option ℕ → List Fault
slot_by all F branch None = fault_if true EmptySlot branch
slot_by all F branch (Some k) = in_slot F branch (written all k) k (written all k).item

abbrev pub slot_faults : List Written → Numbers → ℕ → Item → List Fault
slot_faults all F k (Instruction i value after_imm) =
    if has_slot i.op then slot_by all F (written all k) (next_solid all F (length all - (k + 1)) (k + 1)) else []
slot_faults all F k _ = []

-- all faults of item k: an unaligned instruction, too many bytes, an address past the limit, and those of its slot. The
-- fold over faults takes the first that passes a limit
unfoldable pub item_faults : List Written → Numbers → ℕ → List Fault
item_faults all F k =
    fault_if (is_instruction (written all k).item && not (place_of all F k % 4 == 0)) OutOfRange (written all k)
    ++ fault_if (nat_lt 1_048_576 (size_before all F (k + 1))) TooMuch (written all k)
    ++ fault_if (nat_lt 67_108_864 (place_of all F (k + 1))) TooMuch (written all k)
    ++ slot_faults all F k (written all k).item

-- ---- parts: where each begins and ends, and its `.org`

-- the parts from item k on; the one that is open begins at `from`
unfoldable pub spans_from : List Written → Numbers → ℕ → ℕ → Written → List Written → List Span
spans_from all F k from org [] = record { range = record { from = from; to = place_of all F k }; org = org } ∷ []
spans_from all F k from org (w ∷ ws) =
    if is_part w.item then record { range = record { from = from; to = place_of all F k }; org = org } ∷ spans_from all F (k + 1) (place_of all F (k + 1)) w ws
    else spans_from all F (k + 1) from org ws

-- how many parts are kept with one more
abbrev pub kept_with : Range → ℕ → ℕ
kept_with r kept = if has_bytes r then kept + 1 else kept

-- each part against all before it, and how many of those are kept
unfoldable pub all_part_faults : ℕ → List Range → List Span → List Fault
all_part_faults kept earlier [] = []
all_part_faults kept earlier (p ∷ ps) =
    fault_if (list_any (shares_byte p.range) earlier) SharedByte p.org
    ++ fault_if (has_bytes p.range && nat_lt 65_534 (kept + 1)) TooMuch p.org
    ++ all_part_faults (kept_with p.range kept) (earlier ++ p.range ∷ []) ps

-- the same up to the first that shares a byte, which is enough: the faults of parts come in the order of their lines
unfoldable pub part_faults : ℕ → List Range → List Span → List Fault
part_faults kept earlier [] = []
part_faults kept earlier (p ∷ ps) =
    if list_any (shares_byte p.range) earlier then fault_if true SharedByte p.org
    else fault_if (has_bytes p.range && nat_lt 65_534 (kept + 1)) TooMuch p.org ++ part_faults (kept_with p.range kept) (earlier ++ p.range ∷ []) ps

-- all faults of the second round, and those up to the first part that shares a byte
unfoldable pub all_second_faults : List Written → Numbers → List Fault
all_second_faults all F =
    flat_map (item_faults all F) (range_with_len 0 (length all))
    ++ all_part_faults 0 [] (spans_from all F 0 0 (written all 0) all)

unfoldable pub second_faults : List Written → Numbers → List Fault
second_faults all F =
    flat_map (item_faults all F) (range_with_len 0 (length all))
    ++ part_faults 0 [] (spans_from all F 0 0 (written all 0) all)
