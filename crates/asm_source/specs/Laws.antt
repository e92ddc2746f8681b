-- What the definitions are.
use Rattle.std.specs.Prelude.{◌≡◌, ◌≤◌, ◌==◌, ◌&&◌, ◌||◌, ℕ, nat_lt, Bool, false, List, None, flat_map, length}
use Rattle.std.specs.List.{AllPairs}
use Rattle.core_regs.specs.declared.causes.Order.{Order}
use Rattle.asm_source.specs.declared.fault.Fault.{Fault}
use Rattle.asm_source.specs.Faults.{IsFirst, least}
use Rattle.asm_source.specs.declared.item.Item.{Item}
use Rattle.asm_source.specs.declared.item.Written.{Written}
use Rattle.asm_source.specs.Second.{all_second_faults, items_of, place_of, second_faults}
use Rattle.asm_source.specs.Source.{AreParts, IsImageOf, parts_of}
use Rattle.asm_layout.specs.Layout.{Numbers}

-- the fold finds the first fault, in whatever order they are noted
abbrev pub LeastIsFirst : Type 0
LeastIsFirst = (all : List Fault) → IsFirst all (least all)

-- a source has at most one image
abbrev pub ImageIsOne : Type 0
ImageIsOne = (order : Order) (items : List Item) (one other : List (ℕ × List ℕ)) → IsImageOf order items one → IsImageOf order items other → one ≡ other

-- an item stands in an earlier line than another, or in the same one further to the left
abbrev pub stands_before : Written → Written → Bool
stands_before w v = nat_lt w.line v.line || w.line == v.line && nat_lt w.column v.column

-- none stands before one that comes earlier in the list
abbrev pub AreInOrder : List Written → Type 0
AreInOrder all = AllPairs (λ w v. stands_before v w ≡ false) all

-- behind the first part that shares a byte no fault of a part can be the first
abbrev pub PartsMayStop : Type 0
PartsMayStop = (all : List Written) (F : Numbers) → AreInOrder all → least (second_faults all F) ≡ least (all_second_faults all F)

-- in a layout without a fault no place is past the limit
abbrev pub FaultlessIsNear : Type 0
FaultlessIsNear = (all : List Written) (F : Numbers) → least (second_faults all F) ≡ None → (k : ℕ) → k ≤ length all → place_of all F k ≤ 67_108_864

abbrev pub bytes_in : List (ℕ × List ℕ) → List ℕ
bytes_in images = flat_map (λ (p : ℕ × List ℕ). p.1) images

-- few parts, with few bytes
pub record IsSmall (images : List (ℕ × List ℕ)) : Type 0 where
  pub parts : length images ≤ 65_534
  pub bytes : length (bytes_in images) ≤ 1_048_576

-- and its image is small
abbrev pub FaultlessIsSmall : Type 0
FaultlessIsSmall = (order : Order) (all : List Written) (F : Numbers) (images : List (ℕ × List ℕ)) → least (second_faults all F) ≡ None
    → AreParts order images (parts_of order (items_of all) F) → IsSmall images
