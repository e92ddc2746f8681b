-- Ranges of bytes, and those that are kept, each known by its start.
use Rattle.std.specs.Prelude.{◌≡◌, ℕ, ◌<◌, ◌≤◌, nat_lt, Bool, ◌&&◌, List, Option, Some, None, IsSome}
use Rattle.std.specs.List.{All, Contains}
use Rattle.byte_ranges.specs.declared.kept.Range.{Range}

abbrev pub has_bytes : Range → Bool
has_bytes r = nat_lt r.from r.to

abbrev pub shares_byte : Range → Range → Bool
shares_byte r s = has_bytes r && has_bytes s && nat_lt r.from s.to && nat_lt s.from r.to

-- one of the ranges goes from `start` to `end`, with a byte
pub record HasRange (ranges : List Range) (start end : ℕ) : Type 0 where
  pub range : Range
  pub member : Contains ranges range
  pub some : range.from < range.to
  pub starts : range.from ≡ start
  pub ends : range.to ≡ end

-- `end_at` gives the end of a range at its start, where the range has bytes
abbrev pub IsKept : (ℕ → Option ℕ) → Range → Type 0
IsKept end_at r = r.from < r.to → end_at r.from ≡ Some r.to

-- `end_at` gives the end of each range with bytes at its start, and nothing else; no two of its ranges share a byte
pub record Keeps (ranges : List Range) (end_at : ℕ → Option ℕ) : Type 0 where
  pub all : All (IsKept end_at) ranges
  pub only : (start end : ℕ) → end_at start ≡ Some end → HasRange ranges start end
  pub apart : (start end next last : ℕ) → end_at start ≡ Some end → end_at next ≡ Some last → start < next → end ≤ next

-- the last range that begins below an address
pub record LastBelow (end_at : ℕ → Option ℕ) (address end : ℕ) : Type 0 where
  pub start : ℕ
  pub below : start < address
  pub here : end_at start ≡ Some end
  pub last : (next : ℕ) → next < address → IsSome (end_at next) → next ≤ start

-- the end of the last range that begins below an address, or that none does
abbrev pub IsLastBelow : (ℕ → Option ℕ) → ℕ → Option ℕ → Type 0
IsLastBelow end_at address (Some end) = LastBelow end_at address end
IsLastBelow end_at address None = (start : ℕ) → start < address → end_at start ≡ None
