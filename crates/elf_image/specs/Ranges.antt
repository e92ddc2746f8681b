-- Ranges of addresses, each known by its start, and whose segments they are.
use Rattle.std.specs.Prelude.{◌≡◌, ℕ, ◌<◌, ◌≤◌, List, Option, Some, None, IsSome}
use Rattle.std.specs.List.{All, Contains}
use Rattle.elf_image.specs.Tests.{end_of}
use Rattle.elf_image.specs.declared.segment.ProgramHeader.{ProgramHeader}

-- one of the segments has the range from `start` to `end`, with a byte
pub record HasRange (segments : List ProgramHeader) (start end : ℕ) : Type 0 where
  pub segment : ProgramHeader
  pub member : Contains segments segment
  pub some : 0 < segment.p_memsz
  pub starts : segment.p_vaddr ≡ start
  pub ends : end_of segment ≡ end

-- `end_at` gives the end of a segment at its start, where the segment has bytes
abbrev pub IsKept : (ℕ → Option ℕ) → ProgramHeader → Type 0
IsKept end_at h = 0 < h.p_memsz → end_at h.p_vaddr ≡ Some (end_of h)

-- `end_at` gives the end of each segment with bytes at its start, and nothing else; no two of its ranges share a byte
pub record Keeps (segments : List ProgramHeader) (end_at : ℕ → Option ℕ) : Type 0 where
  pub all : All (IsKept end_at) segments
  pub only : (start end : ℕ) → end_at start ≡ Some end → HasRange segments start end
  pub apart : (start end next last : ℕ) → end_at start ≡ Some end → end_at next ≡ Some last → start < next → end ≤ next

-- the last range that begins below an address
pub record LastBelow (end_at : ℕ → Option ℕ) (address end : ℕ) : Type 0 where
  pub start : ℕ
  pub below : start < address
  pub here : end_at start ≡ Some end
  pub last : (next : ℕ) → next < address → IsSome (end_at next) → next ≤ start

-- the end of the last range that begins below an address, or that none does
abbrev pub IsLastBelow : (ℕ → Option ℕ) → ℕ → Option ℕ → Type 0
IsLastBelow end_at address (Some end) = LastBelow end_at address end
IsLastBelow end_at address None = (start : ℕ) → start < address → end_at start ≡ None
