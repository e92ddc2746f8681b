-- The next item that has bytes or begins a part.
use Rattle.std.proofs.Common.{◌≡◌, ℕ, suc, ◌+◌, ◌-◌, ◌<◌, ◌≤◌, true, false, List, length, None, Some, refl, arith}
use Rattle.asm_layout.specs.Layout.{Numbers}
use Rattle.asm_source.specs.declared.item.Written.{Written}
use Rattle.asm_source.specs.Second.{is_solid, next_solid}

-- one less is left
left_more : (n k : ℕ) → k < n → n - k ≡ suc (n - (k + 1))
left_more n k within = omega arith

pub solid_here : (all : List Written) (F : Numbers) (k : ℕ) → k < length all → is_solid all F k ≡ true → next_solid all F (length all - k) k ≡ Some k
unfolding next_solid
solid_here all F k within solid = rw (left_more (length all) k within, solid) refl

pub solid_later : (all : List Written) (F : Numbers) (k : ℕ) → k < length all → is_solid all F k ≡ false → next_solid all F (length all - (k + 1)) (k + 1) ≡ next_solid all F (length all - k) k
unfolding next_solid
solid_later all F k within none = rw (left_more (length all) k within, none) refl

pub solid_none : (all : List Written) (F : Numbers) (k : ℕ) → length all ≤ k → next_solid all F (length all - k) k ≡ None
unfolding next_solid
solid_none all F k past = let none : length all - k ≡ 0 = omega arith in rw none refl
