-- A sum that stops at the top of 64 bits, and the sum that it stands for.
use Rattle.std.proofs.Common.{◌≡◌, ℕ, ◌+◌, ◌-◌, ◌^◌, min, nat_le, true, Option, Some, None, refl, ap, sym, ◌∙◌, arith}
use Rattle.board_file.specs.Bus.{both, is_affordable}

pub record SumsTo (sum : ℕ) (left whole : Option ℕ) : Type 0 where
  pub exact : ℕ
  pub kept : sum ≡ min exact (2 ^ 64 - 1)
  pub adds : both (Some exact) left ≡ whole

pub none_yet : (left : Option ℕ) → SumsTo 0 left left
none_yet None = record { exact = 0; kept = refl; adds = refl }
none_yet (Some n) = let same : 0 + n ≡ n = omega arith in record { exact = 0; kept = refl; adds = ap Some same }

pub one_more : (sum more n : ℕ) (left whole : Option ℕ) → SumsTo sum (both (Some n) left) whole → more ≡ min (sum + n) (2 ^ 64 - 1) → SumsTo more left whole
one_more sum more n None whole h e = record { exact = h.exact + n; kept = (let k = h.kept in omega (arith, e, k)); adds = h.adds }
one_more sum more n (Some m) whole h e =
    let same : h.exact + n + m ≡ h.exact + (n + m) = omega arith in
    record { exact = h.exact + n; kept = (let k = h.kept in omega (arith, e, k)); adds = ap Some same ∙ h.adds }

pub next_one : (sum more n : ℕ) (size left before whole : Option ℕ) → SumsTo sum before whole → before ≡ both size left → size ≡ Some n → more ≡ min (sum + n) (2 ^ 64 - 1) → SumsTo more left whole
next_one sum more n size left before whole h split right e =
    one_more sum more n left whole (rw right at (rw split at h)) e

pub none_counts : (sum : ℕ) (left whole : Option ℕ) → SumsTo sum (both None left) whole → is_affordable whole ≡ true
none_counts sum left whole h = ap is_affordable (sym h.adds)

pub all_counted : (sum : ℕ) (whole : Option ℕ) → SumsTo sum (Some 0) whole → is_affordable whole ≡ nat_le sum 1_073_741_824
all_counted sum whole h =
    let k = h.kept in
    let same : nat_le (h.exact + 0) 1_073_741_824 ≡ nat_le sum 1_073_741_824 = grind (arith, k) in
    ap is_affordable (sym h.adds) ∙ same
