-- The windows of a table from base to device, by what the table has at each base.
use Rattle.std.proofs.Common.{◌≡◌, ℕ, ◌+◌, ◌-◌, ◌<◌, ◌≤◌, true, false, Option, Some, None, List, [], ◌∷◌, ap, subst, inl, inr, arith}
use Rattle.std.specs.Prelude.{IsSome, is_some}
use Rattle.std.specs.List.{Contains}
use Rattle.std.specs.Option.{option_map}
use Rattle.std.specs.Ordering.{nat_cmp}
use Rattle.std.specs.BTreeMap.{BTreeMap, IsOrdered, get}
use Rattle.std.specs.Cmp.{nat_cmp_total}
use Rattle.std.proofs.lemmas.Bool.{cases_Bool}
use Rattle.std.proofs.lemmas.Map.Lookups.{exact_unsigned}
use Rattle.std.proofs.lemmas.Map.Views.{btree_map_get_iff}
use Rattle.bus_map.specs.declared.map.Window.{Window}
use Rattle.bus_map.specs.Windows.{DoNotOverlap, holds, spot_at, spot_in, windows_of}
use Rattle.bus_map.proofs.Finding.{find_none, find_only, first_is_in, first_or_rest, rest_is_in}

abbrev pub window : ℕ → ℕ → Window
window base device = record { base = base; device = device }

entry_of_window : (es : List (ℕ × ℕ)) (w : Window) → Contains (windows_of es) w → Contains es (w.base, w.device)
entry_of_window [] w i = absurd (omega (arith, i.1))
entry_of_window (e ∷ es) w i =
    elim (first_or_rest (window e.0 e.1) w (windows_of es) i) [
      | inl same ↦ subst (λ v. Contains (e ∷ es) (v.base, v.device)) same (first_is_in e es)
      | inr more ↦ rest_is_in e (w.base, w.device) es (entry_of_window es w more)
    ]

window_of_entry : (es : List (ℕ × ℕ)) (w : Window) → Contains es (w.base, w.device) → Contains (windows_of es) w
window_of_entry [] w i = absurd (omega (arith, i.1))
window_of_entry (e ∷ es) w i =
    elim (first_or_rest e (w.base, w.device) es i) [
      | inl same ↦ subst (λ q. Contains (windows_of (e ∷ es)) (window q.0 q.1)) same (first_is_in (window e.0 e.1) (windows_of es))
      | inr more ↦ rest_is_in (window e.0 e.1) w (windows_of es) (window_of_entry es w more)
    ]

-- a window is in the table exactly where the table has its device at its base
pub device_at_window : (m : BTreeMap ℕ ℕ) (w : Window) → IsOrdered nat_cmp m → Contains (windows_of m.entries) w → get nat_cmp m w.base ≡ Some w.device
device_at_window m w ordered i = (btree_map_get_iff nat_cmp_total exact_unsigned m ordered w.base w.device).1 (entry_of_window m.entries w i)

pub window_at_device : (m : BTreeMap ℕ ℕ) (w : Window) → IsOrdered nat_cmp m → get nat_cmp m w.base ≡ Some w.device → Contains (windows_of m.entries) w
window_at_device m w ordered is = window_of_entry m.entries w ((btree_map_get_iff nat_cmp_total exact_unsigned m ordered w.base w.device).0 is)

some_of : (o : Option ℕ) (d : ℕ) → o ≡ Some d → IsSome o
some_of o d is = ap is_some is

holds_parts : (addr : ℕ) (w : Window) → holds addr w ≡ true → (w.base ≤ addr) × (addr < w.base + 4096)
holds_parts addr w h = grind (arith, h)

holds_from : (addr : ℕ) (w : Window) → w.base ≤ addr → addr < w.base + 4096 → holds addr w ≡ true
holds_from addr w low high = grind (arith)

-- no base lies near below an address: no window holds it
pub none_near : (m : BTreeMap ℕ ℕ) (addr : ℕ) → IsOrdered nat_cmp m → ((q : ℕ) → q ≤ addr → IsSome (get nat_cmp m q) → q + 4096 ≤ addr) → spot_at (windows_of m.entries) addr ≡ None
none_near m addr ordered far = ap (option_map (spot_in addr)) (find_none (holds addr) (windows_of m.entries) fails)
  where
    fails : (w : Window) → Contains (windows_of m.entries) w → holds addr w ≡ false
    fails w i = elim (cases_Bool (holds addr w)) [
      | inl held ↦ let (low, high) = holds_parts addr w held in absurd (omega (arith, high, far w.base low (some_of (get nat_cmp m w.base) w.device (device_at_window m w ordered i))))
      | inr free ↦ free
    ]

-- the window at a base holds an address: it is found
pub found_at : (m : BTreeMap ℕ ℕ) (addr base device : ℕ) → IsOrdered nat_cmp m → DoNotOverlap (windows_of m.entries) → get nat_cmp m base ≡ Some device → base ≤ addr → addr < base + 4096
    → spot_at (windows_of m.entries) addr ≡ Some (record { device = device; offset = addr - base })
found_at m addr base device ordered apart is low high =
    let w = window base device in
    let inside : Contains (windows_of m.entries) w = window_at_device m w ordered is in
    let here : holds addr w ≡ true = holds_from addr w low high in
    ap (option_map (spot_in addr)) (find_only (holds addr) (windows_of m.entries) w inside here (λ v i h. apart addr v w i inside h here))
