-- A table that is built of windows, one by one.
use Rattle.std.proofs.Common.{◌≡◌, ℕ, ◌<◌, true, Option, Some, None, List, length, refl, sym, ap, subst, ◌∙◌, inl, inr, true≢false}
use Rattle.std.specs.Prelude.{IsSome, slice_index_or}
use Rattle.std.specs.List.{Contains}
use Rattle.std.specs.Option.{option_map}
use Rattle.std.specs.Ordering.{nat_cmp}
use Rattle.std.specs.BTreeMap.{BTreeMap, IsOrdered, get}
use Rattle.bus_map.specs.declared.map.Window.{Window}
use Rattle.bus_map.specs.Windows.{DoNotOverlap, FindsAsIn, holds, spot_in, windows_of}
use Rattle.bus_map.proofs.Finding.{find_none, find_only, found_or_none}
use Rattle.bus_map.proofs.Tables.{device_at_window, window, window_at_device}

-- the table has each of the first windows, and no others
pub record IsBuilt (windows : List Window) (done : ℕ) (m : BTreeMap ℕ ℕ) : Type 0 where
  pub ordered : IsOrdered nat_cmp m
  pub known : (base device : ℕ) → get nat_cmp m base ≡ Some device → Contains windows (window base device)
  pub has : (k : ℕ) (w : Window) → k < done → IsSome (get nat_cmp m (slice_index_or windows k w).base)

-- the table's windows are among the windows
pub is_among : (windows : List Window) (done : ℕ) (m : BTreeMap ℕ ℕ) → IsBuilt windows done m → (w : Window) → Contains (windows_of m.entries) w → Contains windows w
is_among windows done m built w i = built.known w.base w.device (device_at_window m w built.ordered i)

pub built_apart : (windows : List Window) (done : ℕ) (m : BTreeMap ℕ ℕ) → IsBuilt windows done m → DoNotOverlap windows → DoNotOverlap (windows_of m.entries)
built_apart windows done m built apart addr v w i j = apart addr v w (is_among windows done m built v i) (is_among windows done m built w j)

-- what is at a base, which is something
device_of : (o : Option ℕ) → IsSome o → (d : ℕ) × (o ≡ Some d)
device_of (Some d) some = (d, refl)
device_of None some = absurd (true≢false (sym some))

has_window : (windows : List Window) (m : BTreeMap ℕ ℕ) → IsBuilt windows (length windows) m → DoNotOverlap windows → (addr : ℕ) (w : Window) → Contains windows w → holds addr w ≡ true → Contains (windows_of m.entries) w
has_window windows m built apart addr w i h =
    let at_base : IsSome (get nat_cmp m w.base) = subst (λ (v : Window). IsSome (get nat_cmp m v.base)) i.2 (built.has i.0 w i.1) in
    let (device, is) = device_of (get nat_cmp m w.base) at_base in
    let same : window w.base device ≡ w = apart addr (window w.base device) w (built.known w.base device is) i h h in
    window_at_device m w built.ordered (is ∙ ap (λ (v : Window). Some v.device) same)

pub built_finds : (windows : List Window) (m : BTreeMap ℕ ℕ) → IsBuilt windows (length windows) m → DoNotOverlap windows → FindsAsIn windows (windows_of m.entries)
built_finds windows m built apart addr =
    ap (option_map (spot_in addr)) (
    elim (found_or_none (holds addr) windows) [
      | inl (w, f) ↦ let inside = has_window windows m built apart addr w f.member f.passes in
          find_only (holds addr) (windows_of m.entries) w inside f.passes (λ v i h. built_apart windows (length windows) m built apart addr v w i inside h f.passes) ∙ sym f.is
      | inr none ↦ find_none (holds addr) (windows_of m.entries) (λ v i. none v (is_among windows (length windows) m built v i)) ∙ sym (find_none (holds addr) windows none)
    ])
