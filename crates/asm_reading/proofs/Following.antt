-- Items that are gone through one by one.
use Rattle.std.proofs.Common.{◌≡◌, ℕ, ◌+◌, ◌<◌, ◌≤◌, Bool, List, map, drop, get_or, refl, length}
use Rattle.std.specs.Prelude.{fold}
use Rattle.std.proofs.lemmas.List.{drop_all}
use Rattle.asm_statement.proofs.Loops.{cut}
use Rattle.asm_source.specs.declared.item.Item.{Item}
use Rattle.asm_source.specs.declared.item.Written.{Written}
use Rattle.asm_reading.specs.Reading.{after_item}

abbrev pub items_in : List Written → List Item
items_in ws = map (λ (w : Written). w.item) ws

pub next_after : (ws : List Written) (k : ℕ) (d : Written) (after new : Bool) → k < length ws → new ≡ after_item after (get_or ws k d).item
    → fold after_item new (items_in (drop (k + 1) ws)) ≡ fold after_item after (items_in (drop k ws))
next_after ws k d after new within is = rw (cut ws k d within, is) refl

pub all_after : (ws : List Written) (k : ℕ) (after : Bool) → length ws ≤ k → fold after_item after (items_in (drop k ws)) ≡ after
all_after ws k after past = rw (drop_all k ws past) refl
