-- Breakpoints whose cores' acts are noted.
use Rattle.std.proofs.Common.{◌≡◌, ◌||◌, ℕ, ◌+◌, ◌<◌, List, [], ◌∷◌, ◌++◌, length, map, take, drop, set, get_or, slice_get, refl, ap, ◌∙◌, arith}
use Rattle.std.proofs.lemmas.List.{get_or_default, length-append, length-drop, length-map, length-take}
use Rattle.std.proofs.lemmas.List.Edits.{map_over_more}
use Rattle.board_run.specs.Boards.{exact_acts}
use Rattle.std.specs.List.{list_any}
use Rattle.exact_machine.specs.Machine.{ExactWorld}
use Rattle.mb_debug.specs.Breaks.{hits, noted, place_of}
use Rattle.mb_debug.specs.Scenes.{came_to, came_to_any}
use Rattle.mb_debug.specs.declared.breaks.Breakpoint.{Breakpoint}

pub hit_by_places : (old new : ExactWorld) (bs : List Breakpoint) → list_any (hits new) (map (noted old) bs) ≡ came_to_any old new (map place_of bs)
hit_by_places old new [] = refl
hit_by_places old new (b ∷ bs) = ap (λ r. came_to old new b.place || r) (hit_by_places old new bs)

pub places_stay : (w : ExactWorld) (bs : List Breakpoint) → map place_of (map (noted w) bs) ≡ map place_of bs
places_stay w [] = refl
places_stay w (b ∷ bs) = ap (λ ps. b.place ∷ ps) (places_stay w bs)

-- one more breakpoint is noted
pub note_more : (w : ExactWorld) (xs ys : List Breakpoint) (k n : ℕ) (d : Breakpoint) → k < length xs → ys ≡ map (noted w) (take k xs) ++ drop k xs
    → n ≡ exact_acts (slice_get w.cores (get_or ys k d).place.core) → set ys k (record { place = (get_or ys k d).place; acts = n }) ≡ map (noted w) (take (k + 1) xs) ++ drop (k + 1) xs
note_more w xs ys k n d below so_far acts =
    let whole = ap length so_far ∙ length-append (map (noted w) (take k xs)) (drop k xs) in
    let first = length-map (take k xs) (noted w) in
    let within : k < length ys = omega (arith, whole, first, length-take k xs, length-drop k xs, below) in
    ap (λ m. set ys k (record { place = (get_or ys k d).place; acts = m })) acts
    ∙ map_over_more (noted w) xs ys k (get_or ys k d) below so_far (get_or_default ys k d (get_or ys k d) within)
