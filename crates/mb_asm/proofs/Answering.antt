-- What is answered to a source.
use Rattle.std.proofs.Common.{◌≡◌, ℕ, ◌+◌, ◌<◌, ◌≤◌, arith, Bool, List, [], ◌∷◌, length, map, get_or, Option, None, Some, refl, sym, ap, ◌∙◌, subst}
use Rattle.asm_layout.specs.declared.piece.Piece.{Piece}
use Rattle.asm_layout.specs.Growing.{IsGrown}
use Rattle.asm_layout.specs.Places.{AreBelow, ArePlaces, member}
use Rattle.asm_source.specs.declared.fault.Fault.{Fault}
use Rattle.asm_source.specs.declared.item.Written.{Written}
use Rattle.std.specs.List.{All}
use Rattle.std.proofs.lemmas.List.{get_or_default}
use Rattle.core_regs.specs.declared.causes.Order.{Order}
use Rattle.elf_image.specs.declared.image.Part.{Part}
use Rattle.asm_layout.specs.Layout.{Numbers}
use Rattle.asm_source.specs.Faults.{least}
use Rattle.asm_source.specs.Items.{piece_of, pieces, prefixed}
use Rattle.asm_source.specs.Second.{items_of, place_of, second_faults, written}
use Rattle.asm_source.specs.Source.{AreParts, parts_of}
use Rattle.asm_image.specs.Built.{IsPlain, pair_of}
use Rattle.asm_reading.specs.Reading.{source_read}
use Rattle.mb_asm.specs.declared.laying.Laid.{Laid}
use Rattle.mb_asm.specs.declared.answer.Assembled.{Assembled}
use Rattle.mb_asm.specs.Assembly.{IsAssembled, IsBuiltOf, IsLaid, IsSecond, entry_at}
use Rattle.asm_source.proofs.Faultless.{faultless_is_near}
use Rattle.mb_asm.specs.WordLines.{AreNear, all_words, words_at, words_of}

-- the pieces of items, in one step
pub two_maps : (all : List Written) → map (λ (w : Written). piece_of w.item) all ≡ pieces (items_of all)
two_maps [] = refl
two_maps (w ∷ ws) = ap (λ ps. piece_of w.item ∷ ps) (two_maps ws)

pub laid_by : (all : List Written) (ps : List Piece) (l : Laid) → ps ≡ pieces (items_of all) → length ps ≡ length all → length l.places.items ≡ length ps + 1 → length l.grown.items ≡ length ps
    → ArePlaces ps (member l.grown.items) (length ps) l.places.items → AreBelow (length ps) l.places.items → IsGrown ps (member l.grown.items) → IsLaid all l
laid_by all ps l same count room even places below grown = record {
  room = room ∙ ap (λ n. n + 1) count;
  same = even ∙ count;
  laid = subst (λ (qs : List Piece). ArePlaces qs (member l.grown.items) (length all) l.places.items) same (subst (λ n. ArePlaces ps (member l.grown.items) n l.places.items) count places);
  below = subst (λ n. AreBelow n l.places.items) count below;
  is_grown = subst (λ (qs : List Piece). IsGrown qs (member l.grown.items)) same grown;
}

-- the words of an item, as it is read
pub words_same : (all : List Written) (F : Numbers) (k : ℕ) (d : Written) (place : ℕ) (long : Bool) → k < length all → place ≡ place_of all F k → long ≡ prefixed (get_or all k d).item (F k)
    → words_at place long (get_or all k d).line (get_or all k d).item ≡ words_of all F k
words_same all F k d place long within at is =
    let same : get_or all k d ≡ written all k = get_or_default all k d _ within in
    ap (λ p. words_at p long (get_or all k d).line (get_or all k d).item) at ∙ ap (λ l. words_at (place_of all F k) l (get_or all k d).line (get_or all k d).item) is
    ∙ ap (λ (w : Written). words_at (place_of all F k) (prefixed w.item (F k)) w.line w.item) same

pub built_by : (order : Order) (all : List Written) (entry : Option ℕ) (grown marks : List Bool) (a : Assembled) (parts : List Part) → marks ≡ grown → a.image.order ≡ order → a.image.parts ≡ parts
    → AreParts order (map pair_of parts) (parts_of order (items_of all) (member marks)) → All IsPlain parts → a.image.entry ≡ entry_at entry (place_of all (member grown)) parts → a.lines ≡ all_words all (member marks)
    → IsBuiltOf order all entry (member grown) a
built_by order all entry grown marks a parts same order_kept listed are plain begins lines = record {
  order_kept = order_kept;
  parts = subst (λ (ps : List Part). AreParts order (map pair_of ps) (parts_of order (items_of all) (member grown))) (sym listed)
      (subst (λ (bs : List Bool). AreParts order (map pair_of parts) (parts_of order (items_of all) (member bs))) same are);
  plain = subst (λ (ps : List Part). All IsPlain ps) (sym listed) plain;
  begins = begins ∙ ap (entry_at entry (place_of all (member grown))) (sym listed);
  lines = lines ∙ ap (λ (bs : List Bool). all_words all (member bs)) same;
}

-- ---- the second round

-- no place of a source without a fault is past the limit
pub near_by : (all : List Written) (grown : List Bool) (places laid : List ℕ) → places ≡ laid → length laid ≡ length all + 1 → ArePlaces (pieces (items_of all)) (member grown) (length all) laid
    → least (second_faults all (member grown)) ≡ None → AreNear places
near_by all grown places laid same room are sound k within =
    let in_reach : k ≤ length all = omega (arith, within, ap length same, room) in
    let here : get_or places k 0 ≡ place_of all (member grown) k = ap (λ ps. get_or ps k 0) same ∙ are k in_reach in
    let near = faultless_is_near all (member grown) sound k in_reach in
    omega arith

module _ (source : List ℕ) (all : List Written) (grown marks : List Bool) (found : Option Fault) (same : all ≡ (source_read source).items) (even : marks ≡ grown) (sound : (source_read source).first ≡ None)
    (is_grown : IsGrown (pieces (items_of all)) (member grown)) (least_found : found ≡ least (second_faults all (member marks))) where
  grown_too : IsGrown (pieces (items_of (source_read source).items)) (member grown)
  grown_too = subst (λ (ws : List Written). IsGrown (pieces (items_of ws)) (member grown)) same is_grown

  found_too : least (second_faults (source_read source).items (member grown)) ≡ found
  found_too = ap (λ (ws : List Written). least (second_faults ws (member grown))) (sym same) ∙ ap (λ (bs : List Bool). least (second_faults all (member bs))) (sym even) ∙ sym least_found

  pub second_by : (fault : Fault) → found ≡ Some fault → IsSecond source fault
  second_by fault is = record { F = member grown; sound = sound; grown = grown_too; first = found_too ∙ is }

  pub assembled_by : (order : Order) (a : Assembled) (entry : Option ℕ) → found ≡ None → entry ≡ (source_read source).entry → IsBuiltOf order all entry (member grown) a → IsAssembled order source a
  assembled_by order a entry none begins built = record {
    F = member grown;
    sound = sound;
    grown = grown_too;
    good = found_too ∙ none;
    built = subst (λ (ws : List Written). IsBuiltOf order ws (source_read source).entry (member grown) a) same (subst (λ (e : Option ℕ). IsBuiltOf order all e (member grown) a) begins built);
  }
