-- Each instruction's row stands at its place.
use Rattle.std.proofs.Common.{◌≡◌, ℕ, zero, suc, ◌+◌, ◌^◌, ◌<◌, Bool, true, ◌&&◌, eqb, ltb, List, [], ◌∷◌, get_or, length, refl, sym, ap, ◌∙◌, lit<, arith}
use Rattle.std.specs.List.{Contains}
use Rattle.std.specs.Int.Bits.{bit_and}
use Rattle.std.proofs.lemmas.List.{get_or_default}
use Rattle.std.proofs.lemmas.List.Elements.{Contains-get_or}
use Rattle.std.proofs.lemmas.Bool.{and_parts, eqb-true, ltb-true}
use Rattle.op_table.specs.declared.op.Op.{Op}
use Rattle.op_table.specs.declared.op.Op.TheVariants.{Add}
use Rattle.op_table.specs.declared.entry.Row.{Row}
use Rattle.op_table.specs.Forms.{mask_of}
use Rattle.op_table.specs.Kinds.{latency_of, belongs_into_slot}
use Rattle.op_table.specs.Table.{rows, place, row_for, IsSound, IsRowOf}

pub place_within : (op : Op) → place op < length rows
unfolding rows
place_within Add = lit< tt
place_within _ = lit< tt

pub row_at_place : (op : Op) (other : Row) → (get_or rows (place op) other).op ≡ op
unfolding rows
row_at_place Add other = refl
row_at_place _ other = refl

-- the rows stand at the places of their instructions, from a place on, and fix the bits that are no field of their forms
unfoldable placed_from : ℕ → List Row → Bool
placed_from k [] = true
placed_from k (r ∷ rs) =
    eqb (place r.op) k && eqb r.mask (mask_of r.form) && eqb (bit_and r.bits r.mask) r.bits && ltb r.bits (2 ^ 32) && placed_from (k + 1) rs

record IsPlaced (k : ℕ) (r : Row) : Type 0 where
  at : place r.op ≡ k
  mask : r.mask ≡ mask_of r.form
  bits : bit_and r.bits r.mask ≡ r.bits
  word : r.bits < 2 ^ 32

placed_at : (k : ℕ) (rs : List Row) (i : ℕ) (other : Row) → placed_from k rs ≡ true → i < length rs → IsPlaced (k + i) (get_or rs i other)
unfolding placed_from
placed_at k [] i other h lt = absurd (omega arith)
placed_at k (r ∷ rs) zero other h lt =
    let abcd = and_parts (eqb (place r.op) k && eqb r.mask (mask_of r.form) && eqb (bit_and r.bits r.mask) r.bits && ltb r.bits (2 ^ 32)) (placed_from (k + 1) rs) h in
    let abc = and_parts (eqb (place r.op) k && eqb r.mask (mask_of r.form) && eqb (bit_and r.bits r.mask) r.bits) (ltb r.bits (2 ^ 32)) abcd.0 in
    let ab = and_parts (eqb (place r.op) k && eqb r.mask (mask_of r.form)) (eqb (bit_and r.bits r.mask) r.bits) abc.0 in
    let a = and_parts (eqb (place r.op) k) (eqb r.mask (mask_of r.form)) ab.0 in
    record {
      at = eqb-true _ _ a.0 ∙ omega arith;
      mask = eqb-true _ _ a.1;
      bits = eqb-true _ _ ab.1;
      word = ltb-true _ _ abc.1;
    }
placed_at k (r ∷ rs) (suc i) other h lt =
    let parts = and_parts (eqb (place r.op) k && eqb r.mask (mask_of r.form) && eqb (bit_and r.bits r.mask) r.bits && ltb r.bits (2 ^ 32)) (placed_from (k + 1) rs) h in
    let later : k + 1 + i ≡ k + suc i = omega arith in
    rw (← later) (placed_at (k + 1) rs i other parts.1 (omega arith))

placed_here : placed_from 0 rows ≡ true
unfolding placed_from rows
placed_here = refl

-- a row of the table is the one at the place of its instruction
pub only_row : (op : Op) (s other : Row) → Contains rows s → s.op ≡ op → s ≡ get_or rows (place op) other
only_row op s other within named =
    let k = within.0 in
    let p : IsPlaced (0 + k) (get_or rows k s) = placed_at 0 rows k s placed_here within.1 in
    let here : place s.op ≡ k = ap (λ (r : Row). place r.op) (sym within.2) ∙ p.at ∙ omega arith in
    let same : k ≡ place op = sym here ∙ ap place named in
    sym within.2 ∙ get_or_default rows k s other within.1 ∙ ap (λ j. get_or rows j other) same

pub known_row : (op : Op) → IsRowOf op (row_for op)
unfolding row_for
known_row op =
    record {
      named = row_at_place op _;
      listed = Contains-get_or rows _ _ (place_within op);
      only = λ s. only_row op s _;
    }

-- what an instruction does tells how soon its register can be used, and whether a slot takes it
latency_agrees : (op : Op) → (row_for op).latency ≡ latency_of (row_for op).kind
unfolding rows row_for latency_of
latency_agrees Add = refl
latency_agrees _ = refl

slot_agrees : (op : Op) → (row_for op).slot_ok ≡ belongs_into_slot (row_for op).kind
unfolding rows row_for
slot_agrees Add = refl
slot_agrees _ = refl

pub sound_row_for : (op : Op) → IsSound (row_for op)
unfolding row_for
sound_row_for op =
    let placed : IsPlaced (0 + place op) (row_for op) = placed_at 0 rows (place op) _ placed_here (place_within op) in
    record {
      mask = placed.mask;
      bits = placed.bits;
      word = placed.word;
      latency = latency_agrees op;
      slot = slot_agrees op;
    }

-- a place below the table's length holds the same row whatever stands for none
pub row_for_is : (op : Op) (other : Row) → get_or rows (place op) other ≡ row_for op
unfolding row_for
row_for_is op other = get_or_default rows _ _ _ (place_within op)
