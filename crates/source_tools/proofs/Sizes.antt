-- How many bytes the parts of an image have.
use Rattle.std.proofs.Common.{◌≡◌, ℕ, ◌+◌, ◌≤◌, ◌<◌, arith, List, [], ◌∷◌, ◌++◌, map, Result, Ok, refl, ap, subst, ◌∙◌, take, drop, get_or, flat_map, length, length-append}
use Rattle.std.proofs.lemmas.List.Elements.{All-get_or}
use Rattle.std.proofs.lemmas.Option.{slice_get-get_or}
use Rattle.std.specs.List.{All}
use Rattle.asm_image.specs.Built.{IsPlain, pair_of}
use Rattle.asm_reading.specs.Reading.{source_read}
use Rattle.asm_source.proofs.Sized.{faultless_is_small}
use Rattle.asm_source.specs.Laws.{bytes_in}
use Rattle.core_regs.specs.declared.causes.Order.{Order}
use Rattle.mb_asm.specs.Assembly.{Assembles}
use Rattle.mb_asm.specs.declared.answer.AsmFault.{AsmFault}
use Rattle.mb_asm.specs.declared.answer.Assembled.{Assembled}
use Rattle.std.proofs.lemmas.List.{length-map}
use Rattle.elf_image.specs.declared.image.Part.{Part}
use Rattle.piece_output.proofs.Added.{pieces_all}

abbrev bytes_of : List Part → List ℕ
bytes_of parts = flat_map (λ (p : Part). p.bytes) parts

-- a part has at most the bytes of all
one_of_all : (parts : List Part) (k : ℕ) (d : Part) → k < length parts → length (get_or parts k d).bytes ≤ length (bytes_of parts)
one_of_all parts k d l =
    let part = get_or parts k d in
    let front = bytes_of (take k parts) in
    let behind = bytes_of (drop (k + 1) parts) in
    let split = pieces_all (λ (p : Part). p.bytes) parts k part (slice_get-get_or parts k d l) in
    let total : length (bytes_of parts) ≡ (length front + length part.bytes) + length behind =
    ap length split ∙ length-append (front ++ part.bytes) behind ∙ ap (λ n. n + length behind) (length-append front part.bytes) in
    omega arith

pub small_parts : (parts : List Part) → All IsPlain parts → length (bytes_of parts) ≤ 1_048_576 → (k : ℕ) (d : Part) → k < length parts
    → length (get_or parts k d).bytes + (get_or parts k d).zeros < 4294967296
small_parts parts plain few k d l =
    let none : (get_or parts k d).zeros ≡ 0 = (All-get_or IsPlain parts k d l plain).0 in
    let small : length (get_or parts k d).bytes ≤ length (bytes_of parts) = one_of_all parts k d l in
    omega arith

-- the image of a source is small
pub record IsFew (parts : List Part) : Type 0 where
  pub few : length parts ≤ 65_534
  pub bytes : length (bytes_of parts) ≤ 1_048_576

same_bytes : (parts : List Part) → bytes_in (map pair_of parts) ≡ bytes_of parts
same_bytes [] = refl
same_bytes (p ∷ parts) = ap (λ bytes. p.bytes ++ bytes) (same_bytes parts)

pub assembled_few : (order : Order) (source : List ℕ) (answer : Result Assembled AsmFault) (a : Assembled) → Assembles order source answer → answer ≡ Ok a → IsFew a.image.parts
assembled_few order source answer a says is =
    let built : Assembles order source (Ok a) = subst (λ (r : Result Assembled AsmFault). Assembles order source r) is says in
    let small = faultless_is_small order (source_read source).items built.F (map pair_of a.image.parts) built.good built.built.parts in
    record { few = omega (arith, small.parts, length-map a.image.parts pair_of); bytes = omega (arith, small.bytes, ap length (same_bytes a.image.parts)) }
