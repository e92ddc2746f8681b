-- Words in a memory of zeros.
use Rattle.std.proofs.Common.{◌≡◌, ℕ, ◌+◌, ◌-◌, ◌*◌, ◌≤◌, List, [], ◌∷◌, ◌++◌, length, drop, refl, ap, ◌∙◌, arith, length-append}
use Rattle.std.proofs.lemmas.List.{drop-replicate, length-replicate}
use Rattle.std.specs.Prelude.{replicate}
use Rattle.std.specs.Int.{to_be_bytes}
use mir.Syntax.{w32}
use Rattle.byte_mem.specs.Access.{overwritten}
use Rattle.byte_mem.proofs.Overwriting.{overwritten_within}
use Rattle.ring_demo.specs.Programs.{image_of, memory_of}

image_length : (words : List ℕ) → length (image_of words) ≡ 4 * length words
image_length [] = refl
image_length (w ∷ ws) =
    let rest = image_length ws in
    let four : length (to_be_bytes w32 w) ≡ 4 = refl in
    length-append (to_be_bytes w32 w) (image_of ws) ∙ omega (arith, rest, four)

filled_to : (size : ℕ) (image zeros memory : List ℕ) → zeros ≡ replicate size 0 → length image ≤ size → memory ≡ overwritten zeros 0 image
    → memory ≡ image ++ replicate (size - length image) 0
filled_to size image zeros memory made within copied =
    let long : length zeros ≡ size = ap length made ∙ length-replicate size 0 in
    let none : 0 + length image ≡ length image = omega arith in
    copied ∙ overwritten_within zeros 0 image (omega (arith, long))
    ∙ (rw none (ap (λ rest. image ++ rest) (ap (drop (length image)) made ∙ drop-replicate (length image) size 0)))

pub filled : (words image zeros memory : List ℕ) → image ≡ image_of words → zeros ≡ replicate 4_096 0 → length words ≤ 10
    → memory ≡ overwritten zeros 0 image → memory ≡ memory_of words
filled words image zeros memory is made few copied =
    let bytes : length (image_of words) ≡ 4 * length words = image_length words in
    filled_to 4_096 (image_of words) zeros memory made (omega (arith, bytes, few)) (copied ∙ ap (overwritten zeros 0) is)
