-- The bytes of an image in a memory of zeros.
use Rattle.std.proofs.Common.{◌≡◌, ℕ, ◌+◌, ◌-◌, ◌≤◌, List, ◌++◌, length, drop, ap, ◌∙◌, arith}
use Rattle.std.proofs.lemmas.List.{drop-replicate, length-replicate}
use Rattle.std.specs.Prelude.{replicate}
use Rattle.byte_mem.specs.Access.{overwritten}
use Rattle.byte_mem.proofs.Overwriting.{overwritten_within}

pub filled : (size : ℕ) (image zeros memory : List ℕ) → zeros ≡ replicate size 0 → length image ≤ size → memory ≡ overwritten zeros 0 image
    → memory ≡ image ++ replicate (size - length image) 0
filled size image zeros memory made within copied =
    let long : length zeros ≡ size = ap length made ∙ length-replicate size 0 in
    let none : 0 + length image ≡ length image = omega arith in
    copied ∙ overwritten_within zeros 0 image (omega (arith, long))
    ∙ (rw none (ap (λ rest. image ++ rest) (ap (drop (length image)) made ∙ drop-replicate (length image) size 0)))
