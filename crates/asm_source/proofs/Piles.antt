-- Contents that are put onto parts.
use Rattle.std.proofs.Common.{◌≡◌, ℕ, ◌+◌, false, List, [], ◌∷◌, ◌++◌, refl, sym, ap, arith, append_assoc}
use Rattle.core_regs.specs.declared.causes.Order.{Order}
use Rattle.asm_layout.specs.Layout.{Numbers}
use Rattle.asm_source.specs.declared.item.Item.{Item}
use Rattle.asm_source.specs.declared.item.Item.TheVariants as item
use Rattle.asm_source.specs.Items.{prefixed}
use Rattle.asm_source.specs.Second.{is_part}
use Rattle.asm_source.specs.Source.{Content, Piled, contents, onto, parts_from}

pub onto_none : (ps : List Piled) → onto [] ps ≡ ps
onto_none [] = refl
onto_none (p ∷ ps) = refl

pub onto_more : (cs ds : List Content) (ps : List Piled) → onto cs (onto ds ps) ≡ onto (cs ++ ds) ps
onto_more cs ds [] = refl
onto_more cs ds (p ∷ ps) = ap (λ (h : List Content). record { address = p.address; holds = h } ∷ ps) (sym (append_assoc cs ds p.holds))

-- an item that begins no part is put onto the open one
pub not_part : (order : Order) (F : Numbers) (at : ℕ → ℕ) (k start : ℕ) (it : Item) (rest : List Item) → is_part it ≡ false
    → parts_from order F at k start (it ∷ rest) ≡ onto (contents order at it (prefixed it (F k)) (at k) (at (k + 1))) (parts_from order F at (k + 1) start rest)
unfolding parts_from
not_part order F at k start (item.Part address) rest none = absurd (grind arith)
not_part order F at k start (item.Instruction i value after_imm) rest none = refl
not_part order F at k start (item.Word value) rest none = refl
not_part order F at k start (item.Half value) rest none = refl
not_part order F at k start (item.Byte value) rest none = refl
not_part order F at k start (item.Space count) rest none = refl
not_part order F at k start (item.Aligned alignment) rest none = refl
