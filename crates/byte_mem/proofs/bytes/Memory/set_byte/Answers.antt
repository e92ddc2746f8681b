use Rattle.std.proofs.Common.{arith, ap, ◌∙◌, ◌≡◌, ◌<◌, ◌/◌, ◌%◌, ◌∷◌, [], length, List, ℕ}
use Rattle.std.specs.List.{concat}
use Rattle.std.proofs.Math.ListN.{get_or, set}
use Rattle.core_regs.specs.declared.causes.Order.TheVariants.{Big}
use Rattle.core_regs.specs.declared.causes.Size.TheVariants.{Byte}
use Rattle.byte_mem.specs.Access.{encoded, overwritten}
use Rattle.byte_mem.proofs.Joined.{length_joined, overwritten_joined}
use Rattle.byte_mem.proofs.bytes.Memory.set_byte.Goals as goal

pub write-requires-clause-word : goal.write-requires-clause-word
write-requires-clause-word c =
    let long = length_joined c.self.inside.words c.self.invariant.whole in
    let within : c.args.at < length (concat c.self.inside.words) = rw (c.self.view_is) c.requires in
    omega arith

pub returns : goal.returns
returns c =
    let ws : List (List ℕ) = c.self.inside.words in
    let long = length_joined ws c.self.invariant.whole in
    let within : c.args.at < length (concat ws) = rw (c.self.view_is) c.requires in
    let low : c.args.byte % 256 ≡ c.args.byte = omega (arith, c.ranges.byte.fits) in
    let one : encoded Big Byte c.from.result ≡ c.args.byte ∷ [] = ap (λ (b : ℕ). encoded Big Byte b) c.from.ensures ∙ ap (λ (b : ℕ). b ∷ []) low in
    rw (← c.self.view_is)
    (ap concat c.write.ensures
    ∙ ap (λ (bytes : List ℕ). concat (set ws (c.args.at / 4) (overwritten (get_or ws (c.args.at / 4) []) (c.args.at % 4) bytes))) one
    ∙ overwritten_joined ws c.args.at (c.args.byte ∷ []) [] c.self.invariant.whole (omega arith) (omega arith))
