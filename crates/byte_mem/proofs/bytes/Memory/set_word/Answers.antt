use Rattle.std.proofs.Common.{arith, ap, ◌∙◌, ◌≤◌, ◌*◌, ◌+◌, length}
use Rattle.std.specs.List.{concat}
use Rattle.byte_mem.proofs.Joined.{length_joined, word_joined}
use Rattle.byte_mem.proofs.bytes.Memory.set_word.Goals as goal

pub set-requires : goal.set-requires
set-requires c =
    let long = length_joined c.self.inside.words c.self.invariant.whole in
    let within : 4 * c.args.k + 4 ≤ length (concat c.self.inside.words) = rw (c.self.view_is) c.requires in
    omega arith

pub returns : goal.returns
returns c =
    let long = length_joined c.self.inside.words c.self.invariant.whole in
    let within : 4 * c.args.k + 4 ≤ length (concat c.self.inside.words) = rw (c.self.view_is) c.requires in
    rw (← c.self.view_is) (ap concat c.set.ensures ∙ word_joined c.self.inside.words c.args.k c.args.word.now c.self.invariant.whole c.told-word (omega arith))
