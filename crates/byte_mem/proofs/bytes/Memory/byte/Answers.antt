use Rattle.std.proofs.Common.{ap, sym, ◌≡◌, ◌∙◌, ◌/◌, ◌%◌, List, ℕ, Some}
use Rattle.std.proofs.Math.ListN.{get_or}
use Rattle.std.proofs.lemmas.Option.{get_or_from_slice_get, slice_get_within}
use Rattle.byte_mem.proofs.Joined.{get_joined, get_past}
use Rattle.byte_mem.proofs.bytes.Memory.byte.Goals as goal

pub returns-in_err-word : goal.returns-in_err-word
returns-in_err-word c =
    let none = get_past c.self.inside.words c.args.addr c.self.invariant.whole c.in_err-word.ensures.past in
    rw (← c.self.view_is) (c.from_residual.ensures ∙ sym none)

pub returns : goal.returns
returns c =
    let ws : List (List ℕ) = c.self.inside.words in
    let word : List ℕ = c.in_ok-word.word in
    let found = c.in_ok-word.ensures.found in
    let here : word ≡ get_or ws (c.args.addr / 4) word = sym (get_or_from_slice_get ws (c.args.addr / 4) word word found) in
    let there = get_joined ws c.args.addr word c.self.invariant.whole (slice_get_within ws (c.args.addr / 4) word found) in
    rw (← c.self.view_is, there) (ap (λ (w : List ℕ). Some (get_or w (c.args.addr % 4) 0)) here)
