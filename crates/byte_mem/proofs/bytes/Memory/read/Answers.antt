use Rattle.std.proofs.Common.{ap, sym, refl, ◌≡◌, ◌∙◌, ◌/◌, ◌%◌, ◌+◌, List, ℕ, Some, slice_range}
use Rattle.std.proofs.Math.ListN.{get_or}
use Rattle.std.proofs.lemmas.Option.{get_or_from_slice_get, slice_get_within}
use Rattle.byte_mem.specs.Access.{bytes_of, number}
use Rattle.byte_mem.proofs.Accesses.{loaded_word, loaded_no_word}
use Rattle.byte_mem.proofs.bytes.Memory.read.Goals as goal

pub returns-in-Some-clause-loaded : goal.returns-in-Some-clause-loaded
returns-in-Some-clause-loaded c =
    let ws : List (List ℕ) = c.self.inside.words in
    let word : List ℕ = c.in-Some.word in
    let found = c.in-Some.ensures.found in
    let here : word ≡ get_or ws (c.args.addr / 4) word = sym (get_or_from_slice_get ws (c.args.addr / 4) word word found) in
    let loads = loaded_word ws c.args.size c.args.order c.args.addr word c.self.invariant.whole c.requires (slice_get_within ws (c.args.addr / 4) word found) in
    rw (← c.self.view_is, loads)
    (ap Some (sym (c.read_lanes.ensures ∙ ap (λ (w : List ℕ). number c.args.order c.args.size (slice_range w (c.args.addr % 4) (c.args.addr % 4 + bytes_of c.args.size))) here)))

pub returns-in-None-clause-outside : goal.returns-in-None-clause-outside
returns-in-None-clause-outside c =
    (refl, rw (← c.self.view_is) (loaded_no_word c.self.inside.words c.args.size c.args.order c.args.addr c.self.invariant.whole c.in-None.ensures.past))
