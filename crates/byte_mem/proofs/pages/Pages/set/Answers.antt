use Rattle.std.proofs.Common.{arith, ap, ◌∙◌, ◌<◌, ◌/◌, ◌%◌, length, List, ℕ}
use Rattle.std.proofs.Math.ListN.{set}
use Rattle.byte_mem.specs.Words.{words_of}
use Rattle.byte_mem.proofs.Paged.{length_words, set_word}
use Rattle.byte_mem.proofs.pages.Pages.set.Goals as goal

pub index_mut-requires : goal.index_mut-requires
index_mut-requires c =
    let long = length_words c.self.inside.pages.items c.self.invariant.whole in
    let within : c.args.k < length (words_of c.self.inside.pages.items) = rw (c.self.view_is) c.requires in
    omega arith

pub returns : goal.returns
returns c =
    let ps : List (List (List ℕ)) = c.self.inside.pages.items in
    let long = length_words ps c.self.invariant.whole in
    let within : c.args.k < length (words_of ps) = rw (c.self.view_is) c.requires in
    let put = set_word ps c.args.k c.args.word c.index_mut.result.now c.self.invariant.whole (omega arith) in
    rw (← c.self.view_is)
    (ap (λ (p : List (List ℕ)). words_of (set ps (c.args.k / 1024) (set p (c.args.k % 1024) c.args.word))) c.index_mut.ensures.value ∙ put)
