use Rattle.std.proofs.Common.{arith, ap, sym, ◌∙◌, ◌≡◌, ◌<◌, ◌/◌, ◌%◌, [], length, List, ℕ}
use Rattle.std.proofs.Math.ListN.{get_or, set}
use Rattle.byte_mem.specs.Access.{encoded, overwritten}
use Rattle.byte_mem.specs.Words.{words_of}
use Rattle.byte_mem.proofs.Paged.{length_words, set_word, word_at}
use Rattle.byte_mem.proofs.pages.Pages.write.Goals as goal

pub index_mut-requires : goal.index_mut-requires
index_mut-requires c =
    let long = length_words c.self.inside.pages.items c.self.invariant.whole in
    let within : c.args.k < length (words_of c.self.inside.pages.items) = rw (c.self.view_is) c.requires.word in
    omega arith

pub returns : goal.returns
returns c =
    let ps : List (List (List ℕ)) = c.self.inside.pages.items in
    let long = length_words ps c.self.invariant.whole in
    let within : c.args.k < length (words_of ps) = rw (c.self.view_is) c.requires.word in
    let there : c.args.k / 1024 < length ps = omega arith in
    let page : List (List ℕ) = c.index_mut.result.now in
    let bytes : List ℕ = encoded c.args.order c.args.size c.args.value in
    let new : List ℕ = overwritten (get_or (words_of ps) c.args.k []) c.args.at bytes in
    let old : get_or page (c.args.k % 1024) [] ≡ get_or (words_of ps) c.args.k [] =
    ap (λ (p : List (List ℕ)). get_or p (c.args.k % 1024) []) c.index_mut.ensures.value ∙ sym (word_at ps c.args.k page [] c.self.invariant.whole there) in
    rw (← c.self.view_is)
    (ap (λ (w : List ℕ). words_of (set ps (c.args.k / 1024) (set page (c.args.k % 1024) w))) (c.write_lanes.ensures ∙ ap (λ (w : List ℕ). overwritten w c.args.at bytes) old)
    ∙ ap (λ (p : List (List ℕ)). words_of (set ps (c.args.k / 1024) (set p (c.args.k % 1024) new))) c.index_mut.ensures.value
    ∙ set_word ps c.args.k new page c.self.invariant.whole there)
