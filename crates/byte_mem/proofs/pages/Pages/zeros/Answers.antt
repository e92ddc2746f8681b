use Rattle.std.proofs.Common.{arith, ap, sym, ◌≡◌, ◌∙◌, ◌<◌, length, List, ℕ, replicate}
use Rattle.std.proofs.lemmas.List.{get_or-replicate, same_lists}
use Rattle.std.proofs.Math.ListN.{get_or}
use Rattle.byte_mem.specs.Words.{words_of, zero_word}
use Rattle.byte_mem.proofs.Paged.{same_words}
use Rattle.byte_mem.proofs.pages.Pages.zeros.Goals as goal

pub returns : goal.returns
returns c =
    let page : List (List ℕ) = replicate 1024 zero_word in
    let pages : c.in_ok-vec.field-0.items ≡ replicate c.args.count page =
    c.in_ok-vec.ensures.items_if_clones_equal (λ y same. same_lists y page same.long (λ k d within.
    let inside : k < 1024 = omega (arith, same.long) in
    let zero : get_or page k d ≡ zero_word = get_or-replicate 1024 k zero_word d inside in
    let word = same.at k d d (omega (arith, same.long)) in
    let at : (j e : ℕ) → j < length (get_or y k d) → get_or (get_or y k d) j e ≡ get_or zero_word j e =
    λ j e within. word.at j e e (omega (arith, word.long)) ∙ ap (λ (w : List ℕ). get_or w j e) zero in
    same_lists (get_or y k d) zero_word word.long at ∙ sym zero)) in
    ap words_of pages ∙ same_words c.args.count zero_word
