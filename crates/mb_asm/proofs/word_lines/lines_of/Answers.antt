use Rattle.std.proofs.Common.{◌++◌, length, ap, ◌∙◌, arith}
use Rattle.asm_layout.specs.Places.{member}
use Rattle.mb_asm.specs.WordLines.{all_words, words_of}
use Rattle.mb_asm.proofs.Answering.{words_same}
use Rattle.mb_asm.proofs.Listing.{listed_all, listed_more}
use Rattle.mb_asm.proofs.word_lines.lines_of.Goals as goal

pub loop-k-preserved : goal.loop-k-preserved
loop-k-preserved c =
    let F = member c.args.grown.now in
    listed_more (words_of c.args.all.now F) (length c.args.all.now) c.loop-k.k c.loop-k.lines.items c.add_words.new.lines.items _ c.loop-k-test.true c.loop-k.invariant
    (c.in_ok-add_words.ensures
    ∙ ap (λ ws. c.loop-k.lines.items ++ ws)
    (words_same c.args.all.now F c.loop-k.k _ _ c.prefixed-long.result c.loop-k-test.true (c.requires.laid c.loop-k.k (omega (arith, c.loop-k-test.true))) c.prefixed-long.ensures))

pub returns : goal.returns
unfolding all_words
returns c = listed_all (words_of c.args.all.now (member c.args.grown.now)) (length c.args.all.now) c.loop-k.k c.loop-k.lines.items _ c.loop-k-test.false c.loop-k.invariant
