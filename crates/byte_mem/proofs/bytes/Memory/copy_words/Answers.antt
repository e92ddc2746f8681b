use Rattle.std.proofs.Common.{arith, ap, ◌∙◌, ◌≡◌, ◌*◌, ◌+◌, ◌/◌, ◌%◌, [], length, take, List, ℕ}
use Rattle.std.specs.List.{concat, All}
use Rattle.std.proofs.Math.ListN.{get_or}
use Rattle.std.proofs.lemmas.List.{get_or_default}
use Rattle.byte_mem.specs.Access.{overwritten}
use Rattle.byte_mem.specs.Words.{IsWord}
use Rattle.byte_mem.proofs.Filling.{word_more}
use Rattle.byte_mem.proofs.bytes.Memory.copy_words.Goals as goal

pub loop-k-preserved : goal.loop-k-preserved
loop-k-preserved c =
    let words : List (List ℕ) = c.args.words.now in
    let word : List ℕ = get_or words c.loop-k.k [] in
    let aligned : c.args.at % 4 ≡ 0 = c.requires.aligned (omega (arith, c.loop-k-test.true)) in
    let here : 4 * (c.args.at / 4 + c.loop-k.k) ≡ c.args.at + 4 * c.loop-k.k = omega (arith, aligned) in
    let whole : All IsWord words = λ k d within. ap length (get_or_default words k d [] within) ∙ c.told-words k within in
    record {
      copied = c.set_word.ensures
          ∙ ap (λ (m : List ℕ). overwritten m (4 * (c.args.at / 4 + c.loop-k.k)) word) c.loop-k.invariant.copied
          ∙ ap (λ (a : ℕ). overwritten (overwritten c.args.self.now c.args.at (concat (take c.loop-k.k words))) a word) here
          ∙ word_more c.args.self.now c.args.at words c.loop-k.k [] whole c.requires.within c.loop-k-test.true;
    }
