use Rattle.std.proofs.Common.{ℕ, ◌≡◌, ◌+◌, ◌||◌, false, subst, sym, ◌∙◌}
use Rattle.std.specs.List.{list_any}
use Rattle.pipe_latch.specs.Latches.{holds_at}
use Rattle.pipe_latch.proofs.WordLemmas.{words_kept}
use Rattle.pipe_latch.proofs.fetching.Queue.after_store.Goals as goal

pub returns-else-touched-clause-words : goal.returns-else-touched-clause-words
returns-else-touched-clause-words c = λ m order store at h.
    let words = c.args.self.now.words in
    words_kept m store order c.args.self.now.order words
    (subst (λ (a : ℕ). (list_any (holds_at a) words || list_any (holds_at (a + 3)) words) ≡ false) at (sym c.touched.ensures ∙ c.if-touched.false)) h

pub returns-then-touched-clause-words : goal.returns-then-touched-clause-words
returns-then-touched-clause-words c = λ m order store at h. c.flush.ensures.words _ _
