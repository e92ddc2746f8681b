use Rattle.pipe_latch.proofs.WordLemmas.{words_set}
use Rattle.pipe_latch.proofs.fetching.Queue.fetch.Goals as goal

pub returns-in-Ok-clause-words : goal.returns-in-Ok-clause-words
returns-in-Ok-clause-words c = λ h. words_set c.args.m.now c.args.self.now.order c.args.self.now.words c.place_of.result _ h (λ aligned. c.in-Ok.ensures.loaded)
