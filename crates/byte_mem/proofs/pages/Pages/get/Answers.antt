use Rattle.std.proofs.Common.{arith}
use Rattle.byte_mem.proofs.Paged.{length_words}
use Rattle.byte_mem.proofs.pages.Pages.get.Goals as goal

pub returns-else-k-self : goal.returns-else-k-self
returns-else-k-self c =
    let long = length_words c.self.inside.pages.items c.self.invariant.whole in
    record { found = tt; past = rw (← c.self.view_is) (omega (arith, long, c.self.invariant.counted)) }
