use Rattle.std.proofs.Common.{sym, ◌∙◌}
use Rattle.byte_mem.proofs.Paged.{length_words}
use Rattle.byte_mem.proofs.pages.Pages.len.Goals as goal

pub returns : goal.returns
returns c = rw (← c.self.view_is) (c.self.invariant.counted ∙ sym (length_words c.self.inside.pages.items c.self.invariant.whole))
