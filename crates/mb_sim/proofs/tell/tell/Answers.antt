use Rattle.std.proofs.Common.{◌≡◌, List, ℕ, Ok, length, true, sym, subst, ◌∙◌}
use Rattle.std.specs.Prelude.{◌==◌}
use Rattle.mb_sim.specs.Lines.{told}
use Rattle.mb_sim.proofs.Printed.{no_line}
use Rattle.mb_sim.proofs.tell.tell.Goals as goal

pub returns-else-not-is_empty : goal.returns-else-not-is_empty
returns-else-not-is_empty g c =
    let P : List ℕ → Type 0 = λ line. (length line == 0) ≡ true in
    let shown = c.as_bytes.ensures.bytes ∙ c.message_line-line.ensures in
    (Ok tt, no_line (g.E.Sink.state c.args.err.now) (told c.args.status.now) (subst P shown (sym c.is_empty.ensures ∙ c.if-not-is_empty.false)))
