use Rattle.std.proofs.Common.{◌≡◌, ◌<◌, ◌∙◌, List, Some, get_or, length, ap, sym}
use Rattle.std.proofs.lemmas.List.{length-set}
use Rattle.std.proofs.lemmas.List.Quantifiers.{position-Some}
use Rattle.board_file.specs.declared.board.LinkRow.{LinkRow}
use Rattle.board_machine.specs.Fabric.{is_port, link_from}
use Rattle.quiet_cycles.proofs.Calm.{moveless_by}
use Rattle.board_run.proofs.wires.Wires.put_item.Goals as goal

pub invariant_of-self : goal.invariant_of-self
invariant_of-self c =
    let w = c.self.inside in
    let i = c.self.invariant in
    let found : link_from c.self.inside.rows c.args.core c.args.port ≡ Some c.in-Some.k = sym c.from.ensures ∙ c.in-Some.is in
    let row : c.index-as_slice-k.result ≡ get_or c.self.inside.rows c.in-Some.k c.index-as_slice-k.result = c.index-as_slice-k.is ∙ ap (λ (rows : List LinkRow). get_or rows c.in-Some.k c.index-as_slice-k.result) c.as_slice.ensures in
    let there : c.in-Some.k < length c.self.inside.rows = (position-Some (λ (r : LinkRow). is_port c.args.core c.args.port r.from) c.self.inside.rows c.in-Some.k c.index-as_slice-k.result found).0 in
    (length-set w.links.items c.in-Some.k c.put_in.new.link ∙ i.0, i.1, i.2, i.3, i.4, i.5, i.6, λ e. moveless_by w.rows w.links.items w.files.items c.in-Some.k c.put_in.new.link c.index-as_slice-k.result there row (c.stays_settled-self-inside.ensures.inner e) (i.7 (c.stays_settled-self-inside.ensures.settled e)), i.8, i.9)
