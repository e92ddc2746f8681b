use Rattle.std.proofs.Common.{◌≡◌, ◌<◌, ◌∙◌, List, Some, get_or, length, ap, sym}
use Rattle.std.proofs.lemmas.List.{length-set}
use Rattle.std.proofs.lemmas.List.Quantifiers.{position-Some}
use Rattle.board_file.specs.declared.board.LinkRow.{LinkRow}
use Rattle.board_machine.specs.Fabric.{is_port, link_to}
use Rattle.quiet_cycles.proofs.Calm.{moveless_by}
use Rattle.board_run.proofs.wires.Wires.take_item.Goals as goal

pub invariant_of-self-2 : goal.invariant_of-self-2
invariant_of-self-2 c =
    let w = c.self.inside in
    let i = c.self.invariant in
    let found : link_to c.self.inside.rows c.args.core c.args.port ≡ Some c.in_ok-k.k = sym c.to.ensures ∙ c.in_ok-k.was in
    let row : c.index-as_slice-k.result ≡ get_or c.self.inside.rows c.in_ok-k.k c.index-as_slice-k.result = c.index-as_slice-k.is ∙ ap (λ (rows : List LinkRow). get_or rows c.in_ok-k.k c.index-as_slice-k.result) c.as_slice.ensures in
    let there : c.in_ok-k.k < length c.self.inside.rows = (position-Some (λ (r : LinkRow). is_port c.args.core c.args.port r.to) c.self.inside.rows c.in_ok-k.k c.index-as_slice-k.result found).0 in
    (length-set w.links.items c.in_ok-k.k c.take.new.self ∙ i.0, i.1, i.2, i.3, i.4, i.5, i.6, λ e. moveless_by w.rows w.links.items w.files.items c.in_ok-k.k c.take.new.self c.index-as_slice-k.result there row (c.stays_settled-self-inside.ensures.inner e) (i.7 (c.stays_settled-self-inside.ensures.settled e)), i.8, i.9)
