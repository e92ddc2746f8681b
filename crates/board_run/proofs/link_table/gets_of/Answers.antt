use Rattle.std.proofs.Common.{◌≡◌, ◌+◌, ◌++◌, ◌∷◌, [], ℕ, List, Option, length, ap, sym, ◌∙◌, subst, arith}
use Rattle.std.proofs.lemmas.List.{length-append}
use Rattle.board_machine.specs.Fabric.{link_to}
use Rattle.board_run.specs.LinkTable.{AreLinks, link_at}
use Rattle.board_run.proofs.Linking.{links_push}
use Rattle.board_run.proofs.link_table.gets_of.Goals as goal

pub loop-place-preserved : goal.loop-place-preserved
loop-place-preserved c =
    let grown : c.push.new.self.items ≡ c.loop-place.links.items ++ c.link_to-link.result ∷ [] = grind (arith, c.push.ensures.items, c.map_err.ensures, c.in_ok-map_err.was, c.in_ok-map_err.ensures) in
    let same : c.loop-place.place ≡ 0 + length c.loop-place.links.items = omega (arith, c.loop-place.invariant.1) in
    let more : length (c.loop-place.links.items ++ c.link_to-link.result ∷ []) ≡ length c.loop-place.links.items + 1 = length-append c.loop-place.links.items (c.link_to-link.result ∷ []) in
    subst (λ (links : List (Option ℕ)). AreLinks (link_at link_to c.args.rows.now) 0 links × length links ≡ c.loop-place.place + 1) (sym grown)
    (links_push (link_at link_to c.args.rows.now) 0 c.loop-place.links.items c.link_to-link.result (c.link_to-link.ensures ∙ ap (link_at link_to c.args.rows.now) same) c.loop-place.invariant.0, omega (arith, more, c.loop-place.invariant.1))
