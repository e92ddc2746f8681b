-- The files of the links, and the laws.
use Rattle.std.proofs.Common.{◌≡◌, ℕ, ◌+◌, ◌<◌, List, [], ◌∷◌, ◌++◌, length, take, drop, Option, Some, None, refl, ap, sym, ◌∙◌, subst, inl, inr, ◌⊎◌, arith, slice_get, Bool, true, false, cond, ◌==◌}
use Rattle.std.specs.Option.{option_map}
use Rattle.std.specs.List.{cons_option, flat_map}
use Rattle.std.proofs.lemmas.Option.{slice_get_within}
use Rattle.std.proofs.lemmas.Bool.{ne_eqb}
use Rattle.std.proofs.lemmas.Grind.{flat_map-append}
use Rattle.std.proofs.lemmas.List.{append-nil, take-append-drop}
use Rattle.std.proofs.lemmas.List.Concat.{flat_map-cons}
use Rattle.axi_link.specs.declared.item.Item.{Item}
use Rattle.isa_step.specs.Effects.{View}
use Rattle.run_journal.specs.declared.entry.Entry.{Entry}
use Rattle.run_journal.specs.declared.entry.What.{What}
use Rattle.run_journal.specs.declared.entry.What.TheVariants.{Got, HostGot}
use Rattle.run_journal.specs.Files.{bytes_got, item_bytes, link_file}
use Rattle.link_file.specs.File.{file_of}
use Rattle.board_file.specs.declared.board.BoardFile.{BoardFile}
use Rattle.board_file.specs.declared.board.LinkRow.{LinkRow}
use Rattle.board_file.specs.declared.board.End.{End}
use Rattle.board_file.specs.declared.board.End.TheVariants.{Port, File}
use Rattle.host_io.specs.declared.names.FileName.{FileName}
use Rattle.board_machine.specs.declared.events.HostPart.TheVariants.{Takes}
use Rattle.board_machine.specs.declared.events.Event.{Event}
use Rattle.board_machine.specs.Fabric.{first_in, got_of, link_to, move_by, part_at, part_by}
use Rattle.board_machine.specs.World.{Inputs, Reached, Steps, World, feeds_of}
use Rattle.board_machine.proofs.Keeping.{keeps_runs}
use Rattle.board_machine.specs.Resting.{Still}
use Rattle.board_machine.proofs.Lists.{slice_get_in}
use Rattle.net_law.specs.Rounds.{rounds}
use Rattle.net_law.specs.Network.{Net, acts, everyone, Pipe, Core, Sink, channel_of, history, plain, start}
use Rattle.net_law.proofs.Parts.{plan_of}
use Rattle.net_law.specs.Boards.{IsNetwork, IsOutput}
use Rattle.net_law.specs.Law.{Agree, KeepsNetwork, IsPrefixOf, NetworkLaw, FollowsNetwork, RunsAgree, RunsKeepNetwork, acts_in, got_on, on_link, sent_on, taken_of}
use Rattle.net_law.proofs.Diamond.{reader_of, sink_of}
use Rattle.net_law.proofs.Carried.{link_is}
use Rattle.net_law.proofs.Law.{good_along, good_start, later_rounds, prefix_law, prefix_trans, reached_run, rest_law}

-- the bytes of an item that may be
abbrev bytes_of : Option Item → List ℕ
bytes_of None = []
bytes_of (Some x) = item_bytes x

-- a core takes nothing out of a link to a file
core_takes_not : (rows : List LinkRow) (link core port : ℕ) (item : Item) (o : Option ℕ) → link_to rows core port ≡ o → part_at (slice_get rows link) ≡ Takes → on_link link (option_map (λ l. (l, item)) o) ≡ None
core_takes_not rows link core port item None h part = refl
core_takes_not rows link core port item (Some l) h part =
    let ne : l ≡ link → ⊥ = λ e. (let z : Some (Core core) ≡ Some (Sink link) = sym (reader_of rows core port link (h ∙ ap Some e)) ∙ sink_of rows link part in cc) in
    rw (ne_eqb l link ne) refl

host_takes : (link l : ℕ) (item : Item) (t : Bool) → bytes_of (cond t (Some item) None) ≡ cond t (item_bytes item) []
host_takes link l item true = refl
host_takes link l item false = refl

entry_bytes : (rows : List LinkRow) (link : ℕ) → part_at (slice_get rows link) ≡ Takes → (core : ℕ) (what : What) → bytes_of (on_link link (taken_of rows core what)) ≡ bytes_got link what
entry_bytes rows link part core (Got port item) = ap bytes_of (core_takes_not rows link core port item (link_to rows core port) refl part)
entry_bytes rows link part core (HostGot l item) = host_takes link l item (l == link)
entry_bytes rows link part core _ = refl

more_bytes : (o : Option Item) (items : List Item) → flat_map item_bytes (cons_option o items) ≡ bytes_of o ++ flat_map item_bytes items
more_bytes None items = refl
more_bytes (Some x) items = flat_map-cons item_bytes x items

got_is_file : (rows : List LinkRow) (link : ℕ) → part_at (slice_get rows link) ≡ Takes → (journal : List Entry) → file_of (got_on rows link journal) ≡ link_file link journal
got_is_file rows link part [] = refl
got_is_file rows link part (e ∷ es) =
    more_bytes (on_link link (taken_of rows e.core e.what)) (got_on rows link es)
    ∙ ap (λ xs. xs ++ file_of (got_on rows link es)) (entry_bytes rows link part e.core e.what)
    ∙ ap (λ xs. bytes_got link e.what ++ xs) (got_is_file rows link part es)
    ∙ sym (flat_map-cons (λ (e : Entry). bytes_got link e.what) e es)

file_prefix : (xs ys : List Item) → IsPrefixOf xs ys → IsPrefixOf (file_of xs) (file_of ys)
file_prefix xs ys p = (file_of p.0, sym (flat_map-append item_bytes xs p.0) ∙ ap file_of p.1)

nothing_left : (xs : List Item) → slice_get xs 0 ≡ None → xs ≡ []
nothing_left [] e = refl
nothing_left (x ∷ xs) e = cc

taken_all : (p : Pipe) → first_in (Some (channel_of p)) ≡ None → take p.taken p.sent ≡ p.sent
taken_all p e =
    let d : drop p.taken p.sent ≡ [] = nothing_left (drop p.taken p.sent) e in
    sym (append-nil _) ∙ ap (λ xs. take p.taken p.sent ++ xs) (sym d) ∙ take-append-drop p.taken p.sent

no_item : (link : ℕ) (o : Option Item) → got_of link o ≡ None → o ≡ None
no_item link None e = refl
no_item link (Some x) e = cc

row_there : (rows : List LinkRow) (link : ℕ) (o : Option LinkRow) → slice_get rows link ≡ o → part_at o ≡ Takes → link < length rows
row_there rows link None e part = cc
row_there rows link (Some r) e part = slice_get_within rows link r e

-- at rest the host has taken all
got_all : (b : BoardFile) (views : List View) (inputs : Inputs) (w : World) → IsNetwork b views → Reached b views inputs w → Still w → (link : ℕ) → part_at (slice_get b.links link) ≡ Takes → got_on b.links link w.fabric.journal ≡ sent_on b.links link w.fabric.journal
got_all b views inputs w i r s link part =
    let q = reached_run b views inputs w i r in
    let c = q.matches.carries in
    let g = good_along (plan_of b inputs) (length views) (length b.links) (start b.links views) q.net q.acts_done (good_start b views i) q.path in
    let p = slice_get_in q.net.pipes link (omega (arith, row_there b.links link (slice_get b.links link) refl part, g.pipes)) in
    let t = c.recorded link p.0 p.1 in
    let move : move_by w.fabric link Takes ≡ None = ap (move_by w.fabric link) (sym (ap (λ (rows : List LinkRow). part_at (slice_get rows link)) c.rows ∙ part)) ∙ s.links link in
    let none : first_in (Some (channel_of p.0)) ≡ None = sym (ap first_in (link_is w.fabric q.net.pipes link c.links ∙ ap (option_map channel_of) p.1)) ∙ no_item link (first_in (slice_get w.fabric.links link)) move in
    sym t.got ∙ taken_all p.0 none ∙ t.sent

pub follows_network : (b : BoardFile) (views : List View) (inputs : Inputs) (w : World) → IsNetwork b views → Reached b views inputs w → FollowsNetwork b views inputs w
follows_network b views inputs w i r = record {
  sent = λ link l. (prefix_law b views inputs w i r link l).0;
  got = λ link l. (prefix_law b views inputs w i r link l).1;
  file = λ link part.
      let l = row_there b.links link (slice_get b.links link) refl part in
      subst (λ xs. IsPrefixOf xs (file_of (history (plain b views inputs (acts_in w)) link))) (got_is_file b.links link part w.fabric.journal) (file_prefix _ _ (prefix_law b views inputs w i r link l).1);
  cores_at_rest = λ s more. (rest_law b views inputs w i r s more).0;
  sent_at_rest = λ s more link l. (rest_law b views inputs w i r s more).1 link l;
  file_at_rest = λ s more link part.
      let l = row_there b.links link (slice_get b.links link) refl part in
      sym (got_is_file b.links link part w.fabric.journal) ∙ ap file_of (got_all b views inputs w i r s link part ∙ (rest_law b views inputs w i r s more).1 link l);
}

-- the reference network looks at nothing of a board file but its links
same_plain : (b c : BoardFile) (views : List View) (inputs : Inputs) (r : ℕ) → c.links ≡ b.links → plain c views inputs r ≡ plain b views inputs r
same_plain b c views inputs r e = ap (λ (rows : List LinkRow). rounds (acts (record { rows = rows; feeds = feeds_of rows inputs.links })) (everyone (length views) (length rows)) (start rows views) r) e

part_same : (b c : BoardFile) (link : ℕ) → c.links ≡ b.links → IsOutput b link → IsOutput c link
part_same b c link e part = ap (λ (rows : List LinkRow). part_at (slice_get rows link)) e ∙ part

-- two beginnings of one list
comparable : {X : Type 0} (xs ys r t : List X) → xs ++ r ≡ ys ++ t → IsPrefixOf xs ys ⊎ IsPrefixOf ys xs
comparable [] ys r t e = inl (ys, refl)
comparable (x ∷ xs) [] r t e = inr (x ∷ xs, refl)
comparable (x ∷ xs) (y ∷ ys) r t e =
    let h : x ≡ y = cc in
    let q : xs ++ r ≡ ys ++ t = cc in
    elim (comparable xs ys r t q) [
      | inl p ↦ inl (p.0, ap (λ zs. x ∷ zs) p.1 ∙ ap (λ z. z ∷ ys) h)
      | inr p ↦ inr (p.0, ap (λ zs. y ∷ zs) p.1 ∙ ap (λ z. z ∷ xs) (sym h))
    ]

-- two runs, each with as many more rounds as the other had
pub runs_agree_at : (b c : BoardFile) (views : List View) (inputs : Inputs) (v w : World) → c.links ≡ b.links → IsNetwork b views → IsNetwork c views → Reached b views inputs v → Reached c views inputs w → Agree b v w
runs_agree_at b c views inputs v w e i j p q =
    let f = follows_network b views inputs v i p in
    let g = follows_network c views inputs w j q in
    let k : acts_in w + acts_in v ≡ acts_in v + acts_in w = omega arith in
    let n : plain b views inputs (acts_in w + acts_in v) ≡ plain c views inputs (acts_in v + acts_in w) = ap (plain b views inputs) k ∙ sym (same_plain b c views inputs (acts_in v + acts_in w) e) in
    let file = λ (link : ℕ) (n : Net). file_of (history n link) in
    let all = plain b views inputs (acts_in w + acts_in v) in
    let one = λ (link : ℕ) (part : IsOutput b link).
    prefix_trans (link_file link v.fabric.journal) (file link (plain b views inputs (acts_in v))) (file link all) (f.file link part) (file_prefix _ _ (later_rounds b views inputs i (acts_in v) (acts_in w) link)) in
    let later = λ (link : ℕ) (part : IsOutput b link).
    prefix_trans (link_file link w.fabric.journal) (file link (plain c views inputs (acts_in w))) (file link (plain c views inputs (acts_in v + acts_in w))) (g.file link (part_same b c link e part)) (file_prefix _ _ (later_rounds c views inputs j (acts_in w) (acts_in v) link)) in
    let other = λ (link : ℕ) (part : IsOutput b link). subst (λ n. IsPrefixOf (link_file link w.fabric.journal) (file link n)) (sym n) (later link part) in
    record {
      files = λ link part. let x = one link part in let y = other link part in comparable (link_file link v.fabric.journal) (link_file link w.fabric.journal) x.0 y.0 (x.1 ∙ sym y.1);
      longest_at_rest = λ s link part. subst (IsPrefixOf (link_file link w.fabric.journal)) (sym (f.file_at_rest s (acts_in w) link part)) (other link part);
      files_at_rest = λ s t link part. f.file_at_rest s (acts_in w) link part ∙ ap (file link) n ∙ sym (g.file_at_rest t (acts_in v) link (part_same b c link e part));
      cores_at_rest = λ s t. f.cores_at_rest s (acts_in w) ∙ ap (λ (n : Net). n.processes) n ∙ sym (g.cores_at_rest t (acts_in v));
    }

pub network_law : NetworkLaw
network_law = record { follows = follows_network }

pub runs_agree : RunsAgree
runs_agree = record { agree = runs_agree_at }

pub runs_keep : RunsKeepNetwork
runs_keep = record { keeps = λ old new k b views inputs i r. follows_network b views inputs new i (k b views inputs r).reached }

-- the form for a call that does these events
pub keeps_network : (old new : World) (es : List Event) → Steps old es new → KeepsNetwork old new
keeps_network old new es h b views inputs i r = follows_network b views inputs new i (keeps_runs old new es h b views inputs r).reached

-- a link to a file is an output where no link has files at both ends

out_by : (from to : End) (name : FileName) → ((other : FileName) → from ≡ File other → ⊥) → to ≡ File name → part_by from to ≡ Takes
out_by (Port core port) to name ne e = ap (part_by (Port core port)) e
out_by (File other) to name ne e = absurd (ne other refl)

pub leads_out : (b : BoardFile) (link : ℕ) (r : LinkRow) (name : FileName) → slice_get b.links link ≡ Some r → ((other : FileName) → r.from ≡ File other → ⊥) → r.to ≡ File name → IsOutput b link
leads_out b link r name there ne e = ap part_at there ∙ out_by r.from r.to name ne e
