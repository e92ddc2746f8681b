-- The law of the network: whatever the schedule, the reference network's history is ahead.
use Rattle.std.proofs.Common.{◌≡◌, ℕ, zero, suc, ◌+◌, ◌<◌, List, [], ◌∷◌, ◌++◌, length, map, take, drop, Option, Some, None, refl, ap, sym, ◌∙◌, subst, inl, inr, ◌⊎◌, arith, slice_get, Bool, true, false, cond, append_assoc, length-set, zero-add, add-zero}
use Rattle.std.specs.Option.{option_map}
use Rattle.std.specs.List.{range_with_len, sum_by}
use Rattle.std.proofs.lemmas.Option.{same_Some, slice_get-map, slice_get_within}
use Rattle.std.proofs.lemmas.Bool.{cases_eq}
use Rattle.std.proofs.lemmas.List.{append-nil, take-append-drop, length-map}
use Rattle.axi_link.specs.declared.item.Item.{Item}
use Rattle.axi_link.specs.Channel.{Channel, empty}
use Rattle.isa_step.specs.declared.acts.Breaks.{Breaks}
use Rattle.isa_step.specs.declared.acts.Idle.{Idle}
use Rattle.isa_step.specs.Effects.{View, Due, Does, Waits, Sleeps, Ends, Stops}
use Rattle.isa_step.specs.Due.{due}
use Rattle.isa_step.specs.Resting.{IsAnnounced, idle_due, idle_view}
use Rattle.isa_step.proofs.RestLaws.{idle_lasts}
use Rattle.board_file.specs.declared.board.BoardFile.{BoardFile}
use Rattle.board_file.specs.declared.board.End.{End}
use Rattle.board_file.specs.declared.board.End.TheVariants.{Port, File}
use Rattle.board_file.specs.declared.board.LinkRow.{LinkRow}
use Rattle.board_machine.specs.declared.events.HostPart.{HostPart}
use Rattle.board_machine.specs.declared.events.HostPart.TheVariants.{Sends, Takes, Nothing}
use Rattle.board_machine.specs.Places.{set_some, touch}
use Rattle.board_machine.specs.Fabric.{Fabric, Feed, first_in, got_of, move_by, move_of, next_of, or_low, or_none, part_at, room_in, sent_of}
use Rattle.board_machine.specs.World.{World, CoreAt, Inputs, Start, Reached, blobs_after, feed_of, feeds_of}
use Rattle.board_machine.specs.Resting.{Still, idle_here}
use Rattle.board_machine.proofs.Lists.{slice_get_in, some_of}
use Rattle.net_law.specs.Network.{Pipe, Plan, Process, Net, took, gave, Actor, Core, Source, Sink, acts, channel_of, does, everyone, history, plain, ports_of, sink_acts, source_acts, to_come, start}
use Rattle.net_law.proofs.Parts.{began, core_acts, plan_of, sends, sent_through, takes, unused}
use Rattle.net_law.specs.Boards.{IsNetwork}
use Rattle.net_law.specs.Law.{IsPrefixOf, acts_in, got_on, process_of, sent_on}
use Rattle.net_law.proofs.Confluence.{In, Path, run_leads, rest_is_rounds, rounds_good, rounds_lead}
use Rattle.net_law.proofs.Flows.{Flow, Still as Nowhere, Take, Put, flows, channel_is, touch_same, touch_other}
use Rattle.net_law.proofs.Diamond.{Marked, acted, become, diamond, map_some, marked_keeps}
use Rattle.net_law.proofs.Calm.{all_low, none_pending}
use Rattle.net_law.proofs.Carried.{Carries, Recorded, feed_at, hosts_in, shown_is}
use Rattle.net_law.proofs.Simulation.{Matches, WorldRun, next_fed, room_inv, sim_steps}

prefix_refl : (xs : List Item) → IsPrefixOf xs xs
prefix_refl xs = ([], append-nil xs)

pub prefix_trans : {X : Type 0} (xs ys zs : List X) → IsPrefixOf xs ys → IsPrefixOf ys zs → IsPrefixOf xs zs
prefix_trans xs ys zs p q = (p.0 ++ q.0, (rw (← append_assoc) (ap (λ l. l ++ q.0) p.1 ∙ q.1)))

same_actor : (a c : Actor) → (a ≡ c) ⊎ (a ≡ c → ⊥)
same_actor (Core i) (Core j) = elim (cases_eq i j) [ inl e ↦ inl (ap Core e) | inr ne ↦ inr (λ e. ne (let k : i ≡ j = cc in k)) ]
same_actor (Core i) (Source j) = inr (λ e. cc)
same_actor (Core i) (Sink j) = inr (λ e. cc)
same_actor (Source i) (Core j) = inr (λ e. cc)
same_actor (Source i) (Source j) = elim (cases_eq i j) [ inl e ↦ inl (ap Source e) | inr ne ↦ inr (λ e. ne (let k : i ≡ j = cc in k)) ]
same_actor (Source i) (Sink j) = inr (λ e. cc)
same_actor (Sink i) (Core j) = inr (λ e. cc)
same_actor (Sink i) (Source j) = inr (λ e. cc)
same_actor (Sink i) (Sink j) = elim (cases_eq i j) [ inl e ↦ inl (ap Sink e) | inr ne ↦ inr (λ e. ne (let k : i ≡ j = cc in k)) ]

-- a history only grows
grows_at : (f : Pipe → Pipe) (o : Option Pipe) → ((p : Pipe) → IsPrefixOf p.sent (f p).sent) → IsPrefixOf (sent_through o) (sent_through (option_map f o))
grows_at f None h = prefix_refl []
grows_at f (Some p) h = h p

grows_touch : (f : Pipe → Pipe) (k link : ℕ) (pipes : List Pipe) → ((p : Pipe) → IsPrefixOf p.sent (f p).sent) → (link ≡ k) ⊎ (link ≡ k → ⊥) → IsPrefixOf (sent_through (slice_get pipes link)) (sent_through (slice_get (touch f k pipes) link))
grows_touch f k link pipes h (inr ne) = rw (touch_other f link k pipes ne) (prefix_refl _)
grows_touch f k link pipes h (inl e) = rw (e, touch_same f k pipes) (grows_at f (slice_get pipes k) h)

grows_flow : (flow : Flow) (link : ℕ) (pipes : List Pipe) → IsPrefixOf (sent_through (slice_get pipes link)) (sent_through (slice_get (flows flow pipes) link))
grows_flow Nowhere link pipes = prefix_refl _
grows_flow (Take k) link pipes = grows_touch took k link pipes (λ p. prefix_refl p.sent) (cases_eq link k)
grows_flow (Put k x) link pipes = grows_touch (gave x) k link pipes (λ p. (x ∷ [], refl)) (cases_eq link k)

grows : (b : Plan) (a : Actor) (n m : Net) (link : ℕ) → Marked n → acts b a n ≡ Some m → IsPrefixOf (history n link) (history m link)
grows b a n m link h e = let p = acted b n a m h e in subst (λ m. IsPrefixOf (history n link) (history m link)) (sym p.is) (grows_flow p.flow link n.pipes)

grows_along : (b : Plan) (n m : Net) (xs : List Actor) (link : ℕ) → Marked n → Path (acts b) n xs m → IsPrefixOf (history n link) (history m link)
grows_along b n m [] link h p = rw p (prefix_refl _)
grows_along b n m (a ∷ xs) link h p = prefix_trans _ _ _ (grows b a n p.0 link h p.1) (grows_along b p.0 m xs link (marked_keeps b a n p.0 h p.1) p.2)

-- everyone who can act is in the round
in_left : {A : Type 0} (a : A) (xs ys : List A) → In a xs → In a (xs ++ ys)
in_left a [] ys h = absurd h
in_left a (x ∷ xs) ys (inl e) = inl e
in_left a (x ∷ xs) ys (inr h) = inr (in_left a xs ys h)

in_right : {A : Type 0} (a : A) (xs ys : List A) → In a ys → In a (xs ++ ys)
in_right a [] ys h = h
in_right a (x ∷ xs) ys h = inr (in_right a xs ys h)

in_range : {A : Type 0} (f : ℕ → A) (from n i : ℕ) → i < n → In (f (from + i)) (map f (range_with_len from n))
in_range f from zero i h = absurd (omega (arith, h))
in_range f from (suc n) zero h = inl (ap f (add-zero from))
in_range f from (suc n) (suc i) h =
    let e : from + 1 + i ≡ from + suc i = omega arith in
    inr (subst (λ k. In (f k) (map f (range_with_len (from + 1) n))) e (in_range f (from + 1) n i (omega (arith, h))))

in_numbers : {A : Type 0} (f : ℕ → A) (i n : ℕ) → i < n → In (f i) (map f (range_with_len 0 n))
in_numbers f i n h = subst (λ k. In (f k) (map f (range_with_len 0 n))) (zero-add i) (in_range f 0 n i h)

pub record Good (cores links : ℕ) (n : Net) : Type 0 where
  pub processes : length n.processes ≡ cores
  pub pipes : length n.pipes ≡ links
  pub marked : Marked n

length_set_some : {X : Type 0} (f : X → X) (k : ℕ) (xs : List X) (o : Option X) → length (set_some xs k f o) ≡ length xs
length_set_some f k xs None = refl
length_set_some f k xs (Some x) = length-set xs k (f x)

length_flows : (flow : Flow) (pipes : List Pipe) → length (flows flow pipes) ≡ length pipes
length_flows Nowhere pipes = refl
length_flows (Take k) pipes = length_set_some took k pipes (slice_get pipes k)
length_flows (Put k x) pipes = length_set_some (gave x) k pipes (slice_get pipes k)

length_become : (m : Option (ℕ × Process)) (ps : List Process) → length (become m ps) ≡ length ps
length_become None ps = refl
length_become (Some m) ps = length-set ps m.0 m.1

good_keeps : (b : Plan) (cores links : ℕ) (a : Actor) (n m : Net) → Good cores links n → acts b a n ≡ Some m → Good cores links m
good_keeps b cores links a n m g e =
    let p = acted b n a m g.marked e in
    record {
      processes = ap (λ (m : Net). length m.processes) p.is ∙ length_become p.moves n.processes ∙ g.processes;
      pipes = ap (λ (m : Net). length m.pipes) p.is ∙ length_flows p.flow n.pipes ∙ g.pipes;
      marked = marked_keeps b a n m g.marked e;
    }

pub good_along : (b : Plan) (cores links : ℕ) (n m : Net) (xs : List Actor) → Good cores links n → Path (acts b) n xs m → Good cores links m
good_along b cores links n m [] g p = rw p g
good_along b cores links n m (a ∷ xs) g p = good_along b cores links p.0 m xs (good_keeps b cores links a n p.0 g p.1) p.2

core_there : (b : Plan) (core : ℕ) (n m : Net) (o : Option Process) → slice_get n.processes core ≡ o → core_acts b core n o ≡ Some m → core < length n.processes
core_there b core n m None e q = cc
core_there b core n m (Some p) e q = slice_get_within n.processes core p e

source_there : (b : Plan) (link : ℕ) (n m : Net) (o : Option LinkRow) → slice_get b.rows link ≡ o → source_acts b link n (part_at o) ≡ Some m → link < length b.rows
source_there b link n m None e q = cc
source_there b link n m (Some r) e q = slice_get_within b.rows link r e

sink_there : (b : Plan) (link : ℕ) (n m : Net) (o : Option LinkRow) → slice_get b.rows link ≡ o → sink_acts b link n (part_at o) ≡ Some m → link < length b.rows
sink_there b link n m None e q = cc
sink_there b link n m (Some r) e q = slice_get_within b.rows link r e

everyone_in : (b : Plan) (cores : ℕ) (a : Actor) (n m : Net) → Good cores (length b.rows) n → acts b a n ≡ Some m → In a (everyone cores (length b.rows))
everyone_in b cores (Core i) n m g e =
    let l : i < cores = omega (arith, core_there b i n m (slice_get n.processes i) refl e, g.processes) in
    in_left (Core i) (map Core (range_with_len 0 cores) ++ map Source (range_with_len 0 (length b.rows))) (map Sink (range_with_len 0 (length b.rows))) (in_left (Core i) (map Core (range_with_len 0 cores)) (map Source (range_with_len 0 (length b.rows))) (in_numbers Core i cores l))
everyone_in b cores (Source k) n m g e =
    in_left (Source k) (map Core (range_with_len 0 cores) ++ map Source (range_with_len 0 (length b.rows))) (map Sink (range_with_len 0 (length b.rows))) (in_right (Source k) (map Core (range_with_len 0 cores)) (map Source (range_with_len 0 (length b.rows))) (in_numbers Source k (length b.rows) (source_there b k n m (slice_get b.rows k) refl e)))
everyone_in b cores (Sink k) n m g e =
    in_right (Sink k) (map Core (range_with_len 0 cores) ++ map Source (range_with_len 0 (length b.rows))) (map Sink (range_with_len 0 (length b.rows))) (in_numbers Sink k (length b.rows) (sink_there b k n m (slice_get b.rows k) refl e))

-- the beginning

start_links : (rows : List LinkRow) → map (λ (r : LinkRow). empty r.depth) rows ≡ map channel_of (map unused rows)
start_links [] = refl
start_links (r ∷ rows) = ap (λ (cs : List Channel). empty r.depth ∷ cs) (start_links rows)

start_processes : (cores : List CoreAt) → ((k : ℕ) (s : CoreAt) → slice_get cores k ≡ Some s → s.acts ≡ 0) → map began (map (λ (s : CoreAt). s.view) cores) ≡ map process_of cores
start_processes [] h = refl
start_processes (s ∷ cores) h =
    let e : began s.view ≡ process_of s = ap (λ (n : ℕ). let p : Process = record { view = s.view; acts = n } in p) (sym (h 0 s refl)) in
    ap (λ p. p ∷ map began (map (λ (s : CoreAt). s.view) cores)) e ∙ ap (λ ps. process_of s ∷ ps) (start_processes cores (λ k t q. h (suc k) t q))

sum_zero : {X : Type 0} (f : X → ℕ) (xs : List X) → ((k : ℕ) (x : X) → slice_get xs k ≡ Some x → f x ≡ 0) → sum_by f xs ≡ 0
sum_zero f [] h = refl
sum_zero f (x ∷ xs) h = let i = sum_zero f xs (λ k y e. h (suc k) y e) in rw (h 0 x refl) (rw zero-add i)

feeds_fresh : (rows : List LinkRow) (inputs : List (List ℕ)) (k : ℕ) (d : Feed) → slice_get (feeds_of rows inputs) k ≡ Some d → d.place ≡ 0
feeds_fresh [] inputs k d e = cc
feeds_fresh (r ∷ rows) inputs k d e = fresh_at r.from (feeds_of rows) inputs k (feeds_fresh rows) e where
  fresh_at : (from : End) (later : List (List ℕ) → List Feed) (inputs : List (List ℕ)) (k : ℕ) → ((inputs : List (List ℕ)) (k : ℕ) (d : Feed) → slice_get (later inputs) k ≡ Some d → d.place ≡ 0) → slice_get (feed_of from inputs ∷ later (blobs_after from inputs)) k ≡ Some d → d.place ≡ 0
  fresh_at (File name) later inputs zero h q = ap (λ (d : Feed). d.place) (sym (same_Some _ _ q))
  fresh_at (Port core port) later inputs zero h q = ap (λ (d : Feed). d.place) (sym (same_Some _ _ q))
  fresh_at (File name) later inputs (suc k) h q = h _ k d q
  fresh_at (Port core port) later inputs (suc k) h q = h _ k d q

fed_start : (p : Pipe) (o : Option Feed) → p.sent ≡ [] → ((d : Feed) → o ≡ Some d → d.place ≡ 0) → o ≡ option_map (feed_at p) o
fed_start p None e h = refl
fed_start p (Some d) e h = ap (λ (n : ℕ). let x : Feed = record { items = d.items; place = n } in Some x) (h d refl ∙ sym (ap length e))

pub marked_start : (b : BoardFile) (views : List View) → IsNetwork b views → Marked (start b.links views)
marked_start b views i core p e =
    let v = map_some began (slice_get views core) p (sym (slice_get-map began views core) ∙ e) in
    subst (λ (p : Process). p.view.arch.network ≡ true) v.2 (i.marked core v.0 v.1)

unused_at : (rows : List LinkRow) (link : ℕ) (p : Pipe) → slice_get (map unused rows) link ≡ Some p → (r : LinkRow) × (slice_get rows link ≡ Some r) × (unused r ≡ p)
unused_at rows link p e = map_some unused (slice_get rows link) p (sym (slice_get-map unused rows link) ∙ e)

began_matches : (b : BoardFile) (views : List View) (inputs : Inputs) (w : World) → IsNetwork b views → Start b views inputs w → Matches (plan_of b inputs) w (start b.links views) 0
began_matches b views inputs w i s = record {
  processes = ap (map began) (sym s.has_views) ∙ start_processes w.cores (λ k x e. (s.fresh k x e).0);
  hosts = 0;
  carries = record {
    rows = s.has_rows;
    links = s.links ∙ start_links b.links;
    recorded = λ link p e.
        let r = unused_at b.links link p e in
        subst (Recorded b.links w.fabric.journal link) r.2 (subst (λ j. Recorded b.links j link (unused r.0)) (sym s.journal) (record { whole = omega arith; sent = refl; got = refl }));
    fed = λ link p file e.
        let r = unused_at b.links link p e in
        ap (λ (ds : List Feed). slice_get ds link) s.feeds ∙ fed_start p (slice_get (feeds_of b.links inputs.links) link) (ap (λ (p : Pipe). p.sent) (sym r.2)) (λ d q. feeds_fresh b.links inputs.links link d q);
    calm = record {
      line = λ k. ap (λ (ls : List Bool). or_low (slice_get ls k)) s.lines ∙ all_low w.cores k;
      breaks = λ k. ap (λ (bs : List Breaks). or_none (slice_get bs k)) s.pending ∙ none_pending w.cores k;
      left = s.left ∙ i.events;
      bus = s.has_bus ∙ (λ k. record { timers = i.timers k; intcs = i.intcs k; uarts = i.uarts k });
    };
    count = ap hosts_in s.journal;
  };
  marked = marked_start b views i;
  counted = add-zero _ ∙ sum_zero (λ (s : CoreAt). s.acts) w.cores (λ k x e. (s.fresh k x e).0);
}

-- where the board is still, nobody of the reference network can act

still_does : (b : Plan) (core : ℕ) (n m : Net) (p : Process) (d : Due) (why : Idle) → idle_due d ≡ Some why → does b core n p d ≡ Some m → ⊥
still_does b core n m p (Does effect) why e q = cc
still_does b core n m p (Waits port full) why e q = cc
still_does b core n m p Sleeps why e q = cc
still_does b core n m p Ends why e q = cc
still_does b core n m p (Stops cause) why e q = cc

calm_announced : (rows : List LinkRow) (links : List Channel) (core : ℕ) → IsAnnounced (ports_of rows links core)
calm_announced rows links core = record { interrupt = λ e. cc; maskable = λ e. cc; nonmaskable = λ e. cc }

still_core : (b : Plan) (n m : Net) (w : World) (core count : ℕ) (o : Option Process) → Matches b w n count → Still w → slice_get n.processes core ≡ o → core_acts b core n o ≡ Some m → ⊥
still_core b n m w core count None h s e q = cc
still_core b n m w core count (Some p) h s e q =
    let r = map_some process_of (slice_get w.cores core) p (sym (slice_get-map process_of w.cores core) ∙ ap (λ (ps : List Process). slice_get ps core) (sym h.processes) ∙ e) in
    let i = some_of (idle_here w.fabric core (slice_get w.cores core)) (s.cores core r.0 r.1) in
    let ports = ports_of b.rows (map channel_of n.pipes) core in
    let idle : idle_view p.view ports ≡ Some i.0 =
    ap (λ (p : Process). idle_view p.view ports) (sym r.2) ∙ ap (idle_view r.0.view) (sym (shown_is b w.fabric h.hosts n.pipes core h.carries)) ∙ sym (ap (idle_here w.fabric core) r.1) ∙ i.1 in
    still_does b core n m p (due p.view ports) i.0 (idle_lasts p.view ports i.0 (calm_announced b.rows (map channel_of n.pipes) core) idle) q

still_sends : (b : Plan) (n m : Net) (f : Fabric) (hosts k : ℕ) (t : Bool) (o : Option Item) → Carries b f hosts n.pipes → part_at (slice_get b.rows k) ≡ Sends → move_by f k Sends ≡ None → room_in (slice_get (map channel_of n.pipes) k) ≡ t → to_come (slice_get b.feeds k) (slice_get n.pipes k) ≡ o → sends k n t o ≡ Some m → ⊥
still_sends b n m f hosts k false o c part none e d q = cc
still_sends b n m f hosts k true None c part none e d q = cc
still_sends b n m f hosts k true (Some x) c part none e d q =
    let room : room_in (slice_get f.links k) ≡ true = ap (λ (cs : List Channel). room_in (slice_get cs k)) c.links ∙ e in
    let p = room_inv (slice_get n.pipes k) (ap room_in (sym (channel_is n.pipes k)) ∙ e) in
    let next : next_of (slice_get f.feeds k) ≡ Some x = ap next_of (c.fed k p.0 part p.1) ∙ next_fed p.0 (slice_get b.feeds k) ∙ sym (ap (to_come (slice_get b.feeds k)) p.1) ∙ d in
    let z : sent_of k (Some x) ≡ None = sym (ap (λ t. sent_of k (cond t (next_of (slice_get f.feeds k)) None)) room ∙ ap (sent_of k) next) ∙ none in
    cc

still_source : (b : Plan) (n m : Net) (f : Fabric) (hosts k : ℕ) (part : HostPart) → Carries b f hosts n.pipes → part_at (slice_get b.rows k) ≡ part → move_by f k part ≡ None → source_acts b k n part ≡ Some m → ⊥
still_source b n m f hosts k Sends c e none q = still_sends b n m f hosts k (room_in (slice_get (map channel_of n.pipes) k)) (to_come (slice_get b.feeds k) (slice_get n.pipes k)) c e none refl refl q
still_source b n m f hosts k Takes c e none q = cc
still_source b n m f hosts k Nothing c e none q = cc

still_takes : (b : Plan) (n m : Net) (f : Fabric) (hosts k : ℕ) (o : Option Item) → Carries b f hosts n.pipes → move_by f k Takes ≡ None → first_in (slice_get (map channel_of n.pipes) k) ≡ o → takes k n o ≡ Some m → ⊥
still_takes b n m f hosts k None c none e q = cc
still_takes b n m f hosts k (Some x) c none e q =
    let first : first_in (slice_get f.links k) ≡ Some x = ap (λ (cs : List Channel). first_in (slice_get cs k)) c.links ∙ e in
    let z : got_of k (Some x) ≡ None = sym (ap (got_of k) first) ∙ none in
    cc

still_sink : (b : Plan) (n m : Net) (f : Fabric) (hosts k : ℕ) (part : HostPart) → Carries b f hosts n.pipes → move_by f k part ≡ None → sink_acts b k n part ≡ Some m → ⊥
still_sink b n m f hosts k Takes c none q = still_takes b n m f hosts k (first_in (slice_get (map channel_of n.pipes) k)) c none refl q
still_sink b n m f hosts k Sends c none q = cc
still_sink b n m f hosts k Nothing c none q = cc

still_part : (b : Plan) (f : Fabric) (hosts k : ℕ) (pipes : List Pipe) → Carries b f hosts pipes → move_of f k ≡ None → move_by f k (part_at (slice_get b.rows k)) ≡ None
still_part b f hosts k pipes c none = ap (λ (rows : List LinkRow). move_by f k (part_at (slice_get rows k))) (sym c.rows) ∙ none

nobody : (b : Plan) (n m : Net) (w : World) (a : Actor) (count : ℕ) → Matches b w n count → Still w → acts b a n ≡ Some m → ⊥
nobody b n m w (Core core) count h s e = still_core b n m w core count (slice_get n.processes core) h s refl e
nobody b n m w (Source k) count h s e = still_source b n m w.fabric h.hosts k (part_at (slice_get b.rows k)) h.carries refl (still_part b w.fabric h.hosts k n.pipes h.carries (s.links k)) e
nobody b n m w (Sink k) count h s e = still_sink b n m w.fabric h.hosts k (part_at (slice_get b.rows k)) h.carries (still_part b w.fabric h.hosts k n.pipes h.carries (s.links k)) e

none_if : {X : Type 0} (o : Option X) → ((x : X) → o ≡ Some x → ⊥) → o ≡ None
none_if None h = refl
none_if (Some x) h = absurd (h x refl)

-- the run of the reference network that a run of the board is
pub reached_run : (b : BoardFile) (views : List View) (inputs : Inputs) (w : World) → IsNetwork b views → Reached b views inputs w → WorldRun (plan_of b inputs) (start b.links views) w 0
reached_run b views inputs w i r = sim_steps (plan_of b inputs) (start b.links views) r.first w r.events 0 (began_matches b views inputs r.first i r.began) r.ran

run_length : (b : BoardFile) (views : List View) (inputs : Inputs) (w : World) (i : IsNetwork b views) (r : Reached b views inputs w) → length (reached_run b views inputs w i r).acts_done ≡ acts_in w
run_length b views inputs w i r =
    let m = (reached_run b views inputs w i r).matches in
    omega (arith, m.counted, m.carries.count)

pub good_start : (b : BoardFile) (views : List View) → IsNetwork b views → Good (length views) (length b.links) (start b.links views)
good_start b views i = record { processes = length-map views began; pipes = length-map b.links unused; marked = marked_start b views i }

abbrev Ahead : Plan → ℕ → Net → Net → Type 0
Ahead b cores n m = (xs : List Actor) × Path (acts b) n xs m

ahead : (b : BoardFile) (views : List View) (inputs : Inputs) (w : World) (i : IsNetwork b views) (r : Reached b views inputs w) → Ahead (plan_of b inputs) (length views) (reached_run b views inputs w i r).net (plain b views inputs (acts_in w))
ahead b views inputs w i r =
    let p = plan_of b inputs in
    let q = reached_run b views inputs w i r in
    let good = Good (length views) (length b.links) in
    subst (λ k. Ahead p (length views) q.net (plain b views inputs k)) (run_length b views inputs w i r)
    (run_leads Net Actor (acts p) good (good_keeps p (length views) (length b.links)) same_actor (λ a c n sa sb g. diamond p a c n sa sb g.marked) (everyone (length views) (length b.links)) (everyone_in p (length views)) (start b.links views) (good_start b views i) q.net q.acts_done q.path)

pub prefix_law : (b : BoardFile) (views : List View) (inputs : Inputs) (w : World) → IsNetwork b views → Reached b views inputs w → (link : ℕ) → link < length b.links →
    IsPrefixOf (sent_on b.links link w.fabric.journal) (history (plain b views inputs (acts_in w)) link)
    × IsPrefixOf (got_on b.links link w.fabric.journal) (history (plain b views inputs (acts_in w)) link)
prefix_law b views inputs w i r link l =
    let q = reached_run b views inputs w i r in
    let g = good_along (plan_of b inputs) (length views) (length b.links) (start b.links views) q.net q.acts_done (good_start b views i) q.path in
    let p = slice_get_in q.net.pipes link (omega (arith, g.pipes)) in
    let t = q.matches.carries.recorded link p.0 p.1 in
    let a = ahead b views inputs w i r in
    let whole = history (plain b views inputs (acts_in w)) link in
    let grown = grows_along (plan_of b inputs) q.net (plain b views inputs (acts_in w)) a.0 link g.marked a.1 in
    let sent : IsPrefixOf p.0.sent whole = subst (λ o. IsPrefixOf (sent_through o) whole) p.1 grown in
    let got : IsPrefixOf (take p.0.taken p.0.sent) p.0.sent = (drop p.0.taken p.0.sent, take-append-drop p.0.taken p.0.sent) in (
      subst (λ xs. IsPrefixOf xs whole) t.sent sent,
      subst (λ xs. IsPrefixOf xs whole) t.got (prefix_trans _ _ _ got sent),
    )

pub rest_law : (b : BoardFile) (views : List View) (inputs : Inputs) (w : World) → IsNetwork b views → Reached b views inputs w → Still w → (more : ℕ) →
    (map process_of w.cores ≡ (plain b views inputs (more + acts_in w)).processes)
    × ((link : ℕ) → link < length b.links → sent_on b.links link w.fabric.journal ≡ history (plain b views inputs (more + acts_in w)) link)
rest_law b views inputs w i r s more =
    let p = plan_of b inputs in
    let q = reached_run b views inputs w i r in
    let good = Good (length views) (length b.links) in
    let g = good_along p (length views) (length b.links) (start b.links views) q.net q.acts_done (good_start b views i) q.path in
    let still = rest_is_rounds Net Actor (acts p) good (good_keeps p (length views) (length b.links)) same_actor (λ a c n sa sb g. diamond p a c n sa sb g.marked) (everyone (length views) (length b.links)) (everyone_in p (length views)) (start b.links views) (good_start b views i) q.net q.acts_done q.path (λ a. none_if (acts p a q.net) (λ m e. nobody p q.net m w a _ q.matches s e)) more in
    let same : plain b views inputs (more + acts_in w) ≡ q.net = ap (λ (k : ℕ). plain b views inputs (more + k)) (sym (run_length b views inputs w i r)) ∙ still in (
      sym q.matches.processes ∙ ap (λ (n : Net). n.processes) (sym same),
      λ link l.
          let z = slice_get_in q.net.pipes link (omega (arith, g.pipes)) in
          sym (q.matches.carries.recorded link z.0 z.1).sent ∙ ap sent_through (sym z.1) ∙ ap (λ (n : Net). history n link) (sym same),
    )

-- more rounds only add to a history
pub later_rounds : (b : BoardFile) (views : List View) (inputs : Inputs) → IsNetwork b views → (r k link : ℕ) → IsPrefixOf (history (plain b views inputs r) link) (history (plain b views inputs (k + r)) link)
later_rounds b views inputs i r k link =
    let p = plan_of b inputs in
    let good = Good (length views) (length b.links) in
    let g = rounds_good Net Actor (acts p) good (good_keeps p (length views) (length b.links)) same_actor (λ a c n sa sb g. diamond p a c n sa sb g.marked) (everyone (length views) (length b.links)) (everyone_in p (length views)) (start b.links views) (good_start b views i) r in
    let l = rounds_lead Net Actor (acts p) good (good_keeps p (length views) (length b.links)) same_actor (λ a c n sa sb g. diamond p a c n sa sb g.marked) (everyone (length views) (length b.links)) (everyone_in p (length views)) (start b.links views) (good_start b views i) r k in
    grows_along p (plain b views inputs r) (plain b views inputs (k + r)) l.0 link g.marked l.1
