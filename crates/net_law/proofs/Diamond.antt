-- Acts of different actors commute.
use Rattle.std.proofs.Common.{◌≡◌, ℕ, zero, suc, ◌+◌, List, [], ◌∷◌, map, Option, Some, None, refl, ap, sym, ◌∙◌, subst, inl, inr, ◌⊎◌, slice_get, slice_set, get_or, Bool, true, false, ◌==◌, position}
use Rattle.std.specs.Option.{option_map}
use Rattle.std.proofs.lemmas.Option.{same_Some, slice_get-get_or}
use Rattle.std.proofs.lemmas.Bool.{cases_eq, eqb-true}
use Rattle.std.proofs.lemmas.List.Quantifiers.{position-Some}
use Rattle.axi_link.specs.declared.item.Item.{Item}
use Rattle.isa_step.specs.declared.acts.Action.{Action}
use Rattle.isa_step.specs.declared.acts.Action.TheVariants.{Got, Sent, Seen, Room, Missed, Read, ReadRefused, Wrote, WriteRefused, Took}
use Rattle.isa_step.specs.Effects.{Effect, Due, Does, Waits, Sleeps, Ends, Stops, after}
use Rattle.isa_step.specs.Due.{due}
use Rattle.board_file.specs.declared.board.LinkRow.{LinkRow}
use Rattle.board_file.specs.declared.board.End.{End}
use Rattle.board_file.specs.declared.board.End.TheVariants.{Port, File}
use Rattle.board_machine.specs.declared.events.HostPart.{HostPart}
use Rattle.board_machine.specs.declared.events.HostPart.TheVariants.{Sends, Takes, Nothing}
use Rattle.board_machine.specs.Fabric.{channel_at, first_in, is_port, link_from, link_to, part_at, part_by, room_in}
use Rattle.board_machine.proofs.Lists.{slice_get_set_same, slice_get_set_other, and_left}
use Rattle.net_law.specs.Network.{Pipe, Process, Net, Actor, Core, Source, Sink, Plan, acts, channel_of, does, ports_of, sink_acts, source_acts, to_come}
use Rattle.net_law.proofs.Parts.{core_acts, sends, takes}
use Rattle.net_law.proofs.Flows.{pipes_is, Flow, Still, Take, Put, flow_of, flows, putting, taking, Apart, come_stays, first_at, first_stays, flows_comm, room_at, room_stays}
use Rattle.net_law.proofs.Kahn.{is_process}

pub map_some : {T U : Type 0} (f : T → U) (o : Option T) (y : U) → option_map f o ≡ Some y → (x : T) × (o ≡ Some x) × (f x ≡ y)
map_some f None y e = cc
map_some f (Some x) y e = (x, refl, same_Some (f x) y e)

-- who takes items out of a link, and who puts them in

abbrev pub at_end : Actor → End → Actor
at_end file (Port core port) = Core core
at_end file (File name) = file

abbrev pub reader : List LinkRow → ℕ → Option Actor
reader rows link = option_map (λ (r : LinkRow). at_end (Sink link) r.to) (slice_get rows link)

abbrev pub writer : List LinkRow → ℕ → Option Actor
writer rows link = option_map (λ (r : LinkRow). at_end (Source link) r.from) (slice_get rows link)

port_is : (file : Actor) (core port : ℕ) (e : End) → is_port core port e ≡ true → at_end file e ≡ Core core
port_is file core port (Port c p) h = ap Core (eqb-true c core (and_left (c == core) (p == port) h))
port_is file core port (File name) h = cc

found : (p : LinkRow → Bool) (rows : List LinkRow) (k : ℕ) → position p rows ≡ Some k → (r : LinkRow) × (slice_get rows k ≡ Some r) × (p r ≡ true)
found p [] k e = cc
found p (d ∷ rows) k e =
    let h = position-Some p (d ∷ rows) k d e in
    (get_or (d ∷ rows) k d, slice_get-get_or (d ∷ rows) k d h.0, h.1)

pub reader_of : (rows : List LinkRow) (core port link : ℕ) → link_to rows core port ≡ Some link → reader rows link ≡ Some (Core core)
reader_of rows core port link e =
    let r = found (λ (r : LinkRow). is_port core port r.to) rows link e in
    rw r.1 (ap Some (port_is (Sink link) core port r.0.to r.2))

pub writer_of : (rows : List LinkRow) (core port link : ℕ) → link_from rows core port ≡ Some link → writer rows link ≡ Some (Core core)
writer_of rows core port link e =
    let r = found (λ (r : LinkRow). is_port core port r.from) rows link e in
    rw r.1 (ap Some (port_is (Source link) core port r.0.from r.2))

sends_from : (link : ℕ) (r : LinkRow) (from to : End) → part_by from to ≡ Sends → at_end (Source link) from ≡ Source link
sends_from link r (File name) to e = refl
sends_from link r (Port core port) (File name) e = cc
sends_from link r (Port core port) (Port c p) e = cc

takes_to : (link : ℕ) (r : LinkRow) (from to : End) → part_by from to ≡ Takes → at_end (Sink link) to ≡ Sink link
takes_to link r (File name) to e = cc
takes_to link r (Port core port) (File name) e = refl
takes_to link r (Port core port) (Port c p) e = cc

source_at : (link : ℕ) (o : Option LinkRow) → part_at o ≡ Sends → option_map (λ (r : LinkRow). at_end (Source link) r.from) o ≡ Some (Source link)
source_at link None e = cc
source_at link (Some r) e = ap Some (sends_from link r r.from r.to e)

sink_at : (link : ℕ) (o : Option LinkRow) → part_at o ≡ Takes → option_map (λ (r : LinkRow). at_end (Sink link) r.to) o ≡ Some (Sink link)
sink_at link None e = cc
sink_at link (Some r) e = ap Some (takes_to link r r.from r.to e)

pub source_of : (rows : List LinkRow) (link : ℕ) → part_at (slice_get rows link) ≡ Sends → writer rows link ≡ Some (Source link)
source_of rows link e = source_at link (slice_get rows link) e

pub sink_of : (rows : List LinkRow) (link : ℕ) → part_at (slice_get rows link) ≡ Takes → reader rows link ≡ Some (Sink link)
sink_of rows link e = sink_at link (slice_get rows link) e

-- what an act changes is the actor's own

abbrev pub FlowBy : List LinkRow → Actor → Flow → Type 0
FlowBy rows a Still = Unit {0}
FlowBy rows a (Take link) = reader rows link ≡ Some a
FlowBy rows a (Put link item) = writer rows link ≡ Some a

abbrev pub MovesBy : Actor → Option (ℕ × Process) → Type 0
MovesBy a None = Unit {0}
MovesBy a (Some m) = a ≡ Core m.0

abbrev pub become : Option (ℕ × Process) → List Process → List Process
become None ps = ps
become (Some m) ps = slice_set ps m.0 m.1

taking_by : (rows : List LinkRow) (core port : ℕ) (o : Option ℕ) → link_to rows core port ≡ o → FlowBy rows (Core core) (taking o)
taking_by rows core port None e = tt
taking_by rows core port (Some link) e = reader_of rows core port link e

putting_by : (rows : List LinkRow) (core port : ℕ) (item : Item) (o : Option ℕ) → link_from rows core port ≡ o → FlowBy rows (Core core) (putting item o)
putting_by rows core port item None e = tt
putting_by rows core port item (Some link) e = writer_of rows core port link e

flow_by : (rows : List LinkRow) (core : ℕ) (o : Option Action) → FlowBy rows (Core core) (flow_of rows core o)
flow_by rows core None = tt
flow_by rows core (Some (Got port item)) = taking_by rows core port (link_to rows core port) refl
flow_by rows core (Some (Sent port item)) = putting_by rows core port item (link_from rows core port) refl
flow_by rows core (Some (Seen p y)) = tt
flow_by rows core (Some (Room p)) = tt
flow_by rows core (Some (Missed p f)) = tt
flow_by rows core (Some (Read p y)) = tt
flow_by rows core (Some (ReadRefused p)) = tt
flow_by rows core (Some (Wrote p y)) = tt
flow_by rows core (Some (WriteRefused p y)) = tt
flow_by rows core (Some (Took t)) = tt

-- what an actor sees stays, or there is more of it
record Stays (b : Plan) (a : Actor) (n k : Net) : Type 0 where
  process : (core : ℕ) → a ≡ Core core → slice_get k.processes core ≡ slice_get n.processes core
  first : (l : ℕ) (x : Item) → reader b.rows l ≡ Some a → first_at n.pipes l ≡ Some x → first_at k.pipes l ≡ Some x
  room : (l : ℕ) → writer b.rows l ≡ Some a → room_at n.pipes l ≡ true → room_at k.pipes l ≡ true
  come : (l : ℕ) → writer b.rows l ≡ Some a → to_come (slice_get b.feeds l) (slice_get k.pipes l) ≡ to_come (slice_get b.feeds l) (slice_get n.pipes l)

abbrev pub moved : Net → Option (ℕ × Process) → Flow → Net
moved n m f = record { processes = become m n.processes; pipes = flows f n.pipes }

-- an act: what it changes, and that it is done alike wherever what its actor sees stays
pub record Acted (b : Plan) (n : Net) (a : Actor) (k : Net) : Type 0 where
  pub moves : Option (ℕ × Process)
  pub flow : Flow
  pub is : k ≡ moved n moves flow
  pub mover : MovesBy a moves
  pub carrier : FlowBy b.rows a flow
  pub mark : (m : ℕ × Process) → moves ≡ Some m → m.1.view.arch.network ≡ true
  pub there : (m : ℕ × Process) → moves ≡ Some m → (p : Process) × (slice_get n.processes m.0 ≡ Some p)
  again : (t : Net) → Stays b a n t → acts b a t ≡ Some (moved t moves flow)

-- each view has the network mark
abbrev pub Marked : Net → Type 0
Marked n = (core : ℕ) (p : Process) → slice_get n.processes core ≡ Some p → p.view.arch.network ≡ true

more_at : (b : Plan) (core : ℕ) (n t : Net) (port : ℕ) (x : Item) (o : Option ℕ) → Stays b (Core core) n t → link_to b.rows core port ≡ o → first_in (channel_at (map channel_of n.pipes) o) ≡ Some x → first_in (channel_at (map channel_of t.pipes) o) ≡ Some x
more_at b core n t port x None s e h = cc
more_at b core n t port x (Some l) s e h = s.first l x (reader_of b.rows core port l e) h

roomier_at : (b : Plan) (core : ℕ) (n t : Net) (port : ℕ) (o : Option ℕ) → Stays b (Core core) n t → link_from b.rows core port ≡ o → room_in (channel_at (map channel_of n.pipes) o) ≡ true → room_in (channel_at (map channel_of t.pipes) o) ≡ true
roomier_at b core n t port None s e h = cc
roomier_at b core n t port (Some l) s e h = s.room l (writer_of b.rows core port l e) h

-- what a core does in a net, and in one in which what it sees stays
process_stays : (b : Plan) (core : ℕ) (n t : Net) (p : Process) (effect : Effect) → p.view.arch.network ≡ true → Stays b (Core core) n t → due p.view (ports_of b.rows (map channel_of n.pipes) core) ≡ Does effect → due p.view (ports_of b.rows (map channel_of t.pipes) core) ≡ Does effect
process_stays b core n t p effect h s e =
    (is_process p.view
    (λ port. first_in (channel_at (map channel_of n.pipes) (link_to b.rows core port))) (λ port. first_in (channel_at (map channel_of t.pipes) (link_to b.rows core port)))
    (λ port. room_in (channel_at (map channel_of n.pipes) (link_from b.rows core port))) (λ port. room_in (channel_at (map channel_of t.pipes) (link_from b.rows core port)))
    effect h (λ port x. more_at b core n t port x (link_to b.rows core port) s refl) (λ port. roomier_at b core n t port (link_from b.rows core port) s refl) e).again

mark_stays : (b : Plan) (core : ℕ) (n : Net) (p : Process) (effect : Effect) → p.view.arch.network ≡ true → due p.view (ports_of b.rows (map channel_of n.pipes) core) ≡ Does effect → effect.arch.network ≡ true
mark_stays b core n p effect h e =
    let f = λ (port : ℕ). first_in (channel_at (map channel_of n.pipes) (link_to b.rows core port)) in
    let r = λ (port : ℕ). room_in (channel_at (map channel_of n.pipes) (link_from b.rows core port)) in
    (is_process p.view f f r r effect h (λ port x q. q) (λ port q. q) e).mark_stays ∙ h

pub does_is : (b : Plan) (core : ℕ) (n : Net) (p : Process) (effect : Effect) → does b core n p (Does effect) ≡ Some (moved n (Some (core, record { view = after p.view effect; acts = p.acts + 1 })) (flow_of b.rows core effect.action))
does_is b core n p effect = ap (λ (pipes : List Pipe). let x : Net = record { processes = slice_set n.processes core (record { view = after p.view effect; acts = p.acts + 1 }); pipes = pipes } in Some x) (pipes_is b.rows core effect.action n.pipes)

does_acted : (b : Plan) (core : ℕ) (n k : Net) (p : Process) (d : Due) → slice_get n.processes core ≡ Some p → p.view.arch.network ≡ true → due p.view (ports_of b.rows (map channel_of n.pipes) core) ≡ d → does b core n p d ≡ Some k → Acted b n (Core core) k
does_acted b core n k p (Does effect) at h e q = record {
  moves = Some (core, record { view = after p.view effect; acts = p.acts + 1 });
  flow = flow_of b.rows core effect.action;
  is = sym (same_Some _ _ (sym (does_is b core n p effect) ∙ q));
  mover = refl;
  carrier = flow_by b.rows core effect.action;
  mark = λ m z. subst (λ (m : ℕ × Process). m.1.view.arch.network ≡ true) (same_Some _ _ z) (mark_stays b core n p effect h e);
  there = λ m z. subst (λ (m : ℕ × Process). (p : Process) × (slice_get n.processes m.0 ≡ Some p)) (same_Some _ _ z) (p, at);
  again = λ t s. ap (core_acts b core t) (s.process core refl ∙ at) ∙ ap (does b core t p) (process_stays b core n t p effect h s e) ∙ does_is b core t p effect;
}
does_acted b core n k p (Waits port full) at h e q = cc
does_acted b core n k p Sleeps at h e q = cc
does_acted b core n k p Ends at h e q = cc
does_acted b core n k p (Stops cause) at h e q = cc

core_acted : (b : Plan) (core : ℕ) (n k : Net) (o : Option Process) → slice_get n.processes core ≡ o → Marked n → core_acts b core n o ≡ Some k → Acted b n (Core core) k
core_acted b core n k None at h q = cc
core_acted b core n k (Some p) at h q = does_acted b core n k p (due p.view (ports_of b.rows (map channel_of n.pipes) core)) at (h core p at) refl q

send_acted : (b : Plan) (link : ℕ) (n k : Net) (t : Bool) (o : Option Item) → part_at (slice_get b.rows link) ≡ Sends → room_at n.pipes link ≡ t → to_come (slice_get b.feeds link) (slice_get n.pipes link) ≡ o → sends link n t o ≡ Some k → Acted b n (Source link) k
send_acted b link n k false o part e f q = cc
send_acted b link n k true None part e f q = cc
send_acted b link n k true (Some item) part e f q =
    let w = source_of b.rows link part in
    record {
      moves = None;
      flow = Put link item;
      is = sym (same_Some _ _ q);
      mover = tt;
      carrier = w;
      mark = λ m z. cc;
      there = λ m z. cc;
      again = λ t s. ap (source_acts b link t) part ∙ ap (λ r. sends link t r (to_come (slice_get b.feeds link) (slice_get t.pipes link))) (s.room link w e) ∙ ap (sends link t true) (s.come link w ∙ f);
    }

source_acted : (b : Plan) (link : ℕ) (n k : Net) (part : HostPart) → part_at (slice_get b.rows link) ≡ part → source_acts b link n part ≡ Some k → Acted b n (Source link) k
source_acted b link n k Sends e q = send_acted b link n k (room_at n.pipes link) (to_come (slice_get b.feeds link) (slice_get n.pipes link)) e refl refl q
source_acted b link n k Takes e q = cc
source_acted b link n k Nothing e q = cc

take_acted : (b : Plan) (link : ℕ) (n k : Net) (o : Option Item) → part_at (slice_get b.rows link) ≡ Takes → first_at n.pipes link ≡ o → takes link n o ≡ Some k → Acted b n (Sink link) k
take_acted b link n k None part e q = cc
take_acted b link n k (Some item) part e q =
    let r = sink_of b.rows link part in
    record {
      moves = None;
      flow = Take link;
      is = sym (same_Some _ _ q);
      mover = tt;
      carrier = r;
      mark = λ m z. cc;
      there = λ m z. cc;
      again = λ t s. ap (sink_acts b link t) part ∙ ap (takes link t) (s.first link item r e);
    }

sink_acted : (b : Plan) (link : ℕ) (n k : Net) (part : HostPart) → part_at (slice_get b.rows link) ≡ part → sink_acts b link n part ≡ Some k → Acted b n (Sink link) k
sink_acted b link n k Takes e q = take_acted b link n k (first_at n.pipes link) e refl q
sink_acted b link n k Sends e q = cc
sink_acted b link n k Nothing e q = cc

pub acted : (b : Plan) (n : Net) (a : Actor) (k : Net) → Marked n → acts b a n ≡ Some k → Acted b n a k
acted b n (Core core) k h q = core_acted b core n k (slice_get n.processes core) refl h q
acted b n (Source link) k h q = source_acted b link n k (part_at (slice_get b.rows link)) refl q
acted b n (Sink link) k h q = sink_acted b link n k (part_at (slice_get b.rows link)) refl q

flows_apart : (rows : List LinkRow) (a c : Actor) (f g : Flow) → (a ≡ c → ⊥) → FlowBy rows a f → FlowBy rows c g → Apart f g
flows_apart rows a c Still g ne h k = tt
flows_apart rows a c (Take l) Still ne h k = tt
flows_apart rows a c (Take l) (Take m) ne h k = λ e. ne (same_Some a c (sym h ∙ ap (reader rows) e ∙ k))
flows_apart rows a c (Take l) (Put m y) ne h k = tt
flows_apart rows a c (Put l x) Still ne h k = tt
flows_apart rows a c (Put l x) (Take m) ne h k = tt
flows_apart rows a c (Put l x) (Put m y) ne h k = λ e. ne (same_Some a c (sym h ∙ ap (writer rows) e ∙ k))

set_comm : {X : Type 0} (xs : List X) (j k : ℕ) (x y : X) → (j ≡ k → ⊥) → slice_set (slice_set xs k y) j x ≡ slice_set (slice_set xs j x) k y
set_comm [] j k x y h = refl
set_comm (z ∷ xs) zero zero x y h = absurd (h refl)
set_comm (z ∷ xs) zero (suc k) x y h = refl
set_comm (z ∷ xs) (suc j) zero x y h = refl
set_comm (z ∷ xs) (suc j) (suc k) x y h = ap (λ ys. z ∷ ys) (set_comm xs j k x y (λ e. h (ap suc e)))

become_comm : (a c : Actor) (m k : Option (ℕ × Process)) (ps : List Process) → (a ≡ c → ⊥) → MovesBy a m → MovesBy c k → become m (become k ps) ≡ become k (become m ps)
become_comm a c None k ps ne h j = refl
become_comm a c (Some m) None ps ne h j = refl
become_comm a c (Some m) (Some k) ps ne h j = set_comm ps m.0 k.0 m.1 k.1 (λ e. ne (h ∙ ap Core e ∙ sym j))

process_kept : (core : ℕ) (a c : Actor) (k : Option (ℕ × Process)) (ps : List Process) → (a ≡ c → ⊥) → a ≡ Core core → MovesBy c k → slice_get (become k ps) core ≡ slice_get ps core
process_kept core a c None ps ne e j = refl
process_kept core a c (Some k) ps ne e j = slice_get_set_other ps core k.0 k.1 (λ q. ne (e ∙ ap Core q ∙ sym j))

some_item : Item
some_item = record { word = 0; control = false }

-- an act of another actor leaves what this one sees
stays : (b : Plan) (n k : Net) (a c : Actor) → (a ≡ c → ⊥) → (p : Acted b n c k) → Stays b a n (moved n p.moves p.flow)
stays b n k a c ne p = record {
  process = λ core e. process_kept core a c p.moves n.processes ne e p.mover;
  first = λ l x r. first_stays p.flow n.pipes l x (flows_apart b.rows a c (Take l) p.flow ne r p.carrier);
  room = λ l w. room_stays p.flow n.pipes l some_item (flows_apart b.rows a c (Put l some_item) p.flow ne w p.carrier);
  come = λ l w. come_stays (slice_get b.feeds l) p.flow n.pipes l some_item (flows_apart b.rows a c (Put l some_item) p.flow ne w p.carrier);
}

half : (b : Plan) (n m k : Net) (a c : Actor) → (a ≡ c → ⊥) → (p : Acted b n a m) (q : Acted b n c k) → acts b c m ≡ Some (moved (moved n p.moves p.flow) q.moves q.flow)
half b n m k a c ne p q = ap (acts b c) p.is ∙ q.again (moved n p.moves p.flow) (stays b n m c a (λ e. ne (sym e)) p)

pub diamond : (b : Plan) (a c : Actor) (n m k : Net) → Marked n → (a ≡ c → ⊥) → acts b a n ≡ Some m → acts b c n ≡ Some k → (t : Net) × (acts b c m ≡ Some t) × (acts b a k ≡ Some t)
diamond b a c n m k h ne e f =
    let p = acted b n a m h e in
    let q = acted b n c k h f in
    let processes = become_comm a c p.moves q.moves n.processes ne p.mover q.mover in
    let pipes = flows_comm p.flow q.flow n.pipes (flows_apart b.rows a c p.flow q.flow ne p.carrier q.carrier) in
    let same : moved (moved n q.moves q.flow) p.moves p.flow ≡ moved (moved n p.moves p.flow) q.moves q.flow = cc in
    (moved (moved n p.moves p.flow) q.moves q.flow, half b n m k a c ne p q, half b n k m c a (λ e. ne (sym e)) q p ∙ ap Some same)

mark_set : (ps : List Process) (core i : ℕ) (p q r : Process) → ((k : ℕ) (p : Process) → slice_get ps k ≡ Some p → p.view.arch.network ≡ true) → slice_get ps i ≡ Some r → p.view.arch.network ≡ true → (core ≡ i) ⊎ (core ≡ i → ⊥) → slice_get (slice_set ps i p) core ≡ Some q → q.view.arch.network ≡ true
mark_set ps core i p q r h there m (inl e) s = subst (λ (q : Process). q.view.arch.network ≡ true) (same_Some _ _ (sym (slice_get_set_same ps i r p there) ∙ ap (slice_get (slice_set ps i p)) (sym e) ∙ s)) m
mark_set ps core i p q r h there m (inr ne) s = h core q (sym (slice_get_set_other ps core i p ne) ∙ s)

mark_moved : (n : Net) (m : Option (ℕ × Process)) (f : Flow) → Marked n → ((k : ℕ × Process) → m ≡ Some k → k.1.view.arch.network ≡ true) → ((k : ℕ × Process) → m ≡ Some k → (p : Process) × (slice_get n.processes k.0 ≡ Some p)) → Marked (moved n m f)
mark_moved n None f h mark there = h
mark_moved n (Some k) f h mark there = λ core q s. let t = there k refl in mark_set n.processes core k.0 k.1 q t.0 h t.1 (mark k refl) (cases_eq core k.0) s

-- the marks stay
pub marked_keeps : (b : Plan) (a : Actor) (n k : Net) → Marked n → acts b a n ≡ Some k → Marked k
marked_keeps b a n k h e =
    let p = acted b n a k h e in
    subst Marked (sym p.is) (mark_moved n p.moves p.flow h p.mark p.there)
