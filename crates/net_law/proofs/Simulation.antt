-- Each step of the board machine is a run of the reference network's acts.
use Rattle.std.proofs.Common.{◌≡◌, ℕ, zero, suc, ◌+◌, List, [], ◌∷◌, ◌++◌, length, map, Option, Some, None, refl, ap, sym, ◌∙◌, subst, inl, inr, arith, slice_get, slice_set, Bool, true, false, cond, length-append, add-zero}
use Rattle.std.specs.Option.{option_map}
use Rattle.std.specs.List.{sum_by}
use Rattle.std.proofs.lemmas.Option.{slice_get-map, slice_get_within, get_or_from_slice_get}
use Rattle.std.proofs.lemmas.List.Sums.{sum_by-set}
use Rattle.std.proofs.lemmas.List.{map-set}
use Rattle.axi_link.specs.declared.item.Item.{Item}
use Rattle.axi_link.specs.Channel.{Channel}
use Rattle.core_regs.specs.declared.causes.WaitOn.{WaitOn}
use Rattle.isa_step.specs.Effects.{View, Effect, Due, Does, Waits, Sleeps, Ends, Stops, after}
use Rattle.isa_step.specs.Due.{due}
use Rattle.run_journal.specs.declared.entry.What.TheVariants.{Wait}
use Rattle.board_file.specs.declared.board.LinkRow.{LinkRow}
use Rattle.board_machine.specs.declared.events.Event.{Event}
use Rattle.board_machine.specs.declared.events.Event.TheVariants.{Devices, Host, Tick, Next}
use Rattle.board_machine.specs.declared.events.HostPart.{HostPart}
use Rattle.board_machine.specs.declared.events.HostPart.TheVariants.{Sends, Takes, Nothing}
use Rattle.board_machine.specs.Places.{touch}
use Rattle.board_machine.specs.Fabric.{Fabric, Feed, channel_at, entered, entered_some, first_in, got_of, host_moves, is_logged, link_from, link_to, move_by, moved, next_of, no_core, part_at, room_in, sent_of, shown, waited}
use Rattle.board_machine.specs.World.{World, CoreAt, TickStep, TickMay, IsAct, IsFilling, IsIdle, Step, Steps}
use Rattle.board_machine.proofs.Lists.{set_itself}
use Rattle.net_law.proofs.Confluence.{Path}
use Rattle.net_law.specs.Network.{Pipe, Plan, Process, Net, Actor, Core, Source, Sink, acts, channel_of, does, gave, ports_of, sink_acts, source_acts, to_come, took}
use Rattle.net_law.proofs.Parts.{core_acts, sends, takes}
use Rattle.net_law.specs.Law.{process_of}
use Rattle.net_law.proofs.Confluence.{path_append}
use Rattle.net_law.proofs.Flows.{flow_of, flows, channel_is}
use Rattle.net_law.proofs.Kahn.{IsOffered, is_process}
use Rattle.net_law.proofs.Diamond.{does_is, Marked, marked_keeps}
use Rattle.net_law.proofs.Calm.{devices_calm, same_calm}
use Rattle.net_law.proofs.Carried.{Carries, feed_at, note_carries, shown_is}
use Rattle.net_law.proofs.Entries.{effect_carries, first_is, first_shown, got_by_host, sent_by_host}

-- the host

-- a fabric is that of these pipes, and the reference network got there by a run of the host's moves
pub record HostRun (b : Plan) (n : Net) (hosts : ℕ) (g : Fabric) : Type 0 where
  pub acts_done : List Actor
  pub net : Net
  pub path : Path (acts b) n acts_done net
  pub processes : net.processes ≡ n.processes
  pub carries : Carries b g (hosts + length acts_done) net.pipes

host_done : (b : Plan) (n : Net) (f : Fabric) (hosts : ℕ) → Carries b f hosts n.pipes → HostRun b n hosts f
host_done b n f hosts c = record { acts_done = []; net = n; path = refl; processes = refl; carries = rw add-zero c }

host_then : (b : Plan) (n : Net) (g h : Fabric) (hosts : ℕ) (p : HostRun b n hosts g) → HostRun b p.net (hosts + length p.acts_done) h → HostRun b n hosts h
host_then b n g h hosts p q = record {
  acts_done = p.acts_done ++ q.acts_done;
  net = q.net;
  path = path_append (acts b) n p.net q.net p.acts_done q.acts_done p.path q.path;
  processes = q.processes ∙ p.processes;
  carries = subst (λ k. Carries b h k q.net.pipes) (let k : hosts + length p.acts_done + length q.acts_done ≡ hosts + length (p.acts_done ++ q.acts_done) = omega (arith, length-append p.acts_done q.acts_done) in k) q.carries;
}

pub room_inv : (o : Option Pipe) → room_in (option_map channel_of o) ≡ true → (p : Pipe) × (o ≡ Some p)
room_inv None e = cc
room_inv (Some p) e = (p, refl)

pub next_fed : (p : Pipe) (o : Option Feed) → next_of (option_map (feed_at p) o) ≡ to_come o (Some p)
next_fed p None = refl
next_fed p (Some d) = refl

sim_sends : (b : Plan) (n : Net) (f : Fabric) (hosts k : ℕ) (t : Bool) (o : Option Item) → part_at (slice_get b.rows k) ≡ Sends → room_in (slice_get f.links k) ≡ t → next_of (slice_get f.feeds k) ≡ o → Carries b f hosts n.pipes → HostRun b n hosts (entered_some no_core 0 (sent_of k (cond t o None)) f)
sim_sends b n f hosts k false o part e q c = host_done b n f hosts c
sim_sends b n f hosts k true None part e q c = host_done b n f hosts c
sim_sends b n f hosts k true (Some x) part e q c =
    let room : room_in (slice_get (map channel_of n.pipes) k) ≡ true = ap (λ (cs : List Channel). room_in (slice_get cs k)) (sym c.links) ∙ e in
    let p = room_inv (slice_get n.pipes k) (ap room_in (sym (channel_is n.pipes k)) ∙ room) in
    let come : to_come (slice_get b.feeds k) (slice_get n.pipes k) ≡ Some x = ap (to_come (slice_get b.feeds k)) p.1 ∙ sym (next_fed p.0 (slice_get b.feeds k)) ∙ ap next_of (sym (c.fed k p.0 part p.1)) ∙ q in
    let m : Net = record { processes = n.processes; pipes = touch (gave x) k n.pipes } in
    let a : acts b (Source k) n ≡ Some m = ap (source_acts b k n) part ∙ ap (λ r. sends k n r (to_come (slice_get b.feeds k) (slice_get n.pipes k))) room ∙ ap (sends k n true) come in
    record {
      acts_done = Source k ∷ [];
      net = m;
      path = (m, a, refl);
      processes = refl;
      carries = sent_by_host b f hosts n.pipes x k c;
    }

sim_takes : (b : Plan) (n : Net) (f : Fabric) (hosts k : ℕ) (o : Option Item) → part_at (slice_get b.rows k) ≡ Takes → first_in (slice_get f.links k) ≡ o → Carries b f hosts n.pipes → HostRun b n hosts (entered_some no_core 0 (got_of k o) f)
sim_takes b n f hosts k None part e c = host_done b n f hosts c
sim_takes b n f hosts k (Some x) part e c =
    let first : first_in (slice_get (map channel_of n.pipes) k) ≡ Some x = ap (λ (cs : List Channel). first_in (slice_get cs k)) (sym c.links) ∙ e in
    let m : Net = record { processes = n.processes; pipes = touch took k n.pipes } in
    let a : acts b (Sink k) n ≡ Some m = ap (sink_acts b k n) part ∙ ap (takes k n) first in
    record {
      acts_done = Sink k ∷ [];
      net = m;
      path = (m, a, refl);
      processes = refl;
      carries = got_by_host b f hosts n.pipes x k (first_is n.pipes k x first) c;
    }

sim_part : (b : Plan) (n : Net) (f : Fabric) (hosts k : ℕ) (part : HostPart) → part_at (slice_get b.rows k) ≡ part → Carries b f hosts n.pipes → HostRun b n hosts (entered_some no_core 0 (move_by f k part) f)
sim_part b n f hosts k Sends e c = sim_sends b n f hosts k (room_in (slice_get f.links k)) (next_of (slice_get f.feeds k)) e refl refl c
sim_part b n f hosts k Takes e c = sim_takes b n f hosts k (first_in (slice_get f.links k)) e refl c
sim_part b n f hosts k Nothing e c = host_done b n f hosts c

sim_move : (b : Plan) (n : Net) (f : Fabric) (hosts k : ℕ) → Carries b f hosts n.pipes → HostRun b n hosts (moved k f)
sim_move b n f hosts k c = sim_part b n f hosts k (part_at (slice_get f.rows k)) (ap (λ (rows : List LinkRow). part_at (slice_get rows k)) (sym c.rows)) c

pub sim_host : (b : Plan) (n : Net) (f : Fabric) (hosts k : ℕ) → Carries b f hosts n.pipes → HostRun b n hosts (host_moves f k)
sim_host b n f hosts zero c = host_done b n f hosts c
sim_host b n f hosts (suc k) c =
    let p = sim_host b n f hosts k c in
    host_then b n (host_moves f k) (host_moves f (suc k)) hosts p (sim_move b p.net (host_moves f k) (hosts + length p.acts_done) k p.carries)

-- the reference network has the cores and the links of the board, after so many acts
pub record Matches (b : Plan) (w : World) (n : Net) (count : ℕ) : Type 0 where
  pub processes : n.processes ≡ map process_of w.cores
  pub hosts : ℕ
  pub carries : Carries b w.fabric hosts n.pipes
  pub marked : Marked n
  pub counted : sum_by (λ (s : CoreAt). s.acts) w.cores + hosts ≡ count

pub record WorldRun (b : Plan) (n : Net) (v : World) (count : ℕ) : Type 0 where
  pub acts_done : List Actor
  pub net : Net
  pub path : Path (acts b) n acts_done net
  pub matches : Matches b v net (count + length acts_done)

sum_set : {X : Type 0} (f : X → ℕ) (xs : List X) (k : ℕ) (x y : X) → slice_get xs k ≡ Some x → sum_by f (slice_set xs k y) + f x ≡ sum_by f xs + f y
sum_set f xs k x y e = rw (← get_or_from_slice_get xs k x x e) (sum_by-set f xs k y x (slice_get_within xs k x e))

processes_after : (w v : World) (core : ℕ) (h : TickStep core w v) → map process_of v.cores ≡ slice_set (map process_of w.cores) core (process_of h.is)
processes_after w v core h = ap (map process_of) h.cores ∙ map-set process_of w.cores core h.is

process_there : (b : Plan) (n : Net) (w v : World) (core count : ℕ) (h : TickStep core w v) → Matches b w n count → slice_get n.processes core ≡ Some (process_of h.was)
process_there b n w v core count h m = ap (λ (ps : List Process). slice_get ps core) m.processes ∙ slice_get-map process_of w.cores core ∙ ap (option_map process_of) h.there

same_run : (b : Plan) (n : Net) (v : World) (count : ℕ) → Matches b v n count → WorldRun b n v count
same_run b n v count m = record { acts_done = []; net = n; path = refl; matches = rw add-zero m }

-- the core did no act
quiet : (b : Plan) (n : Net) (w v : World) (core count : ℕ) (h : TickStep core w v) (m : Matches b w n count) → process_of h.is ≡ process_of h.was → Carries b v.fabric m.hosts n.pipes → WorldRun b n v count
quiet b n w v core count h m same carries = same_run b n v count (record {
  processes = m.processes ∙ sym (processes_after w v core h ∙ ap (slice_set (map process_of w.cores) core) same
      ∙ set_itself (map process_of w.cores) core (process_of h.was) (sym (ap (λ (ps : List Process). slice_get ps core) m.processes) ∙ process_there b n w v core count h m));
  hosts = m.hosts;
  carries = carries;
  marked = m.marked;
  counted =
      let s = sum_set (λ (s : CoreAt). s.acts) w.cores core h.was h.is h.there in
      let a : h.is.acts ≡ h.was.acts = ap (λ (p : Process). p.acts) same in
      rw h.cores (omega (arith, s, a, m.counted));
})

quiet_same : (b : Plan) (n : Net) (w v : World) (core count : ℕ) (h : TickStep core w v) (m : Matches b w n count) → process_of h.is ≡ process_of h.was → v.fabric ≡ w.fabric → WorldRun b n v count
quiet_same b n w v core count h m same fabric = quiet b n w v core count h m same (subst (λ f. Carries b f m.hosts n.pipes) (sym fabric) m.carries)

quiet_idle : (b : Plan) (n : Net) (w v : World) (core count : ℕ) (h : TickStep core w v) → Matches b w n count → IsIdle h.was w.fabric h.is v.fabric → WorldRun b n v count
quiet_idle b n w v core count h m i = quiet_same b n w v core count h m (ap process_of i.state) i.fabric

quiet_filling : (b : Plan) (n : Net) (w v : World) (core count : ℕ) (h : TickStep core w v) → Matches b w n count → IsFilling h.was w.fabric h.is v.fabric → WorldRun b n v count
quiet_filling b n w v core count h m i = quiet_same b n w v core count h m (ap process_of i.state) i.fabric

wait_carries : (b : Plan) (pipes : List Pipe) (core act : ℕ) (on : WaitOn) (f : Fabric) (hosts : ℕ) (kept : Bool) → Carries b f hosts pipes → Carries b (cond kept f (entered core act (Wait on) f)) hosts pipes
wait_carries b pipes core act on f hosts true c = c
wait_carries b pipes core act on f hosts false c = note_carries b f hosts pipes core act (Wait on) (record { links = refl; feeds = refl; pending = refl; line = refl; put = refl; taken = refl; host = refl }) c

quiet_wait : (b : Plan) (n : Net) (w v : World) (core count : ℕ) (on : WaitOn) (h : TickStep core w v) → Matches b w n count → IsIdle h.was (waited core h.was.acts on w.fabric) h.is v.fabric → WorldRun b n v count
quiet_wait b n w v core count on h m i =
    quiet b n w v core count h m (ap process_of i.state)
    (subst (λ f. Carries b f m.hosts n.pipes) (sym i.fabric) (wait_carries b n.pipes core h.was.acts on w.fabric m.hosts (is_logged core h.was.acts w.fabric.journal) m.carries))

-- the core did the act that is due
act_offered : (b : Plan) (pipes : List Pipe) (core : ℕ) (v : View) (effect : Effect) → v.arch.network ≡ true → due v (ports_of b.rows (map channel_of pipes) core) ≡ Does effect → IsOffered (first_shown b pipes core) effect.action
act_offered b pipes core v effect h e =
    let f = λ (port : ℕ). first_in (channel_at (map channel_of pipes) (link_to b.rows core port)) in
    let r = λ (port : ℕ). room_in (channel_at (map channel_of pipes) (link_from b.rows core port)) in
    (is_process v f f r r effect h (λ port x q. q) (λ port q. q) e).moves

one_act : (b : Plan) (n : Net) (w v : World) (core count : ℕ) (effect : Effect) (h : TickStep core w v) → Matches b w n count → due h.was.view (shown w.fabric core) ≡ Does effect → IsAct core effect h.was w.fabric h.is v.fabric → WorldRun b n v count
one_act b n w v core count effect h m e act =
    let there = process_there b n w v core count h m in
    let d : due h.was.view (ports_of b.rows (map channel_of n.pipes) core) ≡ Does effect = ap (due h.was.view) (sym (shown_is b w.fabric m.hosts n.pipes core m.carries)) ∙ e in
    let net : Net = record {
      processes = slice_set n.processes core (record { view = after h.was.view effect; acts = h.was.acts + 1 });
      pipes = flows (flow_of b.rows core effect.action) n.pipes;
    } in
    let a : acts b (Core core) n ≡ Some net = ap (core_acts b core n) there ∙ ap (does b core n (process_of h.was)) d ∙ does_is b core n (process_of h.was) effect in
    record {
      acts_done = Core core ∷ [];
      net = net;
      path = (net, a, refl);
      matches = record {
        processes = ap (λ ps. slice_set ps core (record { view = after h.was.view effect; acts = h.was.acts + 1 })) m.processes
            ∙ sym (processes_after w v core h ∙ ap (λ (s : CoreAt). slice_set (map process_of w.cores) core (process_of s)) act.state);
        hosts = m.hosts;
        carries = subst (λ f. Carries b f m.hosts net.pipes) (sym act.fabric) (effect_carries b w.fabric m.hosts n.pipes core h.was.acts effect (act_offered b n.pipes core h.was.view effect (m.marked core (process_of h.was) there) d) m.carries);
        marked = marked_keeps b (Core core) n net m.marked a;
        counted =
            let s = sum_set (λ (s : CoreAt). s.acts) w.cores core h.was h.is h.there in
            let i : h.is.acts ≡ h.was.acts + 1 = ap (λ (s : CoreAt). s.acts) act.state in
            rw h.cores (omega (arith, s, i, m.counted));
      };
    }

sim_tick : (b : Plan) (n : Net) (w v : World) (core count : ℕ) (d : Due) (h : TickStep core w v) → Matches b w n count → due h.was.view (shown w.fabric core) ≡ d → TickMay core d h.was w.fabric h.is v.fabric → WorldRun b n v count
sim_tick b n w v core count (Does effect) h m e (inl act) = one_act b n w v core count effect h m e act
sim_tick b n w v core count (Does effect) h m e (inr i) = quiet_filling b n w v core count h m i
sim_tick b n w v core count (Waits port full) h m e (inl i) = quiet_wait b n w v core count (record { port = port; full = full }) h m i
sim_tick b n w v core count (Waits port full) h m e (inr i) = quiet_filling b n w v core count h m i
sim_tick b n w v core count Sleeps h m e i = quiet_idle b n w v core count h m i
sim_tick b n w v core count Ends h m e i = quiet_idle b n w v core count h m i
sim_tick b n w v core count (Stops cause) h m e i = quiet_idle b n w v core count h m i

-- one event is a run of acts
pub sim_step : (b : Plan) (n : Net) (w v : World) (e : Event) (count : ℕ) → Matches b w n count → Step w e v → WorldRun b n v count
sim_step b n w v (Tick core) count m h = sim_tick b n w v core count (due h.was.view (shown w.fabric core)) h m refl h.may
sim_step b n w v Devices count m h =
    let same : w ≡ v = sym (h ∙ ap (λ (f : Fabric). record w { fabric = f }) (devices_calm w.cores w.fabric m.carries.calm)) in
    subst (λ v. WorldRun b n v count) same (same_run b n w count m)
sim_step b n w v Host count m h =
    let r = sim_host b n w.fabric m.hosts (length w.fabric.rows) m.carries in
    subst (λ v. WorldRun b n v count) (sym h) (record {
      acts_done = r.acts_done;
      net = r.net;
      path = r.path;
      matches = record {
        processes = r.processes ∙ m.processes;
        hosts = m.hosts + length r.acts_done;
        carries = r.carries;
        marked = λ core p e. m.marked core p (ap (λ (ps : List Process). slice_get ps core) (sym r.processes) ∙ e);
        counted = omega (arith, m.counted);
      };
    })
sim_step b n w v Next count m h =
    let c = m.carries in
    subst (λ v. WorldRun b n v count) (sym h) (same_run b n (record w { fabric = record w.fabric { cycle = w.fabric.cycle + 1 } }) count (record {
      processes = m.processes;
      hosts = m.hosts;
      carries = record { rows = c.rows; links = c.links; recorded = c.recorded; fed = c.fed; calm = same_calm w.fabric (record w.fabric { cycle = w.fabric.cycle + 1 }) refl refl refl refl c.calm; count = c.count };
      marked = m.marked;
      counted = m.counted;
    }))

-- and so is a list of events
pub sim_steps : (b : Plan) (n : Net) (w v : World) (es : List Event) (count : ℕ) → Matches b w n count → Steps w es v → WorldRun b n v count
sim_steps b n w v [] count m h = same_run b n v count (subst (λ v. Matches b v n count) (sym h) m)
sim_steps b n w v (e ∷ es) count m h =
    let p = sim_step b n w h.0 e count m h.1 in
    let q = sim_steps b p.net h.0 v es (count + length p.acts_done) p.matches h.2 in
    record {
      acts_done = p.acts_done ++ q.acts_done;
      net = q.net;
      path = path_append (acts b) n p.net q.net p.acts_done q.acts_done p.path q.path;
      matches = subst (Matches b v q.net) (let k : count + length p.acts_done + length q.acts_done ≡ count + length (p.acts_done ++ q.acts_done) = omega (arith, length-append p.acts_done q.acts_done) in k) q.matches;
    }
