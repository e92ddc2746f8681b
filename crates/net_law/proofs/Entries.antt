-- An entry of a core or of the host moves the pipes as the act that made it does.
use Rattle.std.proofs.Common.{◌≡◌, ℕ, ◌+◌, List, [], ◌∷◌, ◌++◌, length, map, Option, Some, None, refl, ap, sym, ◌∙◌, inl, inr, ◌⊎◌, arith, slice_get, true, false, length-append, add-zero}
use Rattle.std.specs.Option.{option_map}
use Rattle.std.proofs.lemmas.Bool.{cases_eq}
use Rattle.axi_link.specs.declared.item.Item.{Item}
use Rattle.isa_step.specs.declared.acts.Act.{Act}
use Rattle.isa_step.specs.declared.acts.Act.TheVariants as kind
use Rattle.isa_step.specs.declared.acts.Action.{Action}
use Rattle.isa_step.specs.declared.acts.Action.TheVariants as action
use Rattle.isa_step.specs.Effects.{Effect}
use Rattle.run_journal.specs.declared.entry.What.TheVariants.{Got, Sent, Seen, Room, Missed, Read, ReadRefused, Wrote, WriteRefused, Raised, Slept, Stopped, HostSent, HostGot}
use Rattle.board_machine.specs.declared.events.HostPart.TheVariants.{Sends}
use Rattle.board_machine.specs.Places.{touch}
use Rattle.board_machine.specs.Fabric.{Fabric, Feed, act_leaves, advanced, channel_at, entered, entered_some, entries_of_action, entry_of, entry_of_act, first_in, link_from, link_to, no_core, part_at}
use Rattle.net_law.specs.Network.{Pipe, Plan, Core, Source, channel_of, gave, took}
use Rattle.net_law.proofs.Flows.{flow_of, flows, putting, taking, channel_is, first_of_drop, touch_same, touch_other}
use Rattle.net_law.proofs.Kahn.{IsOffered}
use Rattle.net_law.proofs.Diamond.{map_some, source_of, writer_of}
use Rattle.net_law.proofs.Calm.{same_calm}
use Rattle.net_law.proofs.Carried.{Carries, Fed, feed_at, hosts_push, links_after_got, links_after_put, note_carries, recorded_after_got, recorded_after_put}

-- the input files

fed_took_at : (b : Plan) (feeds : List Feed) (pipes : List Pipe) (l link : ℕ) (p : Pipe) → Fed b feeds pipes → (link ≡ l) ⊎ (link ≡ l → ⊥) → part_at (slice_get b.rows link) ≡ Sends → slice_get (touch took l pipes) link ≡ Some p → slice_get feeds link ≡ option_map (feed_at p) (slice_get b.feeds link)
fed_took_at b feeds pipes l link p fed (inr ne) w q = fed link p w (sym (touch_other took link l pipes ne) ∙ q)
fed_took_at b feeds pipes l link p fed (inl eq) w q =
    let d = map_some took (slice_get pipes link) p (sym (touch_same took link pipes) ∙ ap (λ m. slice_get (touch took m pipes) link) eq ∙ q) in
    fed link d.0 w d.1 ∙ ap (λ m. option_map (feed_at m) (slice_get b.feeds link)) d.2

fed_put_at : (b : Plan) (feeds : List Feed) (pipes : List Pipe) (l : ℕ) (x : Item) (link : ℕ) (p : Pipe) → (part_at (slice_get b.rows l) ≡ Sends → ⊥) → Fed b feeds pipes → (link ≡ l) ⊎ (link ≡ l → ⊥) → part_at (slice_get b.rows link) ≡ Sends → slice_get (touch (gave x) l pipes) link ≡ Some p → slice_get feeds link ≡ option_map (feed_at p) (slice_get b.feeds link)
fed_put_at b feeds pipes l x link p port_end fed (inr ne) w q = fed link p w (sym (touch_other (gave x) link l pipes ne) ∙ q)
fed_put_at b feeds pipes l x link p port_end fed (inl eq) w q = absurd (port_end (ap (λ k. part_at (slice_get b.rows k)) (sym eq) ∙ w))

advanced_at : (x : Item) (p : Pipe) (o : Option Feed) → option_map advanced (option_map (feed_at p) o) ≡ option_map (feed_at (gave x p)) o
advanced_at x p None = refl
advanced_at x p (Some d) = ap (λ n. let d : Feed = record { items = d.items; place = n } in Some d) (let k : length p.sent + 1 ≡ length (p.sent ++ x ∷ []) = omega (arith, length-append p.sent (x ∷ [])) in k)

fed_host_at : (b : Plan) (feeds : List Feed) (pipes : List Pipe) (l : ℕ) (x : Item) (link : ℕ) (p : Pipe) → Fed b feeds pipes → (link ≡ l) ⊎ (link ≡ l → ⊥) → part_at (slice_get b.rows link) ≡ Sends → slice_get (touch (gave x) l pipes) link ≡ Some p → slice_get (touch advanced l feeds) link ≡ option_map (feed_at p) (slice_get b.feeds link)
fed_host_at b feeds pipes l x link p fed (inr ne) w q = touch_other advanced link l feeds ne ∙ fed link p w (sym (touch_other (gave x) link l pipes ne) ∙ q)
fed_host_at b feeds pipes l x link p fed (inl eq) w q =
    let d = map_some (gave x) (slice_get pipes link) p (sym (touch_same (gave x) link pipes) ∙ ap (λ m. slice_get (touch (gave x) m pipes) link) eq ∙ q) in
    ap (λ m. slice_get (touch advanced m feeds) link) (sym eq) ∙ touch_same advanced link feeds ∙ ap (option_map advanced) (fed link d.0 w d.1) ∙ advanced_at x d.0 (slice_get b.feeds link) ∙ ap (λ m. option_map (feed_at m) (slice_get b.feeds link)) d.2

-- an entry of a core or of the host

got_by_core : (b : Plan) (f : Fabric) (hosts : ℕ) (pipes : List Pipe) (core act port : ℕ) (item : Item) (l : ℕ) → link_to b.rows core port ≡ Some l → ((p : Pipe) → slice_get pipes l ≡ Some p → slice_get p.sent p.taken ≡ Some item) → Carries b f hosts pipes → Carries b (entered core act (Got port item) f) hosts (touch took l pipes)
got_by_core b f hosts pipes core act port item l h first c = record {
  rows = c.rows;
  links = rw (c.rows, h, c.links) (sym (links_after_got l pipes));
  recorded = λ link p q. recorded_after_got b.rows f.journal _ l item pipes refl (ap (option_map (λ link. (link, item))) h) first c.recorded link p (cases_eq link l) q;
  fed = λ link p w q. fed_took_at b f.feeds pipes l link p c.fed (cases_eq link l) w q;
  calm = same_calm f (entered core act (Got port item) f) refl refl refl refl c.calm;
  count = hosts_push f.journal (entry_of f.cycle core act (Got port item)) false refl ∙ add-zero _ ∙ c.count;
}

not_source : (b : Plan) (core port l : ℕ) → link_from b.rows core port ≡ Some l → part_at (slice_get b.rows l) ≡ Sends → ⊥
not_source b core port l h w = let k : Some (Source l) ≡ Some (Core core) = sym (source_of b.rows l w) ∙ writer_of b.rows core port l h in cc

sent_by_core : (b : Plan) (f : Fabric) (hosts : ℕ) (pipes : List Pipe) (core act port : ℕ) (item : Item) (l : ℕ) → link_from b.rows core port ≡ Some l → Carries b f hosts pipes → Carries b (entered core act (Sent port item) f) hosts (touch (gave item) l pipes)
sent_by_core b f hosts pipes core act port item l h c = record {
  rows = c.rows;
  links = rw (c.rows, h, c.links) (sym (links_after_put b.rows f.journal l item pipes c.recorded));
  recorded = λ link p q. recorded_after_put b.rows f.journal _ l item pipes (ap (option_map (λ link. (link, item))) h) refl c.recorded link p (cases_eq link l) q;
  fed = λ link p w q. fed_put_at b f.feeds pipes l item link p (not_source b core port l h) c.fed (cases_eq link l) w q;
  calm = same_calm f (entered core act (Sent port item) f) refl refl refl refl c.calm;
  count = hosts_push f.journal (entry_of f.cycle core act (Sent port item)) false refl ∙ add-zero _ ∙ c.count;
}

pub got_by_host : (b : Plan) (f : Fabric) (hosts : ℕ) (pipes : List Pipe) (item : Item) (l : ℕ) → ((p : Pipe) → slice_get pipes l ≡ Some p → slice_get p.sent p.taken ≡ Some item) → Carries b f hosts pipes → Carries b (entered no_core 0 (HostGot l item) f) (hosts + 1) (touch took l pipes)
got_by_host b f hosts pipes item l first c = record {
  rows = c.rows;
  links = rw c.links (sym (links_after_got l pipes));
  recorded = λ link p q. recorded_after_got b.rows f.journal _ l item pipes refl refl first c.recorded link p (cases_eq link l) q;
  fed = λ link p w q. fed_took_at b f.feeds pipes l link p c.fed (cases_eq link l) w q;
  calm = same_calm f (entered no_core 0 (HostGot l item) f) refl refl refl refl c.calm;
  count = hosts_push f.journal (entry_of f.cycle no_core 0 (HostGot l item)) true refl ∙ ap (λ n. n + 1) c.count;
}

pub sent_by_host : (b : Plan) (f : Fabric) (hosts : ℕ) (pipes : List Pipe) (item : Item) (l : ℕ) → Carries b f hosts pipes → Carries b (entered no_core 0 (HostSent l item) f) (hosts + 1) (touch (gave item) l pipes)
sent_by_host b f hosts pipes item l c = record {
  rows = c.rows;
  links = rw c.links (sym (links_after_put b.rows f.journal l item pipes c.recorded));
  recorded = λ link p q. recorded_after_put b.rows f.journal _ l item pipes refl refl c.recorded link p (cases_eq link l) q;
  fed = λ link p w q. fed_host_at b f.feeds pipes l item link p c.fed (cases_eq link l) w q;
  calm = same_calm f (entered no_core 0 (HostSent l item) f) refl refl refl refl c.calm;
  count = hosts_push f.journal (entry_of f.cycle no_core 0 (HostSent l item)) true refl ∙ ap (λ n. n + 1) c.count;
}

-- the action of a core's act, and then the entry of the act itself

pub first_is : (pipes : List Pipe) (l : ℕ) (x : Item) → first_in (slice_get (map channel_of pipes) l) ≡ Some x → (p : Pipe) → slice_get pipes l ≡ Some p → slice_get p.sent p.taken ≡ Some x
first_is pipes l x h p e = sym (first_of_drop p.taken p.sent) ∙ sym (ap first_in (channel_is pipes l ∙ ap (option_map channel_of) e)) ∙ h

got_carries : (b : Plan) (f : Fabric) (hosts : ℕ) (pipes : List Pipe) (core act port : ℕ) (item : Item) (o : Option ℕ) → link_to b.rows core port ≡ o → first_in (channel_at (map channel_of pipes) o) ≡ Some item → Carries b f hosts pipes → Carries b (entered core act (Got port item) f) hosts (flows (taking o) pipes)
got_carries b f hosts pipes core act port item None h first c = cc
got_carries b f hosts pipes core act port item (Some l) h first c = got_by_core b f hosts pipes core act port item l h (first_is pipes l item first) c

sent_carries : (b : Plan) (f : Fabric) (hosts : ℕ) (pipes : List Pipe) (core act port : ℕ) (item : Item) (o : Option ℕ) → link_from b.rows core port ≡ o → Carries b f hosts pipes → Carries b (entered core act (Sent port item) f) hosts (flows (putting item o) pipes)
sent_carries b f hosts pipes core act port item None h c = note_carries b f hosts pipes core act (Sent port item) (record {
  links = rw (c.rows, h) refl;
  feeds = refl;
  pending = refl;
  line = refl;
  put = rw h refl;
  taken = refl;
  host = refl;
}) c
sent_carries b f hosts pipes core act port item (Some l) h c = sent_by_core b f hosts pipes core act port item l h c

abbrev pub first_shown : Plan → List Pipe → ℕ → ℕ → Option Item
first_shown b pipes core port = first_in (channel_at (map channel_of pipes) (link_to b.rows core port))

action_carries : (b : Plan) (f : Fabric) (hosts : ℕ) (pipes : List Pipe) (core act : ℕ) (o : Option Action) → IsOffered (first_shown b pipes core) o → Carries b f hosts pipes → Carries b (entered_some core act (entries_of_action o) f) hosts (flows (flow_of b.rows core o) pipes)
action_carries b f hosts pipes core act None h c = c
action_carries b f hosts pipes core act (Some (action.Got port item)) h c = got_carries b f hosts pipes core act port item (link_to b.rows core port) refl h c
action_carries b f hosts pipes core act (Some (action.Sent port item)) h c = sent_carries b f hosts pipes core act port item (link_from b.rows core port) refl c
action_carries b f hosts pipes core act (Some (action.Seen port item)) h c = note_carries b f hosts pipes core act (Seen port item) (record { links = refl; feeds = refl; pending = refl; line = refl; put = refl; taken = refl; host = refl }) c
action_carries b f hosts pipes core act (Some (action.Room port)) h c = note_carries b f hosts pipes core act (Room port) (record { links = refl; feeds = refl; pending = refl; line = refl; put = refl; taken = refl; host = refl }) c
action_carries b f hosts pipes core act (Some (action.Missed port full)) h c = note_carries b f hosts pipes core act (Missed port full) (record { links = refl; feeds = refl; pending = refl; line = refl; put = refl; taken = refl; host = refl }) c
action_carries b f hosts pipes core act (Some (action.Read addr word)) h c = note_carries b f hosts pipes core act (Read addr word) (record { links = refl; feeds = refl; pending = refl; line = refl; put = refl; taken = refl; host = refl }) c
action_carries b f hosts pipes core act (Some (action.ReadRefused addr)) h c = note_carries b f hosts pipes core act (ReadRefused addr) (record { links = refl; feeds = refl; pending = refl; line = refl; put = refl; taken = refl; host = refl }) c
action_carries b f hosts pipes core act (Some (action.Wrote addr word)) h c = note_carries b f hosts pipes core act (Wrote addr word) (record { links = refl; feeds = refl; pending = refl; line = refl; put = refl; taken = refl; host = refl }) c
action_carries b f hosts pipes core act (Some (action.WriteRefused addr word)) h c = note_carries b f hosts pipes core act (WriteRefused addr word) (record { links = refl; feeds = refl; pending = refl; line = refl; put = refl; taken = refl; host = refl }) c
action_carries b f hosts pipes core act (Some (action.Took t)) h c = absurd h

act_carries : (b : Plan) (f : Fabric) (hosts : ℕ) (pipes : List Pipe) (core act : ℕ) (a : Act) → Carries b f hosts pipes → Carries b (entered_some core act (entry_of_act a) f) hosts pipes
act_carries b f hosts pipes core act kind.Retired c = c
act_carries b f hosts pipes core act (kind.Took t) c = c
act_carries b f hosts pipes core act kind.Slept c = note_carries b f hosts pipes core act Slept (record { links = refl; feeds = refl; pending = refl; line = refl; put = refl; taken = refl; host = refl }) c
act_carries b f hosts pipes core act (kind.Raised esr) c = note_carries b f hosts pipes core act (Raised esr) (record { links = refl; feeds = refl; pending = refl; line = refl; put = refl; taken = refl; host = refl }) c
act_carries b f hosts pipes core act (kind.Stopped cause) c = note_carries b f hosts pipes core act (Stopped cause) (record { links = refl; feeds = refl; pending = refl; line = refl; put = refl; taken = refl; host = refl }) c

pub effect_carries : (b : Plan) (f : Fabric) (hosts : ℕ) (pipes : List Pipe) (core act : ℕ) (effect : Effect) → IsOffered (first_shown b pipes core) effect.action → Carries b f hosts pipes → Carries b (act_leaves core act effect f) hosts (flows (flow_of b.rows core effect.action) pipes)
effect_carries b f hosts pipes core act effect h c = act_carries b (entered_some core act (entries_of_action effect.action) f) hosts (flows (flow_of b.rows core effect.action) pipes) core act effect.done.act (action_carries b f hosts pipes core act effect.action h c)
