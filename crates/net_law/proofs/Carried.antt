-- A fabric carries the pipes of the reference network, and an entry moves both alike.
use Rattle.std.proofs.Common.{◌≡◌, ℕ, zero, suc, ◌+◌, ◌≤◌, List, [], ◌∷◌, ◌++◌, length, map, take, drop, filter, Option, Some, None, refl, ap, sym, ◌∙◌, subst, inl, inr, ◌⊎◌, arith, slice_get, Bool, true, false, cond, length-append, set, add-one, add-zero}
use Rattle.std.specs.Option.{option_map}
use Rattle.std.specs.List.{cons_option}
use Rattle.std.proofs.Math.Seq.{take-suc}
use Rattle.std.proofs.lemmas.Option.{get_or_from_slice_get, slice_get-map, slice_get_within}
use Rattle.std.proofs.lemmas.Bool.{eq-eqb, ne_eqb}
use Rattle.std.proofs.lemmas.List.{drop-append-le, map-set, take-append-le, append-nil}
use Rattle.std.proofs.lemmas.List.Elements.{filter-append, filter_map-append}
use Rattle.axi_link.specs.declared.item.Item.{Item}
use Rattle.axi_link.specs.Channel.{Channel, with_newest, without_oldest}
use Rattle.isa_step.specs.declared.acts.Breaks.{Breaks}
use Rattle.run_journal.specs.declared.entry.Entry.{Entry}
use Rattle.run_journal.specs.declared.entry.What.{What}
use Rattle.board_file.specs.declared.board.LinkRow.{LinkRow}
use Rattle.board_machine.specs.declared.events.HostPart.TheVariants.{Sends}
use Rattle.board_machine.specs.Places.{set_some, touch}
use Rattle.board_machine.specs.Fabric.{Fabric, Feed, entered, entry_of, feeds_after, line_set, line_told, links_after, or_low, or_none, part_at, pending_after, shown}
use Rattle.net_law.specs.Network.{Pipe, Plan, channel_of, gave, ports_of, took}
use Rattle.net_law.specs.Law.{got_on, is_move_of_host, on_link, put_of, sent_on, taken_of}
use Rattle.net_law.proofs.Flows.{touch_same, touch_other}
use Rattle.net_law.proofs.Diamond.{map_some}
use Rattle.net_law.proofs.Calm.{Calm, shown_calm}

-- what the journal says of one pipe
pub record Recorded (rows : List LinkRow) (journal : List Entry) (link : ℕ) (p : Pipe) : Type 0 where
  pub whole : p.taken ≤ length p.sent
  pub sent : p.sent ≡ sent_on rows link journal
  pub got : take p.taken p.sent ≡ got_on rows link journal

-- the input file of a link, as far as it was sent
abbrev pub feed_at : Pipe → Feed → Feed
feed_at p d = record { items = d.items; place = length p.sent }

abbrev pub Fed : Plan → List Feed → List Pipe → Type 0
Fed b feeds pipes = (link : ℕ) (p : Pipe) → part_at (slice_get b.rows link) ≡ Sends → slice_get pipes link ≡ Some p → slice_get feeds link ≡ option_map (feed_at p) (slice_get b.feeds link)

abbrev pub AllRecorded : List LinkRow → List Entry → List Pipe → Type 0
AllRecorded rows journal pipes = (link : ℕ) (p : Pipe) → slice_get pipes link ≡ Some p → Recorded rows journal link p

abbrev pub hosts_in : List Entry → ℕ
hosts_in journal = length (filter (λ (e : Entry). is_move_of_host e.what) journal)

pub record Carries (b : Plan) (f : Fabric) (hosts : ℕ) (pipes : List Pipe) : Type 0 where
  pub rows : f.rows ≡ b.rows
  pub links : f.links ≡ map channel_of pipes
  pub recorded : AllRecorded b.rows f.journal pipes
  pub fed : Fed b f.feeds pipes
  pub calm : Calm f
  pub count : hosts_in f.journal ≡ hosts

-- what the ports show
pub shown_is : (b : Plan) (f : Fabric) (hosts : ℕ) (pipes : List Pipe) (core : ℕ) → Carries b f hosts pipes → shown f core ≡ ports_of b.rows (map channel_of pipes) core
shown_is b f hosts pipes core c = shown_calm f core c.calm ∙ ap (λ rows. ports_of rows f.links core) c.rows ∙ ap (λ links. ports_of b.rows links core) c.links

map_set_some : {X Y : Type 0} (v : X → Y) (f : X → X) (g : Y → Y) (k : ℕ) (xs : List X) (o : Option X) → ((x : X) → o ≡ Some x → v (f x) ≡ g (v x)) → map v (set_some xs k f o) ≡ set_some (map v xs) k g (option_map v o)
map_set_some v f g k xs None h = refl
map_set_some v f g k xs (Some x) h = map-set v xs k (f x) ∙ ap (set (map v xs) k) (h x refl)

pub map_touch : {X Y : Type 0} (v : X → Y) (f : X → X) (g : Y → Y) (k : ℕ) (xs : List X) → ((x : X) → slice_get xs k ≡ Some x → v (f x) ≡ g (v x)) → map v (touch f k xs) ≡ touch g k (map v xs)
map_touch v f g k xs h = map_set_some v f g k xs (slice_get xs k) h ∙ ap (set_some (map v xs) k g) (sym (slice_get-map v xs k))

drop_suc : {X : Type 0} (n : ℕ) (xs : List X) → drop (suc n) xs ≡ drop 1 (drop n xs)
drop_suc zero xs = refl
drop_suc (suc n) [] = refl
drop_suc (suc n) (x ∷ xs) = drop_suc n xs

drop_one : {X : Type 0} (n : ℕ) (xs : List X) → drop (n + 1) xs ≡ drop 1 (drop n xs)
drop_one n xs = rw add-one (drop_suc n xs)

take_one : {X : Type 0} (n : ℕ) (xs : List X) (x : X) → slice_get xs n ≡ Some x → take (suc n) xs ≡ take n xs ++ x ∷ []
take_one n xs x e = take-suc xs n x (slice_get_within xs n x e) ∙ ap (λ y. take n xs ++ y ∷ []) (get_or_from_slice_get xs n x x e)

on_same : (l : ℕ) (x : Item) → on_link l (Some (l, x)) ≡ Some x
on_same l x = rw (eq-eqb l l refl) refl

on_other : (link l : ℕ) (x : Item) → (link ≡ l → ⊥) → on_link link (Some (l, x)) ≡ None
on_other link l x ne = rw (ne_eqb l link (λ e. ne (sym e))) refl

sent_push : (rows : List LinkRow) (link : ℕ) (journal : List Entry) (e : Entry) (m : Option (ℕ × Item)) (o : Option Item) → put_of rows e.core e.what ≡ m → on_link link m ≡ o → sent_on rows link (journal ++ e ∷ []) ≡ sent_on rows link journal ++ cons_option o []
sent_push rows link journal e m o h k = filter_map-append (λ (e : Entry). on_link link (put_of rows e.core e.what)) journal (e ∷ []) ∙ ap (λ p. sent_on rows link journal ++ cons_option p []) (ap (on_link link) h ∙ k)

got_push : (rows : List LinkRow) (link : ℕ) (journal : List Entry) (e : Entry) (m : Option (ℕ × Item)) (o : Option Item) → taken_of rows e.core e.what ≡ m → on_link link m ≡ o → got_on rows link (journal ++ e ∷ []) ≡ got_on rows link journal ++ cons_option o []
got_push rows link journal e m o h k = filter_map-append (λ (e : Entry). on_link link (taken_of rows e.core e.what)) journal (e ∷ []) ∙ ap (λ p. got_on rows link journal ++ cons_option p []) (ap (on_link link) h ∙ k)

pub hosts_push : (journal : List Entry) (e : Entry) (t : Bool) → is_move_of_host e.what ≡ t → hosts_in (journal ++ e ∷ []) ≡ hosts_in journal + cond t 1 0
hosts_push journal e true h = rw (filter-append (λ (e : Entry). is_move_of_host e.what) journal (e ∷ []), length-append (filter (λ (e : Entry). is_move_of_host e.what) journal), h) refl
hosts_push journal e false h = rw (filter-append (λ (e : Entry). is_move_of_host e.what) journal (e ∷ []), length-append (filter (λ (e : Entry). is_move_of_host e.what) journal), h) refl

-- what stays recorded of a pipe that the entry isn't about
recorded_other : (rows : List LinkRow) (journal : List Entry) (e : Entry) (link : ℕ) (p : Pipe) → on_link link (put_of rows e.core e.what) ≡ None → on_link link (taken_of rows e.core e.what) ≡ None → Recorded rows journal link p → Recorded rows (journal ++ e ∷ []) link p
recorded_other rows journal e link p h k t = record {
  whole = t.whole;
  sent = t.sent ∙ sym (sent_push rows link journal e _ None refl h ∙ append-nil _);
  got = t.got ∙ sym (got_push rows link journal e _ None refl k ∙ append-nil _);
}

recorded_put : (rows : List LinkRow) (journal : List Entry) (e : Entry) (link : ℕ) (x : Item) (p : Pipe) → put_of rows e.core e.what ≡ Some (link, x) → taken_of rows e.core e.what ≡ None → Recorded rows journal link p → Recorded rows (journal ++ e ∷ []) link (gave x p)
recorded_put rows journal e link x p h k t = record {
  whole = omega (arith, t.whole, length-append p.sent (x ∷ []));
  sent = ap (λ xs. xs ++ x ∷ []) t.sent ∙ sym (sent_push rows link journal e _ (Some x) h (on_same link x));
  got = take-append-le p.taken p.sent (x ∷ []) t.whole ∙ t.got ∙ sym (got_push rows link journal e _ None k refl ∙ append-nil _);
}

recorded_got : (rows : List LinkRow) (journal : List Entry) (e : Entry) (link : ℕ) (x : Item) (p : Pipe) → put_of rows e.core e.what ≡ None → taken_of rows e.core e.what ≡ Some (link, x) → slice_get p.sent p.taken ≡ Some x → Recorded rows journal link p → Recorded rows (journal ++ e ∷ []) link (took p)
recorded_got rows journal e link x p h k first t = record {
  whole = omega (arith, slice_get_within p.sent p.taken x first);
  sent = t.sent ∙ sym (sent_push rows link journal e _ None h refl ∙ append-nil _);
  got = rw add-one (take_one p.taken p.sent x first ∙ ap (λ xs. xs ++ x ∷ []) t.got ∙ sym (got_push rows link journal e _ (Some x) k (on_same link x)));
}

-- the links of a fabric, at a link
pub link_is : (f : Fabric) (pipes : List Pipe) (link : ℕ) → f.links ≡ map channel_of pipes → slice_get f.links link ≡ option_map channel_of (slice_get pipes link)
link_is f pipes link e = ap (λ (cs : List Channel). slice_get cs link) e ∙ slice_get-map channel_of pipes link

-- an item goes into a link
pub recorded_after_put : (rows : List LinkRow) (journal : List Entry) (e : Entry) (l : ℕ) (x : Item) (pipes : List Pipe) → put_of rows e.core e.what ≡ Some (l, x) → taken_of rows e.core e.what ≡ None → AllRecorded rows journal pipes → (link : ℕ) (p : Pipe) → (link ≡ l) ⊎ (link ≡ l → ⊥) → slice_get (touch (gave x) l pipes) link ≡ Some p → Recorded rows (journal ++ e ∷ []) link p
recorded_after_put rows journal e l x pipes h k recorded link p (inr ne) q =
    recorded_other rows journal e link p (ap (on_link link) h ∙ on_other link l x ne) (ap (on_link link) k) (recorded link p (sym (touch_other (gave x) link l pipes ne) ∙ q))
recorded_after_put rows journal e l x pipes h k recorded link p (inl eq) q =
    let d = map_some (gave x) (slice_get pipes link) p (sym (touch_same (gave x) link pipes) ∙ ap (λ m. slice_get (touch (gave x) m pipes) link) eq ∙ q) in
    subst (Recorded rows (journal ++ e ∷ []) link) d.2 (recorded_put rows journal e link x d.0 (h ∙ ap (λ m. Some (m, x)) (sym eq)) k (recorded link d.0 d.1))

pub recorded_after_got : (rows : List LinkRow) (journal : List Entry) (e : Entry) (l : ℕ) (x : Item) (pipes : List Pipe) → put_of rows e.core e.what ≡ None → taken_of rows e.core e.what ≡ Some (l, x) → ((p : Pipe) → slice_get pipes l ≡ Some p → slice_get p.sent p.taken ≡ Some x) → AllRecorded rows journal pipes → (link : ℕ) (p : Pipe) → (link ≡ l) ⊎ (link ≡ l → ⊥) → slice_get (touch took l pipes) link ≡ Some p → Recorded rows (journal ++ e ∷ []) link p
recorded_after_got rows journal e l x pipes h k first recorded link p (inr ne) q =
    recorded_other rows journal e link p (ap (on_link link) h) (ap (on_link link) k ∙ on_other link l x ne) (recorded link p (sym (touch_other took link l pipes ne) ∙ q))
recorded_after_got rows journal e l x pipes h k first recorded link p (inl eq) q =
    let d = map_some took (slice_get pipes link) p (sym (touch_same took link pipes) ∙ ap (λ m. slice_get (touch took m pipes) link) eq ∙ q) in
    subst (Recorded rows (journal ++ e ∷ []) link) d.2 (recorded_got rows journal e link x d.0 h (k ∙ ap (λ m. Some (m, x)) (sym eq)) (first d.0 (ap (slice_get pipes) (sym eq) ∙ d.1)) (recorded link d.0 d.1))

-- the links move alike
pub links_after_put : (rows : List LinkRow) (journal : List Entry) (l : ℕ) (x : Item) (pipes : List Pipe) → AllRecorded rows journal pipes → map channel_of (touch (gave x) l pipes) ≡ touch (with_newest x) l (map channel_of pipes)
links_after_put rows journal l x pipes recorded = map_touch channel_of (gave x) (with_newest x) l pipes (λ p e. ap (λ (xs : List Item). let c : Channel = record { depth = p.depth; items = xs } in c) (drop-append-le p.taken p.sent (x ∷ []) (recorded l p e).whole))

pub links_after_got : (l : ℕ) (pipes : List Pipe) → map channel_of (touch took l pipes) ≡ touch without_oldest l (map channel_of pipes)
links_after_got l pipes = map_touch channel_of took without_oldest l pipes (λ p e. ap (λ (xs : List Item). let c : Channel = record { depth = p.depth; items = xs } in c) (drop_one p.taken p.sent))

-- an entry that moves no item and clears no flag
pub record IsNote (b : Plan) (core : ℕ) (what : What) (f : Fabric) : Type 0 where
  pub links : links_after f.rows core what f.links ≡ f.links
  pub feeds : feeds_after what f.feeds ≡ f.feeds
  pub pending : pending_after core what f.pending ≡ f.pending
  pub line : line_told what ≡ None
  pub put : put_of b.rows core what ≡ None
  pub taken : taken_of b.rows core what ≡ None
  pub host : is_move_of_host what ≡ false

pub note_carries : (b : Plan) (f : Fabric) (hosts : ℕ) (pipes : List Pipe) (core act : ℕ) (what : What) → IsNote b core what f → Carries b f hosts pipes → Carries b (entered core act what f) hosts pipes
note_carries b f hosts pipes core act what i c = record {
  rows = c.rows;
  links = i.links ∙ c.links;
  recorded = λ link p q. recorded_other b.rows f.journal _ link p (ap (on_link link) i.put) (ap (on_link link) i.taken) (c.recorded link p q);
  fed = λ link p w q. ap (λ (ds : List Feed). slice_get ds link) i.feeds ∙ c.fed link p w q;
  calm = record {
    line = λ k. ap (λ t. or_low (slice_get (line_set core t f.lines) k)) i.line ∙ c.calm.line k;
    breaks = λ k. ap (λ (bs : List Breaks). or_none (slice_get bs k)) i.pending ∙ c.calm.breaks k;
    left = c.calm.left;
    bus = c.calm.bus;
  };
  count = hosts_push f.journal (entry_of f.cycle core act what) false i.host ∙ add-zero _ ∙ c.count;
}
