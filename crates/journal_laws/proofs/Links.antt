-- The links are what the journal says of them, and each entry stands where it may.
use Rattle.std.proofs.Common.{◌≡◌, ℕ, zero, suc, ◌+◌, ◌<◌, ◌≤◌, ◌==◌, List, [], ◌∷◌, ◌++◌, length, drop, map, filter, Option, Some, None, refl, ap, sym, ◌∙◌, subst, inl, inr, ◌⊎◌, arith, slice_get, slice_set, Bool, true, false, cond, nat_lt, length-append, length-drop}
use Rattle.std.specs.Option.{option_map}
use Rattle.std.proofs.lemmas.List.{append-nil, drop-append-le, drop-drop}
use Rattle.std.proofs.lemmas.Bool.{cases_eq, eq-eqb, ne_eqb, eqb-true, ltb-true, le-ltb, ltb-false}
use Rattle.std.proofs.lemmas.Option.{slice_get-map}
use Rattle.axi_link.specs.declared.item.Item.{Item}
use Rattle.axi_link.specs.Channel.{Channel, empty, with_newest, without_oldest}
use Rattle.board_file.specs.declared.board.LinkRow.{LinkRow}
use Rattle.run_journal.specs.declared.entry.Entry.{Entry}
use Rattle.run_journal.specs.declared.entry.What.{What}
use Rattle.run_journal.specs.declared.entry.What.TheVariants.{Got, Sent, HostSent, HostGot}
use Rattle.board_machine.specs.Places.{touch}
use Rattle.board_machine.specs.Fabric.{changed, channel_at, first_in, link_from, link_to, links_after, room_in}
use Rattle.board_machine.proofs.Lists.{slice_get_set_same, slice_get_set_other}
use Rattle.journal_laws.specs.Progress.{as_one}
use Rattle.journal_laws.specs.LinkLaw.{HasFirst, HasRoom, IsShut, LinkLaw, LinksFit, MayStand, depth_of, holds, is_link, link_recorded, put_by, put_into, taken_from, takes_from}
use Rattle.journal_laws.proofs.Lists.{map_some, map_none, split_more, split_at_more, no_split, no_split_at, one_or_none, filter_map_more, filter_more}

pub record Linked (rows : List LinkRow) (links : List Channel) (journal : List Entry) : Type 0 where
  pub items : (l : ℕ) (c : Channel) → slice_get links l ≡ Some c → c.items ≡ holds rows l journal
  pub depth : (l : ℕ) (c : Channel) → slice_get links l ≡ Some c → c.depth ≡ depth_of (slice_get rows l)
  pub beyond : (l : ℕ) → slice_get links l ≡ None → (put_into rows l journal ≡ []) × (depth_of (slice_get rows l) ≡ 0)
  pub taken : (l : ℕ) → taken_from rows l journal ≤ length (put_into rows l journal)
  pub fits : (l : ℕ) → length (holds rows l journal) ≤ depth_of (slice_get rows l)

-- one link after an entry
abbrev pub moved_by : Option Item → Bool → Channel → Channel
moved_by None false c = c
moved_by None true c = without_oldest c
moved_by (Some x) false c = with_newest x c
moved_by (Some x) true c = c

map_same : (o : Option Channel) → o ≡ option_map (λ (c : Channel). c) o
map_same None = refl
map_same (Some c) = refl

touch_at : (change : Channel → Channel) (links : List Channel) (k l : ℕ) (o : Option Channel) → slice_get links k ≡ o → (k ≡ l) ⊎ (k ≡ l → ⊥) → slice_get (touch change k links) l ≡ option_map (λ c. cond (k == l) (change c) c) (slice_get links l)
touch_at change links k l None e (inl s) = rw e (subst (λ l. slice_get links l ≡ option_map (λ c. cond (k == l) (change c) c) (slice_get links l)) s (rw e refl))
touch_at change links k l (Some x) e (inl s) = rw e (subst (λ l. slice_get (slice_set links k (change x)) l ≡ option_map (λ c. cond (k == l) (change c) c) (slice_get links l)) s (rw (e, eq-eqb k k refl) (slice_get_set_same links k x (change x) e)))
touch_at change links k l None e (inr n) = rw (e, ne_eqb k l n) (map_same (slice_get links l))
touch_at change links k l (Some x) e (inr n) = rw (e, ne_eqb k l n) (slice_get_set_other links l k (change x) (λ s. n (sym s)) ∙ map_same (slice_get links l))

changed_at : (change : Channel → Channel) (links : List Channel) (o : Option ℕ) (l : ℕ) → slice_get (changed change links o) l ≡ option_map (λ c. cond (is_link l o) (change c) c) (slice_get links l)
changed_at change links None l = map_same (slice_get links l)
changed_at change links (Some k) l = touch_at change links k l (slice_get links k) refl (cases_eq k l)

take_moves : (t : Bool) (o : Option Channel) → option_map (λ c. cond t (without_oldest c) c) o ≡ option_map (moved_by None t) o
take_moves true o = refl
take_moves false o = refl

put_moves : (t : Bool) (item : Item) (o : Option Channel) → option_map (λ c. cond t (with_newest item c) c) o ≡ option_map (moved_by (cond {A = Option Item} t (Some item) None) false) o
put_moves true item o = refl
put_moves false item o = refl

links_move : (rows : List LinkRow) (core : ℕ) (what : What) (links : List Channel) (l : ℕ) → slice_get (links_after rows core what links) l ≡ option_map (moved_by (put_by rows l core what) (takes_from rows l core what)) (slice_get links l)
links_move rows core (Got port item) links l = changed_at without_oldest links (link_to rows core port) l ∙ take_moves (is_link l (link_to rows core port)) (slice_get links l)
links_move rows core (HostGot link item) links l = changed_at without_oldest links (Some link) l ∙ take_moves (link == l) (slice_get links l)
links_move rows core (Sent port item) links l = changed_at (with_newest item) links (link_from rows core port) l ∙ put_moves (is_link l (link_from rows core port)) item (slice_get links l)
links_move rows core (HostSent link item) links l = changed_at (with_newest item) links (Some link) l ∙ put_moves (link == l) item (slice_get links l)
links_move rows core _ links l = map_same (slice_get links l)

-- what an entry that stands demands of each link
record Demands (rows : List LinkRow) (journal : List Entry) (l : ℕ) (put : Option Item) (took : Bool) : Type 0 where
  puts : (x : Item) → put ≡ Some x → length (holds rows l journal) < depth_of (slice_get rows l)
  takes : took ≡ true → taken_from rows l journal < length (put_into rows l journal)
  one : (x : Item) → put ≡ Some x → took ≡ false

has_one : (xs : List Item) (n : ℕ) (x : Item) → slice_get (drop n xs) 0 ≡ Some x → n < length xs
has_one [] zero x h = cc
has_one [] (suc n) x h = cc
has_one (y ∷ xs) zero x h = omega arith
has_one (y ∷ xs) (suc n) x h = let i = has_one xs n x h in omega (arith, i)

take_demands : (rows : List LinkRow) (journal : List Entry) (l : ℕ) (item : Item) (o : Option ℕ) → HasFirst item (link_recorded rows journal o) → Demands rows journal l None (is_link l o)
take_demands rows journal l item None h = cc
take_demands rows journal l item (Some k) h = record {
  puts = λ x e. cc;
  takes = λ e. subst (λ k. taken_from rows k journal < length (put_into rows k journal)) (eqb-true k l e) (has_one (put_into rows k journal) (taken_from rows k journal) item h);
  one = λ x e. cc;
}

put_demands : (rows : List LinkRow) (journal : List Entry) (l : ℕ) (item : Item) (o : Option ℕ) (t : Bool) → is_link l o ≡ t → HasRoom (link_recorded rows journal o) → Demands rows journal l (cond {A = Option Item} t (Some item) None) false
put_demands rows journal l item o false i h = record { puts = λ x e. cc; takes = λ e. cc; one = λ x e. refl }
put_demands rows journal l item None true i h = cc
put_demands rows journal l item (Some k) true i h = record {
  puts = λ x e. subst (λ k. length (holds rows k journal) < depth_of (slice_get rows k)) (eqb-true k l i) h;
  takes = λ e. cc;
  one = λ x e. refl;
}

demands : (rows : List LinkRow) (journal : List Entry) (l core : ℕ) (what : What) → MayStand rows journal core what → Demands rows journal l (put_by rows l core what) (takes_from rows l core what)
demands rows journal l core (Got port item) h = take_demands rows journal l item (link_to rows core port) h
demands rows journal l core (HostGot link item) h = take_demands rows journal l item (Some link) h
demands rows journal l core (Sent port item) h = put_demands rows journal l item (link_from rows core port) (is_link l (link_from rows core port)) refl h
demands rows journal l core (HostSent link item) h = put_demands rows journal l item (Some link) (link == l) refl h
demands rows journal l core _ h = record { puts = λ x e. cc; takes = λ e. cc; one = λ x e. cc }

pub put_more : (rows : List LinkRow) (l : ℕ) (journal : List Entry) (e : Entry) → put_into rows l (journal ++ e ∷ []) ≡ put_into rows l journal ++ one_or_none (put_by rows l e.core e.what)
put_more rows l journal e = filter_map_more (λ (e : Entry). put_by rows l e.core e.what) journal e (put_by rows l e.core e.what) refl

length_one : (t : Bool) (e : Entry) → length (cond t (e ∷ []) []) ≡ as_one t
length_one true e = refl
length_one false e = refl

taken_more : (rows : List LinkRow) (l : ℕ) (journal : List Entry) (e : Entry) → taken_from rows l (journal ++ e ∷ []) ≡ taken_from rows l journal + as_one (takes_from rows l e.core e.what)
taken_more rows l journal e =
    let p = λ (e : Entry). takes_from rows l e.core e.what in
    ap length (filter_more p journal e (p e) refl) ∙ length-append (filter p journal) (cond (p e) (e ∷ []) []) ∙ ap (λ n. length (filter p journal) + n) (length_one (p e) e)

-- one link's items later an entry, and how many they are
pub record After (rows : List LinkRow) (journal : List Entry) (e : Entry) (l : ℕ) (put : Option Item) (took : Bool) : Type 0 where
  pub items : (c : Channel) → c.items ≡ holds rows l journal → (moved_by put took c).items ≡ holds rows l (journal ++ e ∷ [])
  pub taken : taken_from rows l (journal ++ e ∷ []) ≤ length (put_into rows l (journal ++ e ∷ []))
  pub fits : length (holds rows l (journal ++ e ∷ [])) ≤ depth_of (slice_get rows l)

same_depth : (put : Option Item) (took : Bool) (c : Channel) → (moved_by put took c).depth ≡ c.depth
same_depth None false c = refl
same_depth None true c = refl
same_depth (Some x) false c = refl
same_depth (Some x) true c = refl

holds_by : (rows : List LinkRow) (journal : List Entry) (e : Entry) (l : ℕ) (put : Option Item) (took : Bool) → put_by rows l e.core e.what ≡ put → takes_from rows l e.core e.what ≡ took → holds rows l (journal ++ e ∷ []) ≡ drop (taken_from rows l journal + as_one took) (put_into rows l journal ++ one_or_none put)
holds_by rows journal e l put took p t =
    ap (λ n. drop n (put_into rows l (journal ++ e ∷ []))) (taken_more rows l journal e ∙ ap (λ b. taken_from rows l journal + as_one b) t)
    ∙ ap (drop (taken_from rows l journal + as_one took)) (put_more rows l journal e ∙ ap (λ o. put_into rows l journal ++ one_or_none o) p)

length_one_more : (xs : List Item) (x : Item) → length (xs ++ x ∷ []) ≡ length xs + 1
length_one_more xs x = length-append xs (x ∷ [])

after_by : (rows : List LinkRow) (journal : List Entry) (e : Entry) (l : ℕ) (put : Option Item) (took : Bool) → put_by rows l e.core e.what ≡ put → takes_from rows l e.core e.what ≡ took → taken_from rows l journal ≤ length (put_into rows l journal) → length (holds rows l journal) ≤ depth_of (slice_get rows l) → Demands rows journal l put took → After rows journal e l put took
after_by rows journal e l None false p t n f d =
    let h : holds rows l (journal ++ e ∷ []) ≡ holds rows l journal = holds_by rows journal e l None false p t ∙ ap (λ k. drop k (put_into rows l journal ++ [])) add-zero-right ∙ ap (drop (taken_from rows l journal)) (append-nil (put_into rows l journal)) in
    record {
      items = λ c i. i ∙ sym h;
      taken = rw (taken_more rows l journal e, put_more rows l journal e, p, t, append-nil (put_into rows l journal)) (omega (arith, n));
      fits = subst (λ (xs : List Item). length xs ≤ depth_of (slice_get rows l)) (sym h) f;
    }
  where
    add-zero-right : taken_from rows l journal + 0 ≡ taken_from rows l journal
    add-zero-right = omega arith
after_by rows journal e l None true p t n f d =
    let h : holds rows l (journal ++ e ∷ []) ≡ drop 1 (holds rows l journal) = holds_by rows journal e l None true p t ∙ ap (drop (taken_from rows l journal + 1)) (append-nil (put_into rows l journal)) ∙ sym (drop-drop 1 (taken_from rows l journal) (put_into rows l journal)) in
    let more = d.takes refl in
    record {
      items = λ c i. ap (drop 1) i ∙ sym h;
      taken = rw (taken_more rows l journal e, put_more rows l journal e, p, t, append-nil (put_into rows l journal)) (omega (arith, more));
      fits = subst (λ (xs : List Item). length xs ≤ depth_of (slice_get rows l)) (sym h) (rw (length-drop 1 (holds rows l journal)) (omega (arith, f)));
    }
after_by rows journal e l (Some x) false p t n f d =
    let h : holds rows l (journal ++ e ∷ []) ≡ holds rows l journal ++ x ∷ [] = holds_by rows journal e l (Some x) false p t ∙ ap (λ k. drop k (put_into rows l journal ++ x ∷ [])) (plus_zero (taken_from rows l journal)) ∙ drop-append-le (taken_from rows l journal) (put_into rows l journal) (x ∷ []) n in
    let more = d.puts x refl in
    record {
      items = λ c i. ap (λ (xs : List Item). xs ++ x ∷ []) i ∙ sym h;
      taken = rw (taken_more rows l journal e, put_more rows l journal e, p, t, length-append (put_into rows l journal) (x ∷ [])) (omega (arith, n));
      fits = subst (λ (xs : List Item). length xs ≤ depth_of (slice_get rows l)) (sym h) (rw (length_one_more (holds rows l journal) x) (omega (arith, more)));
    }
  where
    plus_zero : (n : ℕ) → n + 0 ≡ n
    plus_zero n = omega arith
after_by rows journal e l (Some x) true p t n f d = let i : true ≡ false = d.one x refl in cc

pub entry_after : (rows : List LinkRow) (links : List Channel) (journal : List Entry) (e : Entry) (l : ℕ) → MayStand rows journal e.core e.what → Linked rows links journal → After rows journal e l (put_by rows l e.core e.what) (takes_from rows l e.core e.what)
entry_after rows links journal e l s k = after_by rows journal e l (put_by rows l e.core e.what) (takes_from rows l e.core e.what) refl refl (k.taken l) (k.fits l) (demands rows journal l e.core e.what s)

-- an entry that stands keeps the links what the journal says
pub entry_linked : (rows : List LinkRow) (links : List Channel) (journal : List Entry) (e : Entry) → MayStand rows journal e.core e.what → Linked rows links journal → Linked rows (links_after rows e.core e.what links) (journal ++ e ∷ [])
entry_linked rows links journal e s k =
    let moves = λ (l : ℕ). links_move rows e.core e.what links l in
    let later = λ (l : ℕ). entry_after rows links journal e l s k in
    record {
      items = λ l c q.
          let was = map_some (moved_by (put_by rows l e.core e.what) (takes_from rows l e.core e.what)) (slice_get links l) c (sym (moves l) ∙ q) in
          ap (λ (c : Channel). c.items) (sym was.2) ∙ (later l).items was.0 (k.items l was.0 was.1);
      depth = λ l c q.
          let was = map_some (moved_by (put_by rows l e.core e.what) (takes_from rows l e.core e.what)) (slice_get links l) c (sym (moves l) ∙ q) in
          ap (λ (c : Channel). c.depth) (sym was.2) ∙ same_depth (put_by rows l e.core e.what) (takes_from rows l e.core e.what) was.0 ∙ k.depth l was.0 was.1;
      beyond = λ l q.
          let none = k.beyond l (map_none (moved_by (put_by rows l e.core e.what) (takes_from rows l e.core e.what)) (slice_get links l) (sym (moves l) ∙ q)) in
          (no_more rows journal e l (put_by rows l e.core e.what) refl none.0 none.1 (demands rows journal l e.core e.what s), none.1);
      taken = λ l. (later l).taken;
      fits = λ l. (later l).fits;
    }
  where
    no_more : (rows : List LinkRow) (journal : List Entry) (e : Entry) (l : ℕ) (put : Option Item) → put_by rows l e.core e.what ≡ put → put_into rows l journal ≡ [] → depth_of (slice_get rows l) ≡ 0 → Demands rows journal l put (takes_from rows l e.core e.what) → put_into rows l (journal ++ e ∷ []) ≡ []
    no_more rows journal e l None p n z d = put_more rows l journal e ∙ ap (λ o. put_into rows l journal ++ one_or_none o) p ∙ append-nil (put_into rows l journal) ∙ n
    no_more rows journal e l (Some x) p n z d = let i = d.puts x refl in absurd (omega (arith, i, z))

-- the law goes on with an entry that stands
pub record IsValid (rows : List LinkRow) (links : List Channel) (journal : List Entry) : Type 0 where
  pub linked : Linked rows links journal
  pub law : LinkLaw rows journal

pub entry_valid : (rows : List LinkRow) (links : List Channel) (journal : List Entry) (e : Entry) → MayStand rows journal e.core e.what → IsValid rows links journal → IsValid rows (links_after rows e.core e.what links) (journal ++ e ∷ [])
entry_valid rows links journal e s k =
    let more = entry_linked rows links journal e s k.linked in
    record {
      linked = more;
      law = record {
        fits = λ before later q. elim (split_more before later journal e q) [
          | inl p ↦ subst (LinksFit rows) (sym p) more.fits
          | inr p ↦ k.law.fits before p.0 p.1
        ];
        stands = λ before later d q. elim (split_at_more before later journal d e q) [
          | inl p ↦ subst (λ (d : Entry). MayStand rows before d.core d.what) (sym p.1) (subst (λ before. MayStand rows before e.core e.what) (sym p.0) s)
          | inr p ↦ k.law.stands before p.0 d p.1
        ];
      };
    }

empty_items : (rows : List LinkRow) (l : ℕ) (c : Channel) → slice_get (map (λ (r : LinkRow). empty r.depth) rows) l ≡ Some c → (c.items ≡ []) × (c.depth ≡ depth_of (slice_get rows l))
empty_items rows l c h =
    let r = map_some (λ (r : LinkRow). empty r.depth) (slice_get rows l) c (sym (slice_get-map (λ (r : LinkRow). empty r.depth) rows l) ∙ h) in
    (ap (λ (c : Channel). c.items) (sym r.2), ap (λ (c : Channel). c.depth) (sym r.2) ∙ ap depth_of (sym r.1))

pub start_valid : (rows : List LinkRow) → IsValid rows (map (λ (r : LinkRow). empty r.depth) rows) []
start_valid rows = record {
  linked = record {
    items = λ l c h. (empty_items rows l c h).0;
    depth = λ l c h. (empty_items rows l c h).1;
    beyond = λ l h. (refl, ap depth_of (map_none (λ (r : LinkRow). empty r.depth) (slice_get rows l) (sym (slice_get-map (λ (r : LinkRow). empty r.depth) rows l) ∙ h)));
    taken = λ l. omega arith;
    fits = λ l. omega arith;
  };
  law = record {
    fits = λ before later h. subst (LinksFit rows) (sym (no_split before later h)) (λ l. omega arith);
    stands = λ before later e h. absurd (no_split_at before later e h);
  };
}

none_first : (n : ℕ) (o : Option Item) → o ≡ None → o ≡ slice_get (drop {A = Item} n []) 0
none_first zero o h = h
none_first (suc n) o h = h

-- what the links show is what the journal tells of them
shown_recorded : (rows : List LinkRow) (links : List Channel) (journal : List Entry) (l : ℕ) (c : Option Channel) → slice_get links l ≡ c → Linked rows links journal → (first_in c ≡ slice_get (holds rows l journal) 0) × (room_in c ≡ nat_lt (length (holds rows l journal)) (depth_of (slice_get rows l)))
shown_recorded rows links journal l (Some c) h k = (rw (k.items l c h) refl, rw (k.items l c h, k.depth l c h) refl)
shown_recorded rows links journal l None h k =
    let n = k.beyond l h in
    (rw n.0 (none_first (taken_from rows l journal) None refl), rw n.1 (sym (le-ltb (length (holds rows l journal)) 0 (omega arith))))

pub first_recorded : (rows : List LinkRow) (links : List Channel) (journal : List Entry) (o : Option ℕ) → Linked rows links journal → first_in (channel_at links o) ≡ slice_get (link_recorded rows journal o).items 0
first_recorded rows links journal None k = refl
first_recorded rows links journal (Some l) k = (shown_recorded rows links journal l (slice_get links l) refl k).0

pub room_recorded : (rows : List LinkRow) (links : List Channel) (journal : List Entry) (o : Option ℕ) → Linked rows links journal → room_in (channel_at links o) ≡ nat_lt (length (link_recorded rows journal o).items) (link_recorded rows journal o).depth
room_recorded rows links journal None k = refl
room_recorded rows links journal (Some l) k = (shown_recorded rows links journal l (slice_get links l) refl k).1

-- an entry that agrees with what the links show stands
pub stands_first : (rows : List LinkRow) (links : List Channel) (journal : List Entry) (o : Option ℕ) (item : Item) → Linked rows links journal → first_in (channel_at links o) ≡ Some item → HasFirst item (link_recorded rows journal o)
stands_first rows links journal o item k h = sym (first_recorded rows links journal o k) ∙ h

pub stands_room : (rows : List LinkRow) (links : List Channel) (journal : List Entry) (o : Option ℕ) → Linked rows links journal → room_in (channel_at links o) ≡ true → HasRoom (link_recorded rows journal o)
stands_room rows links journal o k h = ltb-true _ _ (sym (room_recorded rows links journal o k) ∙ h)

no_first : (xs : List Item) → slice_get xs 0 ≡ None → xs ≡ []
no_first [] h = refl
no_first (x ∷ xs) h = cc

pub stands_empty : (rows : List LinkRow) (links : List Channel) (journal : List Entry) (core port : ℕ) → Linked rows links journal → first_in (channel_at links (link_to rows core port)) ≡ None → IsShut rows journal core port false
stands_empty rows links journal core port k h = no_first _ (sym (first_recorded rows links journal (link_to rows core port) k) ∙ h)

recorded_fits : (rows : List LinkRow) (links : List Channel) (journal : List Entry) (o : Option ℕ) → Linked rows links journal → length (link_recorded rows journal o).items ≤ (link_recorded rows journal o).depth
recorded_fits rows links journal None k = omega arith
recorded_fits rows links journal (Some l) k = k.fits l

pub stands_full : (rows : List LinkRow) (links : List Channel) (journal : List Entry) (core port : ℕ) → Linked rows links journal → room_in (channel_at links (link_from rows core port)) ≡ false → IsShut rows journal core port true
stands_full rows links journal core port k h =
    let a = ltb-false _ _ (sym (room_recorded rows links journal (link_from rows core port) k) ∙ h) in
    let b = recorded_fits rows links journal (link_from rows core port) k in
    omega (arith, a, b)
