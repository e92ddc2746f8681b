-- What comes out of a link is what went in, in order.
use Rattle.std.proofs.Common.{◌≡◌, ℕ, ◌==◌, List, [], ◌∷◌, ◌++◌, drop, Option, Some, None, refl, ap, sym, ◌∙◌, subst, slice_get, Bool, true, false, cond}
use Rattle.std.proofs.lemmas.Bool.{eqb-true}
use Rattle.std.proofs.lemmas.List.{append-nil, append_assoc}
use Rattle.axi_link.specs.declared.item.Item.{Item}
use Rattle.axi_link.specs.Channel.{Channel}
use Rattle.board_file.specs.declared.board.LinkRow.{LinkRow}
use Rattle.run_journal.specs.declared.entry.Entry.{Entry}
use Rattle.run_journal.specs.declared.entry.What.{What}
use Rattle.run_journal.specs.declared.entry.What.TheVariants.{Got, Sent, HostSent, HostGot}
use Rattle.board_machine.specs.Fabric.{link_from, link_to}
use Rattle.journal_laws.specs.LinkLaw.{HasFirst, LinkLaw, MayStand, holds, is_link, link_recorded, put_by, put_into, takes_from}
use Rattle.journal_laws.specs.LinkOrder.{LinksKeepOrder, got_by, got_from}
use Rattle.journal_laws.proofs.Links.{Linked, entry_after, entry_linked, moved_by, put_more, start_valid}
use Rattle.journal_laws.proofs.Lists.{cons_append, filter_map_more, one_or_none}

-- what an entry does at a link: it takes the first item, puts one in, or neither
data Does (held : List Item) : Option Item → Option Item → Bool → Type 0 where
  takes : (x : Item) → slice_get held 0 ≡ Some x → Does held None (Some x) true
  puts : (x : Item) → Does held (Some x) None false
  neither : Does held None None false

taken_by : (held : List Item) (x : Item) (t : Bool) → (t ≡ true → slice_get held 0 ≡ Some x) → Does held None (cond {A = Option Item} t (Some x) None) t
taken_by held x true h = takes x (h refl)
taken_by held x false h = neither

put_in : (held : List Item) (x : Item) (t : Bool) → Does held (cond {A = Option Item} t (Some x) None) None false
put_in held x true = puts x
put_in held x false = neither

first_held : (rows : List LinkRow) (journal : List Entry) (link : ℕ) (item : Item) (o : Option ℕ) → HasFirst item (link_recorded rows journal o) → is_link link o ≡ true → slice_get (holds rows link journal) 0 ≡ Some item
first_held rows journal link item None h e = cc
first_held rows journal link item (Some k) h e = subst (λ k. slice_get (holds rows k journal) 0 ≡ Some item) (eqb-true k link e) h

does : (rows : List LinkRow) (journal : List Entry) (link core : ℕ) (what : What) → MayStand rows journal core what → Does (holds rows link journal) (put_by rows link core what) (got_by rows link core what) (takes_from rows link core what)
does rows journal link core (Got port item) h = taken_by (holds rows link journal) item (is_link link (link_to rows core port)) (first_held rows journal link item (link_to rows core port) h)
does rows journal link core (HostGot k item) h = taken_by (holds rows link journal) item (k == link) (first_held rows journal link item (Some k) h)
does rows journal link core (Sent port item) h = put_in (holds rows link journal) item (is_link link (link_from rows core port))
does rows journal link core (HostSent k item) h = put_in (holds rows link journal) item (k == link)
does rows journal link core _ h = neither

first_and_rest : (xs : List Item) (x : Item) → slice_get xs 0 ≡ Some x → xs ≡ x ∷ drop 1 xs
first_and_rest [] x h = cc
first_and_rest (y ∷ ys) x h = let e : y ≡ x = cc in ap (λ z. z ∷ ys) e

-- what went in is what came out and then what is held: so it stays after an entry
one_more : (put got held : List Item) (p g : Option Item) (t : Bool) → Does held p g t → put ≡ got ++ held → put ++ one_or_none p ≡ (got ++ one_or_none g) ++ (moved_by p t (record { depth = 0; items = held })).items
one_more put got held None (Some x) true (takes y h) e =
    append-nil put ∙ e ∙ ap (λ xs. got ++ xs) (first_and_rest held x h) ∙ sym (cons_append got (drop 1 held) x)
one_more put got held (Some x) None false (puts y) e =
    ap (λ xs. xs ++ x ∷ []) e ∙ append_assoc got held (x ∷ []) ∙ ap (λ xs. xs ++ (held ++ x ∷ [])) (sym (append-nil got))
one_more put got held None None true x e = elim x [ ]
one_more put got held None (Some y) false x e = elim x [ ]
one_more put got held (Some y) None true x e = elim x [ ]
one_more put got held (Some y) (Some z) t x e = elim x [ ]
one_more put got held None None false neither e = append-nil put ∙ e ∙ ap (λ xs. xs ++ held) (sym (append-nil got))

record InOrder (rows : List LinkRow) (link : ℕ) (journal : List Entry) : Type 0 where
  links : List Channel
  linked : Linked rows links journal
  order : put_into rows link journal ≡ got_from rows link journal ++ holds rows link journal

entry_in_order : (rows : List LinkRow) (link : ℕ) (journal : List Entry) (e : Entry) → MayStand rows journal e.core e.what → InOrder rows link journal → InOrder rows link (journal ++ e ∷ [])
entry_in_order rows link journal e s k =
    let p = put_by rows link e.core e.what in
    let g = got_by rows link e.core e.what in
    let t = takes_from rows link e.core e.what in
    let held : Channel = record { depth = 0; items = holds rows link journal } in
    let now : (moved_by p t held).items ≡ holds rows link (journal ++ e ∷ []) = (entry_after rows k.links journal e link s k.linked).items held refl in
    let got : got_from rows link (journal ++ e ∷ []) ≡ got_from rows link journal ++ one_or_none g = filter_map_more (λ (e : Entry). got_by rows link e.core e.what) journal e g refl in
    record {
      links = _;
      linked = entry_linked rows k.links journal e s k.linked;
      order = put_more rows link journal e
          ∙ one_more (put_into rows link journal) (got_from rows link journal) (holds rows link journal) p g t (does rows journal link e.core e.what s) k.order
          ∙ ap (λ xs. xs ++ (moved_by p t held).items) (sym got)
          ∙ ap (λ xs. got_from rows link (journal ++ e ∷ []) ++ xs) now;
    }

goes_on : (rows : List LinkRow) (link : ℕ) (journal before later : List Entry) → LinkLaw rows journal → journal ≡ before ++ later → InOrder rows link before → InOrder rows link journal
goes_on rows link journal before [] law q k = subst (InOrder rows link) (sym (q ∙ append-nil before)) k
goes_on rows link journal before (e ∷ later) law q k =
    goes_on rows link journal (before ++ e ∷ []) later law (q ∙ sym (cons_append before later e)) (entry_in_order rows link before e (law.stands before later e q) k)

begins : (rows : List LinkRow) (link : ℕ) → InOrder rows link []
begins rows link = record { links = _; linked = (start_valid rows).linked; order = sym (nothing_held rows link) }
  where
    nothing_held : (rows : List LinkRow) (link : ℕ) → holds rows link [] ≡ []
    nothing_held rows link = refl

pub links_keep_order : LinksKeepOrder
links_keep_order = record { order = λ rows journal link law. (goes_on rows link journal [] journal law refl (begins rows link)).order }
