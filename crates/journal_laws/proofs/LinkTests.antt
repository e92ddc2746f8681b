-- The link law keeps journals that are right, and refuses others.
use Rattle.std.proofs.Common.{◌≡◌, ℕ, ◌<◌, List, [], ◌∷◌, ◌++◌, Option, Some, None, refl, ap, arith, true, false}
use Rattle.axi_link.specs.declared.item.Item.{Item}
use Rattle.board_file.specs.declared.board.LinkRow.{LinkRow}
use Rattle.run_journal.specs.declared.entry.Entry.{Entry}
use Rattle.run_journal.specs.declared.entry.What.TheVariants.{Got, Sent, Seen, Room, Missed, HostSent, HostGot}
use Rattle.journal_laws.specs.LinkLaw.{LinkLaw, MayStand}
use Rattle.journal_laws.specs.LinkTests.{LinkLawIsTested, by_core, file_link, host_item, item, one_link, two_items, waits_get, waits_put}
use Rattle.journal_laws.proofs.Links.{IsValid, entry_valid, start_valid}

-- a journal of which each entry stands, the last one first
record IsValidJournal (rows : List LinkRow) (journal : List Entry) : Type 0 where
  links : List _
  valid : IsValid rows links journal

begins : (rows : List LinkRow) → IsValidJournal rows []
begins rows = record { links = _; valid = start_valid rows }

goes_on : (rows : List LinkRow) (journal : List Entry) (e : Entry) → IsValidJournal rows journal → MayStand rows journal e.core e.what → IsValidJournal rows (journal ++ e ∷ [])
goes_on rows journal e k s = record { links = _; valid = entry_valid rows k.links journal e s k.valid }

goes_through : LinkLaw (one_link 2) two_items
goes_through =
    let rows = one_link 2 in
    let a = goes_on rows _ (by_core 1 waits_get) (begins rows) refl in
    let b = goes_on rows _ (by_core 0 (Sent 3 (item 5))) a (omega arith) in
    let c = goes_on rows _ (by_core 0 (Sent 3 (item 6))) b (omega arith) in
    let d = goes_on rows _ (by_core 0 (Missed 3 true)) c refl in
    let e = goes_on rows _ (by_core 1 (Got 3 (item 5))) d refl in
    let f = goes_on rows _ (by_core 0 (Room 3)) e (omega arith) in
    let g = goes_on rows _ (by_core 1 (Seen 3 (item 6))) f refl in
    let h = goes_on rows _ (by_core 1 (Got 3 (item 6))) g refl in
    let i = goes_on rows _ (by_core 1 (Missed 3 false)) h refl in
    i.valid.law

comes_from_host : LinkLaw file_link host_item
comes_from_host =
    let a = goes_on file_link _ (by_core 0 waits_get) (begins file_link) refl in
    let b = goes_on file_link _ (by_core 65535 (HostSent 0 (item 7))) a (omega arith) in
    let c = goes_on file_link _ (by_core 0 (Got 3 (item 7))) b refl in
    c.valid.law

word_in : Option Item → ℕ
word_in None = 0
word_in (Some x) = x.word

other_item : (a b : ℕ) → Some (item a) ≡ Some (item b) → a ≡ b
unfolding word_in
other_item a b e = ap word_in e

no_item : (a : ℕ) → None ≡ Some (item a) → ⊥
no_item a e = cc

some_left : (x : Item) → x ∷ [] ≡ [] → ⊥
some_left x e = cc

pub link_law_is_tested : LinkLawIsTested
link_law_is_tested = record {
  through = goes_through;
  from_host = comes_from_host;
  overtaken = λ law. absurd (omega (arith, other_item 5 6 (law.stands (by_core 0 (Sent 3 (item 5)) ∷ by_core 0 (Sent 3 (item 6)) ∷ []) [] (by_core 1 (Got 3 (item 6))) refl)));
  altered = λ law. absurd (omega (arith, other_item 5 6 (law.stands (by_core 0 (Sent 3 (item 5)) ∷ []) [] (by_core 1 (Got 3 (item 6))) refl)));
  doubled = λ law. no_item 5 (law.stands (by_core 0 (Sent 3 (item 5)) ∷ by_core 1 (Got 3 (item 5)) ∷ []) [] (by_core 1 (Got 3 (item 5))) refl);
  from_nothing = λ law. no_item 5 (law.stands [] [] (by_core 1 (Got 3 (item 5))) refl);
  beyond_depth = λ law. absurd (let h : 1 < 1 = law.stands (by_core 0 (Sent 3 (item 5)) ∷ []) [] (by_core 0 (Sent 3 (item 6))) refl in omega (arith, h));
  room_in_full = λ law. absurd (let h : 1 < 1 = law.stands (by_core 0 (Sent 3 (item 5)) ∷ []) [] (by_core 0 (Room 3)) refl in omega (arith, h));
  missed_item = λ law. some_left (item 5) (law.stands (by_core 0 (Sent 3 (item 5)) ∷ []) [] (by_core 1 (Missed 3 false)) refl);
  missed_room = λ law. absurd (let h : 1 ≡ 2 = law.stands (by_core 0 (Sent 3 (item 5)) ∷ []) [] (by_core 0 (Missed 3 true)) refl in omega (arith, h));
  waits_at_item = λ law. some_left (item 5) (law.stands (by_core 0 (Sent 3 (item 5)) ∷ []) [] (by_core 1 waits_get) refl);
  waits_at_room = λ law. absurd (let h : 1 ≡ 2 = law.stands (by_core 0 (Sent 3 (item 5)) ∷ []) [] (by_core 0 waits_put) refl in omega (arith, h));
  unconnected = λ law. absurd (let h : 0 < 0 = law.stands [] [] (by_core 0 (Sent 4 (item 5))) refl in omega (arith, h));
  host_beyond = λ law. absurd (let h : 1 < 1 = law.stands (by_core 0 (Sent 3 (item 5)) ∷ []) [] (by_core 65535 (HostSent 0 (item 6))) refl in omega (arith, h));
  host_other = λ law. absurd (omega (arith, other_item 5 6 (law.stands (by_core 0 (Sent 3 (item 5)) ∷ []) [] (by_core 65535 (HostGot 0 (item 6))) refl)));
}
