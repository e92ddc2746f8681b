-- What the counters of a run's entries tell.
use Rattle.std.proofs.Common.{◌≡◌, ℕ, suc, ◌+◌, ◌*◌, ◌≤◌, ◌<◌, ◌==◌, ◌&&◌, Bool, true, false, List, [], ◌∷◌, ◌++◌, length, filter, flat_map, replicate, take, get_or, slice_get, cond, Some, refl, sym, ap, subst, ◌∙◌, arith}
use Rattle.std.specs.List.{count_by, enumerate_from}
use Rattle.std.proofs.lemmas.Bool.{eqb-false, eqb-true, ltb-false, ltb-true}
use Rattle.std.proofs.lemmas.Grind.{get_or-set_at}
use Rattle.std.proofs.lemmas.List.{get_or-replicate, get_or-set_other, length-replicate, length-set, length-take-le, take_all}
use Rattle.std.proofs.lemmas.List.Filters.{length-filter_more}
use Rattle.std.proofs.lemmas.List.Sums.{count_by-le-length, length-filter, sum_by-cons}
use Rattle.std.proofs.lemmas.Option.{slice_get_within}
use Rattle.std.proofs.Math.Dec.{ltb}
use Rattle.std.proofs.Math.ListN.{get_or-eq_default}
use Rattle.board_file.specs.declared.board.End.{End}
use Rattle.board_file.specs.declared.board.End.TheVariants.{Port, File}
use Rattle.board_file.specs.declared.board.LinkRow.{LinkRow}
use Rattle.board_file.specs.declared.board.UartRow.{UartRow}
use Rattle.run_journal.specs.declared.entry.Entry.{Entry}
use Rattle.run_journal.specs.declared.entry.What.{What}
use Rattle.run_journal.specs.declared.entry.What.TheVariants.{Got, Sent, HostSent, HostGot, Left}
use Rattle.run_output.specs.Counts.{has_left, items_sent, items_taken, leaves, puts_in, takes_out}
use Rattle.run_output.specs.Report.{line_of_link, line_of_uart, link_line, link_lines, uart_line, uart_lines}
use Rattle.run_output.specs.Tally.{Counters, Covers, Few, Fit, HasByte, Reaches, ReachesAll, IsTally, cleared, counted, counted_link_line, counted_uart_line, gets, host_gets, host_sends, number_of, one_more_at, place_of, port_count, sends, sent_of, taken_of}
use Rattle.run_output.proofs.Threading.{no_entry}

plus_zero : (n : ℕ) → n ≡ n + 0
plus_zero n = omega arith

zero_plus : (n : ℕ) → n ≡ 0 + n
zero_plus n = omega arith

-- places of ports

same_if : (a b c : Bool) (core by port p : ℕ) → (core == by) ≡ a → (port == p) ≡ b → (place_of by p == place_of core port) ≡ c → p < 256 → port < 256
    → c ≡ (a && b)
same_if true true true core by port p a b c fits small = refl
same_if true true false core by port p a b c fits small =
    let same : core ≡ by = eqb-true core by a in
    let also : port ≡ p = eqb-true port p b in
    absurd (eqb-false (place_of by p) (place_of core port) c (ap (λ n. n * 256 + p) (sym same) ∙ ap (λ n. core * 256 + n) (sym also)))
same_if true false true core by port p a b c fits small =
    let place : by * 256 + p ≡ core * 256 + port = eqb-true (place_of by p) (place_of core port) c in
    absurd (eqb-false port p b (omega (arith, place, fits, small)))
same_if true false false core by port p a b c fits small = refl
same_if false true true core by port p a b c fits small =
    let place : by * 256 + p ≡ core * 256 + port = eqb-true (place_of by p) (place_of core port) c in
    absurd (eqb-false core by a (omega (arith, place, fits, small)))
same_if false true false core by port p a b c fits small = refl
same_if false false true core by port p a b c fits small =
    let place : by * 256 + p ≡ core * 256 + port = eqb-true (place_of by p) (place_of core port) c in
    absurd (eqb-false core by a (omega (arith, place, fits, small)))
same_if false false false core by port p a b c fits small = refl

same_place : (core by port p : ℕ) → p < 256 → port < 256 → (place_of by p == place_of core port) ≡ (core == by && port == p)
same_place core by port p fits small = same_if (core == by) (port == p) (place_of by p == place_of core port) core by port p refl refl refl fits small

-- one more is counted

one_at : (xs : List ℕ) (q n : ℕ) (b : Bool) → (q == n) ≡ b → n < length xs → get_or (one_more_at xs q) n 0 ≡ get_or xs n 0 + cond b 1 0
one_at xs q n true is within =
    let same : q ≡ n = eqb-true q n is in
    get_or-set_at xs q n (get_or xs q 0 + 1) 0 (sym same) (omega (arith, same, within)) ∙ ap (λ m. get_or xs m 0 + 1) same
one_at xs q n false is within = get_or-set_other xs q n (get_or xs q 0 + 1) 0 (λ same. eqb-false q n is (sym same)) ∙ plus_zero (get_or xs n 0)

sent_at : (w : What) (by core port : ℕ) (t : Counters) → HasByte w → port < 256 → place_of core port < length t.sent
    → get_or (counted by w t).sent (place_of core port) 0 ≡ get_or t.sent (place_of core port) 0 + cond (sends core port by w) 1 0
sent_at (Sent p item) by core port t fits small within = one_at t.sent (place_of by p) (place_of core port) (core == by && port == p) (same_place core by port p fits small) within
sent_at _ by core port t fits small within = plus_zero (get_or t.sent (place_of core port) 0)

got_at : (w : What) (by core port : ℕ) (t : Counters) → HasByte w → port < 256 → place_of core port < length t.got
    → get_or (counted by w t).got (place_of core port) 0 ≡ get_or t.got (place_of core port) 0 + cond (gets core port by w) 1 0
got_at (Got p item) by core port t fits small within = one_at t.got (place_of by p) (place_of core port) (core == by && port == p) (same_place core by port p fits small) within
got_at _ by core port t fits small within = plus_zero (get_or t.got (place_of core port) 0)

host_sent_at : (w : What) (by link : ℕ) (t : Counters) → link < length t.host_sent
    → get_or (counted by w t).host_sent link 0 ≡ get_or t.host_sent link 0 + cond (host_sends link w) 1 0
host_sent_at (HostSent l item) by link t within = one_at t.host_sent l link (l == link) refl within
host_sent_at _ by link t within = plus_zero (get_or t.host_sent link 0)

host_got_at : (w : What) (by link : ℕ) (t : Counters) → link < length t.host_got
    → get_or (counted by w t).host_got link 0 ≡ get_or t.host_got link 0 + cond (host_gets link w) 1 0
host_got_at (HostGot l item) by link t within = one_at t.host_got l link (l == link) refl within
host_got_at _ by link t within = plus_zero (get_or t.host_got link 0)

left_at : (w : What) (by uart : ℕ) (t : Counters) → uart < length t.left
    → get_or (counted by w t).left uart 0 ≡ get_or t.left uart 0 + cond (leaves uart w) 1 0
left_at (Left u byte) by uart t within = one_at t.left u uart (u == uart) refl within
left_at _ by uart t within = plus_zero (get_or t.left uart 0)

-- there are as many counters as before

pub record SameSizes (a b : Counters) : Type 0 where
  pub sent : length a.sent ≡ length b.sent
  pub got : length a.got ≡ length b.got
  pub host_sent : length a.host_sent ≡ length b.host_sent
  pub host_got : length a.host_got ≡ length b.host_got
  pub left : length a.left ≡ length b.left

sizes_same : (t : Counters) → SameSizes t t
sizes_same t = record { sent = refl; got = refl; host_sent = refl; host_got = refl; left = refl }

sizes_counted : (w : What) (by : ℕ) (t : Counters) → SameSizes (counted by w t) t
sizes_counted (Sent p item) by t = record { sent = length-set t.sent (place_of by p) (get_or t.sent (place_of by p) 0 + 1); got = refl; host_sent = refl; host_got = refl; left = refl }
sizes_counted (Got p item) by t = record { sent = refl; got = length-set t.got (place_of by p) (get_or t.got (place_of by p) 0 + 1); host_sent = refl; host_got = refl; left = refl }
sizes_counted (HostSent l item) by t = record { sent = refl; got = refl; host_sent = length-set t.host_sent l (get_or t.host_sent l 0 + 1); host_got = refl; left = refl }
sizes_counted (HostGot l item) by t = record { sent = refl; got = refl; host_sent = refl; host_got = length-set t.host_got l (get_or t.host_got l 0 + 1); left = refl }
sizes_counted (Left u byte) by t = record { sent = refl; got = refl; host_sent = refl; host_got = refl; left = length-set t.left u (get_or t.left u 0 + 1) }
sizes_counted _ by t = sizes_same t

pub sizes_more : (old t new : Counters) (w : What) (by : ℕ) → new ≡ counted by w t → SameSizes t old → SameSizes new old
sizes_more old t new w by is s =
    let P : Counters → Type 0 = λ c. SameSizes c old in
    let n : SameSizes (counted by w t) t = sizes_counted w by t in
    subst P (sym is) (record {
      sent = n.sent ∙ s.sent;
      got = n.got ∙ s.got;
      host_sent = n.host_sent ∙ s.host_sent;
      host_got = n.host_got ∙ s.host_got;
      left = n.left ∙ s.left;
    })

pub sizes_cleared : (old t : Counters) → t ≡ cleared old → SameSizes t old
sizes_cleared old t is =
    let P : Counters → Type 0 = λ c. SameSizes c old in
    subst P (sym is) (record {
      sent = length-replicate (length old.sent) 0;
      got = length-replicate (length old.got) 0;
      host_sent = length-replicate (length old.host_sent) 0;
      host_got = length-replicate (length old.host_got) 0;
      left = length-replicate (length old.left) 0;
    })

-- entries are counted one by one

seen : (p : Entry → Bool) (es : List Entry) (k old new : ℕ) → k < length es → new ≡ old + cond (p (get_or es k no_entry)) 1 0
    → old ≡ length (filter p (take k es)) → new ≡ length (filter p (take (k + 1) es))
seen p es k old new within is so_far =
    is ∙ ap (λ n. n + cond (p (get_or es k no_entry)) 1 0) so_far ∙ sym (length-filter_more p es k no_entry within)

tells_counted : (t : Counters) (es : List Entry) (k : ℕ) → k < length es → HasByte (get_or es k no_entry).what → IsTally t (take k es)
    → IsTally (counted (get_or es k no_entry).core (get_or es k no_entry).what t) (take (k + 1) es)
tells_counted t es k within fits so_far =
    let e : Entry = get_or es k no_entry in
    let new : Counters = counted e.core e.what t in
    let n : SameSizes new t = sizes_counted e.what e.core t in
    record {
      sent = λ core port small inside.
          let there : place_of core port < length t.sent = omega (arith, inside, n.sent) in
          seen (λ x. sends core port x.core x.what) es k (get_or t.sent (place_of core port) 0) (get_or new.sent (place_of core port) 0) within
          (sent_at e.what e.core core port t fits small there) (so_far.sent core port small there);
      got = λ core port small inside.
          let there : place_of core port < length t.got = omega (arith, inside, n.got) in
          seen (λ x. gets core port x.core x.what) es k (get_or t.got (place_of core port) 0) (get_or new.got (place_of core port) 0) within
          (got_at e.what e.core core port t fits small there) (so_far.got core port small there);
      host_sent = λ link inside.
          let there : link < length t.host_sent = omega (arith, inside, n.host_sent) in
          seen (λ x. host_sends link x.what) es k (get_or t.host_sent link 0) (get_or new.host_sent link 0) within
          (host_sent_at e.what e.core link t there) (so_far.host_sent link there);
      host_got = λ link inside.
          let there : link < length t.host_got = omega (arith, inside, n.host_got) in
          seen (λ x. host_gets link x.what) es k (get_or t.host_got link 0) (get_or new.host_got link 0) within
          (host_got_at e.what e.core link t there) (so_far.host_got link there);
      left = λ uart inside.
          let there : uart < length t.left = omega (arith, inside, n.left) in
          seen (has_left uart) es k (get_or t.left uart 0) (get_or new.left uart 0) within
          (left_at e.what e.core uart t there) (so_far.left uart there);
    }

pub tells_more : (t new : Counters) (es : List Entry) (k : ℕ) → k < length es → HasByte (get_or es k no_entry).what
    → new ≡ counted (get_or es k no_entry).core (get_or es k no_entry).what t → IsTally t (take k es) → IsTally new (take (k + 1) es)
tells_more t new es k within fits is so_far =
    let P : Counters → Type 0 = λ c. IsTally c (take (k + 1) es) in
    subst P (sym is) (tells_counted t es k within fits so_far)

inside_of : (xs : List ℕ) (n : ℕ) → n < length {A = ℕ} (replicate (length xs) 0) → n < length xs
inside_of xs n inside = let size : length {A = ℕ} (replicate (length xs) 0) ≡ length xs = length-replicate (length xs) 0 in omega (arith, inside, size)

tells_nothing : (old : Counters) → IsTally (cleared old) []
tells_nothing old = record {
  sent = λ core port small inside. get_or-replicate (length old.sent) (place_of core port) 0 0 (inside_of old.sent (place_of core port) inside);
  got = λ core port small inside. get_or-replicate (length old.got) (place_of core port) 0 0 (inside_of old.got (place_of core port) inside);
  host_sent = λ link inside. get_or-replicate (length old.host_sent) link 0 0 (inside_of old.host_sent link inside);
  host_got = λ link inside. get_or-replicate (length old.host_got) link 0 0 (inside_of old.host_got link inside);
  left = λ uart inside. get_or-replicate (length old.left) uart 0 0 (inside_of old.left uart inside);
}

pub tells_none : (old t : Counters) (es : List Entry) → t ≡ cleared old → IsTally t (take 0 es)
tells_none old t es is = let P : Counters → Type 0 = λ c. IsTally c [] in subst P (sym is) (tells_nothing old)

-- counts are no more than there are entries

number_few : (p : Entry → Bool) (es : List Entry) → length (filter p es) ≤ length es
number_few p es =
    let size : length (filter p es) ≡ count_by p es = length-filter p es in
    let few : count_by p es ≤ length es = count_by-le-length p es in
    omega (arith, size, few)

-- a counter is no more than what it is where it stands
few_by : (b : Bool) (xs : List ℕ) (n most : ℕ) → ltb n (length xs) ≡ b → (n < length xs → get_or xs n 0 ≤ most) → get_or xs n 0 ≤ most
few_by true xs n most is few = few (ltb-true n (length xs) is)
few_by false xs n most is few =
    let none : get_or xs n 0 ≡ 0 = get_or-eq_default xs 0 (ltb-false n (length xs) is) in
    omega (arith, none)

few_at : (xs : List ℕ) (n most : ℕ) → (n < length xs → get_or xs n 0 ≤ most) → get_or xs n 0 ≤ most
few_at xs n most few = few_by (ltb n (length xs)) xs n most refl few

by_number : (p : Entry → Bool) (es : List Entry) (n : ℕ) → n ≡ length (filter p es) → n ≤ length es
by_number p es n is = let few : length (filter p es) ≤ length es = number_few p es in omega (arith, is, few)

less : (n most : ℕ) → n ≤ most → most < 18446744073709551615 → n < 18446744073709551615
less n most few small = omega (arith, few, small)

few_told : (t : Counters) (es : List Entry) → length es < 18446744073709551615 → IsTally t es → Few t
few_told t es small told = record {
  sent = λ core port fits. less (get_or t.sent (place_of core port) 0) (length es) (few_at t.sent (place_of core port) (length es)
      (λ inside. by_number (λ e. sends core port e.core e.what) es (get_or t.sent (place_of core port) 0) (told.sent core port fits inside))) small;
  got = λ core port fits. less (get_or t.got (place_of core port) 0) (length es) (few_at t.got (place_of core port) (length es)
      (λ inside. by_number (λ e. gets core port e.core e.what) es (get_or t.got (place_of core port) 0) (told.got core port fits inside))) small;
  host_sent = λ link. less (get_or t.host_sent link 0) (length es) (few_at t.host_sent link (length es)
      (λ inside. by_number (λ e. host_sends link e.what) es (get_or t.host_sent link 0) (told.host_sent link inside))) small;
  host_got = λ link. less (get_or t.host_got link 0) (length es) (few_at t.host_got link (length es)
      (λ inside. by_number (λ e. host_gets link e.what) es (get_or t.host_got link 0) (told.host_got link inside))) small;
  left = λ uart. less (get_or t.left uart 0) (length es) (few_at t.left uart (length es)
      (λ inside. by_number (has_left uart) es (get_or t.left uart 0) (told.left uart inside))) small;
}

pub few_so_far : (t : Counters) (es : List Entry) (k : ℕ) → k < length es → length es ≤ 18446744073709551615 → IsTally t (take k es) → Few t
few_so_far t es k within small told =
    let size : length (take k es) ≡ k = length-take-le k es (omega (arith, within)) in
    few_told t (take k es) (omega (arith, size, within, small)) told

pub tells_all : (t : Counters) (es : List Entry) (k : ℕ) → length es ≤ k → IsTally t (take k es) → IsTally t es
tells_all t es k past told = let P : List Entry → Type 0 = λ xs. IsTally t xs in subst P (take_all k es past) told

-- the places of ports

reaches_more : (n m : ℕ) (end : End) → n ≤ m → Reaches n end → Reaches m end
reaches_more n m (Port core port) more (fits, inside) = (fits, omega (arith, more, inside))
reaches_more n m (File name) more h = tt

-- the ports of the first rows
pub record ReachesFirst (places : ℕ) (rows : List LinkRow) (k : ℕ) : Type 0 where
  pub from : (j : ℕ) (row : LinkRow) → j < k → slice_get rows j ≡ Some row → Reaches places row.from
  pub to : (j : ℕ) (row : LinkRow) → j < k → slice_get rows j ≡ Some row → Reaches places row.to

pub reaches_none : (rows : List LinkRow) → ReachesFirst 0 rows 0
reaches_none rows = record { from = λ j row within at. absurd (omega (arith, within)); to = λ j row within at. absurd (omega (arith, within)) }

-- covering

pub covers_same : (old new : Counters) → SameSizes new old → (rows : List LinkRow) → Covers old rows → Covers new rows
covers_same old new s rows h = record {
  from = λ k row at. let P : ℕ → Type 0 = λ n. Reaches n row.from in subst P (sym s.sent) (h.from k row at);
  to = λ k row at. let P : ℕ → Type 0 = λ n. Reaches n row.to in subst P (sym s.got) (h.to k row at);
  host_sent = s.host_sent ∙ h.host_sent;
  host_got = s.host_got ∙ h.host_got;
}

pub covers_new : (ports uarts : ℕ) (rows : List LinkRow) → ReachesAll ports rows
    → Covers (record { sent = replicate ports 0; got = replicate ports 0; host_sent = replicate (length rows) 0; host_got = replicate (length rows) 0; left = replicate uarts 0 }) rows
covers_new ports uarts rows h = record {
  from = λ k row at. let P : ℕ → Type 0 = λ n. Reaches n row.from in subst P (sym (length-replicate ports 0)) (h.from k row at);
  to = λ k row at. let P : ℕ → Type 0 = λ n. Reaches n row.to in subst P (sym (length-replicate ports 0)) (h.to k row at);
  host_sent = length-replicate (length rows) 0;
  host_got = length-replicate (length rows) 0;
}

-- what was counted of a link

both : (p a b : Entry → Bool) → ((e : Entry) → cond (p e) 1 0 ≡ cond (a e) 1 0 + cond (b e) 1 0) → (es : List Entry) → count_by p es ≡ count_by a es + count_by b es
both p a b each [] = refl
both p a b each (e ∷ es) =
    let here : cond (p e) 1 0 ≡ cond (a e) 1 0 + cond (b e) 1 0 = each e in
    let rest : count_by p es ≡ count_by a es + count_by b es = both p a b each es in
    let p_step : count_by p (e ∷ es) ≡ cond (p e) 1 0 + count_by p es = sum_by-cons (λ y. cond (p y) 1 0) e es in
    let a_step : count_by a (e ∷ es) ≡ cond (a e) 1 0 + count_by a es = sum_by-cons (λ y. cond (a y) 1 0) e es in
    let b_step : count_by b (e ∷ es) ≡ cond (b e) 1 0 + count_by b es = sum_by-cons (λ y. cond (b y) 1 0) e es in
    omega (arith, here, rest, p_step, a_step, b_step)

both_numbers : (p a b : Entry → Bool) → ((e : Entry) → cond (p e) 1 0 ≡ cond (a e) 1 0 + cond (b e) 1 0) → (es : List Entry)
    → length (filter a es) + length (filter b es) ≡ length (filter p es)
both_numbers p a b each es =
    let whole : length (filter p es) ≡ count_by p es = length-filter p es in
    let first : length (filter a es) ≡ count_by a es = length-filter a es in
    let second : length (filter b es) ≡ count_by b es = length-filter b es in
    let sum : count_by p es ≡ count_by a es + count_by b es = both p a b each es in
    omega (arith, whole, first, second, sum)

no_number : (es : List Entry) → 0 ≡ length (filter (λ e. false) es)
no_number [] = refl
no_number (e ∷ es) = no_number es

sent_parts : (w : What) (link core port by : ℕ) → cond (puts_in link (Port core port) by w) 1 0 ≡ cond (sends core port by w) 1 0 + cond (host_sends link w) 1 0
sent_parts (Sent p item) link core port by = plus_zero (cond (core == by && port == p) 1 0)
sent_parts (HostSent l item) link core port by = zero_plus (cond (l == link) 1 0)
sent_parts _ link core port by = refl

host_sent_part : (w : What) (link by : ℕ) (name : List ℕ) → cond (puts_in link (File name) by w) 1 0 ≡ 0 + cond (host_sends link w) 1 0
host_sent_part (Sent p item) link by name = refl
host_sent_part (HostSent l item) link by name = zero_plus (cond (l == link) 1 0)
host_sent_part _ link by name = refl

taken_parts : (w : What) (link core port by : ℕ) → cond (takes_out link (Port core port) by w) 1 0 ≡ cond (gets core port by w) 1 0 + cond (host_gets link w) 1 0
taken_parts (Got p item) link core port by = plus_zero (cond (core == by && port == p) 1 0)
taken_parts (HostGot l item) link core port by = zero_plus (cond (l == link) 1 0)
taken_parts _ link core port by = refl

host_got_part : (w : What) (link by : ℕ) (name : List ℕ) → cond (takes_out link (File name) by w) 1 0 ≡ 0 + cond (host_gets link w) 1 0
host_got_part (Got p item) link by name = refl
host_got_part (HostGot l item) link by name = zero_plus (cond (l == link) 1 0)
host_got_part _ link by name = refl

sent_at_end : (t : Counters) (es : List Entry) (link : ℕ) (end : End) → IsTally t es → Reaches (length t.sent) end → link < length t.host_sent
    → port_count t.sent end + get_or t.host_sent link 0 ≡ length (filter (λ e. puts_in link end e.core e.what) es)
sent_at_end t es link (Port core port) told (fits, inside) within =
    ap (λ n. n + get_or t.host_sent link 0) (told.sent core port fits inside)
    ∙ ap (λ n. number_of (sends core port) es + n) (told.host_sent link within)
    ∙ both_numbers (λ e. puts_in link (Port core port) e.core e.what) (λ e. sends core port e.core e.what) (λ e. host_sends link e.what)
    (λ e. sent_parts e.what link core port e.core) es
sent_at_end t es link (File name) told reaches within =
    ap (λ n. n + get_or t.host_sent link 0) (no_number es)
    ∙ ap (λ n. length (filter (λ e. false) es) + n) (told.host_sent link within)
    ∙ both_numbers (λ e. puts_in link (File name) e.core e.what) (λ e. false) (λ e. host_sends link e.what)
    (λ e. host_sent_part e.what link e.core name) es

taken_at_end : (t : Counters) (es : List Entry) (link : ℕ) (end : End) → IsTally t es → Reaches (length t.got) end → link < length t.host_got
    → port_count t.got end + get_or t.host_got link 0 ≡ length (filter (λ e. takes_out link end e.core e.what) es)
taken_at_end t es link (Port core port) told (fits, inside) within =
    ap (λ n. n + get_or t.host_got link 0) (told.got core port fits inside)
    ∙ ap (λ n. number_of (gets core port) es + n) (told.host_got link within)
    ∙ both_numbers (λ e. takes_out link (Port core port) e.core e.what) (λ e. gets core port e.core e.what) (λ e. host_gets link e.what)
    (λ e. taken_parts e.what link core port e.core) es
taken_at_end t es link (File name) told reaches within =
    ap (λ n. n + get_or t.host_got link 0) (no_number es)
    ∙ ap (λ n. length (filter (λ e. false) es) + n) (told.host_got link within)
    ∙ both_numbers (λ e. takes_out link (File name) e.core e.what) (λ e. false) (λ e. host_gets link e.what)
    (λ e. host_got_part e.what link e.core name) es

pub sent_is : (t : Counters) (es : List Entry) (rows : List LinkRow) → IsTally t es → Covers t rows → (k : ℕ) (row : LinkRow) → slice_get rows k ≡ Some row
    → sent_of t k row ≡ items_sent es k row
sent_is t es rows told c k row at =
    let within : k < length rows = slice_get_within rows k row at in
    sent_at_end t es k row.from told (c.from k row at) (omega (arith, within, c.host_sent))

pub taken_is : (t : Counters) (es : List Entry) (rows : List LinkRow) → IsTally t es → Covers t rows → (k : ℕ) (row : LinkRow) → slice_get rows k ≡ Some row
    → taken_of t k row ≡ items_taken es k row
taken_is t es rows told c k row at =
    let within : k < length rows = slice_get_within rows k row at in
    taken_at_end t es k row.to told (c.to k row at) (omega (arith, within, c.host_got))

pub fit : (t : Counters) (es : List Entry) (rows : List LinkRow) → length es ≤ 18446744073709551615 → IsTally t es → Covers t rows → Fit t rows
fit t es rows small told c = record {
  sent = λ k row at.
      let is : sent_of t k row ≡ items_sent es k row = sent_is t es rows told c k row at in
      let few : items_sent es k row ≤ length es = number_few (λ e. puts_in k row.from e.core e.what) es in
      omega (arith, is, few, small);
  taken = λ k row at.
      let is : taken_of t k row ≡ items_taken es k row = taken_is t es rows told c k row at in
      let few : items_taken es k row ≤ length es = number_few (λ e. takes_out k row.to e.core e.what) es in
      omega (arith, is, few, small);
}

-- lines by what was counted

same_lines : {X : Type 0} (f g : (ℕ × X) → List ℕ) (n : ℕ) (xs : List X) → ((k : ℕ) (x : X) → slice_get xs k ≡ Some x → f (n + k, x) ≡ g (n + k, x))
    → flat_map f (enumerate_from n xs) ≡ flat_map g (enumerate_from n xs)
same_lines f g n [] each = refl
same_lines f g n (x ∷ xs) each =
    let first : n + 0 ≡ n = omega arith in
    ap (λ m. f (m, x) ++ flat_map f (enumerate_from (n + 1) xs)) (sym first)
    ∙ ap (λ t. t ++ flat_map f (enumerate_from (n + 1) xs)) (each 0 x refl)
    ∙ ap (λ m. g (m, x) ++ flat_map f (enumerate_from (n + 1) xs)) first
    ∙ ap (λ t. g (n, x) ++ t) (same_lines f g (n + 1) xs (λ k y at.
    let along : (n + 1) + k ≡ n + suc k = omega arith in
    ap (λ m. f (m, y)) along ∙ each (suc k) y at ∙ ap (λ m. g (m, y)) (sym along)))

pub link_lines_same : (t : Counters) (es : List Entry) (rows : List LinkRow) → IsTally t es → Covers t rows
    → flat_map (counted_link_line t) (enumerate_from 0 rows) ≡ flat_map (line_of_link es) (enumerate_from 0 rows)
link_lines_same t es rows told c =
    same_lines (counted_link_line t) (line_of_link es) 0 rows (λ k row at.
    let here : 0 + k ≡ k = omega arith in
    ap (λ m. counted_link_line t (m, row)) here
    ∙ ap (λ n. link_line row.name n (taken_of t k row)) (sent_is t es rows told c k row at)
    ∙ ap (λ n. link_line row.name (items_sent es k row) n) (taken_is t es rows told c k row at)
    ∙ ap (λ m. line_of_link es (m, row)) (sym here))

pub uart_lines_same : (t : Counters) (es : List Entry) (rows : List UartRow) → IsTally t es → length t.left ≡ length rows
    → flat_map (counted_uart_line t) (enumerate_from 0 rows) ≡ flat_map (line_of_uart es) (enumerate_from 0 rows)
uart_lines_same t es rows told size =
    same_lines (counted_uart_line t) (line_of_uart es) 0 rows (λ k row at.
    let here : 0 + k ≡ k = omega arith in
    let within : k < length rows = slice_get_within rows k row at in
    ap (λ m. counted_uart_line t (m, row)) here
    ∙ ap (uart_line row.name) (told.left k (omega (arith, within, size)))
    ∙ ap (λ m. line_of_uart es (m, row)) (sym here))

-- the same of rows that the code sees under another name

pub fit_of : (t : Counters) (rows seen : List LinkRow) → seen ≡ rows → Fit t rows → Fit t seen
fit_of t rows seen same f = let P : List LinkRow → Type 0 = λ r. Fit t r in subst P (sym same) f

pub link_lines_of : (t : Counters) (es : List Entry) (rows seen : List LinkRow) → seen ≡ rows → IsTally t es → Covers t rows
    → flat_map (counted_link_line t) (enumerate_from 0 seen) ≡ link_lines es rows
link_lines_of t es rows seen same told c =
    ap (λ r. flat_map (counted_link_line t) (enumerate_from 0 r)) same ∙ link_lines_same t es rows told c

pub uart_lines_of : (t : Counters) (es : List Entry) (rows seen : List UartRow) → seen ≡ rows → IsTally t es → length t.left ≡ length rows
    → flat_map (counted_uart_line t) (enumerate_from 0 seen) ≡ uart_lines es rows
uart_lines_of t es rows seen same told size =
    ap (λ r. flat_map (counted_uart_line t) (enumerate_from 0 r)) same ∙ uart_lines_same t es rows told size
