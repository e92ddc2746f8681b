-- What the threads through the entries of a run tell, and how a file is written along one.
use Rattle.std.proofs.Common.{◌≡◌, ℕ, suc, ◌+◌, ◌-◌, ◌≤◌, ◌<◌, ◌==◌, Bool, true, false, List, [], ◌∷◌, ◌++◌, length, replicate, set, drop, get_or, slice_get, cond, Some, Result, Err, refl, sym, ap, subst, ◌∙◌, arith, append_assoc, append-nil, length-append}
use Rattle.std.specs.Prelude.{⊤}
use Rattle.std.proofs.lemmas.Bool.{eqb-false, eqb-true}
use Rattle.std.proofs.lemmas.Grind.{get_or-set_at}
use Rattle.std.proofs.lemmas.List.{length-set, get_or-replicate, get_or-set_other, length-replicate}
use Rattle.std.proofs.lemmas.Option.{get_or_from_slice_get}
use Rattle.run_journal.specs.Files.{bytes_got, bytes_left}
use Rattle.std.proofs.lemmas.List.Concat.{flat_map-append}
use Rattle.host_io.specs.declared.faults.StoreFault.{StoreFault}
use Rattle.host_io.specs.Outside.{ShelfState}
use Rattle.run_journal.specs.declared.entry.Entry.{Entry}
use Rattle.run_journal.specs.declared.entry.What.{What}
use Rattle.run_journal.specs.declared.entry.What.TheVariants.{Got, HostGot, Left}
use Rattle.run_output.specs.declared.pieces.Exit.{Exit}
use Rattle.run_output.specs.declared.pieces.Exit.TheVariants.{Link, Uart}
use Rattle.piece_output.specs.Stored.{IsWriting, Wrote}
use Rattle.piece_output.proofs.Written.{failed_longer}
use Rattle.run_output.specs.Threads.{Knows, Lie, Threaded, bare, bytes_at, file_of, from_first, head_of, headed, last_of, leaves_by, next_of, threaded, through}
use Rattle.std.proofs.Math.ListN.{get_or-append}
use Rattle.std.proofs.Math.Seq.{drop-cons, drop-length, get_or-append_seam}

-- sizes

headed_links : (w : What) (n : ℕ) (t : Threaded) → length (headed w n t).links ≡ length t.links
headed_links (HostGot l item) n t = length-set t.links l n
headed_links (Left u byte) n t = refl
headed_links _ n t = refl

headed_uarts : (w : What) (n : ℕ) (t : Threaded) → length (headed w n t).uarts ≡ length t.uarts
headed_uarts (HostGot l item) n t = refl
headed_uarts (Left u byte) n t = length-set t.uarts u n
headed_uarts _ n t = refl

headed_room : (w : What) (n : ℕ) (t : Threaded) → (headed w n t).room ≡ t.room
headed_room (HostGot l item) n t = refl
headed_room (Left u byte) n t = refl
headed_room _ n t = refl

pub through_links : (t : Threaded) (es : List Entry) → length (through t es).links ≡ length t.links
through_links t [] = length-replicate (length t.links) 0
through_links t (e ∷ es) = headed_links e.what (length (through t es).next + 1) (through t es) ∙ through_links t es

pub through_uarts : (t : Threaded) (es : List Entry) → length (through t es).uarts ≡ length t.uarts
through_uarts t [] = length-replicate (length t.uarts) 0
through_uarts t (e ∷ es) = headed_uarts e.what (length (through t es).next + 1) (through t es) ∙ through_uarts t es

pub through_room : (t : Threaded) (es : List Entry) → (through t es).room ≡ t.room
through_room t [] = refl
through_room t (e ∷ es) = headed_room e.what (length (through t es).next + 1) (through t es) ∙ through_room t es

pub through_next : (t : Threaded) (es : List Entry) → length (through t es).next ≡ length es
through_next t [] = refl
through_next t (e ∷ es) =
    let more : length ((through t es).next ++ next_of e.what (through t es) ∷ []) ≡ length (through t es).next + 1 = length-append (through t es).next (next_of e.what (through t es) ∷ []) in
    let so_far : length (through t es).next ≡ length es = through_next t es in
    omega (arith, more, so_far)

-- the next entry of one is the first of those behind it
next_at : (t : Threaded) (front : List Entry) (e : Entry) (es : List Entry)
    → get_or (through t (front ++ e ∷ es)).next (length es) 0 ≡ next_of e.what (through t es)
next_at t [] e es =
    let P : ℕ → Type 0 = λ n. get_or ((through t es).next ++ next_of e.what (through t es) ∷ []) n 0 ≡ next_of e.what (through t es) in
    subst P (through_next t es) (get_or-append_seam (through t es).next (next_of e.what (through t es)) [] 0)
next_at t (x ∷ xs) e es =
    let size : length (through t (xs ++ e ∷ es)).next ≡ length (xs ++ e ∷ es) = through_next t (xs ++ e ∷ es) in
    let parts : length (xs ++ e ∷ es) ≡ length xs + length (e ∷ es) = length-append xs (e ∷ es) in
    get_or-append (through t (xs ++ e ∷ es)).next (next_of x.what (through t (xs ++ e ∷ es)) ∷ []) 0 (length es) (omega (arith, size, parts))
    ∙ next_at t xs e es

set_at : (xs : List ℕ) (l k v : ℕ) (b : Bool) → (l == k) ≡ b → k + 1 ≤ length xs → get_or (set xs l v) k 0 ≡ cond b v (get_or xs k 0)
set_at xs l k v true is within = let same : l ≡ k = eqb-true l k is in get_or-set_at xs l k v 0 (sym same) (omega (arith, same, within))
set_at xs l k v false is within = get_or-set_other xs l k v 0 (λ same. eqb-false l k is (sym same))

-- the first entries of the exits
headed_link : (w : What) (t : Threaded) (k n rest : ℕ) → k + 1 ≤ length t.links → get_or t.links k 0 ≡ rest
    → get_or (headed w n t).links k 0 ≡ cond (leaves_by (Link k) w) n rest
headed_link (HostGot l item) t k n rest within so_far = set_at t.links l k n (l == k) refl within ∙ ap (cond (l == k) n) so_far
headed_link (Left u byte) t k n rest within so_far = so_far
headed_link _ t k n rest within so_far = so_far

head_in_links : (t : Threaded) (es : List Entry) (k : ℕ) → k + 1 ≤ length t.links → get_or (through t es).links k 0 ≡ from_first (Link k) es
head_in_links t [] k within = get_or-replicate (length t.links) k 0 0 (omega (arith, within))
head_in_links t (e ∷ es) k within =
    let same : length (through t es).links ≡ length t.links = through_links t es in
    let size : length (through t es).next ≡ length es = through_next t es in
    headed_link e.what (through t es) k (length (through t es).next + 1) (from_first (Link k) es) (omega (arith, same, within)) (head_in_links t es k within)
    ∙ ap (λ n. cond (leaves_by (Link k) e.what) (n + 1) (from_first (Link k) es)) size

headed_uart : (w : What) (t : Threaded) (k n rest : ℕ) → k + 1 ≤ length t.uarts → get_or t.uarts k 0 ≡ rest
    → get_or (headed w n t).uarts k 0 ≡ cond (leaves_by (Uart k) w) n rest
headed_uart (HostGot l item) t k n rest within so_far = so_far
headed_uart (Left u byte) t k n rest within so_far = set_at t.uarts u k n (u == k) refl within ∙ ap (cond (u == k) n) so_far
headed_uart _ t k n rest within so_far = so_far

head_in_uarts : (t : Threaded) (es : List Entry) (k : ℕ) → k + 1 ≤ length t.uarts → get_or (through t es).uarts k 0 ≡ from_first (Uart k) es
head_in_uarts t [] k within = get_or-replicate (length t.uarts) k 0 0 (omega (arith, within))
head_in_uarts t (e ∷ es) k within =
    let same : length (through t es).uarts ≡ length t.uarts = through_uarts t es in
    let size : length (through t es).next ≡ length es = through_next t es in
    headed_uart e.what (through t es) k (length (through t es).next + 1) (from_first (Uart k) es) (omega (arith, same, within)) (head_in_uarts t es k within)
    ∙ ap (λ n. cond (leaves_by (Uart k) e.what) (n + 1) (from_first (Uart k) es)) size

pub head_is : (t : Threaded) (exit : Exit) (es : List Entry) → Knows t exit → head_of (through t es) exit ≡ from_first exit es
head_is t (Link k) es knows = head_in_links t es k knows
head_is t (Uart k) es knows = head_in_uarts t es k knows

next_is_head : (t : Threaded) (exit : Exit) (w : What) → leaves_by exit w ≡ true → next_of w t ≡ head_of t exit
next_is_head t (Link k) (HostGot l item) leaves = ap (λ n. get_or t.links n 0) (eqb-true l k leaves)
next_is_head t (Link k) (Left u byte) leaves = cc
next_is_head t (Link k) _ leaves = cc
next_is_head t (Uart k) (HostGot l item) leaves = cc
next_is_head t (Uart k) (Left u byte) leaves = ap (λ n. get_or t.uarts n 0) (eqb-true u k leaves)
next_is_head t (Uart k) _ leaves = cc

next_is : (t : Threaded) (exit : Exit) (front : List Entry) (e : Entry) (es : List Entry) → Knows t exit → leaves_by exit e.what ≡ true
    → get_or (through t (front ++ e ∷ es)).next (length es) 0 ≡ from_first exit es
next_is t exit front e es knows leaves = next_at t front e es ∙ next_is_head (through t es) exit e.what leaves ∙ head_is t exit es knows

-- threads over others that know as many exits
bare_same : (a b : Threaded) → length a.links ≡ length b.links → length a.uarts ≡ length b.uarts → a.room ≡ b.room → bare a ≡ bare b
bare_same a b l u r = λ i. record { links = replicate (l i) 0; uarts = replicate (u i) 0; next = []; room = r i }

through_same : (a b : Threaded) (es : List Entry) → length a.links ≡ length b.links → length a.uarts ≡ length b.uarts → a.room ≡ b.room → through a es ≡ through b es
through_same a b [] l u r = bare_same a b l u r
through_same a b (e ∷ es) l u r = ap (threaded e.what) (through_same a b es l u r)

-- threads that were laid through the last entries
pub lie_so : (old t : Threaded) (entries : List Entry) (count : ℕ) → length t.next ≡ count → count ≤ length entries
    → t ≡ through old (drop (length entries - count) entries) → Lie t entries
lie_so old t entries count size few is =
    let P : ℕ → Type 0 = λ n. t ≡ through old (drop (length entries - n) entries) in
    let laid : t ≡ through old (last_of t entries) = subst P (sym size) is in
    let links : length old.links ≡ length t.links = sym (ap (λ (x : Threaded). length x.links) laid ∙ through_links old (last_of t entries)) in
    let uarts : length old.uarts ≡ length t.uarts = sym (ap (λ (x : Threaded). length x.uarts) laid ∙ through_uarts old (last_of t entries)) in
    let room : old.room ≡ t.room = sym (ap (λ (x : Threaded). x.room) laid ∙ through_room old (last_of t entries)) in
    record { few = subst (λ n. n ≤ length entries) (sym size) few; threads = laid ∙ through_same old t (last_of t entries) links uarts room }

-- from an exit's first entry on

few_by : (b : Bool) (n m : ℕ) → n ≤ m → cond b (m + 1) n ≤ suc m
few_by true n m few = omega arith
few_by false n m few = omega (arith, few)

from_first_few : (exit : Exit) (es : List Entry) → from_first exit es ≤ length es
from_first_few exit [] = omega arith
from_first_few exit (e ∷ es) = few_by (leaves_by exit e.what) (from_first exit es) (length es) (from_first_few exit es)

nothing_got : (k : ℕ) (w : What) → leaves_by (Link k) w ≡ false → bytes_got k w ≡ []
nothing_got k (HostGot l item) none = rw none refl
nothing_got k (Left u byte) none = refl
nothing_got k _ none = refl

nothing_left : (k : ℕ) (w : What) → leaves_by (Uart k) w ≡ false → bytes_left k w ≡ []
nothing_left k (HostGot l item) none = refl
nothing_left k (Left u byte) none = rw none refl
nothing_left k _ none = refl

nothing_at : (exit : Exit) (e : Entry) → leaves_by exit e.what ≡ false → bytes_at exit e ≡ []
nothing_at (Link k) e none = nothing_got k e.what none
nothing_at (Uart k) e none = nothing_left k e.what none

-- entries that add nothing, and then none or those from the exit's first on
record Found (exit : Exit) (es : List Entry) : Type 0 where
  passed : List Entry
  rest : List Entry
  all : es ≡ passed ++ rest
  nothing : file_of exit passed ≡ []
  place : from_first exit es ≡ length rest
  first : from_first exit rest ≡ length rest

found_by : (exit : Exit) (e : Entry) (es : List Entry) (b : Bool) → leaves_by exit e.what ≡ b → Found exit es → Found exit (e ∷ es)
found_by exit e es true is f =
    let here : from_first exit (e ∷ es) ≡ length (e ∷ es) = ap (λ b. cond b (length es + 1) (from_first exit es)) is ∙ omega arith in
    record { passed = []; rest = e ∷ es; all = refl; nothing = refl; place = here; first = here }
found_by exit e es false is f = record {
  passed = e ∷ f.passed;
  rest = f.rest;
  all = ap (λ xs. e ∷ xs) f.all;
  nothing = ap (λ bytes. bytes ++ file_of exit f.passed) (nothing_at exit e is) ∙ f.nothing;
  place = ap (λ b. cond b (length es + 1) (from_first exit es)) is ∙ f.place;
  first = f.first;
}

found : (exit : Exit) (es : List Entry) → Found exit es
found exit [] = record { passed = []; rest = []; all = refl; nothing = refl; place = refl; first = refl }
found exit (e ∷ es) = found_by exit e es (leaves_by exit e.what) refl (found exit es)

-- a file is written along its thread: what the entries in front add is written, and so many entries are left, the first of
-- them one of the exit
pub record IsAlong (exit : Exit) (entries : List Entry) (left : ℕ) (IsWritten : List ℕ → Type 0) : Type 0 where
  pub front : List Entry
  pub rest : List Entry
  pub all : entries ≡ front ++ rest
  pub here : left ≡ length rest
  pub first : left ≡ from_first exit rest
  pub written : IsWritten (file_of exit front)

pub begins : (t : Threaded) (exit : Exit) (entries : List Entry) (left : ℕ) (W : List ℕ → Type 0) → t ≡ through t entries → Knows t exit → left ≡ head_of t exit
    → W [] → IsAlong exit entries left W
begins t exit entries left W is knows head none =
    let f = found exit entries in
    let place : left ≡ from_first exit entries = head ∙ ap (λ x. head_of x exit) is ∙ head_is t exit entries knows in
    record { front = f.passed; rest = f.rest; all = f.all; here = place ∙ f.place; first = place ∙ f.place ∙ sym f.first; written = subst W (sym f.nothing) none }

-- the entry that is next, and those behind it
record Here (exit : Exit) (entries front : List Entry) (left : ℕ) (e : Entry) : Type 0 where
  behind : List Entry
  split : entries ≡ front ++ e ∷ behind
  size : left ≡ length behind + 1
  leaves : leaves_by exit e.what ≡ true

leaves_first : (b : Bool) (n m : ℕ) → n ≤ m → suc m ≡ cond b (m + 1) n → b ≡ true
leaves_first true n m few is = refl
leaves_first false n m few is = absurd (let h : suc m ≡ n = is in omega (arith, h, few))

here_in : (exit : Exit) (entries front rest : List Entry) (left : ℕ) (e : Entry) → entries ≡ front ++ rest → left ≡ length rest → left ≡ from_first exit rest → 0 < left
    → slice_get entries (length entries - left) ≡ Some e → Here exit entries front left e
here_in exit entries front [] left e all here first some at = absurd (omega (arith, here, some))
here_in exit entries front (x ∷ xs) left e all here first some at =
    let sizes : length entries ≡ length front + length (x ∷ xs) = ap length all ∙ length-append front (x ∷ xs) in
    let place : length entries - left ≡ length front = omega (arith, sizes, here) in
    let is : x ≡ e = sym (get_or-append_seam front x xs e) ∙ ap (λ es. get_or es (length front) e) (sym all) ∙ ap (λ n. get_or entries n e) (sym place)
    ∙ get_or_from_slice_get entries (length entries - left) e e at in
    record {
      behind = xs;
      split = all ∙ ap (λ y. front ++ y ∷ xs) is;
      size = here ∙ omega arith;
      leaves = ap (λ (y : Entry). leaves_by exit y.what) (sym is) ∙ leaves_first (leaves_by exit x.what) (from_first exit xs) (length xs) (from_first_few exit xs) (sym here ∙ first);
    }

file_then : (exit : Exit) (front : List Entry) (e : Entry) (es : List Entry) → file_of exit (front ++ e ∷ es) ≡ (file_of exit front ++ bytes_at exit e) ++ file_of exit es
file_then exit front e es = flat_map-append (bytes_at exit) front (e ∷ es) ∙ sym (append_assoc (file_of exit front) (bytes_at exit e) (file_of exit es))

-- the place of the next entry
next_place : (t : Threaded) (exit : Exit) (entries front : List Entry) (left next : ℕ) (e : Entry) (h : Here exit entries front left e) → t ≡ through t entries → Knows t exit
    → next ≡ get_or t.next (left - 1) 0 → next ≡ from_first exit h.behind
next_place t exit entries front left next e h is knows at =
    let place : left - 1 ≡ length h.behind = let size = h.size in omega (arith, size) in
    at ∙ ap (λ n. get_or t.next n 0) place ∙ ap (λ (x : Threaded). get_or x.next (length h.behind) 0) (is ∙ ap (through t) h.split)
    ∙ next_is t exit front e h.behind knows h.leaves

pub goes_along : (t : Threaded) (exit : Exit) (entries : List Entry) (left next : ℕ) (e : Entry) (W V : List ℕ → Type 0) → t ≡ through t entries → Knows t exit → 0 < left
    → slice_get entries (length entries - left) ≡ Some e → next ≡ get_or t.next (left - 1) 0 → ((bytes : List ℕ) → W bytes → V (bytes ++ bytes_at exit e))
    → IsAlong exit entries left W → IsAlong exit entries next V
goes_along t exit entries left next e W V is knows some at to adds a =
    let h = here_in exit entries a.front a.rest left e a.all a.here a.first some at in
    let f = found exit h.behind in
    let place : next ≡ from_first exit h.behind = next_place t exit entries a.front left next e h is knows to in
    record {
      front = a.front ++ e ∷ f.passed;
      rest = f.rest;
      all = h.split ∙ ap (λ es. a.front ++ e ∷ es) f.all ∙ sym (append_assoc a.front (e ∷ f.passed) f.rest);
      here = place ∙ f.place;
      first = place ∙ f.place ∙ sym f.first;
      written = subst V (sym (file_then exit a.front e f.passed ∙ ap (λ bytes. (file_of exit a.front ++ bytes_at exit e) ++ bytes) f.nothing ∙ append-nil (file_of exit a.front ++ bytes_at exit e)))
          (adds (file_of exit a.front) a.written);
    }

pub gets_near : (t : Threaded) (exit : Exit) (entries : List Entry) (left next : ℕ) (e : Entry) (W : List ℕ → Type 0) → t ≡ through t entries → Knows t exit → 0 < left
    → slice_get entries (length entries - left) ≡ Some e → next ≡ get_or t.next (left - 1) 0 → IsAlong exit entries left W → next < left
gets_near t exit entries left next e W is knows some at to a =
    let h = here_in exit entries a.front a.rest left e a.all a.here a.first some at in
    let place : next ≡ from_first exit h.behind = next_place t exit entries a.front left next e h is knows to in
    let few : from_first exit h.behind ≤ length h.behind = from_first_few exit h.behind in
    let size : left ≡ length h.behind + 1 = h.size in
    omega (arith, place, few, size)

empty : {X : Type 0} (xs : List X) → length xs ≡ 0 → xs ≡ []
empty [] none = refl
empty (x ∷ xs) none = absurd (omega (arith, none))

pub at_end : (exit : Exit) (entries : List Entry) (left : ℕ) (W : List ℕ → Type 0) → left ≡ 0 → IsAlong exit entries left W → W (file_of exit entries)
at_end exit entries left W none a = subst W (ap (file_of exit) (sym (a.all ∙ ap (λ es. a.front ++ es) (empty a.rest (sym a.here ∙ none)) ∙ append-nil a.front))) a.written

-- the file up to an entry, and what is behind it
pub stopped_at : (exit : Exit) (entries : List Entry) (left : ℕ) (e : Entry) (W : List ℕ → Type 0) (V : Type 0) → 0 < left → slice_get entries (length entries - left) ≡ Some e
    → ((front behind : List ℕ) → file_of exit entries ≡ (front ++ bytes_at exit e) ++ behind → W front → V) → IsAlong exit entries left W → V
stopped_at exit entries left e W V some at stops a =
    let h = here_in exit entries a.front a.rest left e a.all a.here a.first some at in
    stops (file_of exit a.front) (file_of exit h.behind) (ap (file_of exit) h.split ∙ file_then exit a.front e h.behind) a.written

-- what the code takes for an entry that isn't there
abbrev pub no_entry : Entry
no_entry = record { cycle = 0; act = 0; core = 0; what = Got 0 (record { word = 0; control = false }) }

-- one more entry is threaded
pub one_more : (old t new : Threaded) (entries : List Entry) (count : ℕ) (what : What) → count < length entries → what ≡ (get_or entries (length entries - 1 - count) no_entry).what
    → t ≡ through old (drop (length entries - count) entries) → new ≡ threaded what t → new ≡ through old (drop (length entries - (count + 1)) entries)
one_more old t new entries count what within is so_far then =
    let here : length entries - (count + 1) ≡ length entries - 1 - count = omega (arith, within) in
    let behind : suc (length entries - 1 - count) ≡ length entries - count = omega (arith, within) in
    let inside : length entries - 1 - count < length entries = omega (arith, within) in
    let split : drop (length entries - (count + 1)) entries ≡ get_or entries (length entries - 1 - count) no_entry ∷ drop (length entries - count) entries
    = ap (λ n. drop n entries) here ∙ drop-cons entries (length entries - 1 - count) no_entry inside
    ∙ ap (λ n. get_or entries (length entries - 1 - count) no_entry ∷ drop n entries) behind in
    then ∙ ap (λ w. threaded w t) is ∙ ap (threaded (get_or entries (length entries - 1 - count) no_entry).what) so_far ∙ ap (through old) (sym split)

pub none_yet : (old t : Threaded) (entries : List Entry) → t ≡ bare old → t ≡ through old (drop (length entries - 0) entries)
none_yet old t entries is =
    let all : length entries ≡ length entries - 0 = omega arith in
    is ∙ ap (through old) (sym (drop-length entries) ∙ ap (λ n. drop n entries) all)

pub threaded_next : (w : What) (t : Threaded) → length (threaded w t).next ≡ length t.next + 1
threaded_next w t = length-append t.next (next_of w t ∷ [])

pub threaded_room : (w : What) (t : Threaded) → (threaded w t).room ≡ t.room
threaded_room w t = headed_room w (length t.next + 1) t

-- the code's numbers and bytes

pub inside : (exit : Exit) (entries : List Entry) (left : ℕ) (W : List ℕ → Type 0) → IsAlong exit entries left W → 0 < left → length entries - left < length entries
inside exit entries left W a some =
    let sizes : length entries ≡ length a.front + length a.rest = ap length a.all ∙ length-append a.front a.rest in
    let here : left ≡ length a.rest = a.here in
    omega (arith, sizes, here, some)

pub added_to : (before now : ShelfState) (name buffer done bytes piece what : List ℕ) → piece ≡ what → IsWriting before now name buffer ((done ++ bytes) ++ piece)
    → IsWriting before now name buffer (done ++ (bytes ++ what))
added_to before now name buffer done bytes piece what is w =
    let P : List ℕ → Type 0 = λ xs. IsWriting before now name buffer xs in
    subst P (ap (λ x. (done ++ bytes) ++ x) is ∙ append_assoc done bytes what) w

pub cut_off : (before new : ShelfState) (name done front piece what behind all : List ℕ) (fault : StoreFault) → piece ≡ what → all ≡ (front ++ what) ++ behind
    → Wrote before new name ((done ++ front) ++ piece) (Err fault) → Wrote before new name (done ++ all) (Err fault)
cut_off before new name done front piece what behind all fault is split h =
    let P : List ℕ → Type 0 = λ xs. Wrote before new name xs (Err fault) in
    subst P (append_assoc (done ++ front) what behind ∙ append_assoc done front (what ++ behind) ∙ ap (λ x. done ++ x) (sym (append_assoc front what behind) ∙ sym split))
    (failed_longer before new name ((done ++ front) ++ what) behind fault (subst P (ap (λ x. (done ++ front) ++ x) is) h))

pub nothing_more : (before now : ShelfState) (name buffer done : List ℕ) → IsWriting before now name buffer done → IsWriting before now name buffer (done ++ [])
nothing_more before now name buffer done w = let P : List ℕ → Type 0 = λ xs. IsWriting before now name buffer xs in subst P (sym (append-nil done)) w

pub file_parts : (exit : Exit) (entries early late : List Entry) → entries ≡ early ++ late → file_of exit early ++ file_of exit late ≡ file_of exit entries
file_parts exit entries early late split = sym (ap (file_of exit) split ∙ flat_map-append (bytes_at exit) early late)

pub late_threads : (t : Threaded) (entries late : List Entry) (n : ℕ) → Lie t entries → n ≡ length t.next → late ≡ drop (length entries - n) entries → t ≡ through t late
late_threads t entries late n lie size is = lie.threads ∙ ap (through t) (sym (is ∙ ap (λ m. drop (length entries - m) entries) size))

-- a file of some entries, and of those behind them

pub early_cut : (old new : ShelfState) (name : List ℕ) (exit : Exit) (entries early late : List Entry) (fault : StoreFault) → entries ≡ early ++ late
    → Wrote old new name (file_of exit early) (Err fault) → Wrote old new name (file_of exit entries) (Err fault)
early_cut old new name exit entries early late fault split h =
    let P : List ℕ → Type 0 = λ xs. Wrote old new name xs (Err fault) in
    subst P (file_parts exit entries early late split) (failed_longer old new name (file_of exit early) (file_of exit late) fault h)

pub late_either : (old new : ShelfState) (name : List ℕ) (exit : Exit) (entries early late : List Entry) (result : Result ⊤ StoreFault) → entries ≡ early ++ late
    → Wrote old new name (file_of exit early ++ file_of exit late) result → Wrote old new name (file_of exit entries) result
late_either old new name exit entries early late result split h =
    let P : List ℕ → Type 0 = λ xs. Wrote old new name xs result in
    subst P (file_parts exit entries early late split) h
