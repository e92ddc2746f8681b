-- Probes that are told an entry, one after the other; and entries, one after the other.
use Rattle.std.proofs.Common.{◌≡◌, ℕ, ◌+◌, ◌-◌, ◌<◌, ◌≤◌, ◌^◌, ◌||◌, Bool, true, false, List, [], ◌∷◌, ◌++◌, length, map, filter, take, drop, get_or, slice_index_or, slice_set, Option, Some, None, if◌then◌else◌, cond, refl, sym, ap, ◌∙◌, arith, append_assoc, append-nil, length-append, add-one, subst, suc}
use Rattle.std.specs.List.{AllByRecursion, list_any}
use Rattle.std.specs.Str.{bytes_eq}
use Rattle.std.proofs.Math.Seq.{set-append_seam, get_or-append_seam, take-append_seam, drop-append-add, drop-cons}
use Rattle.std.proofs.lemmas.List.{drop_all, map-append, map-set, length-map, get_or-map}
use Rattle.std.proofs.lemmas.List.Folds.{list_any-append}
use Rattle.std.proofs.lemmas.List.Elements.{filter-append}
use Rattle.run_journal.specs.declared.entry.Entry.{Entry}
use Rattle.run_journal.specs.declared.entry.What.TheVariants.{Got}
use Rattle.probe_set.specs.declared.probe.ProbeState.{ProbeState}
use Rattle.probe_set.specs.Folds.{asks, counts, told}
use Rattle.probe_set.specs.Sets.{HaveRoom, Named, all_told, all_told_each, any_asks, any_asks_each, named, named_told, state_named}

-- what is left from the next on
left_of : {A : Type 0} (xs : List A) (k : ℕ) (x : A) → k < length xs → x ≡ get_or xs k x → drop k xs ≡ x ∷ drop (k + 1) xs
left_of xs k x there found = drop-cons xs k x there ∙ ap (λ y. y ∷ drop (suc k) xs) (sym found) ∙ ap (λ i. x ∷ drop i xs) (sym (add-one k))

-- a list of which the first k probes were told an entry
pub record Partly (e : Entry) (ns now : List Named) (k : ℕ) (asked : Bool) : Type 0 where
  pub before : List Named
  pub after : List Named
  pub was : ns ≡ before ++ after
  pub is : now ≡ all_told e before ++ after
  pub at : length before ≡ k
  pub asks_so_far : asked ≡ any_asks e before

pub partly_none : (e : Entry) (ns : List Named) → Partly e ns ns 0 false
partly_none e ns = record { before = []; after = ns; was = refl; is = refl; at = refl; asks_so_far = refl }

or_false : (a : Bool) → (a || false) ≡ a
or_false true = refl
or_false false = refl

any_more : (e : Entry) (before : List Named) (n : Named) → any_asks e (before ++ n ∷ []) ≡ (any_asks e before || asks n.state.kind e)
any_more e before n = list_any-append (λ (m : Named). asks m.state.kind e) before (n ∷ []) ∙ ap (λ b. any_asks e before || b) (or_false (asks n.state.kind e))

told_length : (e : Entry) (before : List Named) (k : ℕ) → length before ≡ k → length (all_told e before) ≡ k
told_length e before k at = length-map before (named_told e) ∙ at

-- the probe in its place
here : (e : Entry) (before rest : List Named) (n d : Named) (now : List Named) (k : ℕ) → now ≡ all_told e before ++ n ∷ rest → length before ≡ k → get_or now k d ≡ n
here e before rest n d now k is at =
    ap (λ l. get_or l k d) is ∙ ap (λ i. get_or (all_told e before ++ n ∷ rest) i d) (sym (told_length e before k at)) ∙ get_or-append_seam (all_told e before) n rest d

changed : (e : Entry) (before rest : List Named) (n m : Named) (now : List Named) (k : ℕ) → now ≡ all_told e before ++ n ∷ rest → length before ≡ k → m ≡ named_told e n → slice_set now k m ≡ all_told e (before ++ n ∷ []) ++ rest
changed e before rest n m now k is at told_it =
    ap (λ l. slice_set l k m) is
    ∙ ap (λ i. slice_set (all_told e before ++ n ∷ rest) i m) (sym (told_length e before k at))
    ∙ set-append_seam (all_told e before) n rest m
    ∙ ap (λ x. all_told e before ++ x ∷ rest) told_it
    ∙ sym (append_assoc (all_told e before) (named_told e n ∷ []) rest)
    ∙ ap (λ l. l ++ rest) (sym (map-append (named_told e) before (n ∷ [])))

-- the same of a list of names and states
more : (e : Entry) (ns now : List Named) (k : ℕ) (asked : Bool) (x m : Named) (before after : List Named) → ns ≡ before ++ after → now ≡ all_told e before ++ after → length before ≡ k → asked ≡ any_asks e before → k < length now → get_or now k x ≡ x → m ≡ named_told e x → Partly e ns (slice_set now k m) (k + 1) (asked || asks x.state.kind e)
more e ns now k asked x m before [] was is at asks_so_far there found told_it =
    let n : length now ≡ length (all_told e before) + 0 = ap length is ∙ length-append (all_told e before) [] in
    absurd (omega (arith, n, told_length e before k at))
more e ns now k asked x m before (n ∷ rest) was is at asks_so_far there found told_it =
    let same : x ≡ n = sym found ∙ here e before rest n x now k is at in
    record {
      before = before ++ n ∷ [];
      after = rest;
      was = was ∙ sym (append_assoc before (n ∷ []) rest);
      is = changed e before rest n m now k is at (told_it ∙ ap (named_told e) same);
      at = length-append before (n ∷ []) ∙ ap (λ i. i + 1) at;
      asks_so_far = ap (λ b. b || asks x.state.kind e) asks_so_far ∙ ap (λ (y : Named). any_asks e before || asks y.state.kind e) same ∙ sym (any_more e before n);
    }

moved : {e : Entry} {ns now new : List Named} {k : ℕ} {asked : Bool} → now ≡ new → Partly e ns now k asked → Partly e ns new k asked
moved same p = record { before = p.before; after = p.after; was = p.was; is = sym same ∙ p.is; at = p.at; asks_so_far = p.asks_so_far }

-- one more of what the list is seen as
pub partly_more : {A : Type 0} (f : A → Named) (e : Entry) (ns : List Named) (xs : List A) (k : ℕ) (asked answer new : Bool) (x y : A) → Partly e ns (map f xs) k asked → k < length xs → x ≡ get_or xs k x → f y ≡ named_told e (f x) → answer ≡ asks (f x).state.kind e → new ≡ (asked || answer) → Partly e ns (map f (slice_set xs k y)) (k + 1) new
partly_more f e ns xs k asked answer new x y p there found told_it says joins =
    let seen : get_or (map f xs) k (f x) ≡ f x = get_or-map f xs k x (f x) there ∙ ap f (sym found) in
    let within : k < length (map f xs) = omega (arith, length-map xs f) in
    let P : Bool → Type 0 = λ b. Partly e ns (map f (slice_set xs k y)) (k + 1) b in
    let last : (asked || asks (f x).state.kind e) ≡ new = sym (joins ∙ ap (λ b. asked || b) says) in
    subst P last (moved (sym (map-set f xs k y)) (more e ns (map f xs) k asked (f x) (f y) p.before p.after p.was p.is p.at p.asks_so_far within seen told_it))

all_of : (e : Entry) (ns now : List Named) (k : ℕ) (asked : Bool) (before after : List Named) → ns ≡ before ++ after → now ≡ all_told e before ++ after → length before ≡ k → asked ≡ any_asks e before → length now ≤ k → (now ≡ all_told e ns) × (asked ≡ any_asks e ns)
all_of e ns now k asked before [] was is at asks_so_far n =
    let whole : before ≡ ns = sym (append-nil before) ∙ sym was in
    (is ∙ append-nil (all_told e before) ∙ ap (all_told e) whole, asks_so_far ∙ ap (any_asks e) whole)
all_of e ns now k asked before (m ∷ rest) was is at asks_so_far n =
    let size : length now ≡ length (all_told e before) + length (m ∷ rest) = ap length is ∙ length-append (all_told e before) (m ∷ rest) in
    absurd (omega (arith, size, told_length e before k at))

-- as many as before
same_length : (e : Entry) (ns now before after : List Named) → ns ≡ before ++ after → now ≡ all_told e before ++ after → length now ≡ length ns
same_length e ns now before after was is =
    ap length is ∙ length-append (all_told e before) after ∙ ap (λ n. n + length after) (length-map before (named_told e)) ∙ sym (length-append before after) ∙ sym (ap length was)

pub partly_length : {A : Type 0} (f : A → Named) (e : Entry) (old xs : List A) (k : ℕ) (asked : Bool) → Partly e (map f old) (map f xs) k asked → length xs ≡ length old
partly_length f e old xs k asked p =
    sym (length-map xs f) ∙ same_length e (map f old) (map f xs) p.before p.after p.was p.is ∙ length-map old f

-- all were told
pub partly_all : {A : Type 0} (f : A → Named) (e : Entry) (ns : List Named) (xs : List A) (k : ℕ) (asked : Bool) → Partly e ns (map f xs) k asked → length xs ≤ k → (map f xs ≡ all_told e ns) × (asked ≡ any_asks e ns)
partly_all f e ns xs k asked p past =
    let n : length (map f xs) ≤ k = omega (arith, length-map xs f) in
    all_of e ns (map f xs) k asked p.before p.after p.was p.is p.at p.asks_so_far n

room_in : (m : ℕ) (before rest : List Named) (n : Named) → HaveRoom m (before ++ n ∷ rest) → n.state.count + m < 2 ^ 64
room_in m [] rest n (first, others) = first
room_in m (b ∷ bs) rest n (first, others) = room_in m bs rest n others

room_at : (e : Entry) (ns now : List Named) (k : ℕ) (x : Named) (before after : List Named) → ns ≡ before ++ after → now ≡ all_told e before ++ after → length before ≡ k → k < length now → get_or now k x ≡ x → HaveRoom 1 ns → x.state.count + 1 < 2 ^ 64
room_at e ns now k x before [] was is at there found room =
    let size : length now ≡ length (all_told e before) + 0 = ap length is ∙ length-append (all_told e before) [] in
    absurd (omega (arith, size, told_length e before k at))
room_at e ns now k x before (n ∷ rest) was is at there found room =
    let same : n ≡ x = sym (here e before rest n x now k is at) ∙ found in
    let P : Named → Type 0 = λ y. y.state.count + 1 < 2 ^ 64 in
    let Q : List Named → Type 0 = λ l. HaveRoom 1 l in
    subst P same (room_in 1 before rest n (subst Q was room))

-- the next probe has room for an entry
pub partly_room : {A : Type 0} (f : A → Named) (e : Entry) (ns : List Named) (xs : List A) (k : ℕ) (asked : Bool) (x : A) → Partly e ns (map f xs) k asked → k < length xs → x ≡ get_or xs k x → HaveRoom 1 ns → (f x).state.count + 1 < 2 ^ 64
partly_room f e ns xs k asked x p there found room =
    let seen : get_or (map f xs) k (f x) ≡ f x = get_or-map f xs k x (f x) there ∙ ap f (sym found) in
    let within : k < length (map f xs) = omega (arith, length-map xs f) in
    room_at e ns (map f xs) k (f x) p.before p.after p.was p.is p.at within seen room

-- Entries, one after the other.

told_count : (e : Entry) (s : ProbeState) → (told e s).count ≤ s.count + 1
told_count e s = elim (counts s.kind e) as (λ b. (if b then s.count + 1 else s.count) ≤ s.count + 1) [ true ↦ omega arith | false ↦ omega arith ]

pub room_told : (e : Entry) (m : ℕ) (ns : List Named) → HaveRoom (suc m) ns → HaveRoom m (all_told e ns)
room_told e m [] room = tt
room_told e m (n ∷ ns) (first, others) = (omega (arith, told_count e n.state), room_told e m ns others)

pub room_less : (m : ℕ) (ns : List Named) → HaveRoom (suc m) ns → HaveRoom 1 ns
room_less m [] room = tt
room_less m (n ∷ ns) (first, others) = (omega arith, room_less m ns others)

-- entries of which some are left to be told
pub record GoesOn (entries : List Entry) (ns now : List Named) (left : List Entry) (asked : Bool) : Type 0 where
  pub state : all_told_each left now ≡ all_told_each entries ns
  pub answer : (asked || any_asks_each left now) ≡ any_asks_each entries ns
  pub room : HaveRoom (length left) now

pub goes_begin : (entries : List Entry) (ns : List Named) → HaveRoom (length entries) ns → GoesOn entries ns ns entries false
goes_begin entries ns room = record { state = refl; answer = refl; room = room }

or_assoc : (a b c : Bool) → ((a || b) || c) ≡ (a || (b || c))
or_assoc true b c = refl
or_assoc false b c = refl

goes_next : (e : Entry) (entries left : List Entry) (ns now : List Named) (asked : Bool) → GoesOn entries ns now (e ∷ left) asked → GoesOn entries ns (all_told e now) left (asked || any_asks e now)
goes_next e entries left ns now asked g = record {
  state = g.state;
  answer = or_assoc asked (any_asks e now) (any_asks_each left (all_told e now)) ∙ g.answer;
  room = room_told e (length left) now g.room;
}

next_left : (d : Entry) (entries : List Entry) (k : ℕ) → k < length entries → drop k entries ≡ get_or entries k d ∷ drop (k + 1) entries
next_left d entries k there = drop-cons entries k d there ∙ ap (λ i. get_or entries k d ∷ drop i entries) (sym (add-one k))

pub goes_more : (d : Entry) (entries : List Entry) (ns now next : List Named) (k : ℕ) (asked answer new : Bool) → k < length entries → GoesOn entries ns now (drop k entries) asked → next ≡ all_told (get_or entries k d) now → answer ≡ any_asks (get_or entries k d) now → new ≡ (asked || answer) → GoesOn entries ns next (drop (k + 1) entries) new
goes_more d entries ns now next k asked answer new there g is says joins =
    let G : List Entry → Type 0 = λ left. GoesOn entries ns now left asked in
    let h : GoesOn entries ns (all_told (get_or entries k d) now) (drop (k + 1) entries) (asked || any_asks (get_or entries k d) now) = goes_next (get_or entries k d) entries (drop (k + 1) entries) ns now asked (subst G (next_left d entries k there) g) in
    let H : List Named → Type 0 = λ l. GoesOn entries ns l (drop (k + 1) entries) (asked || any_asks (get_or entries k d) now) in
    let I : Bool → Type 0 = λ b. GoesOn entries ns next (drop (k + 1) entries) b in
    let last : (asked || any_asks (get_or entries k d) now) ≡ new = sym (joins ∙ ap (λ b. asked || b) says) in
    subst I last (subst H (sym is) h)

pub goes_room : (d : Entry) (entries : List Entry) (ns now : List Named) (k : ℕ) (asked : Bool) → k < length entries → GoesOn entries ns now (drop k entries) asked → HaveRoom 1 now
goes_room d entries ns now k asked there g =
    let R : List Entry → Type 0 = λ left. HaveRoom (length left) now in
    room_less (length (drop (k + 1) entries)) now (subst R (next_left d entries k there) g.room)

pub goes_end : (entries : List Entry) (ns now : List Named) (k : ℕ) (asked : Bool) → length entries ≤ k → GoesOn entries ns now (drop k entries) asked → (now ≡ all_told_each entries ns) × (asked ≡ any_asks_each entries ns)
goes_end entries ns now k asked past g =
    let none : drop k entries ≡ [] = drop_all k entries past in
    (sym (ap (λ l. all_told_each l now) none) ∙ g.state, sym (or_false asked) ∙ sym (ap (λ l. asked || any_asks_each l now) none) ∙ g.answer)

-- an entry for a place that is past all entries
abbrev pub no_entry : Entry
no_entry = record { cycle = 0; act = 0; core = 0; what = Got 0 (record { word = 0; control = false }) }

-- nobody is told anything
nobody_told : (entries : List Entry) → all_told_each entries [] ≡ []
nobody_told [] = refl
nobody_told (e ∷ es) = nobody_told es

nobody_asks : (entries : List Entry) → any_asks_each entries [] ≡ false
nobody_asks [] = refl
nobody_asks (e ∷ es) = nobody_asks es

pub nobody : (entries : List Entry) (ns : List Named) → ns ≡ [] → (ns ≡ all_told_each entries ns) × (false ≡ any_asks_each entries ns)
nobody entries ns none =
    (none ∙ sym (ap (all_told_each entries) none ∙ nobody_told entries), sym (ap (any_asks_each entries) none ∙ nobody_asks entries))

-- Looking for a name.

pub any_past : {A : Type 0} (p : A → Bool) (xs : List A) (k : ℕ) (x : A) → k < length xs → x ≡ get_or xs k x → p x ≡ false → list_any p xs ≡ list_any p (drop k xs) → list_any p xs ≡ list_any p (drop (k + 1) xs)
any_past p xs k x there found not_it so_far =
    so_far ∙ ap (list_any p) (left_of xs k x there found) ∙ ap (λ b. b || list_any p (drop (k + 1) xs)) not_it

pub any_here : {A : Type 0} (p : A → Bool) (xs : List A) (k : ℕ) (x : A) → k < length xs → x ≡ get_or xs k x → p x ≡ true → list_any p xs ≡ list_any p (drop k xs) → true ≡ list_any p xs
any_here p xs k x there found it so_far =
    sym (so_far ∙ ap (list_any p) (left_of xs k x there found) ∙ ap (λ b. b || list_any p (drop (k + 1) xs)) it)

pub any_end : {A : Type 0} (p : A → Bool) (xs : List A) (k : ℕ) → length xs ≤ k → list_any p xs ≡ list_any p (drop k xs) → false ≡ list_any p xs
any_end p xs k past so_far = sym (so_far ∙ ap (list_any p) (drop_all k xs past))

pub state_past : {A : Type 0} (f : A → Named) (name : List ℕ) (xs : List A) (k : ℕ) (x : A) → k < length xs → x ≡ get_or xs k x → bytes_eq (f x).name name ≡ false → state_named name (map f xs) ≡ state_named name (map f (drop k xs)) → state_named name (map f xs) ≡ state_named name (map f (drop (k + 1) xs))
state_past f name xs k x there found not_it so_far =
    so_far ∙ ap (λ l. state_named name (map f l)) (left_of xs k x there found)
    ∙ ap (λ b. if b then Some (f x).state else state_named name (map f (drop (k + 1) xs))) not_it

pub state_here : {A : Type 0} (f : A → Named) (name : List ℕ) (xs : List A) (k : ℕ) (x : A) → k < length xs → x ≡ get_or xs k x → bytes_eq (f x).name name ≡ true → state_named name (map f xs) ≡ state_named name (map f (drop k xs)) → Some (f x).state ≡ state_named name (map f xs)
state_here f name xs k x there found it so_far =
    sym (so_far ∙ ap (λ l. state_named name (map f l)) (left_of xs k x there found)
    ∙ ap (λ b. if b then Some (f x).state else state_named name (map f (drop (k + 1) xs))) it)

pub state_end : {A : Type 0} (f : A → Named) (name : List ℕ) (xs : List A) (k : ℕ) → length xs ≤ k → state_named name (map f xs) ≡ state_named name (map f (drop k xs)) → None ≡ state_named name (map f xs)
state_end f name xs k past so_far = sym (so_far ∙ ap (λ l. state_named name (map f l)) (drop_all k xs past))

-- Dropping what fails a test.

-- a list of which the part before k was sifted
pub record Sifted {A : Type 0} (p : A → Bool) (old now : List A) (k : ℕ) : Type 0 where
  pub before : List A
  pub after : List A
  pub was : old ≡ before ++ after
  pub is : now ≡ filter p before ++ after
  pub at : length (filter p before) ≡ k

pub sift_begin : {A : Type 0} (p : A → Bool) (xs : List A) → Sifted p xs xs 0
sift_begin p xs = record { before = []; after = xs; was = refl; is = refl; at = refl }

past_end : {A : Type 0} (kept now : List A) (k : ℕ) → now ≡ kept ++ [] → length kept ≡ k → k < length now → ⊥
past_end kept now k is at there =
    let size : length now ≡ length kept + 0 = ap length is ∙ length-append kept [] in
    omega (arith, size)

in_place : {A : Type 0} (kept rest now : List A) (x y : A) (k : ℕ) → now ≡ kept ++ y ∷ rest → length kept ≡ k → x ≡ get_or now k x → x ≡ y
in_place kept rest now x y k is at found =
    found ∙ ap (λ l. get_or l k x) is ∙ ap (λ i. get_or (kept ++ y ∷ rest) i x) (sym at) ∙ get_or-append_seam kept y rest x

sifted_with : {A : Type 0} (p : A → Bool) (before : List A) (y : A) (b : Bool) → p y ≡ b → filter p (before ++ y ∷ []) ≡ filter p before ++ (if b then y ∷ [] else [])
sifted_with p before y b is = filter-append p before (y ∷ []) ∙ ap (λ c. filter p before ++ (if c then y ∷ [] else [])) is

drops : {A : Type 0} (p : A → Bool) (old now : List A) (k : ℕ) (x : A) (before after : List A) → old ≡ before ++ after → now ≡ filter p before ++ after → length (filter p before) ≡ k → k < length now → x ≡ get_or now k x → p x ≡ false → Sifted p old (take k now ++ drop (k + 1) now) k
drops p old now k x before [] was is at there found fails = absurd (past_end (filter p before) now k is at there)
drops p old now k x before (y ∷ rest) was is at there found fails =
    let same : x ≡ y = in_place (filter p before) rest now x y k is at found in
    let kept : filter p (before ++ y ∷ []) ≡ filter p before = sifted_with p before y false (sym (ap p same) ∙ fails) ∙ append-nil (filter p before) in
    let front : take k now ≡ filter p before = ap (take k) is ∙ ap (λ i. take i (filter p before ++ y ∷ rest)) (sym at) ∙ take-append_seam (filter p before) (y ∷ rest) in
    let back : drop (k + 1) now ≡ rest = ap (drop (k + 1)) is ∙ ap (λ i. drop (i + 1) (filter p before ++ y ∷ rest)) (sym at) ∙ drop-append-add (filter p before) (y ∷ rest) 1 in
    record {
      before = before ++ y ∷ [];
      after = rest;
      was = was ∙ sym (append_assoc before (y ∷ []) rest);
      is = ap (λ l. l ++ drop (k + 1) now) (front ∙ sym kept) ∙ ap (λ l. filter p (before ++ y ∷ []) ++ l) back;
      at = ap length kept ∙ at;
    }

keeps : {A : Type 0} (p : A → Bool) (old now : List A) (k : ℕ) (x : A) (before after : List A) → old ≡ before ++ after → now ≡ filter p before ++ after → length (filter p before) ≡ k → k < length now → x ≡ get_or now k x → p x ≡ true → Sifted p old now (k + 1)
keeps p old now k x before [] was is at there found passes = absurd (past_end (filter p before) now k is at there)
keeps p old now k x before (y ∷ rest) was is at there found passes =
    let same : x ≡ y = in_place (filter p before) rest now x y k is at found in
    let kept : filter p (before ++ y ∷ []) ≡ filter p before ++ y ∷ [] = sifted_with p before y true (sym (ap p same) ∙ passes) in
    record {
      before = before ++ y ∷ [];
      after = rest;
      was = was ∙ sym (append_assoc before (y ∷ []) rest);
      is = is ∙ sym (append_assoc (filter p before) (y ∷ []) rest) ∙ ap (λ l. l ++ rest) (sym kept);
      at = ap length kept ∙ length-append (filter p before) (y ∷ []) ∙ ap (λ i. i + 1) at;
    }

ends : {A : Type 0} (p : A → Bool) (old now : List A) (k : ℕ) (before after : List A) → old ≡ before ++ after → now ≡ filter p before ++ after → length (filter p before) ≡ k → length now ≤ k → now ≡ filter p old
ends p old now k before [] was is at past = is ∙ append-nil (filter p before) ∙ ap (filter p) (sym (append-nil before) ∙ sym was)
ends p old now k before (y ∷ rest) was is at past =
    let size : length now ≡ length (filter p before) + length (y ∷ rest) = ap length is ∙ length-append (filter p before) (y ∷ rest) in
    absurd (omega (arith, size))

pub sift_drop : {A : Type 0} (p : A → Bool) (old now : List A) (k : ℕ) (x : A) → Sifted p old now k → k < length now → x ≡ get_or now k x → p x ≡ false → Sifted p old (take k now ++ drop (k + 1) now) k
sift_drop p old now k x s there found fails = drops p old now k x s.before s.after s.was s.is s.at there found fails

pub sifted_as : {A : Type 0} {p : A → Bool} {old now new : List A} {k : ℕ} → now ≡ new → Sifted p old now k → Sifted p old new k
sifted_as same s = record { before = s.before; after = s.after; was = s.was; is = sym same ∙ s.is; at = s.at }

pub sift_keep : {A : Type 0} (p : A → Bool) (old now : List A) (k : ℕ) (x : A) → Sifted p old now k → k < length now → x ≡ get_or now k x → p x ≡ true → Sifted p old now (k + 1)
sift_keep p old now k x s there found passes = keeps p old now k x s.before s.after s.was s.is s.at there found passes

pub sift_end : {A : Type 0} (p : A → Bool) (old now : List A) (k : ℕ) → Sifted p old now k → length now ≤ k → now ≡ filter p old
sift_end p old now k s past = ends p old now k s.before s.after s.was s.is s.at past
