-- Results in flight: their ages, and the registers that they stand for.
use Rattle.std.proofs.Common.{ℕ, zero, suc, ◌≡◌, ◌<◌, ◌≤◌, ◌+◌, ◌==◌, ◌&&◌, nat_lt, Bool, true, false, List, [], ◌∷◌, ◌++◌, Option, Some, None, refl, sym, subst, ap, ◌∙◌, arith, length, map, filter, drop, reverse, get_or, slice_index, slice_set, cond}
use Rattle.std.proofs.lemmas.List.{map-append, reverse-append, length-set, get_or-set_same, get_or-set_other}
use Rattle.std.proofs.lemmas.List.Folds.{find-append}
use Rattle.pipe_latch.specs.declared.in_flight.Stage.{Stage}
use Rattle.std.specs.Option.{option_map, option_or}
use Rattle.std.specs.List.{find}
use Rattle.core_regs.specs.declared.registers.Write.{Write}
use Rattle.core_regs.specs.State.{written}
use Rattle.core_iface.specs.declared.Flight.{Flight}
use Rattle.core_iface.specs.Flights.{applied, older, has_landed, still_flies, flights_aged, file_aged, begun}
use Rattle.pipe_latch.specs.Latches.{InFlight, InStages, IsFree, flight_of, flown, youngest}

pub applied_append : (xs ys : List Flight) (file : List ℕ) → applied (xs ++ ys) file ≡ applied ys (applied xs file)
applied_append [] ys file = refl
applied_append (x ∷ xs) ys file = applied_append xs ys (slice_set file x.reg x.value)

pub weaken : (low high more : ℕ) (fs : List Flight) → InFlight low high fs → high ≤ more → InFlight low more fs
weaken low high more [] h le = omega (arith, h, le)
weaken low high more (f ∷ fs) h le = (h.0, omega (arith, h.1, le), h.2)

pub lower : (less low high : ℕ) (fs : List Flight) → InFlight low high fs → less ≤ low → InFlight less high fs
lower less low high [] h le = omega (arith, h, le)
lower less low high (f ∷ fs) h le = (h.0, h.1, lower less low f.age fs h.2 le)

older_in_flight : (low high : ℕ) (fs : List Flight) → InFlight low high fs → InFlight (low + 1) (high + 1) (map older fs)
older_in_flight low high [] h = omega (arith, h)
older_in_flight low high (f ∷ fs) h = (h.0, omega (arith, h.1), older_in_flight low f.age fs h.2)

not_equal : (a b : ℕ) → a < b → (a == b) ≡ false
not_equal a b lt = grind (arith, lt)

is_equal : (a b : ℕ) → a ≡ b → (a == b) ≡ true
is_equal a b e = grind (arith, e)

none_landed : (low d : ℕ) (fs : List Flight) → InFlight low d fs → filter (has_landed d) fs ≡ []
none_landed low d [] h = refl
none_landed low d (f ∷ fs) h = rw (not_equal f.age d h.1) (none_landed low d fs (weaken low f.age d fs h.2 (omega (arith, h.1))))

all_fly : (low d : ℕ) (fs : List Flight) → InFlight low d fs → filter (still_flies d) fs ≡ fs
all_fly low d [] h = refl
all_fly low d (f ∷ fs) h = rw (not_equal f.age d h.1) (ap (λ gs. f ∷ gs) (all_fly low d fs (weaken low f.age d fs h.2 (omega (arith, h.1)))))

append_none : (fs : List Flight) → fs ++ [] ≡ fs
append_none [] = refl
append_none (f ∷ fs) = ap (λ gs. f ∷ gs) (append_none fs)

in_flight_more : (low high : ℕ) (fs : List Flight) (f : Flight) → InFlight (low + 1) high fs → f.reg < 32 → f.age ≡ low → InFlight low high (fs ++ f ∷ [])
in_flight_more low high [] f h named is = (named, omega (arith, h, is), omega (arith, is))
in_flight_more low high (g ∷ fs) f h named is = (h.0, h.1, in_flight_more low g.age fs f h.2 named is)

-- what is held by stages flies, the oldest first
none_beyond : (d a : ℕ) (ss : List Stage) → InStages d a ss → d ≤ a → flown a ss ≡ []
none_beyond d a [] h le = refl
none_beyond d a (s ∷ ss) h le = rw (none_beyond d (a + 1) ss h.2 (omega (arith, le)), h.1 le) refl

flies_by : (d a : ℕ) (s : Stage) (ss : List Stage) (full below : Bool) → s.is_full ≡ full → nat_lt a d ≡ below → (below ≡ true → InFlight (a + 1) d (flown (a + 1) ss))
    → s.reg < 32 → (d ≤ a → s.is_full ≡ false) → InStages d (a + 1) ss → a ≤ d → InFlight a d (flown (a + 1) ss ++ flight_of s a)
flies_by d a s ss true true is lt rest named beyond later le = rw is (in_flight_more a d (flown (a + 1) ss) (record { reg = s.reg; value = s.value; age = a }) (rest refl) named refl)
flies_by d a s ss true false is lt rest named beyond later le = let e = beyond (grind (arith, lt)) in cc
flies_by d a s ss false true is lt rest named beyond later le = rw (is, append_none (flown (a + 1) ss)) (lower a (a + 1) d (flown (a + 1) ss) (rest refl) (omega arith))
flies_by d a s ss false false is lt rest named beyond later le = let far : d ≤ a + 1 = grind (arith, lt) in rw (is, none_beyond d (a + 1) ss later far) le

pub stages_fly : (d a : ℕ) (ss : List Stage) → InStages d a ss → a ≤ d → InFlight a d (flown a ss)
stages_fly d a [] h le = le
stages_fly d a (s ∷ ss) h le = flies_by d a s ss s.is_full (nat_lt a d) refl refl (λ below. let lt : a + 1 ≤ d = grind (arith, below) in stages_fly d (a + 1) ss h.2 lt) h.0 h.1 h.2 le

pub stage_named : (d a : ℕ) (ss : List Stage) (k : ℕ) (blank : Stage) → InStages d a ss → blank.reg < 32 → (get_or ss k blank).reg < 32
stage_named d a [] zero blank h named = named
stage_named d a [] (suc k) blank h named = named
stage_named d a (s ∷ ss) zero blank h named = h.0
stage_named d a (s ∷ ss) (suc k) blank h named = stage_named d (a + 1) ss k blank h.2 named

-- the oldest is the one in the last stage before the register file
oldest : (d a k age : ℕ) (ss : List Stage) (blank empty : Stage) → InStages d a ss → a + k ≡ age → age + 1 ≡ d → blank.is_full ≡ false → (get_or ss k blank).is_full ≡ true → empty.is_full ≡ false
    → flown a ss ≡ record { reg = (get_or ss k blank).reg; value = (get_or ss k blank).value; age = age } ∷ flown a (slice_set ss k empty)
oldest d a zero age [] blank empty h at last clear full none = let e : false ≡ true = sym clear ∙ full in cc
oldest d a (suc k) age [] blank empty h at last clear full none = let e : false ≡ true = sym clear ∙ full in cc
oldest d a zero age (s ∷ ss) blank empty h at last clear full none =
    let e : age ≡ a = omega (arith, at) in
    let is : s.is_full ≡ true = full in
    rw (e, none_beyond d (a + 1) ss h.2 (omega (arith, last, e)), is, none) refl
oldest d a (suc k) age (s ∷ ss) blank empty h at last clear full none =
    ap (λ fs. fs ++ flight_of s a) (oldest d (a + 1) k age ss blank empty h.2 (omega (arith, at)) last clear full none)

beyond : (d e a : ℕ) (ss : List Stage) → InStages d a ss → d ≤ a → InStages e a ss
beyond d e a [] h le = tt
beyond d e a (s ∷ ss) h le = (h.0, λ far. h.1 le, beyond d e (a + 1) ss h.2 (omega (arith, le)))

cleared : (d e a k : ℕ) (ss : List Stage) (empty : Stage) → InStages d a ss → e + 1 ≡ d → a + k ≡ e → empty.reg < 32 → empty.is_full ≡ false → InStages e a (slice_set ss k empty)
cleared d e a zero [] empty h last at named none = tt
cleared d e a (suc k) [] empty h last at named none = tt
cleared d e a zero (s ∷ ss) empty h last at named none = (named, λ far. none, beyond d e (a + 1) ss h.2 (omega (arith, last, at)))
cleared d e a (suc k) (s ∷ ss) empty h last at named none = (h.0, λ far. absurd (omega (arith, far, at)), cleared d e (a + 1) k ss empty h.2 last (omega (arith, at)) named none)

emptied : (d e a k : ℕ) (ss : List Stage) (blank : Stage) → InStages d a ss → e + 1 ≡ d → a + k ≡ e → (get_or ss k blank).is_full ≡ false → InStages e a ss
emptied d e a zero [] blank h last at none = tt
emptied d e a (suc k) [] blank h last at none = tt
emptied d e a zero (s ∷ ss) blank h last at none = (h.0, λ far. none, beyond d e (a + 1) ss h.2 (omega (arith, last, at)))
emptied d e a (suc k) (s ∷ ss) blank h last at none = (h.0, λ far. absurd (omega (arith, far, at)), emptied d e (a + 1) k ss blank h.2 last (omega (arith, at)) none)

-- it lands, and all others grow older
fly_on : (d : ℕ) (f : Flight) (fs : List Flight) → f.age + 1 ≡ d → InFlight 0 d (f ∷ fs) → InFlight 1 d (map older fs)
fly_on d f fs last h = weaken 1 (f.age + 1) d (map older fs) (older_in_flight 0 f.age fs h.2) (omega (arith, last))

first_lands : (d : ℕ) (f : Flight) (fs : List Flight) → f.age + 1 ≡ d → InFlight 0 d (f ∷ fs) → map older fs ≡ flights_aged d (f ∷ fs)
unfolding flights_aged
first_lands d f fs last h = rw (is_equal (f.age + 1) d last) (sym (all_fly 1 d (map older fs) (fly_on d f fs last h)))

first_written : (d : ℕ) (f : Flight) (fs : List Flight) (file : List ℕ) → f.age + 1 ≡ d → InFlight 0 d (f ∷ fs) → slice_set file f.reg f.value ≡ file_aged d (f ∷ fs) file
unfolding file_aged
first_written d f fs file last h = rw (is_equal (f.age + 1) d last, none_landed 1 d (map older fs) (fly_on d f fs last h)) refl

pub landed_flights : (d e : ℕ) (ss : List Stage) (blank empty : Stage) → InStages d 0 ss → e + 1 ≡ d → blank.is_full ≡ false → (get_or ss e blank).is_full ≡ true → empty.is_full ≡ false
    → map older (flown 0 (slice_set ss e empty)) ≡ flights_aged d (flown 0 ss)
landed_flights d e ss blank empty h last clear full none =
    let old = oldest d 0 e e ss blank empty h (omega arith) last clear full none in
    first_lands d _ (flown 0 (slice_set ss e empty)) last (subst (λ fs. InFlight 0 d fs) old (stages_fly d 0 ss h (omega arith))) ∙ sym (ap (λ fs. flights_aged d fs) old)

pub landed_file : (d e : ℕ) (ss : List Stage) (blank empty : Stage) (file : List ℕ) → InStages d 0 ss → e + 1 ≡ d → blank.is_full ≡ false → (get_or ss e blank).is_full ≡ true → empty.is_full ≡ false
    → slice_set file (get_or ss e blank).reg (get_or ss e blank).value ≡ file_aged d (flown 0 ss) file
landed_file d e ss blank empty file h last clear full none =
    let old = oldest d 0 e e ss blank empty h (omega arith) last clear full none in
    first_written d _ (flown 0 (slice_set ss e empty)) file last (subst (λ fs. InFlight 0 d fs) old (stages_fly d 0 ss h (omega arith))) ∙ sym (ap (λ fs. file_aged d fs file) old)

pub landed_stages : (d e : ℕ) (ss : List Stage) (empty : Stage) → InStages d 0 ss → e + 1 ≡ d → empty.reg < 32 → empty.is_full ≡ false → InStages e 0 (slice_set ss e empty)
landed_stages d e ss empty h last named none = cleared d e 0 e ss empty h last (omega arith) named none

-- or none lands
all_on : (d e : ℕ) (fs : List Flight) → InFlight 0 e fs → e + 1 ≡ d → InFlight 1 d (map older fs)
all_on d e fs h last = weaken 1 (e + 1) d (map older fs) (older_in_flight 0 e fs h) (omega (arith, last))

pub flying_stages : (d e : ℕ) (ss : List Stage) (blank : Stage) → InStages d 0 ss → e + 1 ≡ d → (get_or ss e blank).is_full ≡ false → InStages e 0 ss
flying_stages d e ss blank h last none = emptied d e 0 e ss blank h last (omega arith) none

pub flying_flights : (d e : ℕ) (ss : List Stage) → InStages e 0 ss → e + 1 ≡ d → map older (flown 0 ss) ≡ flights_aged d (flown 0 ss)
unfolding flights_aged
flying_flights d e ss h last = sym (all_fly 1 d (map older (flown 0 ss)) (all_on d e (flown 0 ss) (stages_fly e 0 ss h (omega arith)) last))

pub flying_file : (d e : ℕ) (ss : List Stage) (file : List ℕ) → InStages e 0 ss → e + 1 ≡ d → file ≡ file_aged d (flown 0 ss) file
unfolding file_aged
flying_file d e ss file h last = sym (ap (λ gs. applied gs file) (none_landed 1 d (map older (flown 0 ss)) (all_on d e (flown 0 ss) (stages_fly e 0 ss h (omega arith)) last)))

-- results go on to the next stage
older_stage : (s : Stage) (a : ℕ) (full : Bool) → s.is_full ≡ full → map older (flight_of s a) ≡ flight_of s (a + 1)
older_stage s a true is = rw is refl
older_stage s a false is = rw is refl

flown_older : (a : ℕ) (ss : List Stage) → map older (flown a ss) ≡ flown (a + 1) ss
flown_older a [] = refl
flown_older a (s ∷ ss) = map-append older (flown (a + 1) ss) (flight_of s a)
    ∙ ap (λ fs. fs ++ map older (flight_of s a)) (flown_older (a + 1) ss) ∙ ap (λ fs. flown (a + 1 + 1) ss ++ fs) (older_stage s a s.is_full refl)

pub shifted_flights : (ss : List Stage) (empty p q r t : Stage) → length ss ≡ 5 → InStages 4 0 ss → empty.is_full ≡ false
    → flown 0 (empty ∷ get_or ss 0 p ∷ get_or ss 1 q ∷ get_or ss 2 r ∷ get_or ss 3 t ∷ []) ≡ map older (flown 0 ss)
shifted_flights [] empty p q r t long h none = absurd (omega (arith, long))
shifted_flights (a ∷ []) empty p q r t long h none = absurd (omega (arith, long))
shifted_flights (a ∷ b ∷ []) empty p q r t long h none = absurd (omega (arith, long))
shifted_flights (a ∷ b ∷ c ∷ []) empty p q r t long h none = absurd (omega (arith, long))
shifted_flights (a ∷ b ∷ c ∷ d ∷ []) empty p q r t long h none = absurd (omega (arith, long))
shifted_flights (a ∷ b ∷ c ∷ d ∷ e ∷ []) empty p q r t long h none =
    let last : e.is_full ≡ false = h.2.2.2.2.1 (omega arith) in
    let here : flown 1 (a ∷ b ∷ c ∷ d ∷ []) ≡ flown 1 (a ∷ b ∷ c ∷ d ∷ e ∷ []) = rw last refl in
    let first : flown 0 (empty ∷ a ∷ b ∷ c ∷ d ∷ []) ≡ flown 1 (a ∷ b ∷ c ∷ d ∷ []) = rw none (append_none (flown 1 (a ∷ b ∷ c ∷ d ∷ []))) in
    first ∙ here ∙ sym (flown_older 0 (a ∷ b ∷ c ∷ d ∷ e ∷ []))
shifted_flights (a ∷ b ∷ c ∷ d ∷ e ∷ f ∷ ss) empty p q r t long h none = absurd (omega (arith, long))

pub shifted_stages : (d : ℕ) (ss : List Stage) (empty p q r t : Stage) → length ss ≡ 5 → InStages d 0 ss → empty.reg < 32 → empty.is_full ≡ false
    → InStages (d + 1) 0 (empty ∷ get_or ss 0 p ∷ get_or ss 1 q ∷ get_or ss 2 r ∷ get_or ss 3 t ∷ [])
shifted_stages d [] empty p q r t long h named none = absurd (omega (arith, long))
shifted_stages d (a ∷ []) empty p q r t long h named none = absurd (omega (arith, long))
shifted_stages d (a ∷ b ∷ []) empty p q r t long h named none = absurd (omega (arith, long))
shifted_stages d (a ∷ b ∷ c ∷ []) empty p q r t long h named none = absurd (omega (arith, long))
shifted_stages d (a ∷ b ∷ c ∷ e ∷ ss) empty p q r t long h named none = (
  named,
  λ far. none,
  (
    h.0,
    λ far. h.1 (omega (arith, far)),
    (
      h.2.0,
      λ far. h.2.1 (omega (arith, far)),
      (
        h.2.2.0,
        λ far. h.2.2.1 (omega (arith, far)),
        (h.2.2.2.0, λ far. h.2.2.2.1 (omega (arith, far)), tt),
      ),
    ),
  ),
)

pub stages_within : (d e a : ℕ) (ss : List Stage) → InStages d a ss → d ≤ e → InStages e a ss
stages_within d e a [] h le = tt
stages_within d e a (s ∷ ss) h le = (h.0, λ far. h.1 (omega (arith, far, le)), stages_within d e (a + 1) ss h.2 le)

-- a result begins its flight
pub begun_flights : (ss : List Stage) (s : Stage) (w : Write) → IsFree ss → s.is_full ≡ true → s.reg ≡ w.reg → s.value ≡ w.value → flown 0 (slice_set ss 0 s) ≡ flown 0 ss ++ begun (Some w)
begun_flights [] s w free full reg value = absurd free
begun_flights (a ∷ ss) s w free full reg value =
    rw (free, append_none (flown 1 ss), full, reg, value) refl

pub begun_stages : (d : ℕ) (ss : List Stage) (s : Stage) → 1 ≤ d → s.reg < 32 → InStages d 0 ss → InStages d 0 (slice_set ss 0 s)
begun_stages d [] s le named h = tt
begun_stages d (a ∷ ss) s le named h = (named, λ far. absurd (omega (arith, far, le)), h.2)

-- the results of stages as a list, one by one from the oldest
pub flown_none : (k : ℕ) (ss : List Stage) → length ss ≤ k → flown k (drop k ss) ≡ []
flown_none k ss le = ap (λ xs. flown k xs) (all_dropped k ss le)
  where
    all_dropped : (k : ℕ) (ss : List Stage) → length ss ≤ k → drop k ss ≡ []
    all_dropped zero [] le = refl
    all_dropped (suc k) [] le = refl
    all_dropped zero (s ∷ ss) le = absurd (omega (arith, le))
    all_dropped (suc k) (s ∷ ss) le = all_dropped k ss (omega (arith, le))

pub flown_next : (k : ℕ) (ss : List Stage) (blank : Stage) → k < length ss → flown (k + 1) (drop (k + 1) ss) ++ flight_of (get_or ss k blank) k ≡ flown k (drop k ss)
flown_next k ss blank lt = sym (ap (λ xs. flown k xs) (parted k ss blank lt))
  where
    parted : (k : ℕ) (ss : List Stage) (blank : Stage) → k < length ss → drop k ss ≡ get_or ss k blank ∷ drop (k + 1) ss
    parted k [] blank lt = absurd (omega (arith, lt))
    parted zero (s ∷ ss) blank lt = refl
    parted (suc k) (s ∷ ss) blank lt = let e : suc (k + 1) ≡ suc k + 1 = omega arith in
        subst (λ n. drop k ss ≡ get_or ss k blank ∷ drop n (s ∷ ss)) e (parted k ss blank lt')
      where
        lt' : k < length ss
        lt' = omega (arith, lt)

-- the youngest is the first of the stages
found_by : (a n : ℕ) (s : Stage) (ss : List Stage) (full same : Bool) → s.is_full ≡ full → (s.reg == n) ≡ same
    → option_map (λ (s : Stage). s.value) (find (λ (s : Stage). s.is_full && s.reg == n) ss) ≡ youngest (flown (a + 1) ss) n
    → option_map (λ (s : Stage). s.value) (find (λ (s : Stage). s.is_full && s.reg == n) (s ∷ ss)) ≡ youngest (flown (a + 1) ss ++ flight_of s a) n
found_by a n s ss true true is at rest = rw (is, at, reverse-append (flown (a + 1) ss) (record { reg = s.reg; value = s.value; age = a } ∷ [])) (rw at refl)
found_by a n s ss true false is at rest = rw (is, at, reverse-append (flown (a + 1) ss) (record { reg = s.reg; value = s.value; age = a } ∷ [])) (rw at rest)
found_by a n s ss false same is at rest = rw (is, append_none (flown (a + 1) ss)) rest

pub found_youngest : (a n : ℕ) (ss : List Stage) → option_map (λ (s : Stage). s.value) (find (λ (s : Stage). s.is_full && s.reg == n) ss) ≡ youngest (flown a ss) n
found_youngest a n [] = refl
found_youngest a n (s ∷ ss) = found_by a n s ss s.is_full (s.reg == n) refl refl (found_youngest (a + 1) n ss)

landing_applied : (low d : ℕ) (f : Flight) (fs : List Flight) (file : List ℕ) (t : Bool) → (f.age == d) ≡ t → InFlight low (d + 1) (f ∷ fs)
    → applied (filter (still_flies d) (f ∷ fs)) (applied (filter (has_landed d) (f ∷ fs)) file) ≡ applied (f ∷ fs) file
landing_applied low d f fs file true is h = let e : f.age ≡ d = grind (arith, is) in let g = weaken low f.age d fs h.2 (omega (arith, e)) in
    rw is (rw (all_fly low d fs g, none_landed low d fs g) refl)
landing_applied low d f fs file false is h = let lt : f.age < d = grind (arith, is, h.1) in let g = weaken low f.age d fs h.2 (omega (arith, lt)) in
    rw is (rw (all_fly low d fs g, none_landed low d fs g) refl)

landed_applied : (low d : ℕ) (fs : List Flight) (file : List ℕ) → InFlight low (d + 1) fs
    → applied (filter (still_flies d) fs) (applied (filter (has_landed d) fs) file) ≡ applied fs file
landed_applied low d [] file h = refl
landed_applied low d (f ∷ fs) file h = landing_applied low d f fs file _ refl h

older_applied : (fs : List Flight) (file : List ℕ) → applied (map older fs) file ≡ applied fs file
older_applied [] file = refl
older_applied (f ∷ fs) file = older_applied fs (slice_set file f.reg f.value)

-- a tick leaves the registers that the file and the flights stand for
pub aged_applied : (d : ℕ) (fs : List Flight) (file : List ℕ) → InFlight 0 d fs → applied (flights_aged d fs) (file_aged d fs file) ≡ applied fs file
unfolding flights_aged file_aged
aged_applied d fs file h = landed_applied 1 d (map older fs) file (older_in_flight 0 d fs h) ∙ older_applied fs file

-- a register: the youngest result, or the file
abbrev or_file : Option ℕ → ℕ → ℕ
or_file None x = x
or_file (Some v) x = v

set_at : (file : List ℕ) (reg value n : ℕ) (t : Bool) → (reg == n) ≡ t → n < length file → slice_index (slice_set file reg value) n ≡ cond t value (slice_index file n)
set_at file reg value n true is lt = let e : reg ≡ n = grind (arith, is) in rw e (get_or-set_same file n value 0 lt)
set_at file reg value n false is lt = get_or-set_other file reg n value 0 (grind (arith, is))

at_more : (o : Option Flight) (f : Flight) (file : List ℕ) (n x : ℕ) (t : Bool) → (f.reg == n) ≡ t → n < length file
    → x ≡ or_file (option_map (λ (f : Flight). f.value) o) (slice_index (slice_set file f.reg f.value) n)
    → x ≡ or_file (option_map (λ (f : Flight). f.value) (option_or o (cond t (Some f) None))) (slice_index file n)
at_more (Some g) f file n x t is lt h = h
at_more None f file n x true is lt h = h ∙ set_at file f.reg f.value n true is lt
at_more None f file n x false is lt h = h ∙ set_at file f.reg f.value n false is lt

applied_at : (fs : List Flight) (file : List ℕ) (n : ℕ) → n < length file → slice_index (applied fs file) n ≡ or_file (youngest fs n) (slice_index file n)
applied_at [] file n lt = refl
applied_at (f ∷ fs) file n lt =
    rw (reverse-append (f ∷ []) fs, find-append (λ (f : Flight). f.reg == n) (reverse fs) (f ∷ []))
    (at_more (find (λ (f : Flight). f.reg == n) (reverse fs)) f file n _ _ refl lt (applied_at fs (slice_set file f.reg f.value) n (rw (length-set file f.reg f.value) lt)))

pub read_youngest : (fs : List Flight) (file : List ℕ) (n v : ℕ) → n < length file → youngest fs n ≡ Some v → slice_index (applied fs file) n ≡ v
read_youngest fs file n v lt is = applied_at fs file n lt ∙ ap (λ o. or_file o (slice_index file n)) is

pub read_file : (fs : List Flight) (file : List ℕ) (n : ℕ) → n < length file → youngest fs n ≡ None → slice_index (applied fs file) n ≡ slice_index file n
read_file fs file n lt is = applied_at fs file n lt ∙ ap (λ o. or_file o (slice_index file n)) is

-- the registers that the file and the flights stand for, after an act's write began its flight
begun_applied : (w : Option Write) (fs : List Flight) (file : List ℕ) → applied (fs ++ begun w) file ≡ written w (applied fs file)
begun_applied None fs file = applied_append fs [] file
begun_applied (Some w) fs file = applied_append fs _ file

pub registers_after : (d : ℕ) (w : Option Write) (fs : List Flight) (file : List ℕ) → InFlight 0 d fs
    → applied (flights_aged d fs ++ begun w) (file_aged d fs file) ≡ written w (applied fs file)
registers_after d w fs file h = begun_applied w (flights_aged d fs) (file_aged d fs file) ∙ ap (λ regs. written w regs) (aged_applied d fs file h)
