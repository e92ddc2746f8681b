-- What keeps a board quiet.
use Rattle.std.proofs.Common.{◌≡◌, ℕ, zero, suc, ◌+◌, ◌<◌, ◌≤◌, ◌==◌, get_or, take, List, [], ◌∷◌, ◌++◌, length, refl, ap, sym, ◌∙◌, inl, inr, ◌⊎◌, slice_set, arith, Bool, true, false, not, ◌||◌, Some, slice_get}
use Rattle.std.specs.List.{list_all}
use Rattle.std.proofs.lemmas.List.{take_more}
use Rattle.std.proofs.lemmas.Option.{slice_get_read}
use Rattle.std.proofs.lemmas.Bool.Decides.{nat_tests}
use Rattle.isa_step.specs.declared.acts.Breaks.{Breaks}
use Rattle.prepared_act.specs.Retiring.{is_offered}
use Rattle.axi_link.specs.Channel.{Channel}
use Rattle.board_file.specs.declared.board.EventRow.{EventRow}
use Rattle.board_file.specs.declared.board.LinkRow.{LinkRow}
use Rattle.board_machine.specs.declared.events.HostPart.{HostPart}
use Rattle.board_machine.specs.declared.events.HostPart.TheVariants.{Sends, Takes, Nothing}
use Rattle.board_machine.specs.Fabric.{Fabric, Feed, breaks_at, breaks_come, has_controller, host_moves, line_at, move_by, move_of, or_low, or_none, part_at, part_by, shown}
use Rattle.board_machine.specs.Resting.{is_quiet_to}
use Rattle.board_machine.proofs.Lists.{and_false_right, and_left, and_right, slice_get_set_other}
use Rattle.quiet_cycles.specs.Quiet.{AreOnes, IsCalm, IsMoveless, NoneBefore, has_break, links_alone}
use Rattle.quiet_cycles.proofs.Doing.{nothing_comes, nothing_moves}

not_true : (b : Bool) → not b ≡ true → b ≡ false
not_true true e = cc
not_true false e = refl

pub all_low : (lines : List Bool) → list_all (λ high. not high) lines ≡ true → (core : ℕ) → or_low (slice_get lines core) ≡ false
all_low [] e core = refl
all_low (x ∷ xs) e zero = not_true x (and_left _ _ e)
all_low (x ∷ xs) e (suc core) = all_low xs (and_right (not x) _ e) core

all_none : (pending : List Breaks) → list_all (λ (b : Breaks). not (b.maskable || b.nonmaskable)) pending ≡ true → (core : ℕ) → has_break (or_none (slice_get pending core)) ≡ false
all_none [] e core = refl
all_none (b ∷ bs) e zero = not_true (has_break b) (and_left _ _ e)
all_none (b ∷ bs) e (suc core) = all_none bs (and_right (not (has_break b)) _ e) core

pub is_calm : (lines : List Bool) (pending : List Breaks) → list_all (λ high. not high) lines ≡ true → list_all (λ (b : Breaks). not (b.maskable || b.nonmaskable)) pending ≡ true → IsCalm lines pending
is_calm lines pending e h = record { low = all_low lines e; none = all_none pending h }

or_false : (a b c : Bool) → a ≡ false → b || c ≡ false → a || b || c ≡ false
or_false a b c e h = rw (e, h) refl

-- nothing is offered to a core of a calm board
pub not_offered : (f : Fabric) (core : ℕ) → IsCalm f.lines f.pending → is_offered (shown f core) ≡ false
not_offered f core c = or_false (line_at f core) (breaks_at f core).maskable (breaks_at f core).nonmaskable (and_false_right (has_controller f core) (or_low (slice_get f.lines core)) (c.low core)) (c.none core)

pub none_before_0 : (rs : List EventRow) → NoneBefore 0 rs
none_before_0 [] = tt
none_before_0 (r ∷ rs) = (omega arith, none_before_0 rs)

none_before_more : (next at : ℕ) (rs : List EventRow) (r : EventRow) → NoneBefore next rs → at ≤ next → at ≤ r.cycle → NoneBefore at (rs ++ r ∷ [])
none_before_more next at [] r h l here = (here, tt)
none_before_more next at (x ∷ xs) r h l here = (omega (arith, h.0, l), none_before_more next at xs r h.1 l here)

-- one break more that is left
pub none_before_next : (next at i : ℕ) (rs : List EventRow) (r : EventRow) → i < length rs → r ≡ get_or rs i r → NoneBefore next (take i rs) → at ≤ next → at ≤ r.cycle → NoneBefore at (take (i + 1) rs)
none_before_next next at i rs r l e h before here = rw (take_more rs i r l) (rw (← e) (none_before_more next at (take i rs) r h before here))

-- the host's moves ask for the links alone
move_alone : (f : Fabric) (k : ℕ) (p : HostPart) → move_by f k p ≡ move_by (links_alone f.rows f.links f.feeds) k p
move_alone f k Sends = refl
move_alone f k Takes = refl
move_alone f k Nothing = refl

quiet_alone : (f : Fabric) (n : ℕ) → is_quiet_to f n ≡ is_quiet_to (links_alone f.rows f.links f.feeds) n
quiet_alone f zero = refl
quiet_alone f (suc n) = rw (quiet_alone f n, move_alone f n (part_at (slice_get f.rows n))) refl

pub moveless : (f : Fabric) → is_quiet_to f (length f.rows) ≡ true → IsMoveless f.rows f.links f.feeds
moveless f e = record { quiet = sym (quiet_alone f (length f.rows)) ∙ e }

pub quiet_of : (f : Fabric) → IsMoveless f.rows f.links f.feeds → is_quiet_to f (length f.rows) ≡ true
quiet_of f m = quiet_alone f (length f.rows) ∙ m.quiet

-- a link between two cores

apart_more : (k j : ℕ) → (j ≡ k) ⊎ (j ≡ k → ⊥) → (suc j ≡ suc k) ⊎ (suc j ≡ suc k → ⊥)
apart_more k j (inl e) = inl (ap suc e)
apart_more k j (inr n) = inr (λ e. n (omega (arith, e)))

apart : (k j : ℕ) → (j ≡ k) ⊎ (j ≡ k → ⊥)
apart zero zero = inl refl
apart zero (suc j) = inr (λ e. cc)
apart (suc k) zero = inr (λ e. cc)
apart (suc k) (suc j) = apart_more k j (apart k j)

other_link : (rows : List LinkRow) (links : List Channel) (feeds : List Feed) (k : ℕ) (c : Channel) (j : ℕ) (p : HostPart) → (j ≡ k → ⊥) → move_by (links_alone rows (slice_set links k c) feeds) j p ≡ move_by (links_alone rows links feeds) j p
other_link rows links feeds k c j Sends h = rw (slice_get_set_other links j k c h) refl
other_link rows links feeds k c j Takes h = rw (slice_get_set_other links j k c h) refl
other_link rows links feeds k c j Nothing h = refl

none_there : (rows : List LinkRow) (links others : List Channel) (feeds : List Feed) (j : ℕ) (p : HostPart) → p ≡ Nothing → move_by (links_alone rows others feeds) j p ≡ move_by (links_alone rows links feeds) j p
none_there rows links others feeds j Sends e = cc
none_there rows links others feeds j Takes e = cc
none_there rows links others feeds j Nothing e = refl

same_move : (rows : List LinkRow) (links : List Channel) (feeds : List Feed) (k : ℕ) (c : Channel) (j : ℕ) → part_at (slice_get rows k) ≡ Nothing → (j ≡ k) ⊎ (j ≡ k → ⊥) → move_of (links_alone rows (slice_set links k c) feeds) j ≡ move_of (links_alone rows links feeds) j
same_move rows links feeds k c j e (inl here) = none_there rows links (slice_set links k c) feeds j (part_at (slice_get rows j)) (ap (λ j. part_at (slice_get rows j)) here ∙ e)
same_move rows links feeds k c j e (inr other) = other_link rows links feeds k c j (part_at (slice_get rows j)) other

same_moves : (rows : List LinkRow) (links : List Channel) (feeds : List Feed) (k : ℕ) (c : Channel) (n : ℕ) → part_at (slice_get rows k) ≡ Nothing → is_quiet_to (links_alone rows (slice_set links k c) feeds) n ≡ is_quiet_to (links_alone rows links feeds) n
same_moves rows links feeds k c zero e = refl
same_moves rows links feeds k c (suc n) e = rw (same_moves rows links feeds k c n e, same_move rows links feeds k c n e (apart k n)) refl

-- what a core changes in such a link gives the host nothing to do
pub moveless_there : (rows : List LinkRow) (links : List Channel) (feeds : List Feed) (k : ℕ) (c : Channel) → part_at (slice_get rows k) ≡ Nothing → IsMoveless rows links feeds → IsMoveless rows (slice_set links k c) feeds
moveless_there rows links feeds k c e m = record { quiet = same_moves rows links feeds k c (length rows) e ∙ m.quiet }

-- the same of a link by its row
pub moveless_by : (rows : List LinkRow) (links : List Channel) (feeds : List Feed) (k : ℕ) (c : Channel) (r : LinkRow) → k < length rows → r ≡ get_or rows k r → part_by r.from r.to ≡ Nothing → IsMoveless rows links feeds → IsMoveless rows (slice_set links k c) feeds
moveless_by rows links feeds k c r l e inner m = moveless_there rows links feeds k c (ap part_at (slice_get_read rows (length rows) k r refl l e) ∙ inner) m

pub none_moves : (f : Fabric) → IsMoveless f.rows f.links f.feeds → f ≡ host_moves f (length f.rows)
none_moves f m = sym (nothing_moves f (length f.rows) (length f.rows) (quiet_of f m) (omega arith))

pub none_come : (f : Fabric) (next : ℕ) → NoneBefore next f.left → f.cycle < next → f ≡ breaks_come f
none_come f next h l = sym (nothing_comes f next h l)

same_one : (c : ℕ) → (c == 1) ≡ true → c ≡ 1
same_one c e = grind (arith, nat_tests)

ones_at : (clocks : List ℕ) → list_all (λ c. c == 1) clocks ≡ true → (core : ℕ) → core < length clocks → slice_get clocks core ≡ Some 1
ones_at [] e core l = absurd (omega (arith, l))
ones_at (c ∷ cs) e zero l = ap Some (same_one c (and_left _ _ e))
ones_at (c ∷ cs) e (suc core) l = ones_at cs (and_right (c == 1) _ e) core (omega (arith, l))

-- clocks that are all 1
pub are_ones : (clocks : List ℕ) → 0 < length clocks → list_all (λ c. c == 1) clocks ≡ true → AreOnes clocks
are_ones clocks some e = record { some = some; ones = ones_at clocks e }
