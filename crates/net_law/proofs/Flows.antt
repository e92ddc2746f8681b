-- What two acts do to the links commutes, where no link has both for its reader or both for its writer.
use Rattle.std.proofs.Common.{◌≡◌, ℕ, zero, suc, ◌+◌, ◌-◌, List, [], ◌∷◌, ◌++◌, length, map, drop, Option, Some, None, refl, ap, sym, ◌∙◌, inl, inr, ◌⊎◌, arith, slice_get, ltb, true, Bool, length-drop, add-zero}
use Rattle.std.specs.Option.{option_map}
use Rattle.std.proofs.lemmas.Bool.{cases_eq}
use Rattle.std.proofs.lemmas.Bool.Decides.{nat_tests}
use Rattle.std.proofs.lemmas.Option.{slice_get-map, slice_get_within}
use Rattle.circular_buffer.proofs.Places.{slice_get-append_left, slice_get-drop}
use Rattle.axi_link.specs.declared.item.Item.{Item}
use Rattle.isa_step.specs.declared.acts.Action.{Action}
use Rattle.isa_step.specs.declared.acts.Action.TheVariants.{Got, Sent, Seen, Room, Missed, Read, ReadRefused, Wrote, WriteRefused, Took}
use Rattle.board_file.specs.declared.board.LinkRow.{LinkRow}
use Rattle.board_machine.specs.Places.{set_some, touch}
use Rattle.board_machine.specs.Fabric.{link_from, link_to, Feed, first_in, room_in}
use Rattle.net_law.specs.Network.{Pipe, channel_of, gave, to_come, took, pipes_after}
use Rattle.net_law.proofs.Parts.{through}

-- what an act does to the links
pub data Flow : Type 0 where
  Still : Flow
  Take : (link : ℕ) → Flow
  Put : (link : ℕ) → (item : Item) → Flow

abbrev pub flows : Flow → List Pipe → List Pipe
flows Still pipes = pipes
flows (Take link) pipes = touch took link pipes
flows (Put link item) pipes = touch (gave item) link pipes

abbrev pub taking : Option ℕ → Flow
taking None = Still
taking (Some link) = Take link

abbrev pub putting : Item → Option ℕ → Flow
putting item None = Still
putting item (Some link) = Put link item

-- what an action at the ports of a core does to the links
abbrev pub flow_of : List LinkRow → ℕ → Option Action → Flow
flow_of rows core (Some (Got port item)) = taking (link_to rows core port)
flow_of rows core (Some (Sent port item)) = putting item (link_from rows core port)
flow_of rows core _ = Still

taken_is : (o : Option ℕ) (pipes : List Pipe) → through took o pipes ≡ flows (taking o) pipes
taken_is None pipes = refl
taken_is (Some l) pipes = refl

put_is : (item : Item) (o : Option ℕ) (pipes : List Pipe) → through (gave item) o pipes ≡ flows (putting item o) pipes
put_is item None pipes = refl
put_is item (Some l) pipes = refl

pub pipes_is : (rows : List LinkRow) (core : ℕ) (o : Option Action) (pipes : List Pipe) → pipes_after rows core o pipes ≡ flows (flow_of rows core o) pipes
pipes_is rows core None pipes = refl
pipes_is rows core (Some (Got port item)) pipes = taken_is (link_to rows core port) pipes
pipes_is rows core (Some (Sent port item)) pipes = put_is item (link_from rows core port) pipes
pipes_is rows core (Some (Seen p y)) pipes = refl
pipes_is rows core (Some (Room p)) pipes = refl
pipes_is rows core (Some (Missed p f)) pipes = refl
pipes_is rows core (Some (Read p y)) pipes = refl
pipes_is rows core (Some (ReadRefused p)) pipes = refl
pipes_is rows core (Some (Wrote p y)) pipes = refl
pipes_is rows core (Some (WriteRefused p y)) pipes = refl
pipes_is rows core (Some (Took t)) pipes = refl

touch_cons : {X : Type 0} (f : X → X) (k : ℕ) (x : X) (xs : List X) (o : Option X) → set_some (x ∷ xs) (suc k) f o ≡ x ∷ set_some xs k f o
touch_cons f k x xs None = refl
touch_cons f k x xs (Some y) = refl

pub touch_same : {X : Type 0} (f : X → X) (k : ℕ) (xs : List X) → slice_get (touch f k xs) k ≡ option_map f (slice_get xs k)
touch_same f k [] = refl
touch_same f zero (x ∷ xs) = refl
touch_same f (suc k) (x ∷ xs) = rw (touch_cons f k x xs (slice_get xs k)) (touch_same f k xs)

pub touch_other : {X : Type 0} (f : X → X) (j k : ℕ) (xs : List X) → (j ≡ k → ⊥) → slice_get (touch f k xs) j ≡ slice_get xs j
touch_other f j k [] h = refl
touch_other f zero zero (x ∷ xs) h = absurd (h refl)
touch_other f zero (suc k) (x ∷ xs) h = rw (touch_cons f k x xs (slice_get xs k)) refl
touch_other f (suc j) zero (x ∷ xs) h = refl
touch_other f (suc j) (suc k) (x ∷ xs) h = rw (touch_cons f k x xs (slice_get xs k)) (touch_other f j k xs (λ e. h (ap suc e)))

pub touch_comm : {X : Type 0} (f g : X → X) (j k : ℕ) (xs : List X) → (j ≡ k → ⊥) ⊎ ((x : X) → f (g x) ≡ g (f x)) → touch f j (touch g k xs) ≡ touch g k (touch f j xs)
touch_comm f g j k [] h = refl
touch_comm f g zero zero (x ∷ xs) (inl h) = absurd (h refl)
touch_comm f g zero zero (x ∷ xs) (inr h) = ap (λ y. y ∷ xs) (h x)
touch_comm f g zero (suc k) (x ∷ xs) h = rw (touch_cons g k x xs (slice_get xs k), touch_cons g k (f x) xs (slice_get xs k)) refl
touch_comm f g (suc j) zero (x ∷ xs) h = rw (touch_cons f j x xs (slice_get xs j), touch_cons f j (g x) xs (slice_get xs j)) refl
touch_comm f g (suc j) (suc k) (x ∷ xs) h =
    let e : touch f (suc j) (touch g (suc k) (x ∷ xs)) ≡ x ∷ touch f j (touch g k xs) = rw (touch_cons g k x xs (slice_get xs k)) (touch_cons f j x (touch g k xs) (slice_get (touch g k xs) j)) in
    let d : touch g (suc k) (touch f (suc j) (x ∷ xs)) ≡ x ∷ touch g k (touch f j xs) = rw (touch_cons f j x xs (slice_get xs j)) (touch_cons g k x (touch f j xs) (slice_get (touch f j xs) k)) in
    e ∙ ap (λ ys. x ∷ ys) (touch_comm f g j k xs (elim h [ inl ne ↦ inl (λ q. ne (ap suc q)) | inr q ↦ inr q ])) ∙ sym d

abbrev pub Apart : Flow → Flow → Type 0
Apart Still g = Unit {0}
Apart (Take l) Still = Unit {0}
Apart (Take l) (Take k) = l ≡ k → ⊥
Apart (Take l) (Put k y) = Unit {0}
Apart (Put l x) Still = Unit {0}
Apart (Put l x) (Take k) = Unit {0}
Apart (Put l x) (Put k y) = l ≡ k → ⊥

pub flows_comm : (f g : Flow) (pipes : List Pipe) → Apart f g → flows f (flows g pipes) ≡ flows g (flows f pipes)
flows_comm Still g pipes h = refl
flows_comm (Take l) Still pipes h = refl
flows_comm (Take l) (Take k) pipes h = touch_comm took took l k pipes (inl h)
flows_comm (Take l) (Put k y) pipes h = touch_comm took (gave y) l k pipes (inr (λ p. refl))
flows_comm (Put l x) Still pipes h = refl
flows_comm (Put l x) (Take k) pipes h = touch_comm (gave x) took l k pipes (inr (λ p. refl))
flows_comm (Put l x) (Put k y) pipes h = touch_comm (gave x) (gave y) l k pipes (inl h)

-- what the links show, by the pipes
pub channel_is : (pipes : List Pipe) (l : ℕ) → slice_get (map channel_of pipes) l ≡ option_map channel_of (slice_get pipes l)
channel_is pipes l = slice_get-map channel_of pipes l

abbrev pub first_at : List Pipe → ℕ → Option Item
first_at pipes l = first_in (slice_get (map channel_of pipes) l)

abbrev pub room_at : List Pipe → ℕ → Bool
room_at pipes l = room_in (slice_get (map channel_of pipes) l)

pub first_of_drop : {X : Type 0} (n : ℕ) (xs : List X) → slice_get (drop n xs) 0 ≡ slice_get xs n
first_of_drop n xs = slice_get-drop n xs 0 n (sym (add-zero n))

first_kept : (y x : Item) (o : Option Pipe) → first_in (option_map channel_of o) ≡ Some x → first_in (option_map channel_of (option_map (gave y) o)) ≡ Some x
first_kept y x None e = e
first_kept y x (Some p) e = first_of_drop p.taken (p.sent ++ y ∷ []) ∙ slice_get-append_left p.sent (y ∷ []) p.taken (slice_get_within p.sent p.taken x (sym (first_of_drop p.taken p.sent) ∙ e)) ∙ sym (first_of_drop p.taken p.sent) ∙ e

less_items : (n t d i j : ℕ) → i ≡ n - t → j ≡ n - (t + 1) → ltb i d ≡ true → ltb j d ≡ true
less_items n t d i j a b e = grind (arith, nat_tests)

room_kept : (o : Option Pipe) → room_in (option_map channel_of o) ≡ true → room_in (option_map channel_of (option_map took o)) ≡ true
room_kept None e = e
room_kept (Some p) e = less_items (length p.sent) p.taken p.depth (length (drop p.taken p.sent)) (length (drop (p.taken + 1) p.sent)) (length-drop p.taken p.sent) (length-drop (p.taken + 1) p.sent) e

first_put : (y x : Item) (l k : ℕ) (pipes : List Pipe) → (l ≡ k) ⊎ (l ≡ k → ⊥) → first_at pipes l ≡ Some x → first_at (touch (gave y) k pipes) l ≡ Some x
first_put y x l k pipes (inr ne) e = rw (channel_is (touch (gave y) k pipes) l, touch_other (gave y) l k pipes ne) (ap first_in (sym (channel_is pipes l)) ∙ e)
first_put y x l k pipes (inl eq) e =
    ap first_in (channel_is (touch (gave y) k pipes) l ∙ ap (λ j. option_map channel_of (slice_get (touch (gave y) k pipes) j)) eq ∙ ap (option_map channel_of) (touch_same (gave y) k pipes))
    ∙ first_kept y x (slice_get pipes k) (ap first_in (ap (λ j. option_map channel_of (slice_get pipes j)) (sym eq) ∙ sym (channel_is pipes l)) ∙ e)

room_taken : (l k : ℕ) (pipes : List Pipe) → (l ≡ k) ⊎ (l ≡ k → ⊥) → room_at pipes l ≡ true → room_at (touch took k pipes) l ≡ true
room_taken l k pipes (inr ne) e = rw (channel_is (touch took k pipes) l, touch_other took l k pipes ne) (ap room_in (sym (channel_is pipes l)) ∙ e)
room_taken l k pipes (inl eq) e =
    ap room_in (channel_is (touch took k pipes) l ∙ ap (λ j. option_map channel_of (slice_get (touch took k pipes) j)) eq ∙ ap (option_map channel_of) (touch_same took k pipes))
    ∙ room_kept (slice_get pipes k) (ap room_in (ap (λ j. option_map channel_of (slice_get pipes j)) (sym eq) ∙ sym (channel_is pipes l)) ∙ e)

come_took : (d : Option Feed) (o : Option Pipe) → to_come d (option_map took o) ≡ to_come d o
come_took None o = refl
come_took (Some d) None = refl
come_took (Some d) (Some p) = refl

come_taken : (d : Option Feed) (l k : ℕ) (pipes : List Pipe) → (l ≡ k) ⊎ (l ≡ k → ⊥) → to_come d (slice_get (touch took k pipes) l) ≡ to_come d (slice_get pipes l)
come_taken d l k pipes (inl e) = rw (e, touch_same took k pipes) (come_took d (slice_get pipes k))
come_taken d l k pipes (inr ne) = rw (touch_other took l k pipes ne) refl

-- what the others do leaves what a reader and a writer see of their links
pub first_stays : (g : Flow) (pipes : List Pipe) (l : ℕ) (x : Item) → Apart (Take l) g → first_at pipes l ≡ Some x → first_at (flows g pipes) l ≡ Some x
first_stays Still pipes l x h e = e
first_stays (Take k) pipes l x h e = rw (channel_is (touch took k pipes) l, touch_other took l k pipes h) (ap first_in (sym (channel_is pipes l)) ∙ e)
first_stays (Put k y) pipes l x h e = first_put y x l k pipes (cases_eq l k) e

pub room_stays : (g : Flow) (pipes : List Pipe) (l : ℕ) (y : Item) → Apart (Put l y) g → room_at pipes l ≡ true → room_at (flows g pipes) l ≡ true
room_stays Still pipes l y h e = e
room_stays (Take k) pipes l y h e = room_taken l k pipes (cases_eq l k) e
room_stays (Put k x) pipes l y h e = rw (channel_is (touch (gave x) k pipes) l, touch_other (gave x) l k pipes h) (ap room_in (sym (channel_is pipes l)) ∙ e)

pub come_stays : (d : Option Feed) (g : Flow) (pipes : List Pipe) (l : ℕ) (y : Item) → Apart (Put l y) g → to_come d (slice_get (flows g pipes) l) ≡ to_come d (slice_get pipes l)
come_stays d Still pipes l y h = refl
come_stays d (Take k) pipes l y h = come_taken d l k pipes (cases_eq l k)
come_stays d (Put k x) pipes l y h = rw (touch_other (gave x) l k pipes h) refl
