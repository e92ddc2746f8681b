-- Words that were fetched are words of memory.
use Rattle.std.proofs.Common.{ℕ, zero, suc, ◌≡◌, ◌<◌, ◌≤◌, ◌+◌, ◌-◌, ◌%◌, ◌&&◌, ◌||◌, nat_le, nat_lt, Bool, true, false, List, [], ◌∷◌, Option, Some, None, refl, sym, ap, subst, ◌∙◌, arith, take, drop, slice_get, slice_set, slice_range, ◌⊎◌, inl, inr}
use Rattle.std.specs.List.{list_any}
use Rattle.core_regs.specs.declared.causes.Order.{Order}
use Rattle.core_regs.specs.declared.causes.Size.{Size}
use Rattle.core_regs.specs.declared.causes.Size.TheVariants.{Byte, Half, Word}
use Rattle.byte_mem.specs.Access.{bytes_of, loaded, stored}
use Rattle.byte_mem.proofs.Storing.{length_stored, stored_elsewhere}
use Rattle.isa_step.specs.declared.acts.Done.{Done}
use Rattle.isa_step.specs.declared.acts.Store.{Store}
use Rattle.isa_step.specs.Effects.{after_store}
use Rattle.prepared_act.specs.declared.flow.Flow.TheVariants.{On, Stored}
use Rattle.prepared_act.specs.Retiring.{flow_by, flow_of}
use Rattle.pipe_latch.specs.declared.fetching.Fetched.{Fetched}
use Rattle.pipe_latch.specs.Latches.{AreWords, IsWord, holds_at}

-- a word that is fetched stands in place of another
pub words_set : (m : List ℕ) (order : Order) (fs : List Fetched) (k : ℕ) (f : Fetched) → AreWords m order fs → IsWord m order f → AreWords m order (slice_set fs k f)
words_set m order [] zero f h is = tt
words_set m order [] (suc k) f h is = tt
words_set m order (g ∷ fs) zero f h is = (is, h.1)
words_set m order (g ∷ fs) (suc k) f h is = (h.0, words_set m order fs k f h.1 is)

pub word_kept : (m : List ℕ) (order : Order) (fs : List Fetched) (k a : ℕ) (f : Fetched) → AreWords m order fs → slice_get fs k ≡ Some f → f.addr ≡ a → a % 4 ≡ 0 → loaded m Word order a ≡ Some f.word
word_kept m order [] zero a f h is at aligned = cc
word_kept m order [] (suc k) a f h is at aligned = cc
word_kept m order (g ∷ fs) zero a f h is at aligned =
    let same : g ≡ f = cc in
    subst (λ b. loaded m Word order b ≡ Some f.word) at (subst (λ (x : Fetched). IsWord m order x) same h.0 (subst (λ b. b % 4 ≡ 0) (sym at) aligned))
word_kept m order (g ∷ fs) (suc k) a f h is at aligned = word_kept m order fs k a f h.1 is at aligned

-- what an act leaves of them, by where it led
pub words_on : (m : List ℕ) (order other : Order) (done : Done) (fs : List Fetched) → On ≡ flow_of done → AreWords m other fs → AreWords (after_store order done.store m) other fs
words_on m order other done fs is h = on_by done.jumped done.store is
  where
    on_by : (jumped : Bool) (store : Option Store) → On ≡ flow_by jumped store → AreWords (after_store order store m) other fs
    on_by true store is = cc
    on_by false None is = h
    on_by false (Some s) is = cc

pub words_stored : (m : List ℕ) (order other : Order) (done : Done) (addr : ℕ) (fs : List Fetched) → Stored addr ≡ flow_of done
    → ((s : Store) → addr ≡ s.addr → AreWords (stored m s.size order s.addr s.word) other fs) → AreWords (after_store order done.store m) other fs
words_stored m order other done addr fs is h = stored_by done.jumped done.store is
  where
    stored_by : (jumped : Bool) (store : Option Store) → Stored addr ≡ flow_by jumped store → AreWords (after_store order store m) other fs
    stored_by true store is = cc
    stored_by false None is = cc
    stored_by false (Some s) is = h s cc

-- a part of a list by its items
take_same : (n : ℕ) (xs ys : List ℕ) → ((k : ℕ) → k < n → slice_get xs k ≡ slice_get ys k) → take n xs ≡ take n ys
take_same zero xs ys same = refl
take_same (suc n) [] [] same = refl
take_same (suc n) [] (y ∷ ys) same = let e = same 0 (omega arith) in cc
take_same (suc n) (x ∷ xs) [] same = let e = same 0 (omega arith) in cc
take_same (suc n) (x ∷ xs) (y ∷ ys) same =
    let first : x ≡ y = let e = same 0 (omega arith) in cc in
    rw (first, take_same n xs ys (λ k lt. same (suc k) (omega (arith, lt)))) refl

get_drop : (a k : ℕ) (xs : List ℕ) → slice_get (drop a xs) k ≡ slice_get xs (a + k)
get_drop zero k xs = let e : k ≡ 0 + k = omega arith in ap (λ n. slice_get xs n) e
get_drop (suc a) k [] = refl
get_drop (suc a) k (x ∷ xs) = let e : suc (a + k) ≡ suc a + k = omega arith in subst (λ n. slice_get (drop a xs) k ≡ slice_get (x ∷ xs) n) e (get_drop a k xs)

range_same : (xs ys : List ℕ) (a n : ℕ) → ((k : ℕ) → k < n → slice_get xs (a + k) ≡ slice_get ys (a + k)) → slice_range xs a (a + n) ≡ slice_range ys a (a + n)
range_same xs ys a n same =
    let size : (a + n) - a ≡ n = omega arith in
    rw size (take_same n (drop a xs) (drop a ys) (λ k lt. get_drop a k xs ∙ same k lt ∙ sym (get_drop a k ys)))

few_bytes : (size : Size) → bytes_of size ≤ 4
few_bytes Byte = omega arith
few_bytes Half = omega arith
few_bytes Word = omega arith

-- a load of a word that a store did not touch
load_kept : (m : List ℕ) (size : Size) (order other : Order) (addr value a : ℕ) → (a + 4 ≤ addr) ⊎ (addr + bytes_of size ≤ a)
    → loaded (stored m size order addr value) Word other a ≡ loaded m Word other a
unfolding loaded
load_kept m size order other addr value a far =
    let range : slice_range (stored m size order addr value) a (a + 4) ≡ slice_range m a (a + 4)
    = range_same (stored m size order addr value) m a 4 (λ k lt. stored_elsewhere m size order addr value (a + k) (byte_apart far k lt)) in
    rw (length_stored m size order addr value, range) refl
  where
    byte_apart : (a + 4 ≤ addr) ⊎ (addr + bytes_of size ≤ a) → (k : ℕ) → k < 4 → ((a + k) < addr) ⊎ (addr + bytes_of size ≤ a + k)
    byte_apart (inl le) k lt = inl (omega (arith, le, lt))
    byte_apart (inr le) k lt = inr (omega (arith, le))

or_left : (b c : Bool) → (b || c) ≡ false → b ≡ false
or_left true c h = cc
or_left false c h = refl

or_right : (b c : Bool) → (b || c) ≡ false → c ≡ false
or_right true c h = cc
or_right false c h = h

-- four bytes whose first and last lie in no word touch none
far_by : (a addr : ℕ) (t : Bool) → nat_le a addr ≡ t → (t && nat_lt addr (a + 4)) ≡ false → (nat_le a (addr + 3) && nat_lt (addr + 3) (a + 4)) ≡ false → (a + 4 ≤ addr) ⊎ (addr + 4 ≤ a)
far_by a addr true is first last = inl (grind (arith, first))
far_by a addr false is first last = inr (grind (arith, is, last))

far : (size : Size) (addr a : ℕ) → (a + 4 ≤ addr) ⊎ (addr + 4 ≤ a) → (a + 4 ≤ addr) ⊎ (addr + bytes_of size ≤ a)
far size addr a (inl le) = inl le
far size addr a (inr le) = let few = few_bytes size in inr (omega (arith, le, few))

pub words_kept : (m : List ℕ) (s : Store) (order other : Order) (fs : List Fetched)
    → (list_any (holds_at s.addr) fs || list_any (holds_at (s.addr + 3)) fs) ≡ false → AreWords m other fs → AreWords (stored m s.size order s.addr s.word) other fs
words_kept m s order other fs none h = each fs (or_left (list_any (holds_at s.addr) fs) _ none) (or_right (list_any (holds_at s.addr) fs) _ none) h
  where
    each : (fs : List Fetched) → list_any (holds_at s.addr) fs ≡ false → list_any (holds_at (s.addr + 3)) fs ≡ false → AreWords m other fs → AreWords (stored m s.size order s.addr s.word) other fs
    each [] first last h = tt
    each (f ∷ fs) first last h = (
      λ aligned. load_kept m s.size order other s.addr s.word f.addr
          (far s.size s.addr f.addr (far_by f.addr s.addr _ refl (or_left (holds_at s.addr f) _ first) (or_left (holds_at (s.addr + 3) f) _ last))) ∙ h.0 aligned,
      each fs (or_right (holds_at s.addr f) _ first) (or_right (holds_at (s.addr + 3) f) _ last) h.1,
    )
