-- The fold of `lesser` finds the least of some faults, and finds none only where there is none.
use Rattle.std.proofs.Common.{◌≡◌, Bool, true, false, ◌||◌, ◌&&◌, cond, nat_lt, ◌==◌, List, [], ◌∷◌, Some, None, ◌⊎◌, inl, inr, Ordering, Less, Equal, Greater, refl, ap, sym, ◌∙◌, subst, arith}
use Rattle.std.proofs.lemmas.Cmp.{nat_cmp_total, nat_list_cmp_total, on_total, then_total, tied_itself}
use Rattle.std.specs.Cmp.{IsTotalOrder}
use Rattle.std.specs.Cmp.Lexicographic.{slice_cmp}
use Rattle.std.specs.List.{list_any}
use Rattle.std.specs.Option.{is_some}
use Rattle.std.specs.Ordering.{is_lt, nat_cmp, ordering_reverse, ordering_then}
use Rattle.board_file.specs.Faults.{IsLeast, IsOneOf, code_of, comes_first, least, least_after}
use Rattle.board_file.specs.declared.fault.Fault.{Fault}

-- the order of faults is total
order : Fault → Fault → Ordering
order f g = ordering_then (nat_cmp (code_of f.rule) (code_of g.rule)) (slice_cmp nat_cmp f.place g.place)

order_total : IsTotalOrder order
unfolding order
order_total = then_total (on_total (λ f. code_of f.rule) nat_cmp_total) (on_total (λ f. f.place) nat_list_cmp_total)

by_tests : (less same : Bool) (o : Ordering) → (less || (same && is_lt o)) ≡ is_lt (ordering_then (cond less Less (cond same Equal Greater)) o)
by_tests true same o = refl
by_tests false true o = refl
by_tests false false o = refl

is_order : (f g : Fault) → comes_first f g ≡ is_lt (order f g)
unfolding order
is_order f g = by_tests (nat_lt (code_of f.rule) (code_of g.rule)) (code_of f.rule == code_of g.rule) (slice_cmp nat_cmp f.place g.place)

not_itself : (f : Fault) → comes_first f f ≡ false
not_itself f = is_order f f ∙ ap is_lt (tied_itself order_total f)

is_less : (o : Ordering) → is_lt o ≡ true → o ≡ Less
is_less Less e = refl
is_less Equal e = grind arith
is_less Greater e = grind arith

chain : (f g h : Fault) → comes_first f g ≡ true → comes_first g h ≡ true → comes_first f h ≡ true
chain f g h a b =
    is_order f h ∙ ap is_lt (order_total.trans f g h (is_less _ (sym (is_order f g) ∙ a)) (is_less _ (sym (is_order g h) ∙ b)))

-- what is not before another is not before what is before that
through : (o : Ordering) (g b f : Fault) → order g b ≡ o → is_lt o ≡ false → comes_first g f ≡ true → comes_first b f ≡ true
through Less g b f is e before = grind arith
through Equal g b f is e before = is_order b f ∙ ap is_lt (sym (order_total.congr g b f is)) ∙ sym (is_order g f) ∙ before
through Greater g b f is e before =
    let turned : order b g ≡ Less = order_total.antisymm b g ∙ ap ordering_reverse is in
    chain b g f (is_order b g ∙ ap is_lt turned) before

not_true : (b : Bool) → (b ≡ true → true ≡ false) → b ≡ false
not_true true f = f refl
not_true false f = refl

or_false : (a b : Bool) → a ≡ false → b ≡ false → (a || b) ≡ false
or_false false b p q = q
or_false true b p q = p

-- the least after one that was found before
record Found (b : Fault) (fs : List Fault) (f : Fault) : Type 0 where
  before : comes_first b f ≡ false
  first : list_any (λ g. comes_first g f) fs ≡ false
  among : (b ≡ f) ⊎ IsOneOf f fs

pick : (b g f : Fault) (fs : List Fault) (holds : Bool) → comes_first g b ≡ holds
    → (least_after (Some g) fs ≡ Some f → Found g fs f) → (least_after (Some b) fs ≡ Some f → Found b fs f)
    → least_after (cond holds (Some g) (Some b)) fs ≡ Some f → Found b (g ∷ fs) f
pick b g f fs true is new old e =
    let found = new e in
    record {
      before = not_true _ (λ h. sym (chain g b f is h) ∙ found.before);
      first = or_false _ _ found.before found.first;
      among = inr found.among;
    }
pick b g f fs false is new old e =
    let found = old e in
    let other = not_true _ (λ h. sym (through (order g b) g b f refl (sym (is_order g b) ∙ is) h) ∙ found.before) in
    record {
      before = found.before;
      first = or_false _ _ other found.first;
      among = later found.among;
    }
  where
    later : (b ≡ f) ⊎ IsOneOf f fs → (b ≡ f) ⊎ IsOneOf f (g ∷ fs)
    later (inl same) = inl same
    later (inr more) = inr (inr more)

same_some : (b f : Fault) → Some b ≡ Some f → b ≡ f
same_some b f e = grind arith

found : (b : Fault) (fs : List Fault) (f : Fault) → least_after (Some b) fs ≡ Some f → Found b fs f
found b [] f e =
    let same = same_some b f e in
    record { before = subst (λ g. comes_first b g ≡ false) same (not_itself b); first = refl; among = inl same }
found b (g ∷ fs) f e = pick b g f fs (comes_first g b) refl (found g fs f) (found b fs f) e

pub least_is_least : (fs : List Fault) (f : Fault) → least fs ≡ Some f → IsLeast f fs
least_is_least [] f e = grind arith
least_is_least (b ∷ fs) f e = let h = found b fs f e in record { among = h.among; first = or_false _ _ h.before h.first }

-- where there is no least fault there is none
chosen : (best f : Fault) (fs : List Fault) (b : Bool) → is_some (least_after (Some best) fs) ≡ true → is_some (least_after (Some f) fs) ≡ true → is_some (least_after (cond b (Some f) (Some best)) fs) ≡ true
chosen best f fs true old new = new
chosen best f fs false old new = old

stays_some : (best : Fault) (fs : List Fault) → is_some (least_after (Some best) fs) ≡ true
stays_some best [] = refl
stays_some best (f ∷ fs) = chosen best f fs (comes_first f best) (stays_some best fs) (stays_some f fs)

pub none_is_least : (fs : List Fault) → least fs ≡ None → fs ≡ []
none_is_least [] e = refl
none_is_least (f ∷ fs) e = let some = stays_some f fs in grind (arith, some, e)
