-- The test of two actions tells whether they are the same.
use Rattle.std.specs.Prelude.{◌≡◌, ℕ, ◌==◌, ◌&&◌, Bool, true, false, List, [], ◌∷◌}
use Rattle.std.proofs.Common.{refl, ap, ◌∙◌}
use Rattle.std.proofs.lemmas.Bool.{eq-eqb, eqb-true}
use Rattle.axi_link.specs.declared.item.Item.{Item}
use Rattle.core_regs.specs.declared.causes.Take.{Take}
use Rattle.core_regs.specs.declared.causes.Take.TheVariants.{Interrupt, Break, NonMaskable}
use Rattle.isa_step.specs.declared.acts.Action.{Action}
use Rattle.isa_step.specs.declared.acts.Action.TheVariants.{Took, Got, Sent, Seen, Room, Missed, Read, ReadRefused, Wrote, WriteRefused}
use Rattle.isa_step.specs.Actions.{are_actions, is_action, is_bool, is_item, is_take}

both : (a b : Bool) → a ≡ true → b ≡ true → a && b ≡ true
both a b p q = rw (p, q) refl

left : (a b : Bool) → a && b ≡ true → a ≡ true
left true b e = refl
left false b e = e

right : (a b : Bool) → a && b ≡ true → b ≡ true
right true b e = e
right false b e = cc

same_number : (n : ℕ) → n == n ≡ true
same_number n = eq-eqb n n refl

-- an action is itself

bool_itself : (b : Bool) → is_bool b b ≡ true
bool_itself true = refl
bool_itself false = refl

take_itself : (t : Take) → is_take t t ≡ true
take_itself Interrupt = refl
take_itself Break = refl
take_itself NonMaskable = refl

item_itself : (x : Item) → is_item x x ≡ true
item_itself x = both _ _ (same_number x.word) (bool_itself x.control)

action_itself : (a : Action) → is_action a a ≡ true
unfolding is_action
action_itself (Took t) = take_itself t
action_itself (Got p x) = both _ _ (same_number p) (item_itself x)
action_itself (Sent p x) = both _ _ (same_number p) (item_itself x)
action_itself (Seen p x) = both _ _ (same_number p) (item_itself x)
action_itself (Room p) = same_number p
action_itself (Missed p f) = both _ _ (same_number p) (bool_itself f)
action_itself (Read a w) = both _ _ (same_number a) (same_number w)
action_itself (ReadRefused a) = same_number a
action_itself (Wrote a w) = both _ _ (same_number a) (same_number w)
action_itself (WriteRefused a w) = both _ _ (same_number a) (same_number w)

pub actions_itself : (xs : List Action) → are_actions xs xs ≡ true
unfolding are_actions
actions_itself [] = refl
actions_itself (x ∷ xs) = both _ _ (action_itself x) (actions_itself xs)

-- and no other

bool_is : (a b : Bool) → is_bool a b ≡ true → a ≡ b
bool_is true true e = refl
bool_is true false e = cc
bool_is false true e = cc
bool_is false false e = refl

take_is : (s t : Take) → is_take s t ≡ true → s ≡ t
take_is Interrupt Interrupt e = refl
take_is Interrupt Break e = cc
take_is Interrupt NonMaskable e = cc
take_is Break Interrupt e = cc
take_is Break Break e = refl
take_is Break NonMaskable e = cc
take_is NonMaskable Interrupt e = cc
take_is NonMaskable Break e = cc
take_is NonMaskable NonMaskable e = refl

item_of : ℕ → Bool → Item
item_of word control = record { word = word; control = control }

item_is : (x y : Item) → is_item x y ≡ true → x ≡ y
unfolding item_of
item_is x y e =
    let w : x.word ≡ y.word = eqb-true x.word y.word (left _ _ e) in
    let c : x.control ≡ y.control = bool_is x.control y.control (right (x.word == y.word) _ e) in
    ap (λ w. item_of w x.control) w ∙ ap (item_of y.word) c

action_is : (a b : Action) → is_action a b ≡ true → a ≡ b
unfolding is_action
action_is (Took s) (Took t) e = ap Took (take_is s t e)
action_is (Got p x) (Got q y) e = ap (λ p. Got p x) (eqb-true p q (left _ _ e)) ∙ ap (Got q) (item_is x y (right (p == q) _ e))
action_is (Sent p x) (Sent q y) e = ap (λ p. Sent p x) (eqb-true p q (left _ _ e)) ∙ ap (Sent q) (item_is x y (right (p == q) _ e))
action_is (Seen p x) (Seen q y) e = ap (λ p. Seen p x) (eqb-true p q (left _ _ e)) ∙ ap (Seen q) (item_is x y (right (p == q) _ e))
action_is (Room p) (Room q) e = ap Room (eqb-true p q e)
action_is (Missed p f) (Missed q g) e = ap (λ p. Missed p f) (eqb-true p q (left _ _ e)) ∙ ap (Missed q) (bool_is f g (right (p == q) _ e))
action_is (Read a v) (Read b w) e = ap (λ a. Read a v) (eqb-true a b (left _ _ e)) ∙ ap (Read b) (eqb-true v w (right (a == b) _ e))
action_is (ReadRefused a) (ReadRefused b) e = ap ReadRefused (eqb-true a b e)
action_is (Wrote a v) (Wrote b w) e = ap (λ a. Wrote a v) (eqb-true a b (left _ _ e)) ∙ ap (Wrote b) (eqb-true v w (right (a == b) _ e))
action_is (WriteRefused a v) (WriteRefused b w) e = ap (λ a. WriteRefused a v) (eqb-true a b (left _ _ e)) ∙ ap (WriteRefused b) (eqb-true v w (right (a == b) _ e))
action_is _ _ e = cc

pub actions_are : (xs ys : List Action) → are_actions xs ys ≡ true → xs ≡ ys
unfolding are_actions
actions_are [] [] e = refl
actions_are [] (y ∷ ys) e = cc
actions_are (x ∷ xs) [] e = cc
actions_are (x ∷ xs) (y ∷ ys) e = ap (λ x. x ∷ xs) (action_is x y (left _ _ e)) ∙ ap (λ xs. y ∷ xs) (actions_are xs ys (right (is_action x y) _ e))
