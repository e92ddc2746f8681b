-- When two actions at the ports are the same.
use Rattle.std.specs.Prelude.{ℕ, ◌==◌, ◌&&◌, not, Bool, true, false, List, [], ◌∷◌, if◌then◌else◌}
use Rattle.axi_link.specs.declared.item.Item.{Item}
use Rattle.core_regs.specs.declared.causes.Take.{Take}
use Rattle.core_regs.specs.declared.causes.Take.TheVariants.{Interrupt, Break, NonMaskable}
use Rattle.isa_step.specs.declared.acts.Action.{Action}
use Rattle.isa_step.specs.declared.acts.Action.TheVariants.{Took, Got, Sent, Seen, Room, Missed, Read, ReadRefused, Wrote, WriteRefused}

abbrev pub is_bool : Bool → Bool → Bool
is_bool a b = if a then b else not b

abbrev pub is_take : Take → Take → Bool
is_take Interrupt Interrupt = true
is_take Break Break = true
is_take NonMaskable NonMaskable = true
is_take _ _ = false

abbrev pub is_item : Item → Item → Bool
is_item x y = (x.word == y.word) && is_bool x.control y.control

-- the same kind of action, at the same port or address, with the same item or word
unfoldable pub is_action : Action → Action → Bool
is_action (Took s) (Took t) = is_take s t
is_action (Got p x) (Got q y) = (p == q) && is_item x y
is_action (Sent p x) (Sent q y) = (p == q) && is_item x y
is_action (Seen p x) (Seen q y) = (p == q) && is_item x y
is_action (Room p) (Room q) = p == q
is_action (Missed p f) (Missed q g) = (p == q) && is_bool f g
is_action (Read a x) (Read b y) = (a == b) && (x == y)
is_action (ReadRefused a) (ReadRefused b) = a == b
is_action (Wrote a x) (Wrote b y) = (a == b) && (x == y)
is_action (WriteRefused a x) (WriteRefused b y) = (a == b) && (x == y)
is_action _ _ = false

unfoldable pub are_actions : List Action → List Action → Bool
are_actions [] [] = true
are_actions (a ∷ xs) (b ∷ ys) = is_action a b && are_actions xs ys
are_actions _ _ = false
