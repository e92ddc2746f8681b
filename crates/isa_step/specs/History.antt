-- The view after a number of acts, told by what the acts did at the ports.
use Rattle.std.specs.Prelude.{◌≡◌, ℕ, zero, suc, Bool, true, false, List, ◌∷◌, Option, Some, None, option_to_list, if◌then◌else◌}
use Rattle.axi_link.specs.declared.item.Item.{Item}
use Rattle.core_regs.specs.State.{bare}
use Rattle.core_regs.specs.declared.causes.Take.{Take}
use Rattle.isa_step.specs.declared.acts.Action.{Action}
use Rattle.isa_step.specs.declared.acts.Action.TheVariants.{Took, Got, Sent, Seen, Room, Missed, Read, ReadRefused, Wrote, WriteRefused}
use Rattle.isa_step.specs.Actions.{are_actions}
use Rattle.isa_step.specs.Shown.{Shown}
use Rattle.isa_step.specs.Effects.{View, Effect, Does, Request, Goes, HaltLoop, Gets, Puts, Reads, Writes, after}
use Rattle.isa_step.specs.Due.{due, here_of, takes}
use Rattle.isa_step.specs.Requests.{operands_of, requested}

-- the effect that the first action of a list answers for: an item, room, a word of the bus, or that the bus took a word
abbrev pub told_item : (Item → Effect) → Option Effect → List Action → Option Effect
told_item item empty (Got port x ∷ rest) = Some (item x)
told_item item empty (Seen port x ∷ rest) = Some (item x)
told_item item empty (Missed port full ∷ rest) = empty
told_item item empty _ = None

abbrev pub told_room : Effect → Option Effect → List Action → Option Effect
told_room room full (Sent port x ∷ rest) = Some room
told_room room full (Room port ∷ rest) = Some room
told_room room full (Missed port is_full ∷ rest) = full
told_room room full _ = None

abbrev pub told_word : (Option ℕ → Effect) → List Action → Option Effect
told_word answer (Read addr word ∷ rest) = Some (answer (Some word))
told_word answer (ReadRefused addr ∷ rest) = Some (answer None)
told_word answer _ = None

abbrev pub told_write : (Bool → Effect) → List Action → Option Effect
told_write answer (Wrote addr word ∷ rest) = Some (answer true)
told_write answer (WriteRefused addr word ∷ rest) = Some (answer false)
told_write answer _ = None

-- the effect of an instruction with such an answer, None where there is none of the kind that it asks for
abbrev pub answered : Request → List Action → Option Effect
answered (Goes effect) actions = Some effect
answered (HaltLoop effect) actions = Some effect
answered (Gets port item empty) actions = told_item item empty actions
answered (Puts port room full) actions = told_room room full actions
answered (Reads addr answer) actions = told_word answer actions
answered (Writes addr word answer) actions = told_write answer actions

abbrev pub took : List Action → Option Take
took (Took t ∷ rest) = Some t
took _ = None

abbrev pub effect_by : View → List Action → Option Take → Option Effect
effect_by v actions (Some t) = Some (takes (bare v.arch) t)
effect_by v actions None = answered (requested (here_of v) (operands_of (here_of v) v.arch.regs) (bare v.arch) v.memory) actions

-- a effect that did exactly these actions: of this kind, at this port or address, with this item or word, and no further one
abbrev pub exactly : List Action → Option Effect → Option Effect
exactly actions None = None
exactly actions (Some effect) = if are_actions (option_to_list effect.action) actions then Some effect else None

-- the act that did these actions; undefined where they are not those that the view asks for
unfoldable pub effect_told : View → List Action → Option Effect
effect_told v actions = exactly actions (effect_by v actions (took actions))

abbrev pub view_after : View → Option Effect → Option View
view_after v None = None
view_after v (Some effect) = Some (after v effect)

abbrev pub one_more : List Action → Option View → Option View
one_more actions None = None
one_more actions (Some v) = view_after v (effect_told v actions)

-- the view after so many acts, where the act of each number did these actions at the ports
unfoldable pub state_after : View → (ℕ → List Action) → ℕ → Option View
state_after v responses zero = Some v
state_after v responses (suc k) = one_more (responses k) (state_after v responses k)

-- each act that is due is told by its actions, so the view after it is too; and no act is told by other actions than its own
pub record IsTold : Type 0 where
  pub told : (v : View) (s : Shown) (effect : Effect) → due v s ≡ Does effect → effect_told v (option_to_list effect.action) ≡ Some effect
  pub only : (v : View) (actions : List Action) (effect : Effect) → effect_told v actions ≡ Some effect → actions ≡ option_to_list effect.action
