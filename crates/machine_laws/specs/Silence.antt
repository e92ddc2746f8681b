-- Acts that enter nothing, and acts that enter something.
use Rattle.std.specs.Prelude.{◌≡◌, ◌&&◌, Bool, true, false, None, is_none}
use Rattle.isa_step.specs.Effects.{View, Effect, Does, after}
use Rattle.isa_step.specs.Due.{due}
use Rattle.isa_step.specs.Shown.{Shown}
use Rattle.board_machine.specs.Fabric.{entry_of_act}

-- an act that has no entry
abbrev pub is_silent : Effect → Bool
is_silent effect = is_none effect.action && is_none (entry_of_act effect.done.act)

pub record IsAwake (v : View) : Type 0 where
  pub asleep : v.arch.asleep ≡ false
  pub stopped : v.arch.stopped ≡ None

-- an act without an entry leaves a core awake that was awake, and running that ran
pub record SilentActsStayAwake : Type 0 where
  pub before : (v : View) (s : Shown) (effect : Effect) → due v s ≡ Does effect → is_silent effect ≡ true → IsAwake v
  pub later : (v : View) (s : Shown) (effect : Effect) → due v s ≡ Does effect → is_silent effect ≡ true → IsAwake (after v effect)

-- an act with an entry leaves the memory
pub record LoudActsKeepMemory : Type 0 where
  pub memory : (v : View) (s : Shown) (effect : Effect) → due v s ≡ Does effect → is_silent effect ≡ false → (after v effect).memory ≡ v.memory
