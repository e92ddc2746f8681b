-- The order in which the faults of a source are told.
use Rattle.std.specs.Prelude.{◌≡◌, ℕ, List, [], ◌⊎◌}
use Rattle.core_regs.specs.declared.causes.Order.{Order}
use Rattle.asm_layout.specs.Growing.{IsGrown}
use Rattle.asm_layout.specs.Layout.{Numbers}
use Rattle.asm_source.specs.declared.fault.Fault.{Fault}
use Rattle.asm_source.specs.Faults.{IsLeast}
use Rattle.asm_source.specs.Items.{pieces}
use Rattle.asm_source.specs.Second.{all_second_faults, items_of}
use Rattle.asm_reading.specs.FirstRound.{first_faults}
use Rattle.asm_reading.specs.Reading.{source_read}
use Rattle.mb_asm.specs.declared.answer.Assembled.{Assembled}
use Rattle.mb_asm.specs.Assembly.{IsAssembled, IsFirstFault}

-- no line has a fault, and this one is the least of all that the layout of the grown set has: of each instruction, of each
-- slot, of sizes and addresses, and of each part that shares a byte or is one too many
pub record IsLeastLaid (source : List ℕ) (fault : Fault) : Type 0 where
  pub F : Numbers
  pub none : first_faults source ≡ []
  pub grown : IsGrown (pieces (items_of (source_read source).items)) F
  pub least : IsLeast (all_second_faults (source_read source).items F) fault

-- the fault that is told is the least of those of all lines; one of the layout only where no line has any
abbrev pub FaultsAreInOrder : Type 0
FaultsAreInOrder = (source : List ℕ) (fault : Fault) → IsFirstFault source fault → IsLeast (first_faults source) fault ⊎ IsLeastLaid source fault

-- neither a line nor the layout has a fault
pub record HasNoFault (source : List ℕ) : Type 0 where
  pub F : Numbers
  pub none : first_faults source ≡ []
  pub grown : IsGrown (pieces (items_of (source_read source).items)) F
  pub sound : all_second_faults (source_read source).items F ≡ []

abbrev pub AssembledHaveNoFault : Type 0
AssembledHaveNoFault = (order : Order) (source : List ℕ) (a : Assembled) → IsAssembled order source a → HasNoFault source
