-- What a source assembles to: its image in the grown layout, or its first fault.
use Rattle.std.specs.Prelude.{◌≡◌, ℕ, ◌+◌, List, [], ◌∷◌, length, map, Option, None, Some, Result, Ok, Err, ◌⊎◌}
use Rattle.std.specs.List.{All}
use Rattle.core_regs.specs.declared.causes.Order.{Order}
use Rattle.elf_image.specs.declared.image.Part.{Part}
use Rattle.asm_layout.specs.Growing.{IsGrown}
use Rattle.asm_layout.specs.Layout.{Numbers}
use Rattle.asm_layout.specs.Places.{AreBelow, ArePlaces, member}
use Rattle.asm_source.specs.declared.fault.Fault.{Fault}
use Rattle.asm_source.specs.declared.item.Written.{Written}
use Rattle.asm_source.specs.Faults.{code_of, least}
use Rattle.asm_source.specs.Items.{pieces}
use Rattle.asm_source.specs.Second.{items_of, place_of, second_faults}
use Rattle.asm_source.specs.Source.{AreParts, parts_of}
use Rattle.asm_image.specs.Built.{IsPlain, pair_of}
use Rattle.asm_reading.specs.Reading.{source_read}
use Rattle.mb_asm.specs.declared.answer.AsmFault.{AsmFault}
use Rattle.mb_asm.specs.declared.answer.AsmFault.TheVariants.{NoMemory, Refused}
use Rattle.mb_asm.specs.declared.answer.Assembled.{Assembled}
use Rattle.mb_asm.specs.declared.laying.Laid.{Laid}
use Rattle.mb_asm.specs.WordLines.{all_words}

-- where the program begins: at the label of the last `.entry`, else at the first part that is kept
abbrev pub entry_at : Option ℕ → (ℕ → ℕ) → List Part → ℕ
entry_at (Some item) at parts = at item
entry_at None at [] = 0
entry_at None at (p ∷ ps) = p.addr

-- items in the layout of F are this image with these lines
pub record IsBuiltOf (order : Order) (all : List Written) (entry : Option ℕ) (F : Numbers) (a : Assembled) : Type 0 where
  pub order_kept : a.image.order ≡ order
  pub parts : AreParts order (map pair_of a.image.parts) (parts_of order (items_of all) F)
  pub plain : All IsPlain a.image.parts
  pub begins : a.image.entry ≡ entry_at entry (place_of all F) a.image.parts
  pub lines : a.lines ≡ all_words all F

-- a source without a fault is this image with these lines
pub record IsAssembled (order : Order) (source : List ℕ) (a : Assembled) : Type 0 where
  pub F : Numbers
  pub sound : (source_read source).first ≡ None
  pub grown : IsGrown (pieces (items_of (source_read source).items)) F
  pub good : least (second_faults (source_read source).items F) ≡ None
  pub built : IsBuiltOf order (source_read source).items (source_read source).entry F a

-- a fault of the second round is the first: there is none in the first round
pub record IsSecond (source : List ℕ) (fault : Fault) : Type 0 where
  pub F : Numbers
  pub sound : (source_read source).first ≡ None
  pub grown : IsGrown (pieces (items_of (source_read source).items)) F
  pub first : least (second_faults (source_read source).items F) ≡ Some fault

abbrev pub IsFirstFault : List ℕ → Fault → Type 0
IsFirstFault source fault = ((source_read source).first ≡ Some fault) ⊎ IsSecond source fault

abbrev pub refusal : Fault → AsmFault
refusal fault = Refused (code_of fault.rule) fault.line fault.column

-- why there is no image: the first fault, or want of memory, which is left open
pub record IsRefusedFor (source : List ℕ) (answer : AsmFault) : Type 0 where
  pub fault : Fault
  pub first : IsFirstFault source fault
  pub told : answer ≡ refusal fault

abbrev pub IsRefusal : List ℕ → AsmFault → Type 0
IsRefusal source NoMemory = Unit {0}
IsRefusal source (Refused code line column) = IsRefusedFor source (Refused code line column)

abbrev pub Assembles : Order → List ℕ → Result Assembled AsmFault → Type 0
Assembles order source (Ok a) = IsAssembled order source a
Assembles order source (Err fault) = IsRefusal source fault

-- the layout of items in their grown set
pub record IsLaid (all : List Written) (l : Laid) : Type 0 where
  pub room : length l.places.items ≡ length all + 1
  pub same : length l.grown.items ≡ length all
  pub laid : ArePlaces (pieces (items_of all)) (member l.grown.items) (length all) l.places.items
  pub below : AreBelow (length all) l.places.items
  pub is_grown : IsGrown (pieces (items_of all)) (member l.grown.items)
