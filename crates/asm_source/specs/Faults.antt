-- The first fault of a source: of all faults of the first round the least; where it has none, of those of the second.
use Rattle.std.specs.Prelude.{◌≡◌, ℕ, ◌==◌, nat_lt, Bool, false, ◌&&◌, ◌||◌, List, [], if◌then◌else◌, Option, None, Some}
use Rattle.std.specs.List.{All, Contains, fold}
use Rattle.asm_source.specs.declared.fault.Fault.{Fault}
use Rattle.asm_source.specs.declared.fault.Rule.{Rule}
use Rattle.asm_source.specs.declared.fault.Rule.TheVariants.{UnknownMnemonic, WrongOperands, OutOfRange, Undefined, DefinedTwice, BadInSlot, EmptySlot, UnknownDirective, BadLiteral, BadCharacter, SharedByte, TooMuch}

-- the numbers of the faults
abbrev pub code_of : Rule → ℕ
code_of UnknownMnemonic = 1101
code_of WrongOperands = 1102
code_of OutOfRange = 1103
code_of Undefined = 1104
code_of DefinedTwice = 1105
code_of BadInSlot = 1106
code_of EmptySlot = 1107
code_of UnknownDirective = 1108
code_of BadLiteral = 1109
code_of BadCharacter = 1110
code_of SharedByte = 1111
code_of TooMuch = 1112

-- by line, then by column, then by code
abbrev pub comes_first : Fault → Fault → Bool
comes_first f g = nat_lt f.line g.line || f.line == g.line && (nat_lt f.column g.column || f.column == g.column && nat_lt (code_of f.rule) (code_of g.rule))

abbrev pub lesser : Option Fault → Fault → Option Fault
lesser None f = Some f
lesser (Some g) f = if comes_first f g then Some f else Some g

-- the least of these and of what was noted before
abbrev pub least_after : Option Fault → List Fault → Option Fault
least_after noted all = fold lesser noted all

abbrev pub least : List Fault → Option Fault
least all = least_after None all

-- the second round answers only where the first has no fault
abbrev pub or_else : Option Fault → Option Fault → Option Fault
or_else None second = second
or_else (Some f) second = Some f

abbrev pub first_fault : List Fault → List Fault → Option Fault
first_fault first second = or_else (least first) (least second)

-- one of these, and none of them comes before it
pub record IsLeast (all : List Fault) (f : Fault) : Type 0 where
  pub member : Contains all f
  pub none_before : All (λ g. comes_first g f ≡ false) all

abbrev pub IsFirst : List Fault → Option Fault → Type 0
IsFirst all None = all ≡ []
IsFirst all (Some f) = IsLeast all f
