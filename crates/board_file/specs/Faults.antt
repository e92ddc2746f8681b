-- The faults of a board file: what is wrong, with a place, and the least of several.
use Rattle.std.specs.Prelude.{◌≡◌, ◌⊎◌, ℕ, Bool, false, ◌==◌, ◌&&◌, ◌||◌, nat_lt, List, [], ◌∷◌, fold, Option, Some, None, if◌then◌else◌}
use Rattle.std.specs.List.{list_any}
use Rattle.std.specs.Ordering.{nat_cmp, is_lt}
use Rattle.std.specs.Cmp.Lexicographic.{slice_cmp}
use Rattle.board_file.specs.declared.fault.BoardFault.{BoardFault}
use Rattle.board_file.specs.declared.fault.BoardFault.TheVariants.{Refused}
use Rattle.board_file.specs.declared.fault.BoardRule.{BoardRule}
use Rattle.board_file.specs.declared.fault.BoardRule.TheVariants as broken
use Rattle.board_file.specs.declared.fault.Fault.{Fault}

-- the code of each fault
abbrev pub code_of : BoardRule → ℕ
code_of broken.NotToml = 601
code_of broken.UnknownVersion = 602
code_of broken.UnknownKey = 603
code_of broken.Missing = 604
code_of broken.WrongType = 605
code_of broken.BadValue = 606
code_of broken.FileTwice = 607
code_of broken.UnknownCore = 608
code_of broken.PortTwice = 609
code_of broken.BadLink = 610
code_of broken.UnknownPipeline = 611
code_of broken.UnknownOrder = 612
code_of broken.BadBase = 613
code_of broken.InterruptTwice = 614
code_of broken.TooManyCores = 615
code_of broken.TooManyLinks = 616
code_of broken.DeviceOnNetwork = 617
code_of broken.EventOnNetwork = 618
code_of broken.BadMemory = 619
code_of broken.BadFileName = 620

abbrev pub fault : BoardRule → List ℕ → Fault
fault rule place = record { rule = rule; place = place }

-- the answer to a file whose least fault this is
abbrev pub refusal : Fault → BoardFault
refusal f = Refused (code_of f.rule) f.place

-- a fault where something is wrong
abbrev pub fault_at : Option BoardRule → List ℕ → List Fault
fault_at None at = []
fault_at (Some rule) at = fault rule at ∷ []

abbrev pub fault_unless : Bool → BoardRule → List ℕ → List Fault
fault_unless right rule at = if right then [] else fault rule at ∷ []

-- whether a place comes before another in byte order
abbrev pub is_earlier : List ℕ → List ℕ → Bool
is_earlier at other = is_lt (slice_cmp nat_cmp at other)

-- the lesser code, and of equal codes the earlier place
abbrev pub comes_first : Fault → Fault → Bool
comes_first f g = nat_lt (code_of f.rule) (code_of g.rule) || (code_of f.rule == code_of g.rule && is_earlier f.place g.place)

abbrev pub lesser : Option Fault → Fault → Option Fault
lesser None f = Some f
lesser (Some g) f = if comes_first f g then Some f else Some g

-- the least of some faults and of one that was found before
abbrev pub least_after : Option Fault → List Fault → Option Fault
least_after best fs = fold lesser best fs

abbrev pub least : List Fault → Option Fault
least fs = least_after None fs

-- what the least of some faults is: one of them, before which none comes
abbrev pub IsOneOf : Fault → List Fault → Type 0
IsOneOf f [] = ⊥
IsOneOf f (g ∷ gs) = (g ≡ f) ⊎ IsOneOf f gs

pub record IsLeast (f : Fault) (fs : List Fault) : Type 0 where
  pub among : IsOneOf f fs
  pub first : list_any (λ g. comes_first g f) fs ≡ false
