-- The take law: where interrupts and breaks were taken, and where no interrupt was passed over.
use Rattle.std.specs.Prelude.{◌≡◌, ℕ, ◌+◌, ◌<◌, ◌≤◌, ◌==◌, ◌&&◌, not, Bool, true, false, List, [], length, filter, Some, nat_lt}
use Rattle.std.specs.List.{AllByRecursion, fold, list_any}
use Rattle.core_regs.specs.declared.causes.Take.TheVariants.{Interrupt, Break, NonMaskable}
use Rattle.core_regs.specs.State.{interrupts_on}
use Rattle.isa_step.specs.Effects.{View}
use Rattle.isa_step.specs.Due.{is_masked}
use Rattle.board_file.specs.declared.board.EventRow.{EventRow}
use Rattle.run_journal.specs.declared.entry.Entry.{Entry}
use Rattle.run_journal.specs.declared.entry.What.{What}
use Rattle.run_journal.specs.declared.entry.What.TheVariants.{Took, LineUp, LineDown}
use Rattle.run_journal.specs.Files.{tape}
use Rattle.board_machine.specs.Fabric.{is_break}
use Rattle.board_machine.specs.History.{is_take, may_take_at, view_told}

-- the interrupt line

abbrev pub is_rise : What → Bool
is_rise LineUp = true
is_rise _ = false

abbrev pub is_change : What → Bool
is_change LineUp = true
is_change LineDown = true
is_change _ = false

-- a change of a core's line that the act sees
abbrev pub changes_line : ℕ → ℕ → Entry → Bool
changes_line core act e = e.core == core && nat_lt e.act (act + 1) && is_change e.what

-- the last change of the core's line with an act of at most this one is a rise
abbrev pub high : List Entry → ℕ → ℕ → Bool
high journal core act = fold (λ before (e : Entry). is_rise e.what) false (filter (changes_line core act) journal)

-- what a view lets in: a maskable break only where a take may come and MSR's BIP and EIP are clear, and an interrupt only
-- where its IE is set, too

abbrev pub may_break : View → Bool
may_break v = may_take_at v && not (is_masked v.arch)

abbrev pub may_interrupt : View → Bool
may_interrupt v = may_take_at v && (interrupts_on v.arch && not (is_masked v.arch))

-- a break of a core and kind stands in the board file with a cycle not above this one
abbrev pub has_break : List EventRow → ℕ → Bool → ℕ → Bool
has_break breaks core nonmaskable cycle = list_any (λ (r : EventRow). is_break core nonmaskable r && nat_lt r.cycle (cycle + 1)) breaks

-- if an entry is a take, the view before it let it in, and the line was high or such a break had come
abbrev pub IsRightTake : List EventRow → ℕ → Bool → View → ℕ → What → Type 0
IsRightTake breaks core line view cycle (Took Interrupt) = line && may_interrupt view ≡ true
IsRightTake breaks core line view cycle (Took Break) = (may_break view ≡ true) × (has_break breaks core false cycle ≡ true)
IsRightTake breaks core line view cycle (Took NonMaskable) = (may_take_at view ≡ true) × (has_break breaks core true cycle ≡ true)
IsRightTake breaks core line view cycle _ = Unit {0}

abbrev pub no_take : List Entry → Bool
no_take entries = not (list_any (λ (e : Entry). is_take e.what) entries)

-- an act: its take was right, and if it is no take, no interrupt had to be taken
pub record IsRightAct (breaks : List EventRow) (first : View) (journal : List Entry) (core act : ℕ) : Type 0 where
  pub view : View
  pub determined : view_told first journal core act ≡ Some view
  pub takes : AllByRecursion (λ (e : Entry). IsRightTake breaks core (high journal core act) view e.cycle e.what) (tape journal core act)
  pub passes : no_take (tape journal core act) ≡ true → high journal core act && may_interrupt view ≡ false

-- how many breaks of a kind a core took, and how many the board file has for it

abbrev pub takes_break : Bool → What → Bool
takes_break nonmaskable (Took NonMaskable) = nonmaskable
takes_break nonmaskable (Took Break) = not nonmaskable
takes_break nonmaskable _ = false

abbrev pub breaks_taken : List Entry → ℕ → Bool → ℕ
breaks_taken journal core nonmaskable = length (filter (λ (e : Entry). e.core == core && takes_break nonmaskable e.what) journal)

abbrev pub breaks_of : List EventRow → ℕ → Bool → ℕ
breaks_of breaks core nonmaskable = length (filter (is_break core nonmaskable) breaks)

-- the law for a core with its first view and its number of acts: each act was right, none is recorded after them, and no
-- break was taken twice
pub record TakeLaw (breaks : List EventRow) (first : View) (core acts : ℕ) (journal : List Entry) : Type 0 where
  pub right : (act : ℕ) → act < acts → IsRightAct breaks first journal core act
  pub no_more : (act : ℕ) → acts ≤ act → tape journal core act ≡ []
  pub enough : (nonmaskable : Bool) → breaks_taken journal core nonmaskable ≤ breaks_of breaks core nonmaskable
