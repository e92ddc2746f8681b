-- The commands as clap sees them. These words stay closed: opened, each goal that has one is some thousand symbols long.
use Rattle.std.specs.Prelude.{◌≡◌, codes, [], List, Option, Some, option_map, false, true}
use Rattle.std.specs.Option.{option_map_or}
use Rattle.std.specs.Str.{bytes_eq}
use Rattle.clap.specs.Walk.{Rule, first_of}
use Rattle.clap.specs.Simple.{App, matches_of, new_app, new_rule, on_top, with_rule}
use Rattle.clap.specs.Kinds.{Kinds}
use Rattle.clap.specs.Faults.{fault_of}
use Rattle.clap.specs.declared.builder.action.ArgAction.TheVariants.{SetTrue}
use Rattle.command_line.specs.Words.{Text, raised_value}
use Rattle.command_line.specs.declared.split.AsmWords.{AsmWords}
use Rattle.command_line.specs.declared.split.BoardWords.{BoardWords}
use Rattle.command_line.specs.declared.split.DemoWords.{DemoWords}
use Rattle.command_line.specs.declared.split.DisWords.{DisWords}
use Rattle.command_line.specs.declared.split.RawWords.{RawWords}
use Rattle.command_line.specs.declared.split.RunWords.{RunWords}

-- an option that takes one value
abbrev pub option : Text → Rule
option name = record (new_rule name) { long = Some name }

-- an option that takes none
abbrev pub flag : Text → Rule
flag name = record (new_rule name) { long = Some name; action = Some SetTrue }

abbrev pub without_help : App → App
without_help app = on_top (λ s. record s { disable_help_flag = true }) app

unfoldable pub raw_app : App
raw_app = with_rule (with_rule (without_help (new_app (codes "raw"))) (new_rule (codes "FILE"))) (new_rule (codes "CYCLES"))

unfoldable pub run_app : App
run_app =
    with_rule (with_rule (with_rule (with_rule (without_help (new_app (codes "run"))) (new_rule (codes "BOARD"))) (option (codes "cycles")))
    (option (codes "journal"))) (option (codes "write-journal"))

unfoldable pub asm_app : App
asm_app =
    with_rule (with_rule (with_rule (without_help (new_app (codes "asm"))) (new_rule (codes "SOURCE"))) (new_rule (codes "OUTPUT")))
    (flag (codes "little"))

unfoldable pub dis_app : App
dis_app = with_rule (without_help (new_app (codes "dis"))) (new_rule (codes "IMAGE"))

unfoldable pub demo_app : App
demo_app = with_rule (without_help (new_app (codes "demo"))) (new_rule (codes "N"))

-- `profile` and `debug`; clap passes over its own name of a command
unfoldable pub board_app : App
board_app =
    with_rule (with_rule (with_rule (without_help (new_app (codes "board"))) (new_rule (codes "BOARD"))) (option (codes "cycles")))
    (option (codes "journal"))

-- the kinds of fault of the words
unfoldable pub faults : App → List Text → Kinds
faults app words = fault_of app words

-- what the words give for an argument
unfoldable pub value_of : App → List Text → Text → Option Text
value_of app words name = first_of name (matches_of app words)

-- clap takes the words of `raw`, and these are the texts in them
pub record IsRawSplit (words : List Text) (split : RawWords) : Type 0 where
  pub taken : faults raw_app words ≡ []
  pub file : option_map (λ w. w.now) split.file ≡ value_of raw_app words (codes "FILE")
  pub cycles : option_map (λ w. w.now) split.cycles ≡ value_of raw_app words (codes "CYCLES")

-- the same of `run`
pub record IsRunSplit (words : List Text) (split : RunWords) : Type 0 where
  pub taken : faults run_app words ≡ []
  pub board : option_map (λ w. w.now) split.board ≡ value_of run_app words (codes "BOARD")
  pub cycles : option_map (λ w. w.now) split.cycles ≡ value_of run_app words (codes "cycles")
  pub journal : option_map (λ w. w.now) split.journal ≡ value_of run_app words (codes "journal")
  pub write_journal : option_map (λ w. w.now) split.write_journal ≡ value_of run_app words (codes "write-journal")

-- the same of `asm`
pub record IsAsmSplit (words : List Text) (split : AsmWords) : Type 0 where
  pub taken : faults asm_app words ≡ []
  pub source : option_map (λ w. w.now) split.source ≡ value_of asm_app words (codes "SOURCE")
  pub output : option_map (λ w. w.now) split.output ≡ value_of asm_app words (codes "OUTPUT")
  pub little : split.is_little ≡ option_map_or (λ text. bytes_eq text raised_value) (value_of asm_app words (codes "little")) false

-- the same of `dis`
pub record IsDisSplit (words : List Text) (split : DisWords) : Type 0 where
  pub taken : faults dis_app words ≡ []
  pub image : option_map (λ w. w.now) split.image ≡ value_of dis_app words (codes "IMAGE")

-- the same of `demo`
pub record IsDemoSplit (words : List Text) (split : DemoWords) : Type 0 where
  pub taken : faults demo_app words ≡ []
  pub number : option_map (λ w. w.now) split.number ≡ value_of demo_app words (codes "N")

-- the same of `profile` and `debug`
pub record IsBoardSplit (words : List Text) (split : BoardWords) : Type 0 where
  pub taken : faults board_app words ≡ []
  pub board : option_map (λ w. w.now) split.board ≡ value_of board_app words (codes "BOARD")
  pub cycles : option_map (λ w. w.now) split.cycles ≡ value_of board_app words (codes "cycles")
  pub journal : option_map (λ w. w.now) split.journal ≡ value_of board_app words (codes "journal")
