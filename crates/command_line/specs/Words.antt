-- The grammar of the command line: a command, and then words in their places, options with values, and flags.
use Rattle.std.specs.Prelude.{ℕ, ◌+◌, ◌*◌, ◌-◌, ◌≡◌, ◌∷◌, ◌++◌, ◌&&◌, ◌==◌, [], Bool, List, Option, None, Some, false, true, Result, Ok, Err, codes, drop, fold, if◌then◌else◌, length, map, nat_le, option_map, take}
use Rattle.std.specs.Char.{is_ascii_digit}
use Rattle.std.specs.List.{after_first, before_first, flat_map, list_all, list_any}
use Rattle.std.specs.Str.{bytes_eq}
use Rattle.host_io.specs.Names.{is_file_name}
use Rattle.command_line.specs.declared.command.BoardCommand.{BoardCommand}
use Rattle.command_line.specs.declared.command.BoardCommand.TheVariants as on_board
use Rattle.command_line.specs.declared.command.Command.{Command}
use Rattle.command_line.specs.declared.command.Command.TheVariants.{Asm, Debug, Demo, Dis, Profile, Raw, Run}
use Rattle.command_line.specs.declared.command.WordsFault.{WordsFault}
use Rattle.command_line.specs.declared.command.WordsFault.TheVariants.{NoMemory, Usage}

abbrev pub Text : Type 0
Text = List ℕ

-- ---- what the words are

-- what stands after the command: a word in its place, an option with its value, or a flag, which has none
pub data Part : Type 0 where
  placed : Text → Part
  given : Text → Text → Part
  raised : Text → Part

-- what a word is, before the options end: `--`, the name of an option with or without a value, another word that
-- begins with `-`, or a word in its place
pub data Look : Type 0 where
  closing : Look
  naming : Text → Option Text → Look
  refused : Look
  standing : Look

abbrev pub begins_with : Text → Text → Bool
begins_with front word = bytes_eq (take (length front) word) front

abbrev pub is_equals : ℕ → Bool
is_equals b = b == 61

-- `NAME`, or `NAME=VALUE`
abbrev pub named : Text → Look
named text = naming (before_first is_equals text) (if list_any is_equals text then Some (after_first is_equals text) else None)

unfoldable pub look : Text → Look
look word =
    if bytes_eq word (codes "--") then closing
    else if begins_with (codes "--") word then named (drop 2 word)
    else if begins_with (codes "-") word then refused
    else standing

abbrev pub with_part : Part → Option (List Part) → Option (List Part)
with_part part parts = option_map (λ ps. part ∷ ps) parts

abbrev pub is_one_of : List Text → Text → Bool
is_one_of options name = list_any (λ option. bytes_eq option name) options

-- the part that the word begins, before the parts of the others, which may begin with the value of an option
abbrev pub at_look : List Text → Look → Text → Option (List Part) → (Text → Option (List Part)) → List Part → Option (List Part)
at_look flags closing word others waiting all_placed = Some all_placed
at_look flags (naming name (Some value)) word others waiting all_placed = with_part (given name value) others
at_look flags (naming name None) word others waiting all_placed = if is_one_of flags name then with_part (raised name) others else waiting name
at_look flags refused word others waiting all_placed = None
at_look flags standing word others waiting all_placed = with_part (placed word) others

-- The parts that the words are with these flags, where an option may wait for its value: the next word, whatever it is.
-- After `--` each word is in its place.
unfoldable pub parts : List Text → Option Text → List Text → Option (List Part)
parts flags None [] = Some []
parts flags (Some name) [] = None
parts flags None (word ∷ words) = at_look flags (look word) word (parts flags None words) (λ name. parts flags (Some name) words) (map placed words)
parts flags (Some name) (word ∷ words) = with_part (given name word) (parts flags None words)

-- ---- what a command takes

abbrev pub place_in : Part → List Text
place_in (placed word) = word ∷ []
place_in (given name value) = []
place_in (raised name) = []

-- what a flag counts as: an option with this value
abbrev pub raised_value : Text
raised_value = codes "true"

abbrev pub value_in : Text → Part → List Text
value_in option (placed word) = []
value_in option (given name value) = if bytes_eq name option then value ∷ [] else []
value_in option (raised name) = if bytes_eq name option then raised_value ∷ [] else []

-- the words in their places, in order
abbrev pub places : List Part → List Text
places ps = flat_map place_in ps

-- the values that an option is given, in order; one for each time that a flag stands
abbrev pub values : List Part → Text → List Text
values ps option = flat_map (value_in option) ps

-- a command: its options with values, its flags, and what it means by the words in its places and the values of these
pub record Form : Type 0 where
  pub options : List Text
  pub flags : List Text
  pub meaning : List Text → (Text → List Text) → Option Command

-- the names that may stand behind `--`
abbrev pub names : Form → List Text
names form = form.options ++ form.flags

abbrev pub is_known : Form → Part → Bool
is_known form (placed word) = true
is_known form (given name value) = is_one_of form.options name
is_known form (raised name) = is_one_of form.flags name

abbrev pub said : Form → Option (List Part) → Option Command
said form None = None
said form (Some ps) = if list_all (is_known form) ps then form.meaning (places ps) (values ps) else None

-- ---- values

-- the number that decimal digits stand for
abbrev pub decimal_value : Text → ℕ
decimal_value = fold (λ n digit. 10 * n + (digit - 48)) 0

-- 1 to 19 digits
abbrev pub is_number : Text → Bool
is_number text = nat_le 1 (length text) && nat_le (length text) 19 && list_all is_ascii_digit text

-- a number within its limit
unfoldable pub number_in : ℕ → Text → Option ℕ
number_in limit text = if is_number text && nat_le (decimal_value text) limit then Some (decimal_value text) else None

-- the name of a file
unfoldable pub file_in : Text → Option Text
file_in text = if is_file_name text then Some text else None

-- an option that stands at most once: what its value is, or what holds without it
abbrev pub at_most_once : {X : Type 0} → X → (Text → Option X) → List Text → Option X
at_most_once default value_of [] = Some default
at_most_once default value_of (text ∷ []) = value_of text
at_most_once default value_of (text ∷ again ∷ others) = None

-- whether a flag stands, where it stands at most once
abbrev pub is_raised : List Text → Option Bool
is_raised = at_most_once false (λ text. Some (bytes_eq text raised_value))

-- ---- the commands

abbrev pub most_cycles : ℕ
most_cycles = 1_000_000_000_000

abbrev pub most_entries : ℕ
most_entries = 33_554_432

abbrev pub most_number : ℕ
most_number = 999_999

abbrev pub raw_of : Option Text → Option ℕ → Option Command
raw_of (Some file) (Some cycles) = Some (Raw file cycles)
raw_of _ _ = None

-- `raw FILE CYCLES`
abbrev pub raw_with : List Text → Option Command
raw_with (file ∷ cycles ∷ []) = raw_of (file_in file) (number_in most_cycles cycles)
raw_with _ = None

abbrev pub run_of : Option Text → Option ℕ → Option ℕ → Option (Option Text) → Option Command
run_of (Some board) (Some cycles) (Some journal) (Some write_journal) = Some (Run board cycles journal write_journal)
run_of _ _ _ _ = None

-- `run BOARD [--cycles N] [--journal N] [--write-journal FILE]`
abbrev pub run_with : List Text → List Text → List Text → List Text → Option Command
run_with (board ∷ []) cycles journal write_journal =
    run_of (file_in board) (at_most_once 10_000_000 (number_in most_cycles) cycles) (at_most_once 1_048_576 (number_in most_entries) journal)
    (at_most_once None (λ text. option_map Some (file_in text)) write_journal)
run_with _ cycles journal write_journal = None

abbrev pub asm_of : Option Text → Option Text → Option Bool → Option Command
asm_of (Some source) (Some output) (Some is_little) = Some (Asm source output is_little)
asm_of _ _ _ = None

-- `asm SOURCE OUTPUT [--little]`
abbrev pub asm_with : List Text → List Text → Option Command
asm_with (source ∷ output ∷ []) little = asm_of (file_in source) (file_in output) (is_raised little)
asm_with _ little = None

-- `dis IMAGE`
abbrev pub dis_with : List Text → Option Command
dis_with (image ∷ []) = option_map (λ image. Dis image) (file_in image)
dis_with _ = None

-- `demo N`
abbrev pub demo_with : List Text → Option Command
demo_with (number ∷ []) = option_map Demo (number_in most_number number)
demo_with _ = None

-- the command that a board, a limit of cycles and room for journal entries make
abbrev pub made : BoardCommand → Text → ℕ → ℕ → Command
made on_board.Profile = Profile
made on_board.Debug = Debug

abbrev pub board_of : BoardCommand → Option Text → Option ℕ → Option ℕ → Option Command
board_of kind (Some board) (Some cycles) (Some journal) = Some (made kind board cycles journal)
board_of kind _ _ _ = None

-- `profile BOARD [--cycles N] [--journal N]`, and `debug` so
abbrev pub board_with : BoardCommand → List Text → List Text → List Text → Option Command
board_with kind (board ∷ []) cycles journal =
    board_of kind (file_in board) (at_most_once 10_000_000 (number_in most_cycles) cycles)
    (at_most_once 1_048_576 (number_in most_entries) journal)
board_with kind _ cycles journal = None

unfoldable pub raw_form : Form
raw_form = record { options = []; flags = []; meaning = λ words values. raw_with words }

unfoldable pub run_form : Form
run_form = record {
  options = codes "cycles" ∷ codes "journal" ∷ codes "write-journal" ∷ [];
  flags = [];
  meaning = λ words values. run_with words (values (codes "cycles")) (values (codes "journal")) (values (codes "write-journal"));
}

unfoldable pub asm_form : Form
asm_form = record { options = []; flags = codes "little" ∷ []; meaning = λ words values. asm_with words (values (codes "little")) }

unfoldable pub dis_form : Form
dis_form = record { options = []; flags = []; meaning = λ words values. dis_with words }

unfoldable pub demo_form : Form
demo_form = record { options = []; flags = []; meaning = λ words values. demo_with words }

unfoldable pub board_form : BoardCommand → Form
board_form kind = record {
  options = codes "cycles" ∷ codes "journal" ∷ [];
  flags = [];
  meaning = λ words values. board_with kind words (values (codes "cycles")) (values (codes "journal"));
}

-- what these words after the command mean to it
abbrev pub meant : Form → List Text → Option Command
meant form words = said form (parts form.flags None words)

-- what the words mean; None where they are no command
unfoldable pub command_of : List Text → Option Command
command_of [] = None
command_of (word ∷ words) =
    if bytes_eq word (codes "raw") then meant raw_form words
    else if bytes_eq word (codes "run") then meant run_form words
    else if bytes_eq word (codes "asm") then meant asm_form words
    else if bytes_eq word (codes "dis") then meant dis_form words
    else if bytes_eq word (codes "demo") then meant demo_form words
    else if bytes_eq word (codes "profile") then meant (board_form on_board.Profile) words
    else if bytes_eq word (codes "debug") then meant (board_form on_board.Debug) words
    else None

-- the answer to words of this meaning
abbrev pub Answers : Option Command → Result Command WordsFault → Type 0
Answers meaning (Ok command) = meaning ≡ Some command
Answers meaning (Err Usage) = meaning ≡ None
Answers meaning (Err NoMemory) = Unit {0}
