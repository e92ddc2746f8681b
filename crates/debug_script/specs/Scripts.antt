-- A script: its commands in order, or its first line that is refused with the least rule that it breaks.
use Rattle.std.specs.Prelude.{◌≡◌, ℕ, ◌+◌, List, [], ◌∷◌, Option, Some, None, Result, Ok, Err}
use Rattle.debug_script.specs.Commands.{Word, after, by_verb, verb_of}
use Rattle.debug_script.specs.Parts.{parts}
use Rattle.debug_script.specs.declared.command.Command.{Command}
use Rattle.debug_script.specs.declared.fault.ScriptFault.{ScriptFault}
use Rattle.debug_script.specs.declared.fault.ScriptFault.TheVariants.{Refused, NoMemory}
use Rattle.debug_script.specs.declared.fault.ScriptRule.{ScriptRule}
use Rattle.debug_script.specs.declared.fault.ScriptRule.TheVariants as broken
use Rattle.debug_script.specs.declared.names.ScriptNames.{ScriptNames}
use Rattle.debug_script.specs.declared.progress.Progress.{Progress}

-- what an `Ok` has, mapped
abbrev pub result_map : {T U E : Type 0} → (T → U) → Result T E → Result U E
result_map f (Ok x) = Ok (f x)
result_map f (Err e) = Err e

-- the number of each fault
abbrev pub code_of : ScriptRule → ℕ
code_of broken.UnknownCommand = 1201
code_of broken.WrongWordCount = 1202
code_of broken.NoSuchCore = 1203
code_of broken.BadNumber = 1204
code_of broken.NoSuchProbe = 1205
code_of broken.TooManyBreakpoints = 1206

abbrev pub refusal : ScriptRule → ℕ → ScriptFault
refusal rule line = Refused (code_of rule) line

-- a line by its words
abbrev pub by_words : ScriptNames → Progress → List Word → Result Command ScriptRule
by_words names p [] = Err broken.UnknownCommand
by_words names p (word ∷ words) = by_verb names p words (verb_of word)

-- a line, words separated by single spaces; an empty line is passed over
unfoldable pub line_read : ScriptNames → Progress → List ℕ → Result (Option Command) ScriptRule
line_read names p [] = Ok None
line_read names p (b ∷ line) = result_map Some (by_words names p (parts 32 (b ∷ line)))

abbrev pub noted : Option Command → Progress → Progress
noted None p = p
noted (Some command) p = after command p

abbrev pub with_first : Option Command → List Command → List Command
with_first None commands = commands
with_first (Some command) commands = command ∷ commands

-- a line of this number, and what follows its command
abbrev pub line_then : ℕ → Result (Option Command) ScriptRule → (Option Command → Result (List Command) ScriptFault) → Result (List Command) ScriptFault
line_then number (Ok command) rest = result_map (with_first command) (rest command)
line_then number (Err rule) rest = Err (refusal rule number)

-- lines, the first of which has this number
abbrev pub lines_read : ScriptNames → Progress → ℕ → List (List ℕ) → Result (List Command) ScriptFault
lines_read names p number [] = Ok []
lines_read names p number (line ∷ lines) = line_then number (line_read names p line) (λ command. lines_read names (noted command p) (number + 1) lines)

-- before the first line
abbrev pub begun : ScriptNames → Progress
begun names = record { breaks = 0; attached = names.probes }

-- a script, whose lines a line feed ends
abbrev pub script_of : ScriptNames → List ℕ → Result (List Command) ScriptFault
script_of names text = lines_read names (begun names) 1 (parts 10 text)

-- why there is no script: the first line that is refused, or want of memory, which is left open
abbrev pub IsRefusal : ScriptNames → List ℕ → ScriptFault → Type 0
IsRefusal names text (Refused code line) = script_of names text ≡ Err (Refused code line)
IsRefusal names text NoMemory = Unit {0}
