-- A line of a script: the command that its words mean, or the least rule that it breaks.
use Rattle.std.specs.Prelude.{ℕ, ◌+◌, nat_lt, List, [], ◌∷◌, filter, not, slice_get, if◌then◌else◌, Option, Some, None, option_map, ok_or, Result, Ok, Err, bytes_eq, codes}
use Rattle.std.specs.List.{find, position}
use Rattle.elf_image.specs.declared.symbol.Symbol.{Symbol}
use Rattle.debug_script.specs.Numbers.{begins_with_digit, number_in}
use Rattle.debug_script.specs.declared.command.Command.{Command}
use Rattle.debug_script.specs.declared.command.Command.TheVariants.{Break, Step, Run, Regs, Mem, Links, Where, Probe, Detach, Probes}
use Rattle.debug_script.specs.declared.command.Verb.{Verb}
use Rattle.debug_script.specs.declared.command.Verb.TheVariants as verb
use Rattle.debug_script.specs.declared.fault.ScriptRule.{ScriptRule}
use Rattle.debug_script.specs.declared.fault.ScriptRule.TheVariants as broken
use Rattle.debug_script.specs.declared.names.ScriptNames.{ScriptNames}
use Rattle.debug_script.specs.declared.progress.Progress.{Progress}

-- the command that a word is
unfoldable pub verb_of : List ℕ → Option Verb
verb_of word =
    if bytes_eq word (codes "break") then Some verb.Break
    else if bytes_eq word (codes "step") then Some verb.Step
    else if bytes_eq word (codes "run") then Some verb.Run
    else if bytes_eq word (codes "regs") then Some verb.Regs
    else if bytes_eq word (codes "mem") then Some verb.Mem
    else if bytes_eq word (codes "links") then Some verb.Links
    else if bytes_eq word (codes "where") then Some verb.Where
    else if bytes_eq word (codes "probe") then Some verb.Probe
    else if bytes_eq word (codes "drop") then Some verb.Detach
    else if bytes_eq word (codes "list") then Some verb.Probes
    else None

-- so many words and no more

abbrev pub Word : Type 0
Word = List ℕ

pub record Two : Type 0 where
  pub first : Word
  pub second : Word

pub record Three : Type 0 where
  pub first : Word
  pub second : Word
  pub third : Word

abbrev pub is_none : List Word → Option (Option Word)
is_none [] = Some None
is_none (a ∷ ws) = None

abbrev pub one : List Word → Option Word
one (a ∷ []) = Some a
one [] = None
one (a ∷ b ∷ ws) = None

abbrev pub two : List Word → Option Two
two [] = None
two (a ∷ ws) = option_map (λ b. record { first = a; second = b }) (one ws)

abbrev pub three : List Word → Option Three
three [] = None
three (a ∷ ws) = option_map (λ (t : Two). record { first = a; second = t.first; third = t.second }) (two ws)

-- the place of a core, by its name
abbrev pub core_named : ScriptNames → Word → Option ℕ
core_named names word = position (λ name. bytes_eq name word) names.cores

-- the value of the first symbol of this name
abbrev pub value_named : Word → List Symbol → Option ℕ
value_named word symbols = option_map (λ (s : Symbol). s.value) (find (λ (s : Symbol). bytes_eq s.name word) symbols)

-- the same in the image of a core
abbrev pub value_in : Word → Option (List Symbol) → Option ℕ
value_in word (Some symbols) = value_named word symbols
value_in word None = None

-- a symbol has a name: a word without bytes is none
abbrev pub symbol_in : Option (List Symbol) → Word → Option ℕ
symbol_in symbols [] = None
symbol_in symbols (b ∷ bs) = value_in (b ∷ bs) symbols

-- a number below 2^32 where the word begins with a digit, else a symbol of the core's image
unfoldable pub address : ScriptNames → ℕ → Word → Option ℕ
address names core word =
    if begins_with_digit word then number_in 0 0xFFFF_FFFF word else symbol_in (slice_get names.symbols core) word

-- ---- commands, by their operands

abbrev pub cycles_in : Word → Option ℕ
cycles_in = number_in 0 1_000_000_000_000

abbrev pub break_to : ℕ → ℕ → Option ℕ → Result Command ScriptRule
break_to breaks core None = Err broken.BadNumber
break_to breaks core (Some addr) = if nat_lt breaks 64 then Ok (Break core addr) else Err broken.TooManyBreakpoints

abbrev pub break_at : ScriptNames → ℕ → Word → Option ℕ → Result Command ScriptRule
break_at names breaks addr None = Err broken.NoSuchCore
break_at names breaks addr (Some core) = break_to breaks core (address names core addr)

abbrev pub break_with : ScriptNames → ℕ → Option Two → Result Command ScriptRule
break_with names breaks None = Err broken.WrongWordCount
break_with names breaks (Some t) = break_at names breaks t.second (core_named names t.first)

abbrev pub step_with : Option Word → Result Command ScriptRule
step_with None = Err broken.WrongWordCount
step_with (Some n) = ok_or (option_map Step (cycles_in n)) broken.BadNumber

abbrev pub run_with : Option Word → Result Command ScriptRule
run_with None = Err broken.WrongWordCount
run_with (Some n) = ok_or (option_map Run (cycles_in n)) broken.BadNumber

abbrev pub regs_with : ScriptNames → Option Word → Result Command ScriptRule
regs_with names None = Err broken.WrongWordCount
regs_with names (Some core) = ok_or (option_map Regs (core_named names core)) broken.NoSuchCore

abbrev pub mem_for : ℕ → Option ℕ → Option ℕ → Result Command ScriptRule
mem_for core (Some addr) (Some count) = Ok (Mem core addr count)
mem_for core (Some addr) None = Err broken.BadNumber
mem_for core None count = Err broken.BadNumber

abbrev pub mem_at : ScriptNames → Three → Option ℕ → Result Command ScriptRule
mem_at names t None = Err broken.NoSuchCore
mem_at names t (Some core) = mem_for core (address names core t.second) (number_in 1 4096 t.third)

abbrev pub mem_with : ScriptNames → Option Three → Result Command ScriptRule
mem_with names None = Err broken.WrongWordCount
mem_with names (Some t) = mem_at names t (core_named names t.first)

-- the name of a probe that is still attached
abbrev pub still_attached : List Word → Word → Option Word
still_attached attached word = find (λ name. bytes_eq name word) attached

abbrev pub probe_with : List Word → Option Word → Result Command ScriptRule
probe_with attached None = Err broken.WrongWordCount
probe_with attached (Some word) = ok_or (option_map Probe (still_attached attached word)) broken.NoSuchProbe

abbrev pub detach_with : List Word → Option Word → Result Command ScriptRule
detach_with attached None = Err broken.WrongWordCount
detach_with attached (Some word) = ok_or (option_map Detach (still_attached attached word)) broken.NoSuchProbe

abbrev pub alone : Command → List Word → Result Command ScriptRule
alone command [] = Ok command
alone command (w ∷ ws) = Err broken.WrongWordCount

-- what the words behind the first mean
unfoldable pub by_verb : ScriptNames → Progress → List Word → Option Verb → Result Command ScriptRule
by_verb names p words None = Err broken.UnknownCommand
by_verb names p words (Some verb.Break) = break_with names p.breaks (two words)
by_verb names p words (Some verb.Step) = step_with (one words)
by_verb names p words (Some verb.Run) = run_with (one words)
by_verb names p words (Some verb.Regs) = regs_with names (one words)
by_verb names p words (Some verb.Mem) = mem_with names (three words)
by_verb names p words (Some verb.Links) = alone Links words
by_verb names p words (Some verb.Where) = alone Where words
by_verb names p words (Some verb.Probe) = probe_with p.attached (one words)
by_verb names p words (Some verb.Detach) = detach_with p.attached (one words)
by_verb names p words (Some verb.Probes) = alone Probes words

-- ---- what later lines see of a command

abbrev pub without : Word → List Word → List Word
without name = filter (λ other. not (bytes_eq other name))

abbrev pub after : Command → Progress → Progress
after (Break core addr) p = record p { breaks = p.breaks + 1 }
after (Detach name) p = record p { attached = without name p.attached }
after _ p = p
