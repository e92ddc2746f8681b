-- How clap reads the words after a command with options that take one value, flags and places: the rows of its matches.
use Rattle.std.specs.Prelude.{◌||◌, Bool, true, false, List, [], ◌∷◌, Option, Some, None, is_some, if◌then◌else◌, slice_get}
use Rattle.std.specs.List.{list_any}
use Rattle.std.specs.Option.{option_map_or}
use Rattle.std.specs.Str.{bytes_eq, chars}
use Rattle.clap.specs.Lexer.{long_of, short_of}
use Rattle.clap.specs.Values.{reading_of}
use Rattle.clap.specs.Walk.{Row, Text, has_row, with_values, without}
use Rattle.clap.specs.declared.builder.value_parser.Reading.{Reading}
use Rattle.clap.specs.declared.builder.value_parser.ValueParser.TheVariants as vp
use Rattle.clap.specs.declared.parser.matches.ValueSource.TheVariants.{CommandLine}
use Rattle.command_line.specs.Words.{raised_value}

abbrev pub dashes : Text
dashes = 45 ∷ 45 ∷ []

-- `-` and a character
abbrev pub is_flags : Text → Bool
is_flags w = option_map_or (λ flags. is_some (slice_get (chars flags) 0)) (short_of w) false

-- the word is no value
abbrev pub is_dashed : Text → Bool
is_dashed w = bytes_eq w dashes || (is_some (long_of w) || is_flags w)

abbrev pub plain_reading : Reading
plain_reading = reading_of vp.String

abbrev pub flag_reading : Reading
flag_reading = reading_of vp.Bool

-- the rows with one use more, which is read so
abbrev pub put : Reading → Text → Text → List Row → List Row
put how n v rows = with_values n how CommandLine (v ∷ []) (without n rows)

abbrev pub knows : List Text → Text → Bool
knows opts n = list_any (λ o. bytes_eq o n) opts

-- the rows that the words give, and the places that are left
abbrev pub Answer : Type 0
Answer = Option (List Row × List Text)

-- an option or a place is used once
abbrev pub fresh : Text → List Row → Answer → Answer
fresh n rows a = if has_row n rows then None else a

abbrev pub at_long : List Text → List Text → List Row → Option (Text × Option Text) → (Text → Text → Answer) → (Text → Answer) → (Text → Answer) → Answer → Answer
at_long opts flags rows None next flag wait other = other
at_long opts flags rows (Some (n, Some v)) next flag wait other = if knows opts n then fresh n rows (next n v) else None
at_long opts flags rows (Some (n, None)) next flag wait other = if knows flags n then fresh n rows (flag n) else if knows opts n then wait n else None

abbrev pub placing : List Row → List Text → (Text → List Text → Answer) → Answer
placing rows [] next = None
placing rows (p ∷ ps) next = fresh p rows (next p ps)

-- the words, after these rows, where these places are left; an option may wait for its value, and after
-- `--` each word takes a place
unfoldable pub read : List Text → List Text → List Row → List Text → Option Text → Bool → List Text → Answer
read opts flags rows ps (Some n) trailing [] = None
read opts flags rows ps None trailing [] = Some (rows, ps)
read opts flags rows ps (Some n) true (w ∷ ws) = None
read opts flags rows ps (Some n) false (w ∷ ws) = if is_dashed w then None else fresh n rows (read opts flags (put plain_reading n w rows) ps None false ws)
read opts flags rows ps None true (w ∷ ws) = placing rows ps (λ p rest. read opts flags (put plain_reading p w rows) rest None true ws)
read opts flags rows ps None false (w ∷ ws) =
    if bytes_eq w dashes then read opts flags rows ps None true ws
    else at_long opts flags rows (long_of w) (λ n v. read opts flags (put plain_reading n v rows) ps None false ws)
    (λ n. read opts flags (put flag_reading n raised_value rows) ps None false ws) (λ n. read opts flags rows ps (Some n) false ws)
    (if is_flags w then None else placing rows ps (λ p rest. read opts flags (put plain_reading p w rows) rest None false ws))
