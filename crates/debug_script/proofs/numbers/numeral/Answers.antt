use Rattle.std.proofs.Common.{sym}
use Rattle.debug_script.proofs.Numerals.{digits_are_text, none_but_digits, parses_err, parses_ok}
use Rattle.debug_script.proofs.numbers.numeral.Goals as goal

pub returns-then-not-all_digits : goal.returns-then-not-all_digits
returns-then-not-all_digits c = none_but_digits _ c.args.radix c.args.digits.now (sym c.if-not-all_digits.ensures)

pub returns-in-Err : goal.returns-in-Err
returns-in-Err c = absurd (c.in-Err.ensures.cases.0 (digits_are_text c.args.radix c.args.digits.now c.requires.high (sym c.if-not-all_digits.ensures)))

pub returns-in-Ok-from_str_radix : goal.returns-in-Ok-from_str_radix
returns-in-Ok-from_str_radix c =
    parses_ok c.args.radix c.args.digits.now c.in-Ok.text.now _ c.requires.high (sym c.if-not-all_digits.ensures) c.in-Ok.ensures.cases.0 c.in-Ok-from_str_radix.ensures.value

pub returns-in-Err-from_str_radix : goal.returns-in-Err-from_str_radix
returns-in-Err-from_str_radix c =
    parses_err c.args.radix c.args.digits.now c.in-Ok.text.now c.requires.high (sym c.if-not-all_digits.ensures) c.in-Ok.ensures.cases.0 c.in-Err-from_str_radix.ensures.value
