use Rattle.std.proofs.Common.{◌<◌, ◌≤◌, arith, get_or}
use Rattle.command_line.proofs.Digits.{digit_from, eighteen_digits}
use Rattle.command_line.proofs.number.value_of.Goals as goal

pub overflow_mul-value : goal.overflow_mul-value
overflow_mul-value c =
    let small : c.loop-digit.value < 1_000_000_000_000_000_000 = eighteen_digits c.loop-digit.value c.loop-digit.digit-index c.loop-digit.invariant.bound (omega arith) in
    omega arith

pub overflow_add-value : goal.overflow_add-value
overflow_add-value c =
    let small : c.loop-digit.value < 1_000_000_000_000_000_000 = eighteen_digits c.loop-digit.value c.loop-digit.digit-index c.loop-digit.invariant.bound (omega arith) in
    let digit : (48 ≤ get_or c.args.digits.now c.loop-digit.digit-index 0) × (get_or c.args.digits.now c.loop-digit.digit-index 0 ≤ 57) =
    digit_from c.args.digits.now c.loop-digit.digit-index c.loop-digit-test.true c.requires.digits in
    omega arith
