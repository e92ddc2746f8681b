use Rattle.std.proofs.Common.{◌≡◌, ◌<◌, ◌^◌, take}
use Rattle.command_line.specs.Words.{decimal_value}
use Rattle.command_line.proofs.number.value_of.Given as goal

abbrev pub invariant-loop-digit : goal.invariant-loop-digit
invariant-loop-digit l =
    record {
      value : l.value ≡ decimal_value (take l.digit-index l.digits);
      bound : l.value < 10 ^ l.digit-index;
    }
