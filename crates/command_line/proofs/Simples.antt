-- The commands are such that clap tells exactly what their words come to.
use Rattle.std.proofs.Common.{◌≡◌, true, refl}
use Rattle.clap.specs.Words.{is_simple, is_simple_and_free}
use Rattle.clap.proofs.OnLiterals.{clap_on_literals}
use Rattle.command_line.specs.Splits.{asm_app, board_app, demo_app, dis_app, raw_app, run_app}

pub raw_is_simple : is_simple raw_app ≡ true
unfolding raw_app clap_on_literals
raw_is_simple = refl

pub raw_is_free : is_simple_and_free raw_app ≡ true
unfolding raw_app clap_on_literals
raw_is_free = refl

pub run_is_simple : is_simple run_app ≡ true
unfolding run_app clap_on_literals
run_is_simple = refl

pub run_is_free : is_simple_and_free run_app ≡ true
unfolding run_app clap_on_literals
run_is_free = refl

pub asm_is_simple : is_simple asm_app ≡ true
unfolding asm_app clap_on_literals
asm_is_simple = refl

pub asm_is_free : is_simple_and_free asm_app ≡ true
unfolding asm_app clap_on_literals
asm_is_free = refl

pub dis_is_simple : is_simple dis_app ≡ true
unfolding dis_app clap_on_literals
dis_is_simple = refl

pub dis_is_free : is_simple_and_free dis_app ≡ true
unfolding dis_app clap_on_literals
dis_is_free = refl

pub demo_is_simple : is_simple demo_app ≡ true
unfolding demo_app clap_on_literals
demo_is_simple = refl

pub demo_is_free : is_simple_and_free demo_app ≡ true
unfolding demo_app clap_on_literals
demo_is_free = refl

pub board_is_simple : is_simple board_app ≡ true
unfolding board_app clap_on_literals
board_is_simple = refl

pub board_is_free : is_simple_and_free board_app ≡ true
unfolding board_app clap_on_literals
board_is_free = refl
