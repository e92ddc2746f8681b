-- The names of instructions: at most nine letters, and 0 in the places after the last.
use Rattle.std.specs.Prelude.{ℕ, ◌-◌, ◌++◌, ◌==◌, not, List, length, replicate}
use Rattle.std.specs.List.{take_while}
use Rattle.op_table.specs.declared.mnemonic.Mnemonic.{Mnemonic}

-- the name that has these letters
abbrev pub mnemonic : List ℕ → Mnemonic
mnemonic text = record { letters = text ++ replicate (9 - length text) 0 }

-- the letters of a name
abbrev pub text_of : Mnemonic → List ℕ
text_of name = take_while (λ letter. not (letter == 0)) name.letters
