-- What is printed.
use Rattle.std.specs.Prelude.{ℕ, if◌then◌else◌, List, [], ◌++◌, codes, decimal}
use Rattle.axi_link.specs.declared.item.Item.{Item}
use Rattle.host_io.specs.Digits.{hex_of}
use Rattle.mb_sim.specs.declared.status.Status.{Status}
use Rattle.mb_sim.specs.declared.status.Status.TheVariants.{Ended, Waiting, Stopped, CyclesSpent, JournalFull, Usage, ReadFault, WriteFault, NoMemory, TooLong, BadBoard, BadImage, BadInput, BadScript, BadSource}

-- the control bit as a digit
abbrev pub control_of : Item → List ℕ
control_of item = if item.control then codes "1" else codes "0"

-- the line of an item: its control bit, a space, its word
abbrev pub item_line : Item → List ℕ
item_line item = control_of item ++ codes " " ++ hex_of item.word ++ codes "\n"

-- a line of the program that says this
abbrev pub line_with : List ℕ → List ℕ → List ℕ → List ℕ
line_with before shown after = codes "mbsim: " ++ before ++ shown ++ after ++ codes "\n"

-- what a status writes to the error stream: one line, or nothing where the command ran
abbrev pub told : Status → List ℕ
told Ended = []
told Waiting = []
told Stopped = []
told CyclesSpent = []
told JournalFull = []
told Usage = line_with (codes "usage") [] []
told (ReadFault file) = line_with (codes "cannot read ") file []
told (WriteFault file) = line_with (codes "cannot write ") file []
told (BadBoard code place) = codes "mbsim: board " ++ decimal code ++ codes " at " ++ place ++ codes "\n"
told (BadImage core code at) = codes "mbsim: image of " ++ core ++ codes " " ++ decimal code ++ codes " at " ++ decimal at ++ codes "\n"
told NoMemory = line_with (codes "no memory") [] []
told (BadSource code line column) = codes "mbsim: source " ++ decimal code ++ codes " at " ++ decimal line ++ codes ":" ++ decimal column ++ codes "\n"
told (BadScript code line) = codes "mbsim: script " ++ decimal code ++ codes " at line " ++ decimal line ++ codes "\n"
told (BadInput file offset) = codes "mbsim: input " ++ file ++ codes " at " ++ decimal offset ++ codes "\n"
told (TooLong file) = line_with [] file (codes " is too long")
