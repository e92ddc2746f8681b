-- The symbols of a board's cores, which a debugger names, and why they aren't loaded.
use Rattle.std.specs.Prelude.{◌≡◌, ℕ, List, ◌∷◌, ◌++◌, Option}
use Rattle.std.specs.List.{AllZip}
use Rattle.board_file.specs.declared.board.CoreRow.{CoreRow}
use Rattle.elf_image.specs.Symbols.{symbols_of}
use Rattle.elf_image.specs.declared.symbol.Symbol.{Symbol}
use Rattle.host_io.specs.Outside.{Files, ShelfState}
use Rattle.board_load.specs.Files.{Holds, NotLoaded, image_limit}
use Rattle.board_load.specs.declared.refusal.Refusal.{Refusal}

-- the core's image file has these symbols
abbrev pub HasSymbols : Option Files → CoreRow → List Symbol → Type 0
HasSymbols files row symbols = (bytes : List ℕ) × Holds files row.image image_limit bytes × (symbols ≡ symbols_of bytes)

-- each core's image file has these symbols, in board order
abbrev pub AreSymbolsOf : Option Files → List CoreRow → List (List Symbol) → Type 0
AreSymbolsOf files rows lists = AllZip (HasSymbols files) rows lists

-- the image of a core of these rows isn't loaded: those before it are
pub record NoSymbols (old new : ShelfState) (rows : List CoreRow) (refusal : Refusal) : Type 0 where
  pub before : List CoreRow
  pub row : CoreRow
  pub after : List CoreRow
  pub lists : List (List Symbol)
  pub place : rows ≡ before ++ row ∷ after
  pub loaded : AreSymbolsOf old.files before lists
  pub fails : NotLoaded old new row.image image_limit refusal
