use Rattle.std.proofs.Common.{◌≡◌, take}
use Rattle.board_load.specs.Symbols.{AreSymbolsOf}
use Rattle.board_load.proofs.symbols.load_symbols.Given as goal

abbrev pub invariant-loop-row : goal.invariant-loop-row
invariant-loop-row g l =
    record {
      lists : AreSymbolsOf (g.S.Shelf.state l.fn.shelf).files (take l.row-index l.rows) l.lists.items;
      quiet : g.S.Shelf.state l.shelf ≡ g.S.Shelf.state l.fn.shelf;
    }
