use Rattle.std.proofs.Common.{◌≡◌, take}
use Rattle.board_load.specs.Jobs.{AreLoaded, IsSerialOf, serial_files}
use Rattle.board_load.proofs.inputs.load_serials.Given as goal

abbrev pub invariant-loop-uart : goal.invariant-loop-uart
invariant-loop-uart g l =
    record {
      inputs : AreLoaded (IsSerialOf (g.S.Shelf.state l.fn.shelf).files) (serial_files (take l.uart-index l.uarts)) l.inputs.items;
      quiet : g.S.Shelf.state l.shelf ≡ g.S.Shelf.state l.fn.shelf;
    }
