-- What the real files and streams mean. A source has left what its reader has left, where that is known; files and a sink
-- tell no content.
use Rattle.std.specs.Prelude.{ℕ, List, Option, None}
use Rattle.host_io.specs.declared.real.DirShelf.{DirShelf}
use Rattle.host_io.specs.declared.real.StdSource.{StdSource}
use Rattle.host_io.specs.declared.real.StdSink.{StdSink}
use Rattle.host_io.specs.Outside.{ShelfState, SinkState, SourceState}

abbrev pub dir_shelf : {R A B : Type 0} → DirShelf R A B → ShelfState
dir_shelf s = record { files = None; faults = s.faults }

abbrev pub std_source : {R : Type 0} → (R → Option (List ℕ)) → StdSource R → SourceState
std_source remaining s = record { left = remaining s.reader; faults = s.faults }

abbrev pub std_sink : {W : Type 0} → StdSink W → SinkState
std_sink s = record { written = None; faults = s.faults }

-- what the writer of a sink holds, where that is known
abbrev pub held : {W : Type 0} → (W → Option (List ℕ)) → StdSink W → Option (List ℕ)
held contents s = contents s.writer
