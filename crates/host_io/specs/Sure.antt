-- What a shelf, a source and a sink in memory mean that do not fail.
use Rattle.std.specs.Prelude.{Some}
use Rattle.std.specs.Io.Cursor.{cursor_remaining}
use Rattle.host_io.specs.declared.sure.SureShelf.{SureShelf}
use Rattle.host_io.specs.declared.sure.SureSource.{SureSource}
use Rattle.host_io.specs.declared.sure.SureSink.{SureSink}
use Rattle.host_io.specs.MemFiles.{lookup}
use Rattle.host_io.specs.Outside.{Files, ShelfState, SinkState, SourceState}

abbrev pub sure_files : SureShelf → Files
sure_files s = lookup s.files.items

abbrev pub sure_shelf : SureShelf → ShelfState
sure_shelf s = record { files = Some (sure_files s); faults = s.faults }

abbrev pub sure_source : SureSource → SourceState
sure_source s = record { left = cursor_remaining (λ v. Some v.items) s.bytes; faults = 0 }

abbrev pub sure_sink : SureSink → SinkState
sure_sink s = record { written = Some s.written.items; faults = 0 }
