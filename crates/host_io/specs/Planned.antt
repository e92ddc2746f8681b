-- What a shelf, a source and a sink in memory mean that fail by a plan.
use Rattle.std.specs.Prelude.{◌≡◌, ◌⊎◌, ℕ, ◌+◌, ◌-◌, ◌^◌, ⊤, min, ◌==◌, List, take, Option, None, Result, Ok, Err, find}
use Rattle.std.specs.Option.{option_map}
use Rattle.std.specs.Io.KnownBytes.{append_known}
use Rattle.host_io.specs.declared.faults.StoreFault.{StoreFault}
use Rattle.host_io.specs.declared.faults.StoreFault.TheVariants.{Failed, NoMemory}
use Rattle.host_io.specs.declared.plan.Failing.{Failing}
use Rattle.host_io.specs.declared.plan.Plan.{Plan}
use Rattle.host_io.specs.declared.planned.MemShelf.{MemShelf}
use Rattle.host_io.specs.declared.planned.MemSource.{MemSource}
use Rattle.host_io.specs.declared.planned.MemSink.{MemSink}
use Rattle.host_io.specs.Outside.{Files, Grows, SameFiles, ShelfState, SinkState, SourceState}
use Rattle.host_io.specs.Sure.{sure_files, sure_shelf, sure_source, sure_sink}

-- how many bytes the next call moves before it fails, where it is to fail
abbrev pub planned : Plan → Option ℕ
planned plan = option_map (λ (f : Failing). f.moved) (find (λ (f : Failing). f.call == plan.calls) plan.failing.items)

-- one more call was made; the count stays at the end of 64 bits
abbrev pub after_call : Plan → Plan
after_call plan = record plan { calls = min (plan.calls + 1) (2 ^ 64 - 1) }

abbrev pub mem_files : MemShelf → Files
mem_files s = sure_files s.shelf

abbrev pub mem_shelf : MemShelf → ShelfState
mem_shelf s = sure_shelf s.shelf

abbrev pub mem_source : MemSource → SourceState
mem_source s = record { left = (sure_source s.source).left; faults = s.faults }

abbrev pub mem_sink : MemSink → SinkState
mem_sink s = record { written = (sure_sink s.sink).written; faults = s.faults }

abbrev pub shelf_plan : MemShelf → Plan
shelf_plan s = s.plan

abbrev pub source_plan : MemSource → Plan
source_plan s = s.plan

abbrev pub sink_plan : MemSink → Plan
sink_plan s = s.plan

-- the file, where it is there, has these bytes at its end now, and nothing else changed
abbrev pub GrowsWhereThere : List ℕ → List ℕ → Files → Files → Type 0
GrowsWhereThere name bytes old new = ((old name ≡ None) × SameFiles old new) ⊎ Grows name bytes old new

-- how an `append` fails that is to fail: the file grew by exactly the first `moved` of the bytes; or there was no memory
-- for them, and nothing changed
abbrev pub AppendsThenFails : ℕ → List ℕ → List ℕ → Files → Files → Result ⊤ StoreFault → Type 0
AppendsThenFails moved name bytes old new (Ok done) = ⊥
AppendsThenFails moved name bytes old new (Err Failed) = GrowsWhereThere name (take moved bytes) old new
AppendsThenFails moved name bytes old new (Err NoMemory) = SameFiles old new

-- how a `write_all` fails that is to fail: exactly the first `moved` of the bytes were added; or there was no memory for
-- them, and nothing was
abbrev pub AddsThenFails : ℕ → List ℕ → Option (List ℕ) → Option (List ℕ) → Result ⊤ StoreFault → Type 0
AddsThenFails moved bytes old new (Ok done) = ⊥
AddsThenFails moved bytes old new (Err Failed) = new ≡ append_known old (take moved bytes)
AddsThenFails moved bytes old new (Err NoMemory) = new ≡ old
