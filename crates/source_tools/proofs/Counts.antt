-- What an answer leaves of the counts of faults.
use Rattle.std.proofs.Common.{◌≡◌, ℕ, List, Result, Ok, Err, inl, inr, ap}
use Rattle.std.specs.Prelude.{⊤}
use Rattle.core_regs.specs.declared.causes.Order.{Order}
use Rattle.host_io.specs.declared.faults.ShelfFaults.{ShelfFaults}
use Rattle.host_io.specs.Outside.{ShelfState, SinkState}
use Rattle.source_tools.specs.Answers.{SaysAsm, SaysDis}
use Rattle.source_tools.specs.Complete.{AsmCounts, CountsLoads, CountsWrites, DisCounts}
use Rattle.source_tools.specs.declared.refusal.Refusal.{Refusal}
use Rattle.source_tools.specs.declared.refusal.Refusal.TheVariants.{BadImage, BadSource, CannotRead, CannotWrite, NoMemory, TooLong}

-- a shelf that is as before
loads_of : (old new : ShelfState) → new ≡ old → new.faults.load_faults ≡ old.faults.load_faults
loads_of old new e = ap (λ (s : ShelfState). s.faults.load_faults) e

stores_of : (old new : ShelfState) → new ≡ old → new.faults.write_faults ≡ old.faults.write_faults
stores_of old new e = ap (λ (s : ShelfState). s.faults.write_faults) e

files_of : (old new : ShelfState) → new ≡ old → new.files ≡ old.files
files_of old new e = ap (λ (s : ShelfState). s.files) e

asm_loads : (order : Order) (source output : List ℕ) (old new : ShelfState) (result : Result ⊤ Refusal) → SaysAsm old new source output order result → CountsLoads old new result
asm_loads order source output old new (Ok d) (file, is, (wrote, quiet)) = ap (λ (f : ShelfFaults). f.load_faults) quiet
asm_loads order source output old new (Err NoMemory) (inl same) = loads_of old new same
asm_loads order source output old new (Err NoMemory) (inr (file, is, (wrote, quiet))) = ap (λ (f : ShelfFaults). f.load_faults) quiet
asm_loads order source output old new (Err (CannotRead name)) says = tt
asm_loads order source output old new (Err (TooLong name)) (is, long, same) = loads_of old new same
asm_loads order source output old new (Err (BadSource code line column)) (bytes, held, refused, same) = loads_of old new same
asm_loads order source output old new (Err (BadImage code at)) says = absurd says
asm_loads order source output old new (Err (CannotWrite name)) (is, (file, is_file, (wrote, counted))) = counted.loads

asm_stores : (order : Order) (source output : List ℕ) (old new : ShelfState) (result : Result ⊤ Refusal) → SaysAsm old new source output order result
    → CountsWrites old.faults.write_faults new.faults.write_faults result
asm_stores order source output old new (Ok d) (file, is, (wrote, quiet)) = ap (λ (f : ShelfFaults). f.write_faults) quiet
asm_stores order source output old new (Err NoMemory) (inl same) = stores_of old new same
asm_stores order source output old new (Err NoMemory) (inr (file, is, (wrote, quiet))) = ap (λ (f : ShelfFaults). f.write_faults) quiet
asm_stores order source output old new (Err (CannotRead name)) (is, counted, kept) = counted.writes
asm_stores order source output old new (Err (TooLong name)) (is, long, same) = stores_of old new same
asm_stores order source output old new (Err (BadSource code line column)) (bytes, held, refused, same) = stores_of old new same
asm_stores order source output old new (Err (BadImage code at)) says = absurd says
asm_stores order source output old new (Err (CannotWrite name)) says = tt

pub asm_counts : AsmCounts
asm_counts = record { loads = asm_loads; stores = asm_stores }

dis_loads : (file : List ℕ) (old new : ShelfState) (out out' : SinkState) (result : Result ⊤ Refusal) → SaysDis old new out out' file result → CountsLoads old new result
dis_loads file old new out out' (Ok d) (image, is, adds, same) = loads_of old new same
dis_loads file old new out out' (Err NoMemory) (inl (same, quiet)) = loads_of old new same
dis_loads file old new out out' (Err NoMemory) (inr (image, is, adds, same)) = loads_of old new same
dis_loads file old new out out' (Err (CannotRead name)) says = tt
dis_loads file old new out out' (Err (TooLong name)) ((is, long, same), quiet) = loads_of old new same
dis_loads file old new out out' (Err (BadSource code line column)) (says, quiet) = absurd says
dis_loads file old new out out' (Err (BadImage code at)) ((bytes, held, refused, same), quiet) = loads_of old new same
dis_loads file old new out out' (Err (CannotWrite name)) (is, (image, is_image, adds, same)) = loads_of old new same

dis_writes : (file : List ℕ) (old new : ShelfState) (out out' : SinkState) (result : Result ⊤ Refusal) → SaysDis old new out out' file result → CountsWrites out.faults out'.faults result
dis_writes file old new out out' (Ok d) (image, is, (text, quiet), same) = quiet
dis_writes file old new out out' (Err NoMemory) (inl (same, quiet)) = ap (λ (s : SinkState). s.faults) quiet
dis_writes file old new out out' (Err NoMemory) (inr (image, is, (text, quiet), same)) = quiet
dis_writes file old new out out' (Err (CannotRead name)) (says, quiet) = ap (λ (s : SinkState). s.faults) quiet
dis_writes file old new out out' (Err (TooLong name)) (says, quiet) = ap (λ (s : SinkState). s.faults) quiet
dis_writes file old new out out' (Err (BadSource code line column)) (says, quiet) = absurd says
dis_writes file old new out out' (Err (BadImage code at)) (says, quiet) = ap (λ (s : SinkState). s.faults) quiet
dis_writes file old new out out' (Err (CannotWrite name)) says = tt

dis_stores : (file : List ℕ) (old new : ShelfState) (out out' : SinkState) (result : Result ⊤ Refusal) → SaysDis old new out out' file result
    → new.faults.write_faults ≡ old.faults.write_faults
dis_stores file old new out out' (Ok d) (image, is, adds, same) = stores_of old new same
dis_stores file old new out out' (Err NoMemory) (inl (same, quiet)) = stores_of old new same
dis_stores file old new out out' (Err NoMemory) (inr (image, is, adds, same)) = stores_of old new same
dis_stores file old new out out' (Err (CannotRead name)) ((is, counted, kept), quiet) = counted.writes
dis_stores file old new out out' (Err (TooLong name)) ((is, long, same), quiet) = stores_of old new same
dis_stores file old new out out' (Err (BadSource code line column)) (says, quiet) = absurd says
dis_stores file old new out out' (Err (BadImage code at)) ((bytes, held, refused, same), quiet) = stores_of old new same
dis_stores file old new out out' (Err (CannotWrite name)) (is, (image, is_image, adds, same)) = stores_of old new same

dis_files : (file : List ℕ) (old new : ShelfState) (out out' : SinkState) (result : Result ⊤ Refusal) → SaysDis old new out out' file result → new.files ≡ old.files
dis_files file old new out out' (Ok d) (image, is, adds, same) = files_of old new same
dis_files file old new out out' (Err NoMemory) (inl (same, quiet)) = files_of old new same
dis_files file old new out out' (Err NoMemory) (inr (image, is, adds, same)) = files_of old new same
dis_files file old new out out' (Err (CannotRead name)) ((is, counted, kept), quiet) = kept
dis_files file old new out out' (Err (TooLong name)) ((is, long, same), quiet) = files_of old new same
dis_files file old new out out' (Err (BadSource code line column)) (says, quiet) = absurd says
dis_files file old new out out' (Err (BadImage code at)) ((bytes, held, refused, same), quiet) = files_of old new same
dis_files file old new out out' (Err (CannotWrite name)) (is, (image, is_image, adds, same)) = files_of old new same

pub dis_counts : DisCounts
dis_counts = record { loads = dis_loads; writes = dis_writes; stores = dis_stores; files = dis_files }
