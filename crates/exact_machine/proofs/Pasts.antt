-- An act leaves no number of the past far ahead, and the next act is due soon.
use Rattle.std.proofs.Common.{ℕ, ◌≤◌, ◌+◌, Bool, Option, arith}
use Rattle.mb_decode.specs.declared.instruction.Instr.{Instr}
use Rattle.isa_step.specs.declared.acts.Act.{Act}
use Rattle.timing_law.specs.declared.pipe.Pipe.{Pipe}
use Rattle.timing_law.specs.declared.pipe.Jump.{Jump}
use Rattle.timing_law.specs.declared.past.Past.{Past}
use Rattle.timing_law.specs.Near.{IsBefore as LiesBefore}
use Rattle.timing_law.specs.Past.{due_at, fresh}
use Rattle.timing_law.specs.Passing.{passed_by}
use Rattle.timing_law.proofs.Near as near
use Rattle.exact_machine.specs.Opening.{IsBefore}

lies : (x : Past) (tick : ℕ) → IsBefore x tick → LiesBefore x tick
lies x tick h = record { first = h.first; next = h.next; ready = h.ready; redirect = h.redirect }

is : (x : Past) (tick : ℕ) → LiesBefore x tick → IsBefore x tick
is x tick h = record { first = h.first; next = h.next; ready = h.ready; redirect = h.redirect }

pub later : (x : Past) (tick more : ℕ) → IsBefore x tick → tick ≤ more → IsBefore x more
later x tick more h le = is x more (near.later x tick more (lies x tick h) le)

pub fresh_near : (p : Pipe) → IsBefore (fresh p) 4
fresh_near p = is (fresh p) 4 (near.fresh_near p)

pub passed_near : (act : Act) (i : Option Instr) (jump : Jump) (x : Past) (at : ℕ) → IsBefore x (at + 5) → IsBefore (passed_by act i at jump x) (at + 5)
passed_near act i jump x at h = is (passed_by act i at jump x) (at + 5) (near.passed_near act i jump x at (at + 5) (lies x (at + 5) h) (omega arith))

pub due_near : (x : Past) (i : Option Instr) (in_slot : Bool) (tick : ℕ) → IsBefore x tick → due_at x i in_slot ≤ tick + 33
due_near x i in_slot tick h = near.due_near x i in_slot tick (lies x tick h)
