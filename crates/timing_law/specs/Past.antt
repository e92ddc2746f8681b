-- The numbers of a core's past that time its next act.
use Rattle.std.specs.Prelude.{ℕ, ◌+◌, Bool, if◌then◌else◌, List, slice_index, slice_set, replicate, max, Option, Some, None}
use Rattle.mb_decode.specs.declared.instruction.Instr.{Instr}
use Rattle.mb_decode.specs.Registers.{reads_a, reads_b, reads_d}
use Rattle.isa_step.specs.declared.acts.Late.{Late}
use Rattle.op_table.specs.Table.{kind_of}
use Rattle.timing_law.specs.declared.pipe.Pipe.{Pipe}
use Rattle.timing_law.specs.declared.pipe.Jump.{Jump}
use Rattle.timing_law.specs.declared.past.Past.{Past}
use Rattle.timing_law.specs.Table.{extra_for, first_of, hold_of, late_of, ready_of, redirected, turn_of}

-- a core before its first tick
abbrev pub fresh : Pipe → Past
fresh p = record { pipe = p; first = first_of p; next = 0; ready = replicate 32 0; redirect = 0 }

-- the tick from which a register can be used
abbrev pub marked : Pipe → ℕ → Option Late → List ℕ → List ℕ
marked p at None ready = ready
marked p at (Some l) ready = slice_set ready l.reg (at + ready_of p l.latency)

-- an instruction retired in a tick
abbrev pub retired : Instr → ℕ → Jump → Past → Past
retired i at jump p = record p {
  next = at + hold_of p.pipe (kind_of i.op);
  ready = marked p.pipe at (late_of i) p.ready;
  redirect = redirected p.pipe jump at p.redirect;
}

-- a take or a raise
abbrev pub turned : ℕ → Past → Past
turned at p = record p { next = at + 1; redirect = at + turn_of p.pipe }

-- the greatest number of the registers that an instruction reads
abbrev pub used : Bool → ℕ → ℕ
used reads number = if reads then number else 0

abbrev pub greatest_read : Option Instr → (ℕ → ℕ) → ℕ
greatest_read None number = 0
greatest_read (Some i) number = max (max (used (reads_a i) (number i.ra)) (used (reads_b i) (number i.rb))) (used (reads_d i) (number i.rd))

-- when an instruction can use its operands
unfoldable pub operands_at : Option Instr → List ℕ → ℕ
operands_at i ready = greatest_read i (λ r. slice_index ready r)

-- when the word at pc is decoded; the word in a slot was fetched with its branch
abbrev pub fetched_at : Past → Bool → ℕ
fetched_at p in_slot = max p.first (if in_slot then 0 else p.redirect)

-- the tick from which an instruction may act, but for its extra ticks
abbrev pub begins_at : Past → Option Instr → Bool → ℕ
begins_at p i in_slot = max (max (fetched_at p in_slot) p.next) (operands_at i p.ready)

-- the tick from which it may act; None is an act whose word isn't there or doesn't decode
unfoldable pub due_at : Past → Option Instr → Bool → ℕ
due_at p i in_slot = begins_at p i in_slot + extra_for p.pipe i
