-- What lies between two instructions: the next pc, the immediate prefix, the delay slot and the atomic latch.
use Rattle.std.specs.Prelude.{ℕ, ◌+◌, ◌*◌, ◌%◌, ◌^◌, Option, Some, None, Bool, false, ◌&&◌, ◌||◌, not, is_none, if◌then◌else◌}
use Rattle.mb_word.specs.Word.{sign_extend_16}
use Rattle.core_regs.specs.declared.registers.Arch.{Arch}

-- 16 bits below the prefix that is held, or with their sign where none is
abbrev pub immediate_of : Option ℕ → ℕ → ℕ
immediate_of None imm = sign_extend_16 imm
immediate_of (Some high) imm = high * 2 ^ 16 + imm

-- the address after an instruction: the target that its slot holds, or the next word
abbrev pub next_pc : Option ℕ → ℕ → ℕ
next_pc None pc = (pc + 4) % 2 ^ 32
next_pc (Some target) pc = target

-- past the instruction, whose prefix and slot are used up, with the atomic latch as given
abbrev pub advanced : Arch → Bool → Arch
advanced a atomic = record a { pc = next_pc a.slot a.pc; prefix = None; slot = None; atomic = atomic }

-- past an imm, whose 16 bits are held for the next instruction
abbrev pub prefixed : Arch → ℕ → Arch
prefixed a imm = record (advanced a false) { prefix = Some imm }

-- at the target of a branch; where it is delayed at its slot, with the target held
abbrev pub branched : Arch → ℕ → Bool → Arch
branched a target delayed = record a {
  pc = if delayed then (a.pc + 4) % 2 ^ 32 else target;
  prefix = None;
  slot = if delayed then Some target else None;
  atomic = false;
}

-- whether an interrupt or a break may be taken, by whether the word at pc is an atomic link access
abbrev pub may_take : Arch → Bool → Bool
may_take a atomic_here = is_none a.prefix && is_none a.slot && not a.atomic && (not atomic_here || a.asleep)
