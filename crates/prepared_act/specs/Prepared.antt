-- What can be told of a word before its act.
use Rattle.std.specs.Prelude.{◌≡◌, ℕ, ◌==◌, ◌&&◌, not, Bool, true, false, if◌then◌else◌, Option, Some, None}
use Rattle.mb_word.specs.Word.{sign_extend_16}
use Rattle.mb_decode.specs.declared.instruction.Instr.{Instr}
use Rattle.mb_decode.specs.Meaning.{NamesRegisters, meaning}
use Rattle.isa_step.specs.Requests.{end_word}
use Rattle.isa_step.specs.declared.acts.Late.{Late}
use Rattle.op_table.specs.declared.kinds.Kind.{Kind}
use Rattle.op_table.specs.declared.kinds.Kind.TheVariants.{Divide, Cache, MoveFrom, MoveToMsr, SetMsr, ClearMsr, Branch, BranchIf, Break, Barrier, Return, Prefix, Store, Get, Put}
use Rattle.op_table.specs.declared.kinds.Return.{Return as From}
use Rattle.op_table.specs.declared.kinds.Return.TheVariants as ret
use Rattle.op_table.specs.declared.kinds.Second.{Second}
use Rattle.op_table.specs.declared.kinds.Second.TheVariants.{Register, Immediate, Count}
use Rattle.op_table.specs.Table.{kind_of}
use Rattle.isa_step.specs.Requests.{late_at, latency_of}

-- the field of the second operand as it is used where no prefix is held
abbrev pub extended_of : Second → ℕ → ℕ
extended_of Register imm = sign_extend_16 imm
extended_of Immediate imm = sign_extend_16 imm
extended_of Count imm = imm

-- the register that an instruction makes late, and 0 where it makes none late
abbrev pub number_of : Option Late → ℕ
number_of None = 0
number_of (Some l) = l.reg

abbrev pub late_register : Instr → ℕ
late_register i = number_of (late_at i.rd (latency_of (kind_of i.op)))

abbrev pub is_return : From → Bool
is_return ret.Subroutine = true
is_return ret.Interrupt = false
is_return ret.Break = false
is_return ret.Exception = false

-- the kinds that ask nothing of the outside and mostly just retire
unfoldable pub is_inner : Kind → Bool
is_inner (Divide signed) = false
is_inner Cache = false
is_inner (MoveFrom special) = false
is_inner MoveToMsr = false
is_inner SetMsr = false
is_inner ClearMsr = false
is_inner Break = false
is_inner Barrier = false
is_inner (Return from) = is_return from
is_inner (Get dynamic) = false
is_inner (Put dynamic) = false
is_inner _ = true

-- the register that an inner act writes, and 0 where it writes none
unfoldable pub result_register : Kind → ℕ → ℕ
result_register (Store size) rd = 0
result_register Prefix rd = 0
result_register (BranchIf condition delayed) rd = 0
result_register (Return from) rd = 0
result_register (Branch absolute delayed linked) rd = if linked then rd else 0
result_register _ rd = rd

-- the word means the instruction, is not the end of a program, and its kind is inner
pub record IsInner (word : ℕ) (i : Instr) : Type 0 where
  pub meant : meaning word ≡ Some i
  pub goes : (word == end_word) ≡ false
  pub kind : is_inner (kind_of i.op) ≡ true
