use Rattle.std.proofs.Common.{◌≡◌, drop}
use Rattle.mb_decode.specs.Meaning.{filled, read}
use Rattle.mb_decode.proofs.fields.read.Given as goal

-- the fields that are left complete the instruction
abbrev pub invariant-loop-field : goal.invariant-loop-field
invariant-loop-field l = filled (drop l.field-index l.field-items) l.w l.instr ≡ read l.fn.form l.fn.op l.fn.w
