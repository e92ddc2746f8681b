use Rattle.std.proofs.Common.{◌≡◌, drop}
use Rattle.mb_decode.specs.Meaning.{all_limited, limits_of}
use Rattle.op_table.specs.Forms.{fields_of}
use Rattle.mb_decode.proofs.fields.Limits.of.Given as goal

-- the fields that are left complete the limits
abbrev pub invariant-loop-field : goal.invariant-loop-field
invariant-loop-field l = all_limited (drop l.field-index l.field-items) l.limits ≡ limits_of (fields_of l.fn.form)
