use Rattle.std.proofs.Common.{◌≡◌, ◌+◌, drop}
use Rattle.mb_decode.specs.Meaning.{placed, spelled}
use Rattle.mb_decode.proofs.fields.placed.Given as goal

-- what is placed, and what is left
abbrev pub invariant-loop-field : goal.invariant-loop-field
invariant-loop-field l = l.word + spelled (drop l.field-index l.field-items) l.i ≡ placed l.fn.form l.fn.i
