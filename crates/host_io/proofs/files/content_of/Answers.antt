use Rattle.std.proofs.Common.{ap, sym, ◌∙◌, Some}
use Rattle.host_io.proofs.Lookups.{lookup_absent, lookup_first}
use Rattle.host_io.proofs.files.content_of.Goals as goal

pub returns-in_err-place : goal.returns-in_err-place
returns-in_err-place c =
    rw c.from_residual.ensures (sym (lookup_absent c.args.files.now c.args.name.now c.in_err-place.ensures.absent))

pub returns : goal.returns
returns c =
    ap Some c.as_slice.ensures.value
    ∙ sym (lookup_first c.args.files.now c.args.name.now c.in_ok-place.place c.index-files-place.result c.in_ok-place.ensures.found)
