use Rattle.std.proofs.Common.{◌++◌, take, drop, sym, ap, ◌∙◌}
use Rattle.std.proofs.lemmas.List.{take_rest}
use Rattle.std.proofs.KnownBytes.{Appends-kept, Appends-trans}
use Rattle.host_io.proofs.Prefixes.{at_refusal, front_written, moved_over}
use Rattle.host_io.proofs.streams.write_whole.Goals as goal

pub returns-in_err-count-clause-part : goal.returns-in_err-count-clause-part
returns-in_err-count-clause-part g c =
    let (done, split, written) = c.loop-rest.invariant in
    at_refusal c.from_residual.result _ (front_written _ _ _ done c.loop-rest.rest.now split (Appends-kept _ _ _ done written c.in_err-count.ensures.bytes))

pub returns-then-count-eq0-clause-part : goal.returns-then-count-eq0-clause-part
returns-then-count-eq0-clause-part g c =
    let (done, split, written) = c.loop-rest.invariant in
    let rest = c.loop-rest.rest.now in
    let n = c.in_ok-count.count in
    front_written _ _ _ (done ++ take n rest) (drop n rest) (moved_over _ done rest n split)
    (Appends-trans _ _ _ done (take n rest) written c.in_ok-count.ensures.bytes)

pub loop-rest-preserved : goal.loop-rest-preserved
loop-rest-preserved g c =
    let (done, split, written) = c.loop-rest.invariant in
    let rest = c.loop-rest.rest.now in
    let n = c.in_ok-count.count in (
      done ++ take n rest,
      moved_over _ done rest n split ∙ ap (λ l. (done ++ take n rest) ++ l) (sym (take_rest rest n)),
      Appends-trans _ _ _ done (take n rest) written c.in_ok-count.ensures.bytes,
    )
