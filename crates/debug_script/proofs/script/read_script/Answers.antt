use Rattle.std.proofs.Common.{ap, arith, subst, sym}
use Rattle.std.specs.Prelude.{option_copied}
use Rattle.debug_script.proofs.Reading.{few_after, reads_more, reads_refused, shorter}
use Rattle.debug_script.specs.Scripts.{IsRefusal}
use Rattle.debug_script.specs.declared.progress.Progress.{Progress}
use Rattle.debug_script.proofs.script.read_script.Goals as goal

pub returns-in-Err-clause-err : goal.returns-in-Err-clause-err
returns-in-Err-clause-err c =
    subst (IsRefusal c.args.names.now c.args.text.now) (sym c.at.ensures)
    (reads_refused c.args.names.now _ _ _ _ _ c.in-Some.left.now (ap option_copied c.in-Some.is) _ c.in-Err.rule c.loop-rest.invariant.reads c.cut.ensures.first c.in-Err.ensures)

pub note-requires : goal.note-requires
note-requires c =
    omega (arith, c.loop-rest.invariant.few, c.loop-rest.invariant.short, shorter _ _ c.in-Some.left.now (ap option_copied c.in-Some.is) c.cut.ensures.after)

pub loop-rest-smaller : goal.loop-rest-smaller
loop-rest-smaller c = shorter _ _ c.in-Some.left.now (ap option_copied c.in-Some.is) c.cut.ensures.after

pub loop-rest-preserved : goal.loop-rest-preserved
loop-rest-preserved c = record {
  reads =
      reads_more c.args.names.now _ _ _ _ _ c.in-Some.left.now (ap option_copied c.in-Some.is) _ _ c.in-Ok.command _ _ c.loop-rest.invariant.reads c.cut.ensures.first c.cut.ensures.after c.in-Ok.ensures c.in_ok-add.ensures c.note.ensures;
  short = omega (arith, c.loop-rest.invariant.short, shorter _ _ c.in-Some.left.now (ap option_copied c.in-Some.is) c.cut.ensures.after);
  few = omega (arith, c.loop-rest.invariant.few, few_after c.in-Ok.command c.loop-rest.progress, ap (λ (p : Progress). p.breaks) c.note.ensures);
}
