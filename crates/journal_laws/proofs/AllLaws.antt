-- A run by cycles has all laws.
use Rattle.journal_laws.specs.Laws.{RunsHaveLaws}
use Rattle.journal_laws.proofs.BreakRuns.{break_law_holds}
use Rattle.journal_laws.proofs.Joins.{runs_join}
use Rattle.journal_laws.proofs.LinkRuns.{link_law_holds}
use Rattle.journal_laws.proofs.PaceCycles.{progress_bound_holds}
use Rattle.journal_laws.proofs.TakeRuns.{take_law_holds}

pub runs_have_laws : RunsHaveLaws
runs_have_laws = record {
  laws = λ b views inputs count w r.
      let reached = runs_join.reached b views inputs count w r in
      record {
        links = link_law_holds.law b views inputs w reached;
        takes = take_law_holds.law b views inputs w reached;
        breaks = break_law_holds.law b views inputs count w r;
        progress = progress_bound_holds.law b views inputs count w r;
      };
}
