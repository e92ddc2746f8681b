use Rattle.std.proofs.Common.{◌≡◌, length, ap, sym, ◌∙◌, subst}
use Rattle.std.specs.Prelude.{map}
use Rattle.std.proofs.lemmas.List.{length-map}
use Rattle.exact_machine.specs.Machine.{ExactWorld}
use Rattle.board_run.proofs.Ticks.{seen}
use Rattle.board_run.proofs.board.Board.turns_in_step.Goals as goal

pub ticks_at_once-requires : goal.ticks_at_once-requires
ticks_at_once-requires g c =
    let n : length c.args.self.now.schedule.clocks ≡ length c.args.self.now.cores = subst (λ (w : ExactWorld). length w.schedule.clocks ≡ length w.cores) c.self.view_is (c.self.invariant.0 ∙ sym (length-map c.self.inside.cores.items (seen g.C.Core.state))) in
    record {
      ready = record {
        board = c.args.self.now;
        here = ap (λ (w : ExactWorld). w.cores) (sym c.self.view_is) ∙ ap (map (seen g.C.Core.state)) (sym c.deref_mut.ensures.value);
        ready = record { can = c.requires.can; quiet = c.requires.quiet; in_step = c.requires.in_step; clocks = n };
      };
    }
