-- Of a board that passed its tests a machine can be built, and its cores are new.
use Rattle.std.proofs.Common.{◌≡◌, ℕ, ◌<◌, List, Option, refl, sym, ap, subst, arith}
use Rattle.board_file.specs.declared.board.BoardFile.{BoardFile}
use Rattle.board_file.specs.declared.board.CoreRow.{CoreRow}
use Rattle.board_run.specs.Boards.{IsBuildable, IsNew}
use Rattle.exact_machine.specs.Runs.{pipe_of}
use Rattle.board_file_laws.proofs.Soundness.{read_is_sound}
use Rattle.board_file_laws.specs.Sound.{IsSound}
use Rattle.timing_law.specs.Past.{fresh as fresh_past}
use Rattle.core_iface.specs.Cores.{CoreState, made}
use Rattle.core_regs.specs.declared.registers.Arch.{Arch}
use Rattle.timing_law.specs.declared.pipe.Pipe.{Pipe}
use Rattle.timing_law.specs.declared.pipe.Pipe.TheVariants as pipe
use Rattle.any_core.specs.Any.{slack_of}
use Rattle.host_io.specs.Outside.{Files}
use Rattle.board_load.specs.Jobs.{Passes}

-- the board can be built
pub buildable : (files : Option Files) (file : List ℕ) (journal : Option (List ℕ)) (b : BoardFile) → Passes files file journal b → IsBuildable b
buildable files file journal b passes =
    let sound : IsSound b = read_is_sound passes.is_board.0 b passes.is_board.2 in
    let cores = sound.few_cores in
    let links = sound.few_links in
    record {
      few_cores = omega (arith, cores.1);
      few_links = omega (arith, links);
      clocks = λ k row at. (sound.clocks k row at).0;
      depths = sound.depths;
      timers = λ k row at. (sound.timer_inputs k row at, (sound.timer_clocks k row at).0);
      intcs = λ k row at. (sound.intc_clocks k row at).0;
      few_uarts = sound.few_uarts;
      uarts = λ k row at. (sound.uart_inputs k row at, (sound.uart_turns k row at).0, (sound.uart_clocks k row at).0);
    }

-- a core is new
few_slack : (p : Pipe) → slack_of p < 64
few_slack pipe.Plain = omega arith
few_slack pipe.Three = omega arith
few_slack pipe.Five = omega arith
few_slack pipe.Eight = omega arith

pub begun_is_new : (row : CoreRow) (p : Pipe) (arch : Arch) (memory : List ℕ) (s : CoreState) → p ≡ pipe_of row.pipeline → s ≡ made p (slack_of p) arch memory → IsNew row s
begun_is_new row p arch memory s same e = subst (IsNew row) (sym e) (record {
  acts = refl;
  ticks = refl;
  slack = few_slack p;
  flights = refl;
  past = ap fresh_past same;
})
