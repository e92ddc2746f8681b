use Rattle.std.proofs.Common.{map, arith, refl, sym, ap, ◌∙◌}
use Rattle.any_core.specs.States.{any_state}
use Rattle.any_core.specs.declared.AnyCore.{AnyCore}
use Rattle.host_io.specs.Outside.{SourceState}
use Rattle.probe_set.specs.Sets.{items_of}
use Rattle.exact_machine.proofs.Starting.{can_run}
use Rattle.mb_sim.specs.Debugged.{done, no_memory}
use Rattle.mb_sim.proofs.Debugging.{are_names, does_writes, names_of_states, not_begun, not_named, not_read}
use Rattle.mb_sim.proofs.Probes.{have_room}
use Rattle.mb_sim.proofs.debug.debug.Goals as goal

pub returns-in-Err-clause-says : goal.returns-in-Err-clause-says
returns-in-Err-clause-says g c =
    not_begun c.args.words.now _ _ _ _ _ c.status_of_refusal.result c.in-Err.refusal c.status_of_refusal.ensures c.in-Err.ensures.refused c.in-Err.ensures.keeps.files

pub returns-in-Err-load_symbols-clause-says : goal.returns-in-Err-load_symbols-clause-says
returns-in-Err-load_symbols-clause-says g c =
    not_named c.args.words.now (g.S.Shelf.state c.args.shelf.now) (g.S.Shelf.state c.load_job.new.shelf) c.in-Ok.job.board (map (λ (core : AnyCore). (any_state core).view) c.in-Ok.job.cores.items) (record { links = c.in-Ok.job.inputs.links; uarts = c.in-Ok.job.inputs.uarts }) c.as_slice.result.now c.in-Ok.ensures.ok c.in-Ok.ensures.quiet c.as_slice.ensures
    _ _ _ _ c.status_of_refusal-in-Err-load_symbols.result c.in-Err-load_symbols.refusal c.status_of_refusal-in-Err-load_symbols.ensures c.in-Err-load_symbols.ensures.refused
    c.in-Err-load_symbols.ensures.keeps.files

pub returns-in_default-clause-says : goal.returns-in_default-clause-says
returns-in_default-clause-says g c = no_memory (c.in-Ok-load_symbols.ensures.quiet ∙ c.in-Ok.ensures.quiet) refl refl refl

pub returns-in-Err-load_script-clause-says : goal.returns-in-Err-load_script-clause-says
returns-in-Err-load_script-clause-says g c =
    not_read c.args.words.now (g.S.Shelf.state c.args.shelf.now) (g.S.Shelf.state c.load_symbols.new.shelf) (g.C.Source.state c.args.script.now) (g.C.Source.state c.load_script.new.script) (g.O.Sink.state c.args.out.now) _ c.in-Ok.job.board c.in-Ok-script_names.names c.status_of_script.result c.in-Err-load_script.refusal c.status_of_script.ensures
    (are_names c.args.words.now (g.S.Shelf.state c.args.shelf.now) (g.S.Shelf.state c.load_job.new.shelf) c.in-Ok.job.board (map (λ (core : AnyCore). (any_state core).view) c.in-Ok.job.cores.items) (record { links = c.in-Ok.job.inputs.links; uarts = c.in-Ok.job.inputs.uarts }) c.as_slice.result.now c.in-Ok.ensures.ok c.in-Ok.ensures.quiet c.as_slice.ensures
    c.in-Ok-load_symbols.symbols.items _ _ c.in-Ok-script_names.names c.in-Ok-load_symbols.ensures.ok c.in-Ok-script_names.ensures
    (names_of_states (λ a. a.name) (λ a. (goal.Probe-dyn g (a.probe.vtable, a.probe.value)).state_of a.probe.value) (items_of c.args.probes.now.probes)))
    c.in-Err-load_script.ensures.loads (c.in-Ok-load_symbols.ensures.quiet ∙ c.in-Ok.ensures.quiet)

pub do_script-requires-clause-room : goal.do_script-requires-clause-room
do_script-requires-clause-room g c = have_room c.in-Some.board.fabric.spare _ (omega (arith, c.in-Some.ensures.room)) c.requires.young

pub do_script-requires-clause-can : goal.do_script-requires-clause-can
do_script-requires-clause-can g c =
    can_run c.in-Ok.job.board (map (λ (core : AnyCore). (any_state core).view) c.in-Ok.job.cores.items) (record { links = c.in-Ok.job.inputs.links; uarts = c.in-Ok.job.inputs.uarts }) c.args.words.now.entries c.args.words.now.cycles c.in-Some.board c.in-Some.ensures.start (omega (arith, c.requires.few))

pub returns-in-Some-clause-says : goal.returns-in-Some-clause-says
returns-in-Some-clause-says g c =
    done c.in-Ok.job.board c.in-Ok-script_names.names c.in-Ok-load_script.commands c.in-Some.board c.do_script.result
    (are_names c.args.words.now (g.S.Shelf.state c.args.shelf.now) (g.S.Shelf.state c.load_job.new.shelf) c.in-Ok.job.board (map (λ (core : AnyCore). (any_state core).view) c.in-Ok.job.cores.items) (record { links = c.in-Ok.job.inputs.links; uarts = c.in-Ok.job.inputs.uarts }) c.as_slice.result.now c.in-Ok.ensures.ok c.in-Ok.ensures.quiet c.as_slice.ensures
    c.in-Ok-load_symbols.symbols.items _ _ c.in-Ok-script_names.names c.in-Ok-load_symbols.ensures.ok c.in-Ok-script_names.ensures
    (names_of_states (λ a. a.name) (λ a. (goal.Probe-dyn g (a.probe.vtable, a.probe.value)).state_of a.probe.value) (items_of c.args.probes.now.probes)))
    c.in-Ok-load_script.ensures.loads
    (record {
      views = map (λ (core : AnyCore). (any_state core).view) c.in-Ok.job.cores.items;
      inputs = record { links = c.in-Ok.job.inputs.links; uarts = c.in-Ok.job.inputs.uarts };
      job = c.in-Ok.ensures.ok;
      began = c.in-Some.ensures.start;
    })
    (c.in-Ok-load_symbols.ensures.quiet ∙ c.in-Ok.ensures.quiet) c.do_script.ensures

pub returns-clause-says : goal.returns-clause-says
returns-clause-says g c = no_memory (c.in-Ok-load_symbols.ensures.quiet ∙ c.in-Ok.ensures.quiet) c.in-Ok-load_script.ensures.loads.1.3 refl refl

pub returns-in-Some-clause-writes : goal.returns-in-Some-clause-writes
returns-in-Some-clause-writes g c = does_writes _ _ _ _ _ _ _ _ _ c.do_script.ensures
