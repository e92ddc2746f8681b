use Rattle.std.proofs.Common.{map, subst, refl, ap, ◌∙◌, Some}
use Rattle.mb_sim.proofs.Debugging.{nothing_read, script_answered}
use Rattle.mb_sim.proofs.Demos.{same_loads, same_writes}
use Rattle.mb_sim.proofs.Exact.{answered, nothing_done}
use Rattle.mb_sim.proofs.Limits.{IsSmall, command_small}
use Rattle.mb_sim.proofs.top.dispatch.Goals as goal

pub raw-requires : goal.raw-requires
raw-requires g c =
    let small = command_small (map (λ word. word.now) c.args.words.now) c.in-Ok-Raw.field-0 c.in-Ok-Raw.ensures in
    record { young = c.requires.young; few = (subst IsSmall c.in-Ok-Raw.field-0-is small).cycles }

pub run-requires : goal.run-requires
run-requires g c =
    let small = command_small (map (λ word. word.now) c.args.words.now) c.in-Ok-Run.field-0 c.in-Ok-Run.ensures in
    record { young = c.requires.young; few = (subst IsSmall c.in-Ok-Run.field-0-is small).cycles }

pub returns-in-Ok-Raw-clause-says : goal.returns-in-Ok-Raw-clause-says
returns-in-Ok-Raw-clause-says g c =
    answered _ _ (g.S.Shelf.state c.args.shelf.now) (g.S.Shelf.state c.raw.new.shelf) (g.O.Sink.state c.args.out.now) (g.O.Sink.state c.raw.new.out) _ _ c.raw.result (c.in-Ok-Raw.ensures ∙ ap Some c.in-Ok-Raw.field-0-is)
    (record { says = c.raw.ensures.says; files = c.raw.ensures.files })

pub returns-in-Ok-Run-clause-says : goal.returns-in-Ok-Run-clause-says
returns-in-Ok-Run-clause-says g c =
    answered _ _ (g.S.Shelf.state c.args.shelf.now) (g.S.Shelf.state c.run.new.shelf) (g.O.Sink.state c.args.out.now) (g.O.Sink.state c.run.new.out) _ _ c.run.result (c.in-Ok-Run.ensures ∙ ap Some c.in-Ok-Run.field-0-is)
    c.run.ensures.says

pub returns-in-Ok-Asm-clause-says : goal.returns-in-Ok-Asm-clause-says
returns-in-Ok-Asm-clause-says g c =
    answered _ _ (g.S.Shelf.state c.args.shelf.now) (g.S.Shelf.state c.assemble.new.shelf) (g.O.Sink.state c.args.out.now) (g.O.Sink.state c.args.out.now) _ _ c.assemble.result (c.in-Ok-Asm.ensures ∙ ap Some c.in-Ok-Asm.field-0-is)
    (c.assemble.ensures.says (g.O.Sink.state c.args.out.now), refl)

pub returns-in-Ok-Dis-clause-says : goal.returns-in-Ok-Dis-clause-says
returns-in-Ok-Dis-clause-says g c =
    answered _ _ (g.S.Shelf.state c.args.shelf.now) (g.S.Shelf.state c.disassemble.new.shelf) (g.O.Sink.state c.args.out.now) (g.O.Sink.state c.disassemble.new.out) _ _ c.disassemble.result (c.in-Ok-Dis.ensures ∙ ap Some c.in-Ok-Dis.field-0-is)
    (c.disassemble.ensures.says, refl)

pub returns-in-Err-NoMemory-clause-says : goal.returns-in-Err-NoMemory-clause-says
returns-in-Err-NoMemory-clause-says g c = nothing_done _ (g.S.Shelf.state c.args.shelf.now) (g.O.Sink.state c.args.out.now) _

pub returns-in-Ok-Demo-clause-says : goal.returns-in-Ok-Demo-clause-says
returns-in-Ok-Demo-clause-says g c =
    answered _ _ (g.S.Shelf.state c.args.shelf.now) (g.S.Shelf.state c.args.shelf.now) (g.O.Sink.state c.args.out.now) (g.O.Sink.state c.show_ring.new.out) _ _ c.show_ring.result (c.in-Ok-Demo.ensures ∙ ap Some c.in-Ok-Demo.field-0-is)
    (record { shown = c.show_ring.ensures.shown; quiet = refl }, refl)

pub returns-in-Ok-Demo-clause-loads : goal.returns-in-Ok-Demo-clause-loads
returns-in-Ok-Demo-clause-loads g c = same_loads (g.S.Shelf.state c.args.shelf.now).faults.load_faults c.show_ring.result

pub returns-in-Ok-Demo-clause-shelf_writes : goal.returns-in-Ok-Demo-clause-shelf_writes
returns-in-Ok-Demo-clause-shelf_writes g c = same_writes (g.S.Shelf.state c.args.shelf.now).faults.write_faults c.show_ring.result

pub profile-requires : goal.profile-requires
profile-requires g c =
    let small = command_small (map (λ word. word.now) c.args.words.now) c.in-Ok-Profile.field-0 c.in-Ok-Profile.ensures in
    record { young = c.requires.young; few = (subst IsSmall c.in-Ok-Profile.field-0-is small).cycles }

pub returns-in-Ok-Profile-clause-says : goal.returns-in-Ok-Profile-clause-says
returns-in-Ok-Profile-clause-says g c =
    answered _ _ (g.S.Shelf.state c.args.shelf.now) (g.S.Shelf.state c.profile.new.shelf) (g.O.Sink.state c.args.out.now) (g.O.Sink.state c.profile.new.out) _ _ c.profile.result (c.in-Ok-Profile.ensures ∙ ap Some c.in-Ok-Profile.field-0-is)
    c.profile.ensures.says

pub returns-in-Ok-Raw-clause-script : goal.returns-in-Ok-Raw-clause-script
returns-in-Ok-Raw-clause-script g c = script_answered _ _ (g.S.Shelf.state c.args.shelf.now) (g.S.Shelf.state c.raw.new.shelf) (g.C.Source.state c.args.script.now) (g.C.Source.state c.args.script.now) (g.O.Sink.state c.args.out.now) (g.O.Sink.state c.raw.new.out) _ _ c.raw.result (c.in-Ok-Raw.ensures ∙ ap Some c.in-Ok-Raw.field-0-is) refl

pub returns-in-Ok-Run-clause-script : goal.returns-in-Ok-Run-clause-script
returns-in-Ok-Run-clause-script g c = script_answered _ _ (g.S.Shelf.state c.args.shelf.now) (g.S.Shelf.state c.run.new.shelf) (g.C.Source.state c.args.script.now) (g.C.Source.state c.args.script.now) (g.O.Sink.state c.args.out.now) (g.O.Sink.state c.run.new.out) _ _ c.run.result (c.in-Ok-Run.ensures ∙ ap Some c.in-Ok-Run.field-0-is) refl

pub returns-in-Ok-Asm-clause-script : goal.returns-in-Ok-Asm-clause-script
returns-in-Ok-Asm-clause-script g c = script_answered _ _ (g.S.Shelf.state c.args.shelf.now) (g.S.Shelf.state c.assemble.new.shelf) (g.C.Source.state c.args.script.now) (g.C.Source.state c.args.script.now) (g.O.Sink.state c.args.out.now) (g.O.Sink.state c.args.out.now) _ _ c.assemble.result (c.in-Ok-Asm.ensures ∙ ap Some c.in-Ok-Asm.field-0-is) refl

pub returns-in-Ok-Dis-clause-script : goal.returns-in-Ok-Dis-clause-script
returns-in-Ok-Dis-clause-script g c = script_answered _ _ (g.S.Shelf.state c.args.shelf.now) (g.S.Shelf.state c.disassemble.new.shelf) (g.C.Source.state c.args.script.now) (g.C.Source.state c.args.script.now) (g.O.Sink.state c.args.out.now) (g.O.Sink.state c.disassemble.new.out) _ _ c.disassemble.result (c.in-Ok-Dis.ensures ∙ ap Some c.in-Ok-Dis.field-0-is) refl

pub returns-in-Ok-Demo-clause-script : goal.returns-in-Ok-Demo-clause-script
returns-in-Ok-Demo-clause-script g c = script_answered _ _ (g.S.Shelf.state c.args.shelf.now) (g.S.Shelf.state c.args.shelf.now) (g.C.Source.state c.args.script.now) (g.C.Source.state c.args.script.now) (g.O.Sink.state c.args.out.now) (g.O.Sink.state c.show_ring.new.out) _ _ c.show_ring.result (c.in-Ok-Demo.ensures ∙ ap Some c.in-Ok-Demo.field-0-is) refl

pub returns-in-Ok-Profile-clause-script : goal.returns-in-Ok-Profile-clause-script
returns-in-Ok-Profile-clause-script g c = script_answered _ _ (g.S.Shelf.state c.args.shelf.now) (g.S.Shelf.state c.profile.new.shelf) (g.C.Source.state c.args.script.now) (g.C.Source.state c.args.script.now) (g.O.Sink.state c.args.out.now) (g.O.Sink.state c.profile.new.out) _ _ c.profile.result (c.in-Ok-Profile.ensures ∙ ap Some c.in-Ok-Profile.field-0-is) refl

pub debug-requires : goal.debug-requires
debug-requires g c =
    let small = command_small (map (λ word. word.now) c.args.words.now) c.in-Ok-Debug.field-0 c.in-Ok-Debug.ensures in
    record { young = c.requires.young; few = (subst IsSmall c.in-Ok-Debug.field-0-is small).cycles }

pub returns-in-Ok-Debug-clause-says : goal.returns-in-Ok-Debug-clause-says
returns-in-Ok-Debug-clause-says g c =
    answered _ _ (g.S.Shelf.state c.args.shelf.now) (g.S.Shelf.state c.debug.new.shelf) (g.O.Sink.state c.args.out.now) (g.O.Sink.state c.debug.new.out) _ _ c.debug.result (c.in-Ok-Debug.ensures ∙ ap Some c.in-Ok-Debug.field-0-is) tt

pub returns-in-Ok-Debug-clause-script : goal.returns-in-Ok-Debug-clause-script
returns-in-Ok-Debug-clause-script g c =
    script_answered _ _ (g.S.Shelf.state c.args.shelf.now) (g.S.Shelf.state c.debug.new.shelf) (g.C.Source.state c.args.script.now) (g.C.Source.state c.debug.new.script) (g.O.Sink.state c.args.out.now) (g.O.Sink.state c.debug.new.out) _ _ c.debug.result (c.in-Ok-Debug.ensures ∙ ap Some c.in-Ok-Debug.field-0-is)
    c.debug.ensures.says

pub returns-in-Err-NoMemory-clause-script : goal.returns-in-Err-NoMemory-clause-script
returns-in-Err-NoMemory-clause-script g c = nothing_read _ (g.S.Shelf.state c.args.shelf.now) (g.C.Source.state c.args.script.now) (g.O.Sink.state c.args.out.now) _
