use Rattle.std.proofs.Common.{refl, subst}
use Rattle.core_regs.specs.declared.causes.Order.{Order}
use Rattle.source_tools.specs.Answers.{SaysAsm}
use Rattle.mb_sim.proofs.tools.assemble.Goals as goal

pub returns-clause-says : goal.returns-clause-says
returns-clause-says g c = λ out.
    let P : Order → Type 0 = λ o. SaysAsm (g.S.Shelf.state c.args.shelf.now) (g.S.Shelf.state c.asm-answer.new.shelf) c.args.source.now c.args.output.now o c.asm-answer.result in
    record { answer = c.asm-answer.result; told = c.status_of_tool.ensures; says = subst P c.order_of.ensures c.asm-answer.ensures; quiet = refl }
