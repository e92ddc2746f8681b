use Rattle.mb_debug.proofs.Scripting.{no_text}
use Rattle.mb_debug.proofs.run.do_one.Goals as goal

pub returns-in_err-text : goal.returns-in_err-text
returns-in_err-text g c = no_text c.args.names.now _ _ _ _ _ c.from_residual-in_err-text.result c.from_residual-in_err-text.ensures.1 c.in_ok-dispatch.ensures.ok
