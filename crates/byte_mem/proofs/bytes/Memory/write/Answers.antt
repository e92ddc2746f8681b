use Rattle.std.proofs.Common.{arith, ap, sym, refl, ◌∙◌, []}
use Rattle.std.specs.List.{concat}
use Rattle.byte_mem.proofs.Accesses.{fits_word, fits_no_word, stored_word, stored_no_word}
use Rattle.byte_mem.proofs.bytes.Memory.write.Goals as goal

pub returns-then-at-len-clause-within : goal.returns-then-at-len-clause-within
returns-then-at-len-clause-within c =
    let within = fits_word c.self.inside.words c.args.size c.args.addr c.self.invariant.whole c.requires (omega arith) in
    rw (← c.self.view_is, within) (λ _. refl, λ _. refl)

pub returns-then-at-len-clause-memory : goal.returns-then-at-len-clause-memory
returns-then-at-len-clause-memory c =
    let put = stored_word c.self.inside.words c.args.size c.args.order c.args.addr c.args.value [] c.self.invariant.whole c.requires (omega arith) in
    rw (← c.self.view_is) (ap concat c.write.ensures ∙ put)

pub returns-else-at-len-clause-within : goal.returns-else-at-len-clause-within
returns-else-at-len-clause-within c =
    let past = fits_no_word c.self.inside.words c.args.size c.args.addr c.self.invariant.whole (omega arith) in
    rw (← c.self.view_is, past) (λ e. e, λ e. e)

pub returns-else-at-len-clause-memory : goal.returns-else-at-len-clause-memory
returns-else-at-len-clause-memory c =
    rw (← c.self.view_is)
    (sym (stored_no_word c.self.inside.words c.args.size c.args.order c.args.addr c.args.value c.self.invariant.whole (omega arith)))
