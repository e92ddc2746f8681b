use Rattle.std.proofs.Common.{◌+◌, List, subst, sym, arith}
use Rattle.mb_lex.specs.declared.token.Token.{Token}
use Rattle.mb_lex.specs.Lines.{Adds}
use Rattle.mb_lex.proofs.Adding.{added_token, refused_bad, refused_full}
use Rattle.mb_lex.proofs.lexer.add_token.Goals as goal

pub returns-in-Err-clause-err : goal.returns-in-Err-clause-err
returns-in-Err-clause-err c =
    refused_bad c.args.line.now c.args.at c.code.result c.in-Err.rule c.args.tokens.now.items _ c.rest_of.ensures.rest c.requires.within c.requires.seen c.requires.counted c.in-Err.ensures c.code.ensures

pub returns-in-Err-try_push-clause-err : goal.returns-in-Err-try_push-clause-err
returns-in-Err-try_push-clause-err c =
    refused_full c.args.line.now c.args.at c.code-in-Err-try_push.result c.code-in-Err-try_push.ensures c.args.tokens.now.items _ c.in-Ok.field-0 c.rest_of.ensures.rest c.requires.within c.requires.seen c.requires.counted c.in-Ok.ensures (omega (arith, c.in-Err-try_push.ensures.full))

pub returns-in-Ok-try_push-clause-ok : goal.returns-in-Ok-try_push-clause-ok
returns-in-Ok-try_push-clause-ok c =
    let P : List Token → Type 0 = λ new. Adds c.args.line.now c.args.at c.args.tokens.now.items new (c.args.at + c.in-Ok.field-0.len) in
    subst P (sym c.in-Ok-try_push.ensures.ok)
    (added_token c.args.line.now c.args.at c.args.tokens.now.items _ c.in-Ok.field-0 c.rest_of.ensures.rest c.requires.within c.requires.seen c.requires.counted c.in-Ok.ensures c.rest_of.ensures.len)
