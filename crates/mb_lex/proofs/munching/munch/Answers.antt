use Rattle.std.proofs.Common.{sym, ◌∙◌}
use Rattle.mb_lex.proofs.Munches.{literal_munches_at, quote_munches}
use Rattle.mb_lex.proofs.munching.munch.Goals as goal

pub returns-then-begins_number : goal.returns-then-begins_number
returns-then-begins_number c =
    literal_munches_at c.args.text.now c.run_len-len.result c.literal.result c.requires (sym c.starts_name.ensures ∙ c.if-starts_name.false) (sym c.begins_number.ensures ∙ c.if-begins_number.true)
    _ c.rest_of-rest.ensures.rest c.run_len-len.ensures.run c.run_len-len.ensures.within c.literal.ensures

pub returns-in-34 : goal.returns-in-34
returns-in-34 c = quote_munches c.args.text.now c.quoted.result c.requires c.in-34.is c.rest_of-rest.result.now c.rest_of-rest.ensures.rest c.quoted.ensures.text c.quoted.ensures.within
