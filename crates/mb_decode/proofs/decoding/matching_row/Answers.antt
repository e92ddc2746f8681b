use Rattle.std.proofs.Common.{◌≡◌, ◌≤◌, length, refl, ap, ◌∙◌, arith}
use Rattle.std.specs.List.{filter}
use Rattle.op_table.specs.Table.{matches, rows_of}
use Rattle.mb_decode.specs.Meaning.{the_only}
use Rattle.mb_decode.proofs.Only.{find_is_only}
use Rattle.mb_decode.proofs.decoding.matching_row.Goals as goal

pub returns : goal.returns
returns c =
    let w = c.args.w in
    let all : filter (matches w) c.candidates.result.now ≡ rows_of w = c.candidates.ensures w (omega arith) refl in
    let few : length (filter (matches w) c.candidates.result.now) ≤ 1 = rw all (c.at_most_one_row.ensures w) in
    c.first_match.ensures ∙ find_is_only (matches w) _ few ∙ ap the_only all
