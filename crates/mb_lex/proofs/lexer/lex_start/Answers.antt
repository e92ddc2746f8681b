use Rattle.std.proofs.Common.{◌++◌, sym, ap, ◌∙◌, arith}
use Rattle.std.specs.Prelude.{map}
use Rattle.std.proofs.lemmas.Bool.{eq-eqb}
use Rattle.mb_lex.specs.Lines.{placed_of}
use Rattle.mb_lex.proofs.Adding.{blank_skipped, comment_ends, line_ends}
use Rattle.mb_lex.proofs.Starts.{all_good, all_tokens, no_fault, refused_fault, refused_good}
use Rattle.mb_lex.proofs.lexer.lex_start.Goals as goal

pub loop-at-preserved-then-is_blank : goal.loop-at-preserved-then-is_blank
loop-at-preserved-then-is_blank c = record {
  few = c.loop-at.invariant.few;
  within = omega arith;
  split = c.loop-at.invariant.split ∙ ap (λ xs. map (placed_of c.args.line.now) c.loop-at.items.items ++ xs) (blank_skipped c.args.line.now c.loop-at.at c.loop-at-test.true (sym c.is_blank.ensures ∙ c.if-is_blank.true));
}

pub returns-then-byte-eq35-clause-tokens : goal.returns-then-byte-eq35-clause-tokens
returns-then-byte-eq35-clause-tokens c =
    let none = comment_ends c.args.line.now c.loop-at.at c.loop-at-test.true (sym c.is_blank.ensures ∙ c.if-is_blank.false) (eq-eqb _ _ c.if-byte-eq35.true) in
    ap (map (placed_of c.args.line.now)) c.whole.ensures.tokens ∙ all_good c.args.line.now c.loop-at.items.items _ c.loop-at.invariant.few c.loop-at.invariant.split none

pub returns-then-byte-eq35-clause-fault : goal.returns-then-byte-eq35-clause-fault
returns-then-byte-eq35-clause-fault c =
    let none = comment_ends c.args.line.now c.loop-at.at c.loop-at-test.true (sym c.is_blank.ensures ∙ c.if-is_blank.false) (eq-eqb _ _ c.if-byte-eq35.true) in
    c.whole.ensures.fault ∙ no_fault c.args.line.now c.loop-at.items.items _ c.loop-at.invariant.few c.loop-at.invariant.split none

pub returns-then-byte-eq35-clause-all : goal.returns-then-byte-eq35-clause-all
returns-then-byte-eq35-clause-all c =
    let none = comment_ends c.args.line.now c.loop-at.at c.loop-at-test.true (sym c.is_blank.ensures ∙ c.if-is_blank.false) (eq-eqb _ _ c.if-byte-eq35.true) in
    λ _. ap (map (placed_of c.args.line.now)) c.whole.ensures.tokens ∙ all_tokens c.args.line.now c.loop-at.items.items _ c.loop-at.invariant.few c.loop-at.invariant.split none

pub returns-in-Err-clause-tokens : goal.returns-in-Err-clause-tokens
returns-in-Err-clause-tokens c =
    ap (map (placed_of c.args.line.now)) (c.broken.ensures.tokens ∙ c.in-Err.ensures.kept)
    ∙ refused_good c.args.line.now c.loop-at.at c.loop-at.items.items c.in-Err.fault c.loop-at.invariant.few c.loop-at.invariant.split c.in-Err.ensures.err

pub returns-in-Err-clause-fault : goal.returns-in-Err-clause-fault
returns-in-Err-clause-fault c =
    c.broken.ensures.fault ∙ refused_fault c.args.line.now c.loop-at.at c.loop-at.items.items c.in-Err.fault c.loop-at.invariant.few c.loop-at.invariant.split c.in-Err.ensures.err

pub returns-clause-tokens : goal.returns-clause-tokens
returns-clause-tokens c =
    ap (map (placed_of c.args.line.now)) c.whole-2.ensures.tokens ∙ all_good c.args.line.now c.loop-at.items.items _ c.loop-at.invariant.few c.loop-at.invariant.split (line_ends c.args.line.now c.loop-at.at c.loop-at-test.false)

pub returns-clause-fault : goal.returns-clause-fault
returns-clause-fault c =
    c.whole-2.ensures.fault ∙ no_fault c.args.line.now c.loop-at.items.items _ c.loop-at.invariant.few c.loop-at.invariant.split (line_ends c.args.line.now c.loop-at.at c.loop-at-test.false)

pub returns-clause-all : goal.returns-clause-all
returns-clause-all c = λ _.
    ap (map (placed_of c.args.line.now)) c.whole-2.ensures.tokens ∙ all_tokens c.args.line.now c.loop-at.items.items _ c.loop-at.invariant.few c.loop-at.invariant.split (line_ends c.args.line.now c.loop-at.at c.loop-at-test.false)
