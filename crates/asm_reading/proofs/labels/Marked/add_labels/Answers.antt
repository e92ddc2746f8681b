use Rattle.std.proofs.Common.{◌≤◌, drop, length, sym, ◌∙◌, arith}
use Rattle.asm_reading.specs.Tables.{labels_in}
use Rattle.asm_reading.proofs.Names.{behind_more, behind_none, fault_more, few_behind, few_names, label_more, no_name, none_defined, none_noted, short}
use Rattle.asm_reading.proofs.labels.Marked.add_labels.Goals as goal

pub loop-at-preserved : goal.loop-at-preserved
loop-at-preserved c =
    let is = sym c.is_label.ensures ∙ c.if-is_label.true in
    let i = c.loop-at.invariant in
    record {
      within = omega (arith, c.loop-at-test.true);
      labels = label_more c.args.line.now c.args.tokens.now c.loop-at.at _ c.loop-at-test.true (labels_in c.loop-at.self.labels) (labels_in c.add_label.new.self.labels) c.args.item is c.in_ok-add_label.ensures.labels ∙ i.labels;
      first = fault_more c.args.line.now c.args.tokens.now c.loop-at.at _ c.loop-at-test.true (labels_in c.loop-at.self.labels) (labels_in c.add_label.new.self.labels) c.args.number c.args.item c.loop-at.self.first c.add_label.new.self.first
          is c.in_ok-add_label.ensures.labels c.in_ok-add_label.ensures.first
          ∙ i.first;
      behind = behind_more c.args.line.now c.args.tokens.now c.loop-at.at _ c.loop-at-test.true is ∙ i.behind;
    }

pub returns-else-is_label-clause-labels : goal.returns-else-is_label-clause-labels
returns-else-is_label-clause-labels c =
    sym (none_defined (labels_in c.loop-at.self.labels) c.args.item c.args.line.now (drop c.loop-at.at c.args.tokens.now)
    (no_name c.args.line.now c.args.tokens.now c.loop-at.at _ c.loop-at-test.true (sym c.is_label.ensures ∙ c.if-is_label.false))) ∙ c.loop-at.invariant.labels

pub returns-else-is_label-clause-first : goal.returns-else-is_label-clause-first
returns-else-is_label-clause-first c =
    sym (none_noted (labels_in c.loop-at.self.labels) c.args.number c.args.item c.loop-at.self.first c.args.line.now (drop c.loop-at.at c.args.tokens.now)
    (no_name c.args.line.now c.args.tokens.now c.loop-at.at _ c.loop-at-test.true (sym c.is_label.ensures ∙ c.if-is_label.false))) ∙ c.loop-at.invariant.first

pub returns-else-is_label-clause-behind : goal.returns-else-is_label-clause-behind
returns-else-is_label-clause-behind c =
    behind_none c.args.line.now c.args.tokens.now c.loop-at.at _ c.loop-at-test.true (sym c.is_label.ensures ∙ c.if-is_label.false) ∙ c.loop-at.invariant.behind

pub returns-after-loop-at-clause-labels : goal.returns-after-loop-at-clause-labels
returns-after-loop-at-clause-labels c =
    let few : length (drop c.loop-at.at c.args.tokens.now) ≤ 1 = short c.args.tokens.now c.loop-at.at c.loop-at-test.false in
    sym (none_defined (labels_in c.loop-at.self.labels) c.args.item c.args.line.now (drop c.loop-at.at c.args.tokens.now) (few_names c.args.line.now (drop c.loop-at.at c.args.tokens.now) few)) ∙ c.loop-at.invariant.labels

pub returns-after-loop-at-clause-first : goal.returns-after-loop-at-clause-first
returns-after-loop-at-clause-first c =
    let few : length (drop c.loop-at.at c.args.tokens.now) ≤ 1 = short c.args.tokens.now c.loop-at.at c.loop-at-test.false in
    sym (none_noted (labels_in c.loop-at.self.labels) c.args.number c.args.item c.loop-at.self.first c.args.line.now (drop c.loop-at.at c.args.tokens.now) (few_names c.args.line.now (drop c.loop-at.at c.args.tokens.now) few))
    ∙ c.loop-at.invariant.first

pub returns-after-loop-at-clause-behind : goal.returns-after-loop-at-clause-behind
returns-after-loop-at-clause-behind c =
    few_behind c.args.line.now (drop c.loop-at.at c.args.tokens.now) (short c.args.tokens.now c.loop-at.at c.loop-at-test.false) ∙ c.loop-at.invariant.behind
