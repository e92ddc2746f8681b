use Rattle.std.proofs.Common.{◌≡◌, ◌-◌, drop, length, refl, sym, ap, ◌∙◌, arith, length-drop}
use Rattle.asm_reading.specs.Lines.{first_line, line_len}
use Rattle.asm_reading.specs.Reading.{read_of}
use Rattle.asm_reading.proofs.LineByLine.{all_read, next_read}
use Rattle.asm_reading.proofs.reading.Reading.read_lines.Goals as goal

pub loop-at-init : goal.loop-at-init
loop-at-init g c = record { within = omega arith; few = omega arith; read = refl }

pub loop-at-preserved : goal.loop-at-preserved
loop-at-preserved g c =
    let rest : c.rest_of-text.result.now ≡ drop c.loop-at.at c.args.source.now = c.rest_of-text.ensures in
    let left : length c.rest_of-text.result.now ≡ length c.args.source.now - c.loop-at.at = ap length rest ∙ length-drop c.loop-at.at c.args.source.now in
    record {
      within = omega (arith, left, c.line_len-len.ensures.within, c.loop-at-test.true);
      few = omega (arith, c.loop-at.invariant.few);
      read = next_read (g.L.Labels.items c.args.labels.now) c.loop-at.number c.args.source.now c.first_line.result.now c.loop-at.at c.line_len-len.result (read_of c.loop-at.self) (read_of c.read_line.new.self)
          c.loop-at-test.true (c.line_len-len.ensures.len ∙ ap line_len rest) (c.first_line.ensures.line ∙ ap first_line rest) c.in_ok-read_line.ensures
          ∙ c.loop-at.invariant.read;
    }

pub returns : goal.returns
returns g c = sym (all_read (g.L.Labels.items c.args.labels.now) c.loop-at.number c.args.source.now c.loop-at.at _ c.loop-at-test.false) ∙ c.loop-at.invariant.read
