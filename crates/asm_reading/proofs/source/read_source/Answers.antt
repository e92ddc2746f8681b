use Rattle.asm_reading.specs.Tables.{labels_in}
use Rattle.asm_reading.specs.Reading.{read_of}
use Rattle.asm_reading.proofs.Counting.{source_few}
use Rattle.asm_reading.proofs.Speaking.{source_words}
use Rattle.asm_reading.proofs.source.read_source.Goals as goal

pub returns-clause-few : goal.returns-clause-few
returns-clause-few c =
    source_few (labels_in c.in_ok-labels.labels) c.args.source.now (read_of c.new-reading.result) (read_of c.read_lines.new.self) c.new-reading.ensures c.in_ok-read_lines.ensures

pub returns-clause-spelled : goal.returns-clause-spelled
returns-clause-spelled c =
    source_words (labels_in c.in_ok-labels.labels) c.args.source.now (read_of c.new-reading.result) (read_of c.read_lines.new.self) c.new-reading.ensures c.in_ok-read_lines.ensures
