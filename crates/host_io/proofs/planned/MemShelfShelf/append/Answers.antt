use Rattle.host_io.proofs.Prefixes.{may_grow}
use Rattle.host_io.proofs.planned.MemShelfShelf.append.Goals as goal

pub returns-in_default-extend_file-clause-answer : goal.returns-in_default-extend_file-clause-answer
returns-in_default-extend_file-clause-answer c = (
  may_grow _ _ _ c.in-Some.moved _ _ c.extend_file.result c.first_of.ensures.first c.extend_file.ensures.ok c.extend_file.ensures.err,
  c.count_write.ensures,
)
