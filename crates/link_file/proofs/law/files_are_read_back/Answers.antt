use Rattle.link_file.proofs.Faults.{items_again, no_fault}
use Rattle.link_file.proofs.law.files_are_read_back.Goals as goal

pub returns : goal.returns
returns c = record { no_fault = λ items. no_fault items 0; items = items_again }
