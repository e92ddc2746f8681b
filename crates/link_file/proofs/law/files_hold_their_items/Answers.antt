use Rattle.link_file.proofs.Faults.{whole_file}
use Rattle.link_file.proofs.law.files_hold_their_items.Goals as goal

pub returns : goal.returns
returns c bytes small whole = whole_file bytes 0 small whole
