use Rattle.link_file.proofs.Faults.{file_breaks}
use Rattle.link_file.proofs.law.faults_break_files.Goals as goal

pub returns : goal.returns
returns c bytes at small fault = file_breaks bytes at small fault
