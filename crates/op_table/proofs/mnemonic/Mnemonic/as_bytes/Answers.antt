use Rattle.std.proofs.Common.{take, ap}
use Rattle.std.proofs.lemmas.List.Folds.{length-prefix_len}
use Rattle.op_table.proofs.mnemonic.Mnemonic.as_bytes.Goals as goal

pub returns : goal.returns
returns c =
    let letters = c.args.self.now.letters in
    rw c.count.ensures (ap (λ n. take n letters) (length-prefix_len _ letters))
