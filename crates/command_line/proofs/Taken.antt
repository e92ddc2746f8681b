-- What clap's answer says of the words.
use Rattle.std.proofs.Common.{◌≡◌, [], inl, inr, subst}
use Rattle.clap.specs.Words.{HasKind, Kinds, kind_of}
use Rattle.clap.specs.declared.error.Error.{Error}
use Rattle.clap.specs.declared.error.kind.ErrorKind.TheVariants.{OutOfMemory}

-- where no kind may come, the error is want of memory
pub only_memory : (kinds : Kinds) (e : Error) → kinds ≡ [] → HasKind kinds e → kind_of e ≡ OutOfMemory
only_memory kinds e none h = elim (subst (λ ks. HasKind ks e) none h) [ inl memory ↦ memory | inr among ↦ absurd among ]
