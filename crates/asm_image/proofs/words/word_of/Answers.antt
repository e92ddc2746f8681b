use Rattle.std.proofs.Common.{refl, sym, subst, Option, ℕ}
use Rattle.std.specs.Prelude.{IsSome}
use Rattle.asm_image.proofs.Spelled.{encoded}
use Rattle.asm_image.proofs.words.word_of.Goals as goal

pub unwrap-requires : goal.unwrap-requires
unwrap-requires c = subst (λ (o : Option ℕ). IsSome o) (sym (encoded c.args.instr c.encode.result c.requires c.encode.ensures.only)) refl
