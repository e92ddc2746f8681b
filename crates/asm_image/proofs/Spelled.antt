-- An instruction whose fields fit its row has a word.
use Rattle.std.proofs.Common.{◌≡◌, ℕ, ◌+◌, ◌%◌, ◌^◌, ◌<◌, Option, Some, arith, refl, subst, sym}
use Rattle.op_table.specs.Table.{row_for, rows}
use Rattle.op_table.proofs.Apart.{at_most_one_row}
use Rattle.op_table.proofs.PlacesLemmas.{known_row, sound_row_for}
use Rattle.mb_decode.specs.declared.instruction.Instr.{Instr}
use Rattle.mb_decode.specs.Meaning.{Fits, Means, placed}
use Rattle.mb_decode.proofs.Means.{means_of_fits, spelled_word}
use Rattle.asm_source.specs.Source.{imm}

-- what `encode` answers, by its clause
pub encoded : (i : Instr) (word : Option ℕ) → Fits (row_for i.op).form i → ((w : ℕ) → w < 2 ^ 32 → Means w i → word ≡ Some w) → word ≡ Some ((row_for i.op).bits + placed (row_for i.op).form i)
encoded i word fits only =
    only ((row_for i.op).bits + placed (row_for i.op).form i) (spelled_word i (row_for i.op) (sound_row_for i.op) fits) (means_of_fits i (row_for i.op) at_most_one_row (known_row i.op) (sound_row_for i.op) fits)

pub imm_fits : (half : ℕ) → half < 2 ^ 16 → Fits (row_for (imm half).op).form (imm half)
unfolding row_for rows
imm_fits half small = record { rd = omega arith; ra = omega arith; rb = omega arith; imm = small; flags = omega arith; letters = refl }

-- an instruction with the low half of a value
pub low_fits : (i low : Instr) (value : ℕ) → ((half : ℕ) → half < 2 ^ 16 → Fits (row_for i.op).form (record i { imm = half })) → low ≡ record i { imm = value % 2 ^ 16 } → Fits (row_for low.op).form low
low_fits i low value fits is = subst (λ (j : Instr). Fits (row_for j.op).form j) (sym is) (fits (value % 2 ^ 16) (omega arith))
