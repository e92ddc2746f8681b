-- The words that a form spells: what is spelled reads back, and what is read is spelled so.
use Rattle.std.proofs.Common.{◌≡◌, ℕ, ◌+◌, ◌^◌, ◌<◌, refl, arith}
use Rattle.op_table.specs.declared.form.Form.{Form}
use Rattle.op_table.specs.declared.form.Form.TheVariants.{A}
use Rattle.op_table.specs.declared.op.Op.{Op}
use Rattle.mb_decode.specs.declared.instruction.Instr.{Instr}
use Rattle.mb_decode.specs.Meaning.{read, Fits, placed}
use Rattle.mb_decode.proofs.Masks.{kept}

abbrev Path_to : Instr → ℕ → ℕ → ℕ → ℕ → ℕ → Type 0
Path_to i rd ra rb imm flags = let made : Instr = record { op = i.op; rd = rd; ra = ra; rb = rb; imm = imm; flags = flags } in made ≡ i

-- an instruction is its fields
same_fields : (i : Instr) (rd ra rb imm flags : ℕ) → rd ≡ i.rd → ra ≡ i.ra → rb ≡ i.rb → imm ≡ i.imm → flags ≡ i.flags → Path_to i rd ra rb imm flags
same_fields i rd ra rb imm flags a b c d e = rw (a, b, c, d, e) refl

-- what is spelled is a word of the row's bits, and reads back
pub record Reads (f : Form) (bits : ℕ) (i : Instr) : Type 0 where
  pub word : bits + placed f i < 2 ^ 32
  pub row : kept f (bits + placed f i) ≡ bits
  pub fields : read f i.op (bits + placed f i) ≡ i

pub spelled_reads : (f : Form) (bits : ℕ) (i : Instr) → bits < 2 ^ 32 → kept f bits ≡ bits → Fits f i → Reads f bits i
spelled_reads A bits i word row fits =
    record {
      word = omega (arith, fits.rd, fits.ra, fits.rb, fits.imm, fits.flags, fits.letters);
      row = omega (arith, fits.rd, fits.ra, fits.rb, fits.imm, fits.flags, fits.letters);
      fields = same_fields i _ _ _ _ _ (omega (arith, fits.rd, fits.ra, fits.rb, fits.imm, fits.flags, fits.letters)) (omega (arith, fits.rd, fits.ra, fits.rb, fits.imm, fits.flags, fits.letters)) (omega (arith, fits.rd, fits.ra, fits.rb, fits.imm, fits.flags, fits.letters)) (omega (arith, fits.rd, fits.ra, fits.rb, fits.imm, fits.flags, fits.letters)) (omega (arith, fits.rd, fits.ra, fits.rb, fits.imm, fits.flags, fits.letters));
    }
spelled_reads _ bits i word row fits =
    record {
      word = omega (arith, fits.rd, fits.ra, fits.rb, fits.imm, fits.flags, fits.letters);
      row = omega (arith, fits.rd, fits.ra, fits.rb, fits.imm, fits.flags, fits.letters);
      fields = same_fields i _ _ _ _ _ (omega (arith, fits.rd, fits.ra, fits.rb, fits.imm, fits.flags, fits.letters)) (omega (arith, fits.rd, fits.ra, fits.rb, fits.imm, fits.flags, fits.letters)) (omega (arith, fits.rd, fits.ra, fits.rb, fits.imm, fits.flags, fits.letters)) (omega (arith, fits.rd, fits.ra, fits.rb, fits.imm, fits.flags, fits.letters)) (omega (arith, fits.rd, fits.ra, fits.rb, fits.imm, fits.flags, fits.letters));
    }

-- what is read of a row's word fits, and spells that word
pub record Spells (f : Form) (op : Op) (bits w : ℕ) : Type 0 where
  pub fits : Fits f (read f op w)
  pub word : bits + placed f (read f op w) ≡ w

pub read_spells : (f : Form) (op : Op) (bits w : ℕ) → w < 2 ^ 32 → kept f w ≡ bits → Spells f op bits w
read_spells A op bits w word row =
    record {
      fits = record { rd = omega arith; ra = omega arith; rb = omega arith; imm = omega arith; flags = omega arith; letters = omega arith };
      word = omega arith;
    }
read_spells _ op bits w word row =
    record {
      fits = record { rd = omega arith; ra = omega arith; rb = omega arith; imm = omega arith; flags = omega arith; letters = omega arith };
      word = omega arith;
    }
