-- What is left of a word under the mask of each form.
use Rattle.std.proofs.Common.{◌≡◌, ℕ, ◌+◌, ◌-◌, ◌*◌, ◌/◌, ◌%◌, ◌^◌, ◌<◌, sym, ap, ◌∙◌, arith}
use Rattle.std.specs.Int.Bits.{bit_and}
use Rattle.std.proofs.lemmas.Nat.{and_block, and_mask, shr_split, mod_below, pow_pos}
use Rattle.std.proofs.lemmas.Nat.Bits.{and_high}
use Rattle.op_table.specs.declared.form.Form.{Form}
use Rattle.op_table.specs.declared.form.Form.TheVariants.{A, U, B, S, R, Rl, I, Il, Cr, Ci, M, N, T, E, G, P, Gd, Pd}
use Rattle.op_table.specs.Forms.{mask_of}

-- the bits of a word that its form keeps
abbrev pub kept : Form → ℕ → ℕ
kept A w = w / 2 ^ 26 * 2 ^ 26 + w % 2 ^ 11
kept U w = w / 2 ^ 26 * 2 ^ 26 + w % 2 ^ 16
kept B w = w / 2 ^ 26 * 2 ^ 26
kept S w = w / 2 ^ 26 * 2 ^ 26 + (w / 2 ^ 5 % 2 ^ 11) * 2 ^ 5
kept R w = w / 2 ^ 16 * 2 ^ 16 + w % 2 ^ 11
kept Rl w = w / 2 ^ 26 * 2 ^ 26 + (w / 2 ^ 16 % 2 ^ 5) * 2 ^ 16 + w % 2 ^ 11
kept I w = w / 2 ^ 16 * 2 ^ 16
kept Il w = w / 2 ^ 26 * 2 ^ 26 + (w / 2 ^ 16 % 2 ^ 5) * 2 ^ 16
kept Cr w = w / 2 ^ 21 * 2 ^ 21 + w % 2 ^ 11
kept Ci w = w / 2 ^ 21 * 2 ^ 21
kept M w = w / 2 ^ 26 * 2 ^ 26 + w % 2 ^ 21
kept N w = w / 2 ^ 26 * 2 ^ 26 + w % 2 ^ 21
kept T w = w / 2 ^ 21 * 2 ^ 21 + w % 2 ^ 16
kept E w = w / 2 ^ 26 * 2 ^ 26 + (w / 2 ^ 15 % 2 ^ 6) * 2 ^ 15
kept G w = w / 2 ^ 26 * 2 ^ 26 + (w / 2 ^ 15 % 2 ^ 6) * 2 ^ 15 + (w / 2 ^ 4 % 2 ^ 6) * 2 ^ 4
kept P w = w / 2 ^ 21 * 2 ^ 21 + (w / 2 ^ 15 % 2) * 2 ^ 15 + (w / 2 ^ 4 % 2 ^ 7) * 2 ^ 4
kept Gd w = w / 2 ^ 26 * 2 ^ 26 + (w / 2 ^ 16 % 2 ^ 5) * 2 ^ 16 + (w / 2 ^ 10 % 2) * 2 ^ 10 + w % 2 ^ 5
kept Pd w = w / 2 ^ 21 * 2 ^ 21 + (w / 2 ^ 10 % 2) * 2 ^ 10 + w % 2 ^ 6

-- a mask of a run of j ones above k zeros, and of other ones below it
run : (w j k low : ℕ) → low < 2 ^ k → bit_and w ((2 ^ j - 1) * 2 ^ k + low) ≡ (w / 2 ^ k % 2 ^ j) * 2 ^ k + bit_and (w % 2 ^ k) low
run w j k low lt =
    ap (λ n. bit_and n ((2 ^ j - 1) * 2 ^ k + low)) (sym (shr_split w k))
    ∙ and_block k (w / 2 ^ k) (2 ^ j - 1) (w % 2 ^ k) low (mod_below w (2 ^ k) (pow_pos k)) lt
    ∙ ap (λ n. n * 2 ^ k + bit_and (w % 2 ^ k) low) (and_mask (w / 2 ^ k) j)

-- so each form keeps of a word what `kept` says
pub and_is_kept : (f : Form) (w : ℕ) → w < 2 ^ 32 → bit_and w (mask_of f) ≡ kept f w
and_is_kept A w word =
    let run_0 : bit_and w ((2 ^ 6 - 1) * 2 ^ 26 + 2047) ≡ (w / 2 ^ 26 % 2 ^ 6) * 2 ^ 26 + bit_and (w % 2 ^ 26) 2047 = run w 6 26 2047 (omega arith) in
    let run_1 : bit_and (w % 2 ^ 26) (2 ^ 11 - 1) ≡ (w % 2 ^ 26) % 2 ^ 11 = and_mask (w % 2 ^ 26) 11 in
    omega arith
and_is_kept U w word =
    let run_0 : bit_and w ((2 ^ 6 - 1) * 2 ^ 26 + 65535) ≡ (w / 2 ^ 26 % 2 ^ 6) * 2 ^ 26 + bit_and (w % 2 ^ 26) 65535 = run w 6 26 65535 (omega arith) in
    let run_1 : bit_and (w % 2 ^ 26) (2 ^ 16 - 1) ≡ (w % 2 ^ 26) % 2 ^ 16 = and_mask (w % 2 ^ 26) 16 in
    omega arith
and_is_kept B w word =
    let run_0 : bit_and w (2 ^ 32 - 2 ^ 26) ≡ (w / 2 ^ 26 % 2 ^ 6) * 2 ^ 26 = and_high w 6 26 in
    omega arith
and_is_kept S w word =
    let run_0 : bit_and w ((2 ^ 6 - 1) * 2 ^ 26 + 65504) ≡ (w / 2 ^ 26 % 2 ^ 6) * 2 ^ 26 + bit_and (w % 2 ^ 26) 65504 = run w 6 26 65504 (omega arith) in
    let run_1 : bit_and (w % 2 ^ 26) (2 ^ 16 - 2 ^ 5) ≡ ((w % 2 ^ 26) / 2 ^ 5 % 2 ^ 11) * 2 ^ 5 = and_high (w % 2 ^ 26) 11 5 in
    omega arith
and_is_kept R w word =
    let run_0 : bit_and w ((2 ^ 16 - 1) * 2 ^ 16 + 2047) ≡ (w / 2 ^ 16 % 2 ^ 16) * 2 ^ 16 + bit_and (w % 2 ^ 16) 2047 = run w 16 16 2047 (omega arith) in
    let run_1 : bit_and (w % 2 ^ 16) (2 ^ 11 - 1) ≡ (w % 2 ^ 16) % 2 ^ 11 = and_mask (w % 2 ^ 16) 11 in
    omega arith
and_is_kept Rl w word =
    let run_0 : bit_and w ((2 ^ 6 - 1) * 2 ^ 26 + 2033663) ≡ (w / 2 ^ 26 % 2 ^ 6) * 2 ^ 26 + bit_and (w % 2 ^ 26) 2033663 = run w 6 26 2033663 (omega arith) in
    let run_1 : bit_and (w % 2 ^ 26) ((2 ^ 5 - 1) * 2 ^ 16 + 2047) ≡ ((w % 2 ^ 26) / 2 ^ 16 % 2 ^ 5) * 2 ^ 16 + bit_and ((w % 2 ^ 26) % 2 ^ 16) 2047 = run (w % 2 ^ 26) 5 16 2047 (omega arith) in
    let run_2 : bit_and (w % 2 ^ 26 % 2 ^ 16) (2 ^ 11 - 1) ≡ (w % 2 ^ 26 % 2 ^ 16) % 2 ^ 11 = and_mask (w % 2 ^ 26 % 2 ^ 16) 11 in
    omega arith
and_is_kept I w word =
    let run_0 : bit_and w (2 ^ 32 - 2 ^ 16) ≡ (w / 2 ^ 16 % 2 ^ 16) * 2 ^ 16 = and_high w 16 16 in
    omega arith
and_is_kept Il w word =
    let run_0 : bit_and w ((2 ^ 6 - 1) * 2 ^ 26 + 2031616) ≡ (w / 2 ^ 26 % 2 ^ 6) * 2 ^ 26 + bit_and (w % 2 ^ 26) 2031616 = run w 6 26 2031616 (omega arith) in
    let run_1 : bit_and (w % 2 ^ 26) (2 ^ 21 - 2 ^ 16) ≡ ((w % 2 ^ 26) / 2 ^ 16 % 2 ^ 5) * 2 ^ 16 = and_high (w % 2 ^ 26) 5 16 in
    omega arith
and_is_kept Cr w word =
    let run_0 : bit_and w ((2 ^ 11 - 1) * 2 ^ 21 + 2047) ≡ (w / 2 ^ 21 % 2 ^ 11) * 2 ^ 21 + bit_and (w % 2 ^ 21) 2047 = run w 11 21 2047 (omega arith) in
    let run_1 : bit_and (w % 2 ^ 21) (2 ^ 11 - 1) ≡ (w % 2 ^ 21) % 2 ^ 11 = and_mask (w % 2 ^ 21) 11 in
    omega arith
and_is_kept Ci w word =
    let run_0 : bit_and w (2 ^ 32 - 2 ^ 21) ≡ (w / 2 ^ 21 % 2 ^ 11) * 2 ^ 21 = and_high w 11 21 in
    omega arith
and_is_kept M w word =
    let run_0 : bit_and w ((2 ^ 6 - 1) * 2 ^ 26 + 2097151) ≡ (w / 2 ^ 26 % 2 ^ 6) * 2 ^ 26 + bit_and (w % 2 ^ 26) 2097151 = run w 6 26 2097151 (omega arith) in
    let run_1 : bit_and (w % 2 ^ 26) (2 ^ 21 - 1) ≡ (w % 2 ^ 26) % 2 ^ 21 = and_mask (w % 2 ^ 26) 21 in
    omega arith
and_is_kept N w word =
    let run_0 : bit_and w ((2 ^ 6 - 1) * 2 ^ 26 + 2097151) ≡ (w / 2 ^ 26 % 2 ^ 6) * 2 ^ 26 + bit_and (w % 2 ^ 26) 2097151 = run w 6 26 2097151 (omega arith) in
    let run_1 : bit_and (w % 2 ^ 26) (2 ^ 21 - 1) ≡ (w % 2 ^ 26) % 2 ^ 21 = and_mask (w % 2 ^ 26) 21 in
    omega arith
and_is_kept T w word =
    let run_0 : bit_and w ((2 ^ 11 - 1) * 2 ^ 21 + 65535) ≡ (w / 2 ^ 21 % 2 ^ 11) * 2 ^ 21 + bit_and (w % 2 ^ 21) 65535 = run w 11 21 65535 (omega arith) in
    let run_1 : bit_and (w % 2 ^ 21) (2 ^ 16 - 1) ≡ (w % 2 ^ 21) % 2 ^ 16 = and_mask (w % 2 ^ 21) 16 in
    omega arith
and_is_kept E w word =
    let run_0 : bit_and w ((2 ^ 6 - 1) * 2 ^ 26 + 2064384) ≡ (w / 2 ^ 26 % 2 ^ 6) * 2 ^ 26 + bit_and (w % 2 ^ 26) 2064384 = run w 6 26 2064384 (omega arith) in
    let run_1 : bit_and (w % 2 ^ 26) (2 ^ 21 - 2 ^ 15) ≡ ((w % 2 ^ 26) / 2 ^ 15 % 2 ^ 6) * 2 ^ 15 = and_high (w % 2 ^ 26) 6 15 in
    omega arith
and_is_kept G w word =
    let run_0 : bit_and w ((2 ^ 6 - 1) * 2 ^ 26 + 2065392) ≡ (w / 2 ^ 26 % 2 ^ 6) * 2 ^ 26 + bit_and (w % 2 ^ 26) 2065392 = run w 6 26 2065392 (omega arith) in
    let run_1 : bit_and (w % 2 ^ 26) ((2 ^ 6 - 1) * 2 ^ 15 + 1008) ≡ ((w % 2 ^ 26) / 2 ^ 15 % 2 ^ 6) * 2 ^ 15 + bit_and ((w % 2 ^ 26) % 2 ^ 15) 1008 = run (w % 2 ^ 26) 6 15 1008 (omega arith) in
    let run_2 : bit_and (w % 2 ^ 26 % 2 ^ 15) (2 ^ 10 - 2 ^ 4) ≡ ((w % 2 ^ 26 % 2 ^ 15) / 2 ^ 4 % 2 ^ 6) * 2 ^ 4 = and_high (w % 2 ^ 26 % 2 ^ 15) 6 4 in
    omega arith
and_is_kept P w word =
    let run_0 : bit_and w ((2 ^ 11 - 1) * 2 ^ 21 + 34800) ≡ (w / 2 ^ 21 % 2 ^ 11) * 2 ^ 21 + bit_and (w % 2 ^ 21) 34800 = run w 11 21 34800 (omega arith) in
    let run_1 : bit_and (w % 2 ^ 21) ((2 ^ 1 - 1) * 2 ^ 15 + 2032) ≡ ((w % 2 ^ 21) / 2 ^ 15 % 2 ^ 1) * 2 ^ 15 + bit_and ((w % 2 ^ 21) % 2 ^ 15) 2032 = run (w % 2 ^ 21) 1 15 2032 (omega arith) in
    let run_2 : bit_and (w % 2 ^ 21 % 2 ^ 15) (2 ^ 11 - 2 ^ 4) ≡ ((w % 2 ^ 21 % 2 ^ 15) / 2 ^ 4 % 2 ^ 7) * 2 ^ 4 = and_high (w % 2 ^ 21 % 2 ^ 15) 7 4 in
    omega arith
and_is_kept Gd w word =
    let run_0 : bit_and w ((2 ^ 6 - 1) * 2 ^ 26 + 2032671) ≡ (w / 2 ^ 26 % 2 ^ 6) * 2 ^ 26 + bit_and (w % 2 ^ 26) 2032671 = run w 6 26 2032671 (omega arith) in
    let run_1 : bit_and (w % 2 ^ 26) ((2 ^ 5 - 1) * 2 ^ 16 + 1055) ≡ ((w % 2 ^ 26) / 2 ^ 16 % 2 ^ 5) * 2 ^ 16 + bit_and ((w % 2 ^ 26) % 2 ^ 16) 1055 = run (w % 2 ^ 26) 5 16 1055 (omega arith) in
    let run_2 : bit_and (w % 2 ^ 26 % 2 ^ 16) ((2 ^ 1 - 1) * 2 ^ 10 + 31) ≡ ((w % 2 ^ 26 % 2 ^ 16) / 2 ^ 10 % 2 ^ 1) * 2 ^ 10 + bit_and ((w % 2 ^ 26 % 2 ^ 16) % 2 ^ 10) 31 = run (w % 2 ^ 26 % 2 ^ 16) 1 10 31 (omega arith) in
    let run_3 : bit_and (w % 2 ^ 26 % 2 ^ 16 % 2 ^ 10) (2 ^ 5 - 1) ≡ (w % 2 ^ 26 % 2 ^ 16 % 2 ^ 10) % 2 ^ 5 = and_mask (w % 2 ^ 26 % 2 ^ 16 % 2 ^ 10) 5 in
    omega arith
and_is_kept Pd w word =
    let run_0 : bit_and w ((2 ^ 11 - 1) * 2 ^ 21 + 1087) ≡ (w / 2 ^ 21 % 2 ^ 11) * 2 ^ 21 + bit_and (w % 2 ^ 21) 1087 = run w 11 21 1087 (omega arith) in
    let run_1 : bit_and (w % 2 ^ 21) ((2 ^ 1 - 1) * 2 ^ 10 + 63) ≡ ((w % 2 ^ 21) / 2 ^ 10 % 2 ^ 1) * 2 ^ 10 + bit_and ((w % 2 ^ 21) % 2 ^ 10) 63 = run (w % 2 ^ 21) 1 10 63 (omega arith) in
    let run_2 : bit_and (w % 2 ^ 21 % 2 ^ 10) (2 ^ 6 - 1) ≡ (w % 2 ^ 21 % 2 ^ 10) % 2 ^ 6 = and_mask (w % 2 ^ 21 % 2 ^ 10) 6 in
    omega arith
