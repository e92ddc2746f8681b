-- An image that can be loaded is read back from its file.
use Rattle.std.proofs.Common.{◌≡◌, ℕ, ◌+◌, ◌*◌, ◌%◌, ◌<◌, ◌≤◌, true, List, [], ◌∷◌, ◌++◌, length, get_or, refl, sym, ap, ◌∙◌, subst, arith}
use Rattle.std.specs.Prelude.{flat_map, ◌==◌}
use Rattle.std.specs.List.{list_any}
use Rattle.std.proofs.lemmas.Bool.{eq-eqb, lt-ltb, or_left}
use Rattle.elf_image.specs.Elf.{HasAddress, IsLoadable}
use Rattle.elf_image.specs.Fields.{e_entry, loads}
use Rattle.elf_image.specs.Tests.{has_bytes, header_tests, holds, load_tests, segment_tests}
use Rattle.elf_image.specs.declared.image.Image.{Image}
use Rattle.elf_image.specs.declared.image.Part.{Part}
use Rattle.elf_image.specs.Written.{AreWritable, HasHeader, ReadsBack, file_of}
use Rattle.elf_image.proofs.WrittenFields.{header_reads_back}
use Rattle.elf_image.proofs.WrittenLoads.{file_length, file_split, headers_from, image_reads_back, loads_read}
use Rattle.elf_image.proofs.WrittenTests.{IsElf, Pass, any_holds, header_passes, is_elf, overlaps_pass, pass_both, segments_pass}

some_has_bytes : (k place : ℕ) (parts : List Part) → 0 < length parts → AreWritable place parts → list_any has_bytes (headers_from k place parts) ≡ true
some_has_bytes k place [] some fits = absurd (omega arith)
some_has_bytes k place (p ∷ ps) some fits = or_left _ _ (lt-ltb 0 (length p.bytes + p.zeros) fits.3)

loads_pass : (size memory entry place : ℕ) (image : Image) → place + length (flat_map (λ (p : Part). p.bytes) image.parts) ≤ size → AreWritable place image.parts → IsLoadable memory image → image.entry ≡ entry
    → Pass (load_tests size memory entry (headers_from 0 place image.parts))
unfolding load_tests
loads_pass size memory entry place image in_file fits loadable same =
    let hs = headers_from 0 place image.parts in
    let j = loadable.entered.0 in
    let p = loadable.entered.1 in
    let within : HasAddress (get_or image.parts j p) entry = subst (λ (q : Part). HasAddress q entry) (sym loadable.entered.3) (subst (λ (n : ℕ). HasAddress p n) same loadable.entered.4) in
    let present : list_any has_bytes hs ≡ true = some_has_bytes 0 place image.parts (omega (arith, loadable.entered.2)) fits in
    let aligned : (entry % 4 == 0) ≡ true = eq-eqb _ _ (ap (λ n. n % 4) (sym same) ∙ loadable.aligned) in
    let held : list_any (holds entry) hs ≡ true = any_holds entry 0 place image.parts j p loadable.entered.2 within in
    pass_both (flat_map (segment_tests size memory) hs ++ _) _
    (pass_both (flat_map (segment_tests size memory) hs) _ (segments_pass size memory 0 place image.parts in_file loadable.fits)
    (rw present (overlaps_pass [] 0 place image.parts (λ i k offset d lt. refl) loadable.apart)))
    (rw (aligned, held) refl)

pub reads_back : ReadsBack
reads_back image memory fits loadable =
    let file = file_of image in
    let count = length image.parts in
    let h : HasHeader image.order image.entry count file = header_reads_back image fits.entry fits.count in
    let elf : IsElf file = subst IsElf (sym (file_split image)) (is_elf image.order image.entry count _) in
    let long : 52 + 32 * count ≤ length file = omega (arith, file_length image) in
    let in_file : 52 + 32 * count + length (flat_map (λ (p : Part). p.bytes) image.parts) ≤ length file = omega (arith, file_length image) in
    let heads : Pass (header_tests file) = header_passes file image.order image.entry count elf h long in
    let bodies : Pass (load_tests (length file) memory (e_entry file) (loads file)) =
    rw (loads_read image fits) (loads_pass (length file) memory (e_entry file) (52 + 32 * count) image in_file fits.parts loadable (sym h.entry)) in
    (pass_both (header_tests file) (load_tests (length file) memory (e_entry file) (loads file)) heads bodies, sym (image_reads_back image fits))
