-- A field is read at the sum of the sizes before it.
use Rattle.std.proofs.Common.{◌≡◌, ℕ, ◌+◌, ◌*◌, ◌^◌, ◌<◌, List, [], ◌∷◌, ◌++◌, length, refl, sym, ap, ◌∙◌, subst, arith, append_assoc}
use Rattle.std.specs.Prelude.{flat_map}
use Rattle.core_regs.specs.declared.causes.Order.{Order}
use Rattle.core_regs.specs.declared.causes.Order.TheVariants.{Big, Little}
use Rattle.elf_image.specs.Fields.{half as half_at, word as word_at}
use Rattle.elf_image.specs.declared.image.Part.{Part}
use Rattle.elf_image.specs.declared.writing.Field.{Field}
use Rattle.elf_image.specs.Written.{HasHeader, HeaderReadsBack, bytes_of, file_of, header, loads_of, spelled}

-- fields joined are their bytes joined
pub spelled_append : (order : Order) (fs gs : List Field) → spelled order (fs ++ gs) ≡ spelled order fs ++ spelled order gs
unfolding spelled
spelled_append order [] gs = refl
spelled_append order (f ∷ fs) gs =
    ap (λ xs. bytes_of order f ++ xs) (spelled_append order fs gs) ∙ sym (append_assoc (bytes_of order f) (spelled order fs) (spelled order gs))

header_read : (order : Order) (entry count : ℕ) (rest : List ℕ) → entry < 2 ^ 32 → count < 2 ^ 16 → HasHeader order entry count (spelled order (header order entry count) ++ rest)
unfolding spelled header half_at word_at
header_read Big entry count rest small few =
    record { order = refl; type = refl; machine = refl; version = refl; entry = omega arith; table = refl; size = refl; count = omega arith }
header_read Little entry count rest small few =
    record { order = refl; type = refl; machine = refl; version = refl; entry = omega arith; table = refl; size = refl; count = omega arith }

pub header_reads_back : HeaderReadsBack
unfolding file_of
header_reads_back image small few =
    let front = spelled image.order (header image.order image.entry (length image.parts)) in
    let loads = spelled image.order (loads_of (52 + 32 * length image.parts) image.parts) in
    let rest = flat_map (λ (p : Part). p.bytes) image.parts in
    let split : file_of image ≡ front ++ (loads ++ rest) =
    ap (λ xs. xs ++ rest) (spelled_append image.order (header image.order image.entry (length image.parts)) (loads_of (52 + 32 * length image.parts) image.parts)) ∙ append_assoc front loads rest in
    subst (HasHeader image.order image.entry (length image.parts)) (sym split) (header_read image.order image.entry (length image.parts) (loads ++ rest) small few)
