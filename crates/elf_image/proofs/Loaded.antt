-- The program headers that are loaded, and their parts, by one more.
use Rattle.std.proofs.Common.{◌≡◌, ℕ, ◌+◌, ◌<◌, take, get_or, length, List, [], ◌∷◌, ◌++◌, filter, ap, ap₂, sym, ◌∙◌, arith}
use Rattle.std.proofs.lemmas.Grind.{take_at_read}
use Rattle.std.proofs.lemmas.List.{map-append}
use Rattle.elf_image.specs.declared.image.Part.{Part}
use Rattle.std.proofs.lemmas.List.Elements.{filter-append}
use Rattle.std.proofs.lemmas.List.FromFn.{filter_of_map_range_with_len_more}
use Rattle.elf_image.specs.Elf.{part_of, parts_of}
use Rattle.elf_image.specs.Fields.{first_loads, is_load, program_header}
use Rattle.elf_image.specs.Tests.{has_bytes}
use Rattle.elf_image.specs.declared.segment.ProgramHeader.{ProgramHeader}

pub parts_more : (file : List ℕ) (hs gs : List ProgramHeader) → parts_of file (hs ++ gs) ≡ parts_of file hs ++ parts_of file gs
unfolding parts_of
parts_more file hs gs = rw (filter-append has_bytes hs gs) (map-append (part_of file) (filter has_bytes hs) (filter has_bytes gs))

pub loads_more : (file : List ℕ) (k : ℕ) (before after : List ProgramHeader) (h : ProgramHeader) → before ≡ first_loads file k → h ≡ program_header file k
    → after ≡ before ++ filter is_load (h ∷ []) → after ≡ first_loads file (k + 1)
loads_more file k before after h b e a =
    a ∙ ap₂ (λ (xs : List ProgramHeader) (x : ProgramHeader). xs ++ filter is_load (x ∷ [])) b e
    ∙ sym (filter_of_map_range_with_len_more is_load (program_header file) 0 k k (omega arith))

pub parts_next : (file : List ℕ) (hs : List ProgramHeader) (i : ℕ) (d : ProgramHeader) (before after : List Part) → i < length hs → before ≡ parts_of file (take i hs)
    → after ≡ before ++ parts_of file (get_or hs i d ∷ []) → after ≡ parts_of file (take (i + 1) hs)
parts_next file hs i d before after h b a =
    a ∙ ap (λ ps. ps ++ parts_of file (get_or hs i d ∷ [])) b
    ∙ sym (parts_more file (take i hs) (get_or hs i d ∷ [])) ∙ ap (parts_of file) (sym (take_at_read hs i d h).1)
