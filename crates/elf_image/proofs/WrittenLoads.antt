-- The program headers of a written file are those of its parts.
use Rattle.std.proofs.Common.{◌≡◌, ℕ, ◌+◌, ◌-◌, ◌*◌, ◌%◌, ◌^◌, ◌<◌, Bool, true, false, List, [], ◌∷◌, ◌++◌, length, drop, take, refl, sym, ap, ◌∙◌, arith, append_assoc, zero-add, suc-add, length-append}
use Rattle.std.specs.Prelude.{flat_map, map, filter, if◌then◌else◌, ◌==◌}
use Rattle.std.specs.List.{range_with_len}
use Rattle.std.proofs.lemmas.Bool.{lt-ltb}
use Rattle.core_regs.specs.declared.causes.Order.{Order}
use Rattle.core_regs.specs.declared.causes.Order.TheVariants.{Big, Little}
use Rattle.elf_image.specs.Fields.{e_phoff, header_at, is_load, loads, number_at, order_of, program_header, word as word_at}
use Rattle.elf_image.specs.Elf.{part_of, parts_of}
use Rattle.elf_image.specs.Tests.{has_bytes}
use Rattle.std.proofs.lemmas.List.{append-nil}
use Rattle.elf_image.specs.declared.image.Image.{Image}
use Rattle.elf_image.specs.declared.image.Part.{Part}
use Rattle.elf_image.specs.declared.segment.ProgramHeader.{ProgramHeader}
use Rattle.elf_image.specs.Written.{AreWritable, HasHeader, ImageReadsBack, IsWritable, file_of, header, load, loads_of, spelled}
use Rattle.elf_image.specs.declared.writing.Field.TheVariants.{Word}
use Rattle.elf_image.proofs.WrittenFields.{header_reads_back, spelled_append}

abbrev pub header_of : ℕ → ℕ → Part → ProgramHeader
header_of k place p = record { index = k; p_type = 1; p_offset = place; p_vaddr = p.addr; p_filesz = length p.bytes; p_memsz = length p.bytes + p.zeros; p_flags = if p.code then 5 else 6 }

abbrev pub headers_from : ℕ → ℕ → List Part → List ProgramHeader
headers_from k place [] = []
headers_from k place (p ∷ ps) = header_of k place p ∷ headers_from (k + 1) (place + length p.bytes) ps

-- ---- a number behind a front

drop_front : (front xs : List ℕ) (j : ℕ) → drop (length front + j) (front ++ xs) ≡ drop j xs
drop_front [] xs j = rw zero-add refl
drop_front (x ∷ front) xs j = rw suc-add (drop_front front xs j)

number_behind : (order : Order) (front xs : List ℕ) (j : ℕ) → number_at order 4 (length front + j) (front ++ xs) ≡ number_at order 4 j xs
number_behind Big front xs j = rw drop_front refl
number_behind Little front xs j = rw drop_front refl

-- ---- the words of one program header

eight : Order → ℕ → ℕ → ℕ → ℕ → ℕ → ℕ → ℕ → ℕ → List ℕ → List ℕ
eight order a b c d e f g h rest = spelled order (Word a ∷ Word b ∷ Word c ∷ Word d ∷ Word e ∷ Word f ∷ Word g ∷ Word h ∷ []) ++ rest

record AreEight (order : Order) (a b c e f g : ℕ) (bytes : List ℕ) : Type 0 where
  type : number_at order 4 0 bytes ≡ a
  offset : number_at order 4 4 bytes ≡ b
  vaddr : number_at order 4 8 bytes ≡ c
  filesz : number_at order 4 16 bytes ≡ e
  memsz : number_at order 4 20 bytes ≡ f
  flags : number_at order 4 24 bytes ≡ g

eight_read : (order : Order) (a b c d e f g h : ℕ) (rest : List ℕ) → a < 2 ^ 32 → b < 2 ^ 32 → c < 2 ^ 32 → e < 2 ^ 32 → f < 2 ^ 32 → g < 2 ^ 32 → AreEight order a b c e f g (eight order a b c d e f g h rest)
unfolding eight spelled
eight_read Big a b c d e f g h rest sa sb sc se sf sg = record { type = omega arith; offset = omega arith; vaddr = omega arith; filesz = omega arith; memsz = omega arith; flags = omega arith }
eight_read Little a b c d e f g h rest sa sb sc se sf sg = record { type = omega arith; offset = omega arith; vaddr = omega arith; filesz = omega arith; memsz = omega arith; flags = omega arith }

flags_small : (b : Bool) → (if b then 5 else 6) < 2 ^ 32
flags_small true = omega arith
flags_small false = omega arith

load_read : (order : Order) (place : ℕ) (p : Part) (rest : List ℕ) → place < 2 ^ 32 → p.addr < 2 ^ 32 → length p.bytes + p.zeros < 2 ^ 32
    → AreEight order 1 place p.addr (length p.bytes) (length p.bytes + p.zeros) (if p.code then 5 else 6) (spelled order (load place p) ++ rest)
unfolding load eight
load_read order place p rest sp sa sm = eight_read order 1 place p.addr p.addr (length p.bytes) (length p.bytes + p.zeros) (if p.code then 5 else 6) 1 rest (omega arith) sp sa (omega arith) sm (flags_small p.code)

word_behind : (file front xs : List ℕ) (order : Order) (at j : ℕ) → order_of file ≡ order → file ≡ front ++ xs → at ≡ length front + j → word_at file at ≡ number_at order 4 j xs
unfolding word_at
word_behind file front xs order at j same split here =
    rw (same, here) (ap (number_at order 4 (length front + j)) split ∙ number_behind order front xs j)

header_read : (file front : List ℕ) (order : Order) (k at place : ℕ) (p : Part) (rest : List ℕ) → order_of file ≡ order → file ≡ front ++ (spelled order (load place p) ++ rest) → at ≡ length front
    → place < 2 ^ 32 → p.addr < 2 ^ 32 → length p.bytes + p.zeros < 2 ^ 32 → header_at file k at ≡ header_of k place p
header_read file front order k at place p rest same split here sp sa sm =
    let xs = spelled order (load place p) ++ rest in
    let r : AreEight order 1 place p.addr (length p.bytes) (length p.bytes + p.zeros) (if p.code then 5 else 6) xs = load_read order place p rest sp sa sm in
    let a : word_at file at ≡ 1 = word_behind file front xs order at 0 same split (omega arith) ∙ r.type in
    let b : word_at file (at + 4) ≡ place = word_behind file front xs order (at + 4) 4 same split (omega arith) ∙ r.offset in
    let c : word_at file (at + 8) ≡ p.addr = word_behind file front xs order (at + 8) 8 same split (omega arith) ∙ r.vaddr in
    let e : word_at file (at + 16) ≡ length p.bytes = word_behind file front xs order (at + 16) 16 same split (omega arith) ∙ r.filesz in
    let f : word_at file (at + 20) ≡ length p.bytes + p.zeros = word_behind file front xs order (at + 20) 20 same split (omega arith) ∙ r.memsz in
    let g : word_at file (at + 24) ≡ (if p.code then 5 else 6) = word_behind file front xs order (at + 24) 24 same split (omega arith) ∙ r.flags in
    λ i. record { index = k; p_type = a i; p_offset = b i; p_vaddr = c i; p_filesz = e i; p_memsz = f i; p_flags = g i }

length_load : (order : Order) (place : ℕ) (p : Part) → length (spelled order (load place p)) ≡ 32
unfolding spelled load
length_load Big place p = refl
length_load Little place p = refl

pub headers_read : (file : List ℕ) (order : Order) (parts : List Part) (k place : ℕ) (front rest : List ℕ) → order_of file ≡ order → e_phoff file ≡ 52 → file ≡ front ++ (spelled order (loads_of place parts) ++ rest) → length front ≡ 52 + 32 * k → AreWritable place parts
    → map (program_header file) (range_with_len k (length parts)) ≡ headers_from k place parts
unfolding program_header loads_of
headers_read file order [] k place front rest same table split here fits = refl
headers_read file order (p ∷ ps) k place front rest same table split here fits =
    let ls = spelled order (load place p) in
    let more = spelled order (loads_of (place + length p.bytes) ps) in
    let joined : file ≡ front ++ (ls ++ (more ++ rest)) = split ∙ ap (λ xs. front ++ (xs ++ rest)) (spelled_append order (load place p) (loads_of (place + length p.bytes) ps)) ∙ ap (λ xs. front ++ xs) (append_assoc ls more rest) in
    let next : file ≡ (front ++ ls) ++ (more ++ rest) = joined ∙ sym (append_assoc front ls (more ++ rest)) in
    let at : e_phoff file + 32 * k ≡ length front = omega arith in
    let one : header_at file k (e_phoff file + 32 * k) ≡ header_of k place p = header_read file front order k (e_phoff file + 32 * k) place p (more ++ rest) same joined at fits.0 fits.1 fits.2 in
    let longer : length (front ++ ls) ≡ 52 + 32 * (k + 1) = length-append front ls ∙ omega (arith, length_load order place p) in
    let others = headers_read file order ps (k + 1) (place + length p.bytes) (front ++ ls) rest same table next longer fits.4 in
    λ i. one i ∷ others i

-- all of them are loaded, and have bytes in memory
pub all_load : (k place : ℕ) (parts : List Part) → filter is_load (headers_from k place parts) ≡ headers_from k place parts
all_load k place [] = refl
all_load k place (p ∷ ps) = ap (λ hs. header_of k place p ∷ hs) (all_load (k + 1) (place + length p.bytes) ps)

all_have_bytes : (k place : ℕ) (parts : List Part) → AreWritable place parts → filter has_bytes (headers_from k place parts) ≡ headers_from k place parts
all_have_bytes k place [] fits = refl
all_have_bytes k place (p ∷ ps) fits =
    rw (lt-ltb 0 (length p.bytes + p.zeros) fits.3) (ap (λ hs. header_of k place p ∷ hs) (all_have_bytes (k + 1) (place + length p.bytes) ps fits.4))

take_front : (xs ys : List ℕ) → take (length xs) (xs ++ ys) ≡ xs
take_front [] ys = refl
take_front (x ∷ xs) ys = ap (λ zs. x ∷ zs) (take_front xs ys)

drop_exactly : (front xs : List ℕ) → drop (length front) (front ++ xs) ≡ xs
drop_exactly [] xs = refl
drop_exactly (x ∷ front) xs = drop_exactly front xs

code_read : (b : Bool) → ((if b then 5 else 6) % 2 == 1) ≡ b
code_read true = refl
code_read false = refl

part_read : (file front rest : List ℕ) (k place : ℕ) (p : Part) → file ≡ front ++ (p.bytes ++ rest) → length front ≡ place → part_of file (header_of k place p) ≡ p
part_read file front rest k place p split here =
    let start : drop place file ≡ p.bytes ++ rest = rw (← here, split) (drop_exactly front (p.bytes ++ rest)) in
    let bytes : take (length p.bytes) (drop place file) ≡ p.bytes = rw start (take_front p.bytes rest) in
    let zeros : length p.bytes + p.zeros - length p.bytes ≡ p.zeros = omega arith in
    let code = code_read p.code in
    λ i. record { addr = p.addr; bytes = bytes i; zeros = zeros i; code = code i }

parts_read : (file : List ℕ) (parts : List Part) (k place : ℕ) (front rest : List ℕ) → file ≡ front ++ (flat_map (λ (p : Part). p.bytes) parts ++ rest) → length front ≡ place
    → map (part_of file) (headers_from k place parts) ≡ parts
parts_read file [] k place front rest split here = refl
parts_read file (p ∷ ps) k place front rest split here =
    let others_bytes = flat_map (λ (q : Part). q.bytes) ps in
    let joined : file ≡ front ++ (p.bytes ++ (others_bytes ++ rest)) = split ∙ ap (λ xs. front ++ xs) (append_assoc p.bytes others_bytes rest) in
    let next : file ≡ (front ++ p.bytes) ++ (others_bytes ++ rest) = joined ∙ sym (append_assoc front p.bytes (others_bytes ++ rest)) in
    let longer : length (front ++ p.bytes) ≡ place + length p.bytes = length-append front p.bytes ∙ ap (λ n. n + length p.bytes) here in
    let one = part_read file front (others_bytes ++ rest) k place p joined here in
    let others = parts_read file ps (k + 1) (place + length p.bytes) (front ++ p.bytes) rest next longer in
    λ i. one i ∷ others i

length_loads : (order : Order) (place : ℕ) (parts : List Part) → length (spelled order (loads_of place parts)) ≡ 32 * length parts
unfolding loads_of spelled
length_loads order place [] = refl
length_loads order place (p ∷ ps) =
    ap length (spelled_append order (load place p) (loads_of (place + length p.bytes) ps))
    ∙ length-append (spelled order (load place p)) (spelled order (loads_of (place + length p.bytes) ps))
    ∙ omega (arith, length_load order place p, length_loads order (place + length p.bytes) ps)

length_header : (order : Order) (entry count : ℕ) → length (spelled order (header order entry count)) ≡ 52
unfolding header spelled
length_header Big entry count = refl
length_header Little entry count = refl

-- the file in its three stretches
pub file_split : (image : Image) → file_of image ≡ spelled image.order (header image.order image.entry (length image.parts))
    ++ (spelled image.order (loads_of (52 + 32 * length image.parts) image.parts) ++ flat_map (λ (p : Part). p.bytes) image.parts)
unfolding file_of
file_split image =
    let front = spelled image.order (header image.order image.entry (length image.parts)) in
    let table = spelled image.order (loads_of (52 + 32 * length image.parts) image.parts) in
    let bytes = flat_map (λ (p : Part). p.bytes) image.parts in
    ap (λ xs. xs ++ bytes) (spelled_append image.order (header image.order image.entry (length image.parts)) (loads_of (52 + 32 * length image.parts) image.parts)) ∙ append_assoc front table bytes

pub file_length : (image : Image) → length (file_of image) ≡ 52 + 32 * length image.parts + length (flat_map (λ (p : Part). p.bytes) image.parts)
file_length image =
    let front = spelled image.order (header image.order image.entry (length image.parts)) in
    let table = spelled image.order (loads_of (52 + 32 * length image.parts) image.parts) in
    let bytes = flat_map (λ (p : Part). p.bytes) image.parts in
    ap length (file_split image) ∙ length-append front (table ++ bytes)
    ∙ omega (arith, length-append table bytes, length_header image.order image.entry (length image.parts), length_loads image.order (52 + 32 * length image.parts) image.parts)

-- the program headers of the file are those of the parts
pub loads_read : (image : Image) → IsWritable image → loads (file_of image) ≡ headers_from 0 (52 + 32 * length image.parts) image.parts
loads_read image fits =
    let file = file_of image in
    let order = image.order in
    let count = length image.parts in
    let h : HasHeader order image.entry count file = header_reads_back image fits.entry fits.count in
    let heads : map (program_header file) (range_with_len 0 count) ≡ headers_from 0 (52 + 32 * count) image.parts =
    headers_read file order image.parts 0 (52 + 32 * count) (spelled order (header order image.entry count)) (flat_map (λ (p : Part). p.bytes) image.parts) h.order h.table (file_split image) (length_header order image.entry count) fits.parts in
    ap (λ n. filter is_load (map (program_header file) (range_with_len 0 n))) h.count ∙ ap (filter is_load) heads ∙ all_load 0 (52 + 32 * count) image.parts

pub image_reads_back : ImageReadsBack
unfolding parts_of
image_reads_back image fits =
    let file = file_of image in
    let count = length image.parts in
    let front = spelled image.order (header image.order image.entry count) in
    let table = spelled image.order (loads_of (52 + 32 * count) image.parts) in
    let bytes = flat_map (λ (p : Part). p.bytes) image.parts in
    let h : HasHeader image.order image.entry count file = header_reads_back image fits.entry fits.count in
    let joined : file ≡ (front ++ table) ++ (bytes ++ []) = file_split image ∙ sym (append_assoc front table bytes) ∙ ap (λ xs. (front ++ table) ++ xs) (sym (append-nil bytes)) in
    let behind : length (front ++ table) ≡ 52 + 32 * count = length-append front table ∙ omega (arith, length_header image.order image.entry count, length_loads image.order (52 + 32 * count) image.parts) in
    let read : map (part_of file) (filter has_bytes (loads file)) ≡ image.parts =
    ap (λ hs. map (part_of file) (filter has_bytes hs)) (loads_read image fits)
    ∙ ap (map (part_of file)) (all_have_bytes 0 (52 + 32 * count) image.parts fits.parts)
    ∙ parts_read file image.parts 0 (52 + 32 * count) (front ++ table) [] joined behind in
    let o = h.order in
    let e = h.entry in
    λ i. record { order = o i; entry = e i; parts = read i }
