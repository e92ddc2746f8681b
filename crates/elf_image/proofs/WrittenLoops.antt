-- What is written up to one item more of a list.
use Rattle.std.proofs.Common.{◌≡◌, ℕ, ◌+◌, ◌*◌, ◌<◌, ◌≤◌, ◌^◌, List, [], ◌∷◌, ◌++◌, length, drop, get_or, refl, sym, ap, ◌∙◌, arith, append_assoc, drop-cons, add-one, length-append}
use Rattle.std.specs.Prelude.{flat_map}
use Rattle.std.proofs.lemmas.List.{append-nil, drop_all}
use Rattle.core_regs.specs.declared.causes.Order.{Order}
use Rattle.elf_image.specs.declared.image.Image.{Image}
use Rattle.elf_image.specs.declared.image.Part.{Part}
use Rattle.elf_image.specs.declared.writing.Field.{Field}
use Rattle.elf_image.specs.Written.{bytes_of, file_of, header, load, loads_of, spelled}
use Rattle.elf_image.proofs.WrittenFields.{spelled_append}
use Rattle.elf_image.proofs.WrittenLoads.{file_length, file_split}

cut : {X : Type 0} (xs : List X) (k : ℕ) (d : X) → k < length xs → drop k xs ≡ get_or xs k d ∷ drop (k + 1) xs
cut xs k d within = drop-cons xs k d within ∙ ap (λ n. get_or xs k d ∷ drop n xs) (sym (add-one k))

-- what is behind is one piece more, which is written now
pub written_more : (old new piece behind left total : List ℕ) → old ++ behind ≡ total → behind ≡ piece ++ left → new ≡ old ++ piece → new ++ left ≡ total
written_more old new piece behind left total before split written =
    ap (λ xs. xs ++ left) written ∙ append_assoc old piece left ∙ ap (λ xs. old ++ xs) (sym split) ∙ before

pub fields_split : (order : Order) (fields : List Field) (k : ℕ) (d : Field) → k < length fields → spelled order (drop k fields) ≡ bytes_of order (get_or fields k d) ++ spelled order (drop (k + 1) fields)
unfolding spelled
fields_split order fields k d within = rw (cut fields k d within) refl

pub bytes_split : (parts : List Part) (k : ℕ) (p : Part) → k < length parts → get_or parts k p ≡ p
    → flat_map (λ (q : Part). q.bytes) (drop k parts) ≡ p.bytes ++ flat_map (λ (q : Part). q.bytes) (drop (k + 1) parts)
bytes_split parts k p within is = rw (cut parts k p within, is) refl

pub loads_split : (order : Order) (at : ℕ) (parts : List Part) (k : ℕ) (p : Part) → k < length parts → get_or parts k p ≡ p
    → spelled order (loads_of at (drop k parts)) ≡ spelled order (load at p) ++ spelled order (loads_of (at + length p.bytes) (drop (k + 1) parts))
unfolding loads_of
loads_split order at parts k p within is = rw (cut parts k p within, is) (spelled_append order (load at p) (loads_of (at + length p.bytes) (drop (k + 1) parts)))

-- behind the last item nothing is left
pub all_written : (old behind total : List ℕ) → old ++ behind ≡ total → behind ≡ [] → old ≡ total
all_written old behind total before none = sym (append-nil old) ∙ ap (λ xs. old ++ xs) (sym none) ∙ before

pub no_field : (order : Order) (fields : List Field) (k : ℕ) → length fields ≤ k → spelled order (drop k fields) ≡ []
unfolding spelled
no_field order fields k past = rw (drop_all k fields past) refl

pub no_byte : (parts : List Part) (k : ℕ) → length parts ≤ k → flat_map (λ (q : Part). q.bytes) (drop k parts) ≡ []
no_byte parts k past = rw (drop_all k parts past) refl

pub no_load : (order : Order) (at : ℕ) (parts : List Part) (k : ℕ) → length parts ≤ k → spelled order (loads_of at (drop k parts)) ≡ []
unfolding spelled loads_of
no_load order at parts k past = rw (drop_all k parts past) refl

-- room for the bytes of one part more
pub room_left : (parts : List Part) (k at n : ℕ) (p : Part) → k < length parts → get_or parts k p ≡ p → n ≡ length p.bytes
    → at + length (flat_map (λ (q : Part). q.bytes) (drop k parts)) < 2 ^ 32 → at + n + length (flat_map (λ (q : Part). q.bytes) (drop (k + 1) parts)) < 2 ^ 32
room_left parts k at n p within is same room =
    let left = flat_map (λ (q : Part). q.bytes) (drop (k + 1) parts) in
    let split : length (flat_map (λ (q : Part). q.bytes) (drop k parts)) ≡ length p.bytes + length left = ap length (bytes_split parts k p within is) ∙ length-append p.bytes left in
    omega arith

-- header, program headers and bytes are the file
whole : (image : Image) (headed loaded file : List ℕ) → headed ≡ spelled image.order (header image.order image.entry (length image.parts))
    → loaded ≡ headed ++ spelled image.order (loads_of (52 + 32 * length image.parts) image.parts)
    → file ≡ loaded ++ flat_map (λ (p : Part). p.bytes) image.parts → file ≡ file_of image
whole image headed loaded file head table bytes =
    let front = spelled image.order (header image.order image.entry (length image.parts)) in
    let loads = spelled image.order (loads_of (52 + 32 * length image.parts) image.parts) in
    let rest = flat_map (λ (p : Part). p.bytes) image.parts in
    bytes ∙ ap (λ xs. xs ++ rest) table ∙ ap (λ xs. (xs ++ loads) ++ rest) head ∙ append_assoc front loads rest ∙ sym (file_split image)

pub written_file : (image : Image) (parts : List Part) (count : ℕ) (head : List Field) (empty headed loaded file : List ℕ) → parts ≡ image.parts → count ≡ length parts
    → head ≡ header image.order image.entry (length parts) → empty ≡ [] → headed ≡ empty ++ spelled image.order head
    → loaded ≡ headed ++ spelled image.order (loads_of (52 + 32 * count) parts) → file ≡ loaded ++ flat_map (λ (p : Part). p.bytes) parts → file ≡ file_of image
written_file image parts count head empty headed loaded file same counted heads none first table bytes =
    let count_same : count ≡ length image.parts = counted ∙ ap length same in
    whole image headed loaded file
    (first ∙ ap (λ xs. xs ++ spelled image.order head) none ∙ ap (spelled image.order) heads ∙ ap (λ (ps : List Part). spelled image.order (header image.order image.entry (length ps))) same)
    (table ∙ ap (λ n. headed ++ spelled image.order (loads_of (52 + 32 * n) parts)) count_same ∙ ap (λ (ps : List Part). headed ++ spelled image.order (loads_of (52 + 32 * length image.parts) ps)) same)
    (bytes ∙ ap (λ (ps : List Part). loaded ++ flat_map (λ (p : Part). p.bytes) ps) same)

pub file_fits : (image : Image) (parts : List Part) (count : ℕ) → parts ≡ image.parts → count ≡ length parts → length (file_of image) < 2 ^ 32 → 52 + 32 * count + length (flat_map (λ (p : Part). p.bytes) parts) < 2 ^ 32
file_fits image parts count same counted fits =
    let count_same : count ≡ length image.parts = counted ∙ ap length same in
    let bytes_same : length (flat_map (λ (p : Part). p.bytes) parts) ≡ length (flat_map (λ (p : Part). p.bytes) image.parts) = ap (λ (ps : List Part). length (flat_map (λ (p : Part). p.bytes) ps)) same in
    omega (arith, file_length image)
