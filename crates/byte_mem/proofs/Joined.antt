-- The bytes of words joined end to end: byte 4 k + j is byte j of word k.
use Rattle.std.proofs.Common.{arith, ap, sym, refl, ◌∙◌, ℕ, ◌≡◌, ◌+◌, ◌*◌, ◌/◌, ◌%◌, ◌≤◌, ◌<◌, suc, List, ◌∷◌, [], ◌++◌, length, take, drop, slice_range, slice_get, replicate, zero, Some, None}
use Rattle.std.specs.List.{concat, All}
use Rattle.std.proofs.Math.ListN.{get_or, set}
use Rattle.std.proofs.lemmas.List.{length-append, length-take-le, get_or-append-add, get_or_append_left, set_split, set-get_or, replicate-append-replicate, append-nil, drop_all}
use Rattle.std.proofs.lemmas.List.Elements.{All-take}
use Rattle.std.proofs.lemmas.List.Folds.{concat-append}
use Rattle.std.proofs.lemmas.Option.{slice_get-get_or, slice_get_past}
use Rattle.byte_mem.specs.Access.{overwritten}
use Rattle.byte_mem.specs.Words.{IsWord}
use Rattle.byte_mem.proofs.Overwriting.{range_inside, overwritten_inside, overwritten_within}

rest_whole : (w : List ℕ) (ws : List (List ℕ)) → All IsWord (w ∷ ws) → All IsWord ws
rest_whole w ws whole k d within = whole (suc k) d (omega arith)

pub length_joined : (ws : List (List ℕ)) → All IsWord ws → length (concat ws) ≡ 4 * length ws
length_joined [] whole = refl
length_joined (w ∷ ws) whole =
    let first : length w ≡ 4 = whole 0 w (omega arith) in
    let others = length_joined ws (rest_whole w ws whole) in
    omega (arith, length-append w (concat ws))

-- the bytes before the word that has an address, and those after it
abbrev before : List (List ℕ) → ℕ → List ℕ
before ws addr = concat (take (addr / 4) ws)

abbrev after : List (List ℕ) → ℕ → List ℕ
after ws addr = concat (drop (suc (addr / 4)) ws)

length_before : (ws : List (List ℕ)) (addr : ℕ) → All IsWord ws → addr / 4 < length ws → length (before ws addr) + addr % 4 ≡ addr
length_before ws addr whole within =
    let joined = length_joined (take (addr / 4) ws) (All-take IsWord (addr / 4) ws whole) in
    let taken = length-take-le (addr / 4) ws (omega arith) in
    omega arith

with_word : (ws : List (List ℕ)) (addr : ℕ) (w : List ℕ) → addr / 4 < length ws
    → concat (set ws (addr / 4) w) ≡ before ws addr ++ (w ++ after ws addr)
with_word ws addr w within =
    ap concat (set_split ws (addr / 4) w within) ∙ concat-append (take (addr / 4) ws) (w ∷ drop (suc (addr / 4)) ws)

parts : (ws : List (List ℕ)) (addr : ℕ) (d : List ℕ) → addr / 4 < length ws
    → concat ws ≡ before ws addr ++ (get_or ws (addr / 4) d ++ after ws addr)
parts ws addr d within =
    ap concat (sym (set-get_or ws (addr / 4) d)) ∙ with_word ws addr (get_or ws (addr / 4) d) within

pub range_joined : (ws : List (List ℕ)) (addr count : ℕ) (d : List ℕ) → All IsWord ws → addr / 4 < length ws → addr % 4 + count ≤ 4
    → slice_range (concat ws) addr (addr + count) ≡ slice_range (get_or ws (addr / 4) d) (addr % 4) (addr % 4 + count)
range_joined ws addr count d whole within inside =
    let four : length (get_or ws (addr / 4) d) ≡ 4 = whole (addr / 4) d within in
    ap (λ m. slice_range m addr (addr + count)) (parts ws addr d within)
    ∙ ap (λ a. slice_range (before ws addr ++ (get_or ws (addr / 4) d ++ after ws addr)) a (a + count)) (sym (length_before ws addr whole within))
    ∙ range_inside (before ws addr) (get_or ws (addr / 4) d) (after ws addr) (addr % 4) count (omega arith)

pub overwritten_joined : (ws : List (List ℕ)) (addr : ℕ) (bytes d : List ℕ) → All IsWord ws → addr / 4 < length ws → addr % 4 + length bytes ≤ 4
    → concat (set ws (addr / 4) (overwritten (get_or ws (addr / 4) d) (addr % 4) bytes)) ≡ overwritten (concat ws) addr bytes
overwritten_joined ws addr bytes d whole within inside =
    let four : length (get_or ws (addr / 4) d) ≡ 4 = whole (addr / 4) d within in
    with_word ws addr (overwritten (get_or ws (addr / 4) d) (addr % 4) bytes) within
    ∙ sym (overwritten_inside (before ws addr) (get_or ws (addr / 4) d) (after ws addr) (addr % 4) bytes (omega arith))
    ∙ ap (λ a. overwritten (before ws addr ++ (get_or ws (addr / 4) d ++ after ws addr)) a bytes) (length_before ws addr whole within)
    ∙ ap (λ m. overwritten m addr bytes) (sym (parts ws addr d within))

pub word_joined : (ws : List (List ℕ)) (k : ℕ) (w : List ℕ) → All IsWord ws → length w ≡ 4 → k < length ws
    → concat (set ws k w) ≡ overwritten (concat ws) (4 * k) w
word_joined ws k w whole four within =
    let old : List ℕ = get_or ws k w in
    let long : length old ≡ 4 = whole k w within in
    let quotient : 4 * k / 4 ≡ k = omega arith in
    let rest : 4 * k % 4 ≡ 0 = omega arith in
    let all : overwritten old 0 w ≡ w = overwritten_within old 0 w (omega arith) ∙ ap (λ t. w ++ t) (drop_all (0 + length w) old (omega arith)) ∙ append-nil w in
    let there = overwritten_joined ws (4 * k) w w whole (omega arith) (omega arith) in
    ap (λ v. concat (set ws k v)) (sym all) ∙ (rw (quotient, rest) at there)

pub get_joined : (ws : List (List ℕ)) (addr : ℕ) (d : List ℕ) → All IsWord ws → addr / 4 < length ws
    → slice_get (concat ws) addr ≡ Some (get_or (get_or ws (addr / 4) d) (addr % 4) 0)
get_joined ws addr d whole within =
    let four : length (get_or ws (addr / 4) d) ≡ 4 = whole (addr / 4) d within in
    let long = length_joined ws whole in
    let bytes : get_or (concat ws) addr 0 ≡ get_or (get_or ws (addr / 4) d) (addr % 4) 0 =
    ap (λ m. get_or m addr 0) (parts ws addr d within)
    ∙ ap (λ a. get_or (before ws addr ++ (get_or ws (addr / 4) d ++ after ws addr)) a 0) (sym (length_before ws addr whole within))
    ∙ get_or-append-add (before ws addr) (get_or ws (addr / 4) d ++ after ws addr) (addr % 4) 0
    ∙ get_or_append_left (get_or ws (addr / 4) d) (after ws addr) 0 (addr % 4) (omega arith) in
    slice_get-get_or (concat ws) addr 0 (omega arith) ∙ ap Some bytes

pub get_past : (ws : List (List ℕ)) (addr : ℕ) → All IsWord ws → length ws ≤ addr / 4 → slice_get (concat ws) addr ≡ None
get_past ws addr whole past =
    let long = length_joined ws whole in
    slice_get_past (concat ws) addr (omega arith)

pub zeros_joined : (n : ℕ) → concat (replicate n (0 ∷ 0 ∷ 0 ∷ 0 ∷ [])) ≡ replicate (4 * n) 0
zeros_joined zero = refl
zeros_joined (suc n) =
    let more : 4 + 4 * n ≡ 4 * suc n = omega arith in
    ap (λ xs. replicate 4 0 ++ xs) (zeros_joined n) ∙ replicate-append-replicate 4 (4 * n) 0 ∙ ap (λ k. replicate k 0) more
