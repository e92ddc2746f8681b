-- The words of pages: word 1,024 i + j is word j of page i.
use Rattle.std.proofs.Common.{arith, ap, sym, refl, ◌∙◌, ℕ, ◌≡◌, ◌+◌, ◌*◌, ◌-◌, ◌/◌, ◌%◌, ◌<◌, suc, zero, List, ◌∷◌, [], ◌++◌, length, take, drop, replicate}
use Rattle.std.specs.List.{All}
use Rattle.std.proofs.Math.ListN.{get_or, set}
use Rattle.std.proofs.lemmas.Grind.{flat_map-append}
use Rattle.std.proofs.lemmas.List.{length-append, length-take-le, set_split, set-get_or, set-append_left, set-append_right, replicate-append-replicate}
use Rattle.std.proofs.lemmas.List.Concat.{flat_map-cons, get_or-flat_map}
use Rattle.std.proofs.lemmas.List.Elements.{All-take}
use Rattle.byte_mem.specs.Words.{IsPage, words_of}

rest_whole : (p : List (List ℕ)) (ps : List (List (List ℕ))) → All IsPage (p ∷ ps) → All IsPage ps
rest_whole p ps whole k d within = whole (suc k) d (omega arith)

pub length_words : (ps : List (List (List ℕ))) → All IsPage ps → length (words_of ps) ≡ 1024 * length ps
length_words [] whole = refl
length_words (p ∷ ps) whole =
    let first : length p ≡ 1024 = whole 0 p (omega arith) in
    let others = length_words ps (rest_whole p ps whole) in
    rw (flat_map-cons (λ (page : List (List ℕ)). page) p ps) (omega (arith, length-append p (words_of ps)))

length_before : (ps : List (List (List ℕ))) (at : ℕ) → All IsPage ps → at / 1024 < length ps → length (words_of (take (at / 1024) ps)) + at % 1024 ≡ at
length_before ps at whole within =
    let joined = length_words (take (at / 1024) ps) (All-take IsPage (at / 1024) ps whole) in
    let taken = length-take-le (at / 1024) ps (omega arith) in
    omega arith

pub word_at : (ps : List (List (List ℕ))) (at : ℕ) (p : List (List ℕ)) (d : List ℕ) → All IsPage ps → at / 1024 < length ps
    → get_or (words_of ps) at d ≡ get_or (get_or ps (at / 1024) p) (at % 1024) d
word_at ps at p d whole within =
    let long : length (get_or ps (at / 1024) p) ≡ 1024 = whole (at / 1024) p within in
    ap (λ k. get_or (words_of ps) k d) (sym (length_before ps at whole within))
    ∙ get_or-flat_map (λ (page : List (List ℕ)). page) ps (at / 1024) (at % 1024) p d within (omega arith)

abbrev before : List (List (List ℕ)) → ℕ → List (List ℕ)
before ps at = words_of (take (at / 1024) ps)

abbrev after : List (List (List ℕ)) → ℕ → List (List ℕ)
after ps at = words_of (drop (suc (at / 1024)) ps)

with_page : (ps : List (List (List ℕ))) (at : ℕ) (p : List (List ℕ)) → at / 1024 < length ps
    → words_of (set ps (at / 1024) p) ≡ before ps at ++ (p ++ after ps at)
with_page ps at p within =
    ap words_of (set_split ps (at / 1024) p within)
    ∙ flat_map-append (λ (page : List (List ℕ)). page) (take (at / 1024) ps) (p ∷ drop (suc (at / 1024)) ps)
    ∙ ap (λ ws. before ps at ++ ws) (flat_map-cons (λ (page : List (List ℕ)). page) p (drop (suc (at / 1024)) ps))

pub set_word : (ps : List (List (List ℕ))) (at : ℕ) (w : List ℕ) (p : List (List ℕ)) → All IsPage ps → at / 1024 < length ps
    → words_of (set ps (at / 1024) (set (get_or ps (at / 1024) p) (at % 1024) w)) ≡ set (words_of ps) at w
set_word ps at w p whole within =
    let page : List (List ℕ) = get_or ps (at / 1024) p in
    let long : length page ≡ 1024 = whole (at / 1024) p within in
    let first = length_before ps at whole within in
    let there : at - length (before ps at) ≡ at % 1024 = omega arith in
    let parts : words_of ps ≡ before ps at ++ (page ++ after ps at) = ap words_of (sym (set-get_or ps (at / 1024) p)) ∙ with_page ps at page within in
    with_page ps at (set page (at % 1024) w) within
    ∙ ap (λ ws. before ps at ++ ws) (sym (set-append_left page (after ps at) (at % 1024) w (omega arith)))
    ∙ ap (λ k. before ps at ++ set (page ++ after ps at) k w) (sym there)
    ∙ sym (set-append_right (before ps at) (page ++ after ps at) (length (before ps at)) at w refl (omega arith))
    ∙ ap (λ ws. set ws at w) (sym parts)

pub same_words : (n : ℕ) (w : List ℕ) → words_of (replicate n (replicate 1024 w)) ≡ replicate (1024 * n) w
same_words zero w = refl
same_words (suc n) w =
    let more : 1024 + 1024 * n ≡ 1024 * suc n = omega arith in
    flat_map-cons (λ (page : List (List ℕ)). page) (replicate 1024 w) (replicate n (replicate 1024 w))
    ∙ ap (λ ws. replicate 1024 w ++ ws) (same_words n w)
    ∙ replicate-append-replicate 1024 (1024 * n) w
    ∙ ap (λ k. replicate k w) more
