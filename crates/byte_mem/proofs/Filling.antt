-- Bytes that are written one piece after another.
use Rattle.std.proofs.Common.{arith, ap, sym, refl, ◌∙◌, ℕ, ◌≡◌, ◌+◌, ◌*◌, ◌≤◌, ◌<◌, suc, zero, List, ◌∷◌, [], ◌++◌, length, take, drop}
use Rattle.std.specs.List.{concat, All}
use Rattle.std.specs.Simd.{first_chunks}
use Rattle.std.proofs.Math.ListN.{get_or}
use Rattle.std.proofs.Math.Numerals.{add-one}
use Rattle.std.proofs.Math.Seq.{paste, take-add, take-suc}
use Rattle.std.proofs.lemmas.Bool.{cond_both}
use Rattle.std.proofs.lemmas.List.{append-nil, append_assoc, length-append, length-take-le, take-append-drop, take_all}
use Rattle.std.proofs.lemmas.List.Edits.{paste-paste}
use Rattle.std.proofs.lemmas.List.Elements.{All-take}
use Rattle.std.proofs.lemmas.List.Folds.{concat-append}
use Rattle.byte_mem.specs.Access.{fits, overwritten}
use Rattle.byte_mem.specs.Words.{IsWord}
use Rattle.byte_mem.proofs.Joined.{length_joined}
use Rattle.byte_mem.proofs.Overwriting.{length_overwritten, overwritten_within}

pasted : (m : List ℕ) (at : ℕ) (bytes : List ℕ) → at + length bytes ≤ length m → overwritten m at bytes ≡ paste m at bytes (length bytes)
pasted m at bytes within =
    overwritten_within m at bytes within
    ∙ ap (λ t. take at m ++ t ++ drop (at + length bytes) m) (sym (take_all (length bytes) bytes (omega arith)))

-- no bytes
pub overwritten_none : (m : List ℕ) (at : ℕ) → overwritten m at [] ≡ m
overwritten_none m at =
    cond_both (fits m at 0) (take at m ++ [] ++ drop (at + 0) m) m (λ new. new ≡ m) (λ _. same) (λ _. refl)
  where
    same : take at m ++ [] ++ drop (at + 0) m ≡ m
    same =
        let here : at + 0 ≡ at = omega arith in
        ap (λ t. t ++ drop (at + 0) m) (append-nil (take at m)) ∙ ap (λ a. take at m ++ drop a m) here ∙ take-append-drop at m

-- two pieces, one behind the other
pub overwritten_twice : (m : List ℕ) (at : ℕ) (a b : List ℕ) → at + length a + length b ≤ length m
    → overwritten (overwritten m at a) (at + length a) b ≡ overwritten m at (a ++ b)
overwritten_twice m at a b within =
    let both = length-append a b in
    let same = length_overwritten m at a in
    pasted (overwritten m at a) (at + length a) b (omega arith)
    ∙ ap (λ new. paste new (at + length a) b (length b)) (pasted m at a (omega arith))
    ∙ paste-paste m at a b (length a) (length b) refl refl (omega arith)
    ∙ ap (λ n. paste m at (a ++ b) n) (sym both)
    ∙ sym (pasted m at (a ++ b) (omega arith))

-- one byte more
pub byte_more : (m : List ℕ) (at : ℕ) (bytes : List ℕ) (k d : ℕ) → at + length bytes ≤ length m → k < length bytes
    → overwritten (overwritten m at (take k bytes)) (at + k) (get_or bytes k d ∷ []) ≡ overwritten m at (take (k + 1) bytes)
byte_more m at bytes k d within is_there =
    let taken = length-take-le k bytes (omega arith) in
    ap (λ a. overwritten (overwritten m at (take k bytes)) (at + a) (get_or bytes k d ∷ [])) (sym taken)
    ∙ overwritten_twice m at (take k bytes) (get_or bytes k d ∷ []) (omega arith)
    ∙ ap (overwritten m at) (sym (take-suc bytes k d is_there))
    ∙ ap (λ n. overwritten m at (take n bytes)) (sym (add-one k))

-- one word more
pub word_more : (m : List ℕ) (at : ℕ) (words : List (List ℕ)) (k : ℕ) (d : List ℕ) → All IsWord words → at + 4 * length words ≤ length m → k < length words
    → overwritten (overwritten m at (concat (take k words))) (at + 4 * k) (get_or words k d) ≡ overwritten m at (concat (take (k + 1) words))
word_more m at words k d whole within is_there =
    let taken = length-take-le k words (omega arith) in
    let joined = length_joined (take k words) (All-take IsWord k words whole) in
    let long : length (concat (take k words)) ≡ 4 * k = omega arith in
    let four : length (get_or words k d) ≡ 4 = whole k d is_there in
    let one : concat (get_or words k d ∷ []) ≡ get_or words k d = append-nil (get_or words k d) in
    ap (λ a. overwritten (overwritten m at (concat (take k words))) (at + a) (get_or words k d)) (sym long)
    ∙ overwritten_twice m at (concat (take k words)) (get_or words k d) (omega arith)
    ∙ ap (λ w. overwritten m at (concat (take k words) ++ w)) (sym one)
    ∙ ap (overwritten m at) (sym (concat-append (take k words) (get_or words k d ∷ [])))
    ∙ ap (λ ws. overwritten m at (concat ws)) (sym (take-suc words k d is_there))
    ∙ ap (λ n. overwritten m at (concat (take n words))) (sym (add-one k))

-- the bytes of the first chunks of four
pub chunks_joined : (k : ℕ) (bytes : List ℕ) → concat (first_chunks 4 k bytes) ≡ take (4 * k) bytes
chunks_joined zero bytes = refl
chunks_joined (suc k) bytes =
    let more : 4 + 4 * k ≡ 4 * suc k = omega arith in
    ap (λ bs. take 4 bytes ++ bs) (chunks_joined k (drop 4 bytes))
    ∙ sym (take-add 4 (4 * k) bytes)
    ∙ ap (λ n. take n bytes) more

-- three pieces
pub overwritten_thrice : (m : List ℕ) (at : ℕ) (a b c : List ℕ) → at + length a + length b + length c ≤ length m
    → overwritten (overwritten (overwritten m at a) (at + length a) b) (at + length a + length b) c ≡ overwritten m at (a ++ (b ++ c))
overwritten_thrice m at a b c within =
    let both = length-append a b in
    let sum : at + length a + length b ≡ at + length (a ++ b) = omega arith in
    ap (λ n. overwritten (overwritten (overwritten m at a) (at + length a) b) n c) sum
    ∙ ap (λ new. overwritten new (at + length (a ++ b)) c) (overwritten_twice m at a b (omega arith))
    ∙ overwritten_twice m at (a ++ b) c (omega arith)
    ∙ ap (overwritten m at) (append_assoc a b c)
