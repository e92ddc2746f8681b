-- How the bytes are kept: as words of four bytes each, in pages of 1,024 words, all in the order of their addresses.
use Rattle.std.specs.Prelude.{ℕ, ◌≡◌, ◌*◌, All, List, [], ◌∷◌, flat_map, length}
use Rattle.byte_mem.specs.Sizes.{IsSize}

-- four bytes
abbrev pub IsWord : List ℕ → Type 0
IsWord word = length word ≡ 4

-- the word of four zeros
abbrev pub zero_word : List ℕ
zero_word = 0 ∷ 0 ∷ 0 ∷ 0 ∷ []

-- 1,024 words
abbrev pub IsPage : List (List ℕ) → Type 0
IsPage page = length page ≡ 1024

-- the words of pages
abbrev pub words_of : List (List (List ℕ)) → List (List ℕ)
words_of pages = flat_map (λ page. page) pages

-- pages of so many words in all
pub record ArePages (pages : List (List (List ℕ))) (count : ℕ) : Type 0 where
  pub counted : count ≡ 1024 * length pages
  pub whole : All IsPage pages

-- as many words as make a lawful size, each whole
pub record IsMemory (words : List (List ℕ)) : Type 0 where
  pub sized : IsSize (4 * length words)
  pub whole : All IsWord words
