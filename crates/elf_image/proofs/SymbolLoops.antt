-- Section headers and symbols, one after the other.
use Rattle.std.proofs.Common.{◌≡◌, ℕ, ◌+◌, ◌-◌, ◌*◌, ◌<◌, ◌≤◌, true, false, cond, List, [], ◌∷◌, ◌++◌, map, Option, Some, None, option_map, refl, sym, ap, ◌∙◌, arith, append_assoc, append-nil, suc}
use Rattle.std.specs.List.{find, range_with_len}
use Rattle.core_regs.specs.declared.causes.Order.{Order}
use Rattle.elf_image.specs.Symbols.{all_of, is_symbol_table, section_header, sections_from, symbol_at, symbols_from}
use Rattle.elf_image.specs.declared.section.SectionHeader.{SectionHeader}
use Rattle.elf_image.specs.declared.symbol.Symbol.{Symbol}

-- numbers up to an end: the first, and the others
pub numbers_left : (k n : ℕ) → k < n → range_with_len k (n - k) ≡ k ∷ range_with_len (k + 1) (n - (k + 1))
numbers_left k n below = let e : n - k ≡ suc (n - (k + 1)) = omega arith in ap (range_with_len k) e

pub no_numbers_left : (k n : ℕ) → n ≤ k → range_with_len k (n - k) ≡ []
no_numbers_left k n past = let e : n - k ≡ 0 = omega arith in ap (range_with_len k) e

module _ (file : List ℕ) (all : Option SectionHeader) (k n : ℕ) (h : SectionHeader) where
  pub table_here : k < n → h ≡ section_header file k → is_symbol_table h ≡ true → all ≡ find is_symbol_table (sections_from file k (n - k)) → Some h ≡ all
  table_here below is it so_far =
      sym (so_far ∙ ap (λ ks. find is_symbol_table (map (section_header file) ks)) (numbers_left k n below)
      ∙ ap (λ x. cond (is_symbol_table x) (Some x) (find is_symbol_table (sections_from file (k + 1) (n - (k + 1))))) (sym is)
      ∙ ap (λ b. cond b (Some h) (find is_symbol_table (sections_from file (k + 1) (n - (k + 1))))) it)

  pub table_past : k < n → h ≡ section_header file k → is_symbol_table h ≡ false → all ≡ find is_symbol_table (sections_from file k (n - k)) → all ≡ find is_symbol_table (sections_from file (k + 1) (n - (k + 1)))
  table_past below is it so_far =
      so_far ∙ ap (λ ks. find is_symbol_table (map (section_header file) ks)) (numbers_left k n below)
      ∙ ap (λ x. cond (is_symbol_table x) (Some x) (find is_symbol_table (sections_from file (k + 1) (n - (k + 1))))) (sym is)
      ∙ ap (λ b. cond b (Some h) (find is_symbol_table (sections_from file (k + 1) (n - (k + 1))))) it

pub no_table : (file : List ℕ) (all : Option SectionHeader) (k n : ℕ) → n ≤ k → all ≡ find is_symbol_table (sections_from file k (n - k)) → None ≡ all
no_table file all k n past so_far = sym (so_far ∙ ap (λ ks. find is_symbol_table (map (section_header file) ks)) (no_numbers_left k n past))

-- a symbol more before the others
joined : (done : List Symbol) (s : Symbol) (o : Option (List Symbol)) → option_map (λ rest. done ++ rest) (option_map (λ ss. s ∷ ss) o) ≡ option_map (λ rest. (done ++ s ∷ []) ++ rest) o
joined done s None = refl
joined done s (Some ss) = ap Some (sym (append_assoc done (s ∷ []) ss))

module _ (order : Order) (entries strings : List ℕ) (all : Option (List Symbol)) (done : List Symbol) (k n : ℕ) where
  pub symbol_more : (s : Symbol) (new : List Symbol) → k < n → Some s ≡ symbol_at order entries strings (16 * k) → new ≡ done ++ s ∷ [] → all ≡ option_map (λ rest. done ++ rest) (all_of (symbols_from order entries strings k (n - k))) → all ≡ option_map (λ rest. new ++ rest) (all_of (symbols_from order entries strings (k + 1) (n - (k + 1))))
  symbol_more s new below is grown so_far =
      so_far ∙ ap (λ ks. option_map (λ rest. done ++ rest) (all_of (map (λ m. symbol_at order entries strings (16 * m)) ks))) (numbers_left k n below)
      ∙ ap (λ o. option_map (λ rest. done ++ rest) (all_of (o ∷ symbols_from order entries strings (k + 1) (n - (k + 1))))) (sym is)
      ∙ joined done s (all_of (symbols_from order entries strings (k + 1) (n - (k + 1))))
      ∙ ap (λ l. option_map (λ rest. l ++ rest) (all_of (symbols_from order entries strings (k + 1) (n - (k + 1))))) (sym grown)

  pub symbol_lacks : k < n → None ≡ symbol_at order entries strings (16 * k) → all ≡ option_map (λ rest. done ++ rest) (all_of (symbols_from order entries strings k (n - k))) → None ≡ all
  symbol_lacks below is so_far =
      sym (so_far ∙ ap (λ ks. option_map (λ rest. done ++ rest) (all_of (map (λ m. symbol_at order entries strings (16 * m)) ks))) (numbers_left k n below)
      ∙ ap (λ o. option_map (λ rest. done ++ rest) (all_of (o ∷ symbols_from order entries strings (k + 1) (n - (k + 1))))) (sym is))

  pub symbols_end : n ≤ k → all ≡ option_map (λ rest. done ++ rest) (all_of (symbols_from order entries strings k (n - k))) → Some done ≡ all
  symbols_end past so_far =
      sym (so_far ∙ ap (λ ks. option_map (λ rest. done ++ rest) (all_of (map (λ m. symbol_at order entries strings (16 * m)) ks))) (no_numbers_left k n past) ∙ ap Some (append-nil done))

pub symbols_begin : (o : Option (List Symbol)) → o ≡ option_map (λ rest. [] ++ rest) o
symbols_begin None = refl
symbols_begin (Some ss) = refl
