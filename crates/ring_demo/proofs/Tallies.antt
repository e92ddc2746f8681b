-- Tallies of one more entry.
use Rattle.std.proofs.Common.{◌≡◌, ℕ, ◌+◌, ◌%◌, ◌^◌, ◌<◌, ◌≤◌, List, ◌++◌, length, take, slice_get, sym, ap, subst, ◌∙◌, length-append}
use Rattle.std.specs.Prelude.{sum}
use Rattle.std.proofs.Math.Nat.{mod-add-mod}
use Rattle.std.proofs.lemmas.List.{take_all}
use Rattle.std.proofs.lemmas.List.Sums.{sum_by-append}
use Rattle.run_journal.specs.declared.entry.Entry.{Entry}
use Rattle.board_machine.proofs.Lists.{slice_get_in}
use Rattle.ring_demo.specs.Summary.{IsTally, word_at, word_of, words_left}
use Rattle.ring_demo.specs.declared.tally.Tally.{Tally}
use Rattle.ring_demo.proofs.Lists.{pieces_next}

wrapped : (s t : ℕ) → (s % 2 ^ 32 + t) % 2 ^ 32 ≡ (s + t) % 2 ^ 32
wrapped s t = mod-add-mod s (2 ^ 32) t

pub tally_more : (old new : Tally) (entries : List Entry) (k : ℕ) → k < length entries → IsTally old (take k entries)
    → new.items ≡ old.items + length (word_at (slice_get entries k)) → new.sum ≡ (old.sum + sum (word_at (slice_get entries k))) % 2 ^ 32
    → IsTally new (take (k + 1) entries)
tally_more old new entries k l h counted summed =
    let x = slice_get_in entries k l in
    let before = words_left (take k entries) in
    let here : word_at (slice_get entries k) ≡ word_of x.0 = ap word_at x.1 in
    let more : words_left (take (k + 1) entries) ≡ before ++ word_of x.0 = pieces_next word_of entries k x.0 x.1 in
    record {
      items = counted ∙ ap (λ ws. old.items + length ws) here ∙ ap (λ n. n + length (word_of x.0)) h.items
          ∙ sym (length-append before (word_of x.0)) ∙ sym (ap length more);
      sum = summed ∙ ap (λ ws. (old.sum + sum ws) % 2 ^ 32) here ∙ ap (λ n. (n + sum (word_of x.0)) % 2 ^ 32) h.sum
          ∙ wrapped (sum before) (sum (word_of x.0)) ∙ ap (λ n. n % 2 ^ 32) (sym (sum_by-append (λ (w : ℕ). w) before (word_of x.0)) ∙ sym (ap sum more));
    }

pub tally_all : (tally : Tally) (entries : List Entry) (k : ℕ) → length entries ≤ k → IsTally tally (take k entries) → IsTally tally entries
tally_all tally entries k passed h = subst (IsTally tally) (take_all k entries passed) h

pub tally_of_journal : (tally : Tally) (entries journal : List Entry) → entries ≡ journal → IsTally tally entries → IsTally tally journal
tally_of_journal tally entries journal same h = subst (IsTally tally) same h
