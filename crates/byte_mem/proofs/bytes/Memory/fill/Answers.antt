use Rattle.std.proofs.Common.{arith, ap, sym, ◌∙◌, ◌≡◌, ◌*◌, ◌+◌, ◌/◌, ◌++◌, ◌≤◌, take, drop, length, List, ℕ}
use Rattle.std.specs.List.{concat}
use Rattle.std.proofs.lemmas.List.{length-take-le, take-append-drop}
use Rattle.byte_mem.specs.Access.{overwritten}
use Rattle.byte_mem.proofs.Filling.{chunks_joined, overwritten_thrice}
use Rattle.byte_mem.proofs.Overwriting.{length_overwritten}
use Rattle.byte_mem.proofs.bytes.Memory.fill.Goals as goal

pub copy_words-requires-clause-within : goal.copy_words-requires-clause-within
copy_words-requires-clause-within c =
    let first = ap length c.copy_bytes.ensures ∙ length_overwritten c.args.self.now c.args.addr c.split_at.result.0.now in
    let some : 1 ≤ length c.args.bytes.now = grind arith in
    omega arith

pub copy_bytes-requires-2-clause-within : goal.copy_bytes-requires-2-clause-within
copy_bytes-requires-2-clause-within c =
    let first = ap length c.copy_bytes.ensures ∙ length_overwritten c.args.self.now c.args.addr c.split_at.result.0.now in
    let second = ap length c.copy_words.ensures ∙ length_overwritten c.copy_bytes.new.self (c.args.addr + length c.split_at.result.0.now) (concat c.as_chunks.result.0.now) in
    let some : 1 ≤ length c.args.bytes.now = grind arith in
    omega arith

pub copy_bytes-requires-2-clause-small : goal.copy_bytes-requires-2-clause-small
copy_bytes-requires-2-clause-small c =
    let first = ap length c.copy_bytes.ensures ∙ length_overwritten c.args.self.now c.args.addr c.split_at.result.0.now in
    let second = ap length c.copy_words.ensures ∙ length_overwritten c.copy_bytes.new.self (c.args.addr + length c.split_at.result.0.now) (concat c.as_chunks.result.0.now) in
    omega arith

pub returns-clause-memory : goal.returns-clause-memory
returns-clause-memory c =
    let old : List ℕ = c.args.self.now in
    let head : List ℕ = c.split_at.result.0.now in
    let rest : List ℕ = c.split_at.result.1.now in
    let words : List (List ℕ) = c.as_chunks.result.0.now in
    let tail : List ℕ = c.as_chunks.result.1.now in
    let count : ℕ = length rest / 4 in
    let joined : concat words ≡ take (4 * count) rest = ap concat c.as_chunks.ensures.front ∙ chunks_joined count rest in
    let commuted : count * 4 ≡ 4 * count = omega arith in
    let behind : tail ≡ drop (4 * count) rest = c.as_chunks.ensures.back ∙ ap (λ (n : ℕ). drop n rest) commuted in
    let long : length (concat words) ≡ 4 * length words =
    ap length joined ∙ length-take-le (4 * count) rest (omega arith) ∙ ap (λ (n : ℕ). 4 * n) (sym c.as_chunks.ensures.front_len) in
    let whole : concat words ++ tail ≡ rest =
    ap (λ (bs : List ℕ). bs ++ tail) joined ∙ ap (λ (bs : List ℕ). take (4 * count) rest ++ bs) behind ∙ take-append-drop (4 * count) rest in
    let split : head ++ rest ≡ c.args.bytes.now =
    ap (λ (bs : List ℕ). bs ++ rest) c.split_at.ensures.front
    ∙ ap (λ (bs : List ℕ). take c.min.result c.args.bytes.now ++ bs) c.split_at.ensures.back
    ∙ take-append-drop c.min.result c.args.bytes.now in
    let some : 1 ≤ length c.args.bytes.now = grind arith in
    c.copy_bytes-2.ensures
    ∙ ap (λ (m : List ℕ). overwritten m (c.args.addr + length head + 4 * length words) tail)
    (c.copy_words.ensures ∙ ap (λ (m : List ℕ). overwritten m (c.args.addr + length head) (concat words)) c.copy_bytes.ensures)
    ∙ ap (λ (n : ℕ). overwritten (overwritten (overwritten old c.args.addr head) (c.args.addr + length head) (concat words)) (c.args.addr + length head + n) tail) (sym long)
    ∙ overwritten_thrice old c.args.addr head (concat words) tail (omega arith)
    ∙ ap (λ (bs : List ℕ). overwritten old c.args.addr (head ++ bs)) whole
    ∙ ap (λ (bs : List ℕ). overwritten old c.args.addr bs) split
