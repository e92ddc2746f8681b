-- The memories of the cores have together what the file says.
use Rattle.std.proofs.Common.{◌≡◌, ℕ, Bool, ◌+◌, ◌≤◌, true, nat_le, List, [], ◌∷◌, Option, Some, None, unwrap_or, refl, arith}
use Rattle.std.proofs.lemmas.List.Sums.{sum_by-cons}
use Rattle.std.specs.List.{sum_by}
use Rattle.toml.specs.Data.{Data, Members, as_table, no_members, member, table}
use Rattle.board_file.proofs.Values.{both_nil, given_number}
use Rattle.board_file.specs.Bus.{both, is_affordable, memory_sum, size_in, size_or_default}
use Rattle.board_file.specs.Keys.{row_keys}
use Rattle.board_file.specs.Read.{key_code, number_at, number_in, right}
use Rattle.board_file.specs.Rows.{AreRows, core_row, row_in}
use Rattle.board_file.specs.Rules.{each_row, keys_faults, row_faults}
use Rattle.board_file.specs.Tree.{at_key, inside, row_place}
use Rattle.board_file.specs.declared.board.CoreRow.{CoreRow}
use Rattle.board_file.specs.declared.keys.Key.TheVariants as key
use Rattle.board_file.specs.declared.keys.KeyRule.TheVariants.{May}
use Rattle.board_file.specs.declared.keys.Kind.TheVariants as kind
use Rattle.board_file.specs.declared.keys.Quantity.TheVariants as quantity
use Rattle.board_file.specs.declared.keys.Rows.TheVariants as rows
use Rattle.board_file_laws.proofs.Numbers.{core_size}
use Rattle.board_file_laws.proofs.Origins.{IsRight, right_row}
use Rattle.board_file_laws.proofs.Parts.{first_key}

given_size : (tree : Members) (o : Option Data) → key_code tree (May key.Memory (kind.Number quantity.Memory)) o ≡ None → size_or_default o ≡ Some (unwrap_or (right (number_in quantity.Memory) o) 65536)
given_size tree None e = refl
given_size tree (Some d) e = let n = given_number tree key.Memory quantity.Memory d e in rw n.1 refl

size_by : (o : Option ℕ) (n m : ℕ) → o ≡ Some n → n ≡ m → o ≡ Some m
size_by o n m e f = rw (e, f) refl

size_of : (network : Bool) (tree : Members) (name : List ℕ) (ms : Members) (core : CoreRow) → core_row [] name ms ≡ Some core → IsRight network tree rows.Core name ms → size_in (Some ms) ≡ Some core.memory
unfolding row_keys number_at
size_of network tree name ms core e right =
    let image = first_key tree _ ms key.Image _ _ refl right.keys in
    let pipeline = first_key tree _ ms key.Pipeline _ _ refl image.1 in
    let clock = first_key tree _ ms key.Clock _ _ refl pipeline.1 in
    let memory = first_key tree _ ms key.Memory _ _ refl clock.1 in
    size_by _ _ core.memory (given_size tree (at_key key.Memory ms) memory.0) (core_size [] name ms core e)

first_size : (network : Bool) (tree : Members) (name : List ℕ) (d : Data) (core : CoreRow) → row_in (core_row []) name (as_table d) ≡ Some core → row_faults network tree rows.Core name d ≡ [] → size_in (as_table d) ≡ Some core.memory
first_size network tree name (table ms) core e f = size_of network tree name ms core e (right_row network tree rows.Core name ms f)
first_size network tree name d core e f = grind arith

one_more : (a b : Option ℕ) (x s t : ℕ) → a ≡ Some x → b ≡ Some s → t ≡ x + s → both a b ≡ Some t
one_more a b x s t e f g = rw (e, f, g) refl

pub memories_sum : (network : Bool) (tree : Members) (ms : Members) (xs : List CoreRow) → AreRows (core_row []) ms xs → each_row network tree rows.Core ms ≡ [] → memory_sum ms ≡ Some (sum_by (λ core. core.memory) xs)
memories_sum network tree no_members [] h e = refl
memories_sum network tree no_members (x ∷ xs) h e = elim h [ ]
memories_sum network tree (member name d ms) [] h e = elim h [ ]
memories_sum network tree (member name d ms) (x ∷ xs) h e =
    let parts = both_nil (row_faults network tree rows.Core name d) (each_row network tree rows.Core ms) e in
    one_more (size_in (as_table d)) (memory_sum ms) x.memory _ _ (first_size network tree name d x h.0 parts.0)
    (memories_sum network tree ms xs h.1 parts.1) (sum_by-cons (λ (core : CoreRow). core.memory) x xs)

pub affordable : (o : Option ℕ) (s : ℕ) → o ≡ Some s → is_affordable o ≡ true → s ≤ 1073741824
affordable o s e f = let g : nat_le s 1_073_741_824 ≡ true = rw e at f in grind (arith, g)
