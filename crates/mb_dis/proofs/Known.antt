-- What the checker computes: each name is a word, and is found again.
use Rattle.std.proofs.Common.{◌≡◌, ℕ, zero, suc, ◌*◌, ◌<◌, Bool, true, false, ◌&&◌, eqb, List, [], ◌∷◌, Option, None, Some, refl, inl, inr, arith}
use Rattle.std.specs.Fmt.{digits}
use Rattle.std.specs.List.{list_all}
use Rattle.std.proofs.lemmas.Bool.{cases_Bool, eqb-true, eqb-false}
use Rattle.op_table.specs.declared.op.Op.{Op}
use Rattle.op_table.specs.declared.op.Op.TheVariants.{Add, Get, Getd, Put, Putd}
use Rattle.op_table.specs.declared.form.Form.{Form}
use Rattle.op_table.specs.declared.form.Form.TheVariants.{M, T}
use Rattle.op_table.specs.Table.{kind_of, row_for, rows}
use Rattle.asm_syntax.specs.Names.{name_of, special_of}
use Rattle.asm_syntax.specs.Operands.{port_name, port_of, register_name, register_of, with_special}
use Rattle.asm_syntax.specs.declared.mnemonics.Named.{Named}
use Rattle.asm_syntax.specs.Shapes.{shape_of}
use Rattle.asm_syntax.specs.Spelling.{mnemonic, named_in, shape_of_named, spelled}
use Rattle.mb_lex.specs.Bytes.{continues_name, starts_name}

-- a fact of each number below n
unfoldable pub Each : (ℕ → Type 0) → ℕ → Type 0
Each Q zero = Unit {0}
Each Q (suc n) = Q n × Each Q n

pub each_at : (Q : ℕ → Type 0) (n k : ℕ) → Each Q n → k < n → Q k
unfolding Each
each_at Q zero k all lt = absurd (omega arith)
each_at Q (suc n) k all lt = elim (cases_Bool (eqb k n)) [
  | inl same ↦ rw (eqb-true k n same) all.0
  | inr differs ↦ each_at Q n k all.1 (omega (arith, eqb-false k n differs))
]

-- a text that is one word
abbrev pub is_word : List ℕ → Bool
is_word [] = false
is_word (b ∷ text) = starts_name b && list_all continues_name text

registers_are_words : Each (λ r. is_word (register_name r) ≡ true) 32
unfolding Each register_name digits
registers_are_words = (refl, (refl, (refl, (refl, (refl, (refl, (refl, (refl, (refl, (refl, (refl, (refl, (refl, (refl, (refl, (refl, (refl, (refl, (refl, (refl, (refl, (refl, (refl, (refl, (refl, (refl, (refl, (refl, (refl, (refl, (refl, (refl, tt))))))))))))))))))))))))))))))))

registers_are_found : Each (λ r. register_of (register_name r) ≡ Some r) 32
unfolding Each register_name register_of digits
registers_are_found = (refl, (refl, (refl, (refl, (refl, (refl, (refl, (refl, (refl, (refl, (refl, (refl, (refl, (refl, (refl, (refl, (refl, (refl, (refl, (refl, (refl, (refl, (refl, (refl, (refl, (refl, (refl, (refl, (refl, (refl, (refl, (refl, tt))))))))))))))))))))))))))))))))

ports_are_words : Each (λ k. is_word (port_name k) ≡ true) 16
unfolding Each port_name digits
ports_are_words = (refl, (refl, (refl, (refl, (refl, (refl, (refl, (refl, (refl, (refl, (refl, (refl, (refl, (refl, (refl, (refl, tt))))))))))))))))

ports_are_found : Each (λ k. port_of (port_name k) ≡ Some k) 16
unfolding Each port_name port_of digits
ports_are_found = (refl, (refl, (refl, (refl, (refl, (refl, (refl, (refl, (refl, (refl, (refl, (refl, (refl, (refl, (refl, (refl, tt))))))))))))))))

pub register_word : (r : ℕ) → r < 32 → is_word (register_name r) ≡ true
register_word r = each_at (λ r. is_word (register_name r) ≡ true) 32 r registers_are_words

pub register_found : (r : ℕ) → r < 32 → register_of (register_name r) ≡ Some r
register_found r = each_at (λ r. register_of (register_name r) ≡ Some r) 32 r registers_are_found

pub port_word : (k : ℕ) → k < 16 → is_word (port_name k) ≡ true
port_word k = each_at (λ k. is_word (port_name k) ≡ true) 16 k ports_are_words

pub port_found : (k : ℕ) → k < 16 → port_of (port_name k) ≡ Some k
port_found k = each_at (λ k. port_of (port_name k) ≡ Some k) 16 k ports_are_found

-- what a mnemonic names, where it names something
abbrev or_none : Option Named → Named
or_none None = record { op = Add; flags = 0; bare = true }
or_none (Some s) = s

-- the instruction, once the special register of its form is read
abbrev pub told : Form → Op → List ℕ → Option Op
told M first word = with_special first word
told T first word = with_special first word
told _ first word = Some first

-- an instruction itself is told by its special register
pub told_itself : (name : Op) → told (row_for name).form name (special_of name) ≡ Some name
unfolding rows row_for special_of with_special name_of
told_itself Add = refl
told_itself name = refl

-- the forms with a special register
abbrev pub has_special : Form → Bool
has_special M = true
has_special T = true
has_special _ = false

pub special_word : (name : Op) → has_special (row_for name).form ≡ is_word (special_of name)
unfolding rows row_for special_of
special_word Add = refl
special_word name = refl

-- a mnemonic that is found, with the operands and flags of its instruction
pub record IsFound (name : Op) (flags : ℕ) : Type 0 where
  pub named : Named
  pub word : is_word (spelled name flags) ≡ true
  pub found : mnemonic (spelled name flags) ≡ Some named
  pub shape : shape_of_named named ≡ shape_of (row_for name).form (kind_of name)
  pub flag : named.flags ≡ flags
  pub told : told (row_for name).form named.op (special_of name) ≡ Some name

pub plain_found : (name : Op) → IsFound name 0
unfolding spelled name_of special_of mnemonic named_in rows row_for shape_of shape_of_named with_special
plain_found Add = record { named = or_none (mnemonic (spelled Add 0)); word = refl; found = refl; shape = refl; flag = refl; told = refl }
plain_found name = record { named = or_none (mnemonic (spelled name 0)); word = refl; found = refl; shape = refl; flag = refl; told = refl }

-- a stream access with each of its flags

abbrev named : Op → ℕ → Named
named name flags = record { op = name; flags = flags; bare = false }

get_words : Each (λ f. is_word (spelled Get f) ≡ true) 32
unfolding Each spelled name_of rows row_for
get_words = (refl, (refl, (refl, (refl, (refl, (refl, (refl, (refl, (refl, (refl, (refl, (refl, (refl, (refl, (refl, (refl, (refl, (refl, (refl, (refl, (refl, (refl, (refl, (refl, (refl, (refl, (refl, (refl, (refl, (refl, (refl, (refl, tt))))))))))))))))))))))))))))))))

get_finds : Each (λ f. mnemonic (spelled Get f) ≡ Some (named Get f)) 32
unfolding Each spelled name_of mnemonic named_in rows row_for shape_of
get_finds = (refl, (refl, (refl, (refl, (refl, (refl, (refl, (refl, (refl, (refl, (refl, (refl, (refl, (refl, (refl, (refl, (refl, (refl, (refl, (refl, (refl, (refl, (refl, (refl, (refl, (refl, (refl, (refl, (refl, (refl, (refl, (refl, tt))))))))))))))))))))))))))))))))

pub get_found : (f : ℕ) → f < 32 → IsFound Get f
unfolding special_of rows row_for shape_of_named
get_found f lt = record {
  named = named Get f;
  word = each_at (λ f. is_word (spelled Get f) ≡ true) 32 f get_words lt;
  found = each_at (λ f. mnemonic (spelled Get f) ≡ Some (named Get f)) 32 f get_finds lt;
  shape = refl;
  flag = refl;
  told = refl;
}

getd_words : Each (λ f. is_word (spelled Getd f) ≡ true) 32
unfolding Each spelled name_of rows row_for
getd_words = (refl, (refl, (refl, (refl, (refl, (refl, (refl, (refl, (refl, (refl, (refl, (refl, (refl, (refl, (refl, (refl, (refl, (refl, (refl, (refl, (refl, (refl, (refl, (refl, (refl, (refl, (refl, (refl, (refl, (refl, (refl, (refl, tt))))))))))))))))))))))))))))))))

getd_finds : Each (λ f. mnemonic (spelled Getd f) ≡ Some (named Getd f)) 32
unfolding Each spelled name_of mnemonic named_in rows row_for shape_of
getd_finds = (refl, (refl, (refl, (refl, (refl, (refl, (refl, (refl, (refl, (refl, (refl, (refl, (refl, (refl, (refl, (refl, (refl, (refl, (refl, (refl, (refl, (refl, (refl, (refl, (refl, (refl, (refl, (refl, (refl, (refl, (refl, (refl, tt))))))))))))))))))))))))))))))))

pub getd_found : (f : ℕ) → f < 32 → IsFound Getd f
unfolding special_of rows row_for shape_of_named
getd_found f lt = record {
  named = named Getd f;
  word = each_at (λ f. is_word (spelled Getd f) ≡ true) 32 f getd_words lt;
  found = each_at (λ f. mnemonic (spelled Getd f) ≡ Some (named Getd f)) 32 f getd_finds lt;
  shape = refl;
  flag = refl;
  told = refl;
}

put_words : Each (λ f. is_word (spelled Put (2 * f)) ≡ true) 16
unfolding Each spelled name_of rows row_for
put_words = (refl, (refl, (refl, (refl, (refl, (refl, (refl, (refl, (refl, (refl, (refl, (refl, (refl, (refl, (refl, (refl, tt))))))))))))))))

put_finds : Each (λ f. mnemonic (spelled Put (2 * f)) ≡ Some (named Put (2 * f))) 16
unfolding Each spelled name_of mnemonic named_in rows row_for shape_of
put_finds = (refl, (refl, (refl, (refl, (refl, (refl, (refl, (refl, (refl, (refl, (refl, (refl, (refl, (refl, (refl, (refl, tt))))))))))))))))

pub put_found : (f : ℕ) → f < 16 → IsFound Put (2 * f)
unfolding special_of rows row_for shape_of_named
put_found f lt = record {
  named = named Put (2 * f);
  word = each_at (λ f. is_word (spelled Put (2 * f)) ≡ true) 16 f put_words lt;
  found = each_at (λ f. mnemonic (spelled Put (2 * f)) ≡ Some (named Put (2 * f))) 16 f put_finds lt;
  shape = refl;
  flag = refl;
  told = refl;
}

putd_words : Each (λ f. is_word (spelled Putd (2 * f)) ≡ true) 16
unfolding Each spelled name_of rows row_for
putd_words = (refl, (refl, (refl, (refl, (refl, (refl, (refl, (refl, (refl, (refl, (refl, (refl, (refl, (refl, (refl, (refl, tt))))))))))))))))

putd_finds : Each (λ f. mnemonic (spelled Putd (2 * f)) ≡ Some (named Putd (2 * f))) 16
unfolding Each spelled name_of mnemonic named_in rows row_for shape_of
putd_finds = (refl, (refl, (refl, (refl, (refl, (refl, (refl, (refl, (refl, (refl, (refl, (refl, (refl, (refl, (refl, (refl, tt))))))))))))))))

pub putd_found : (f : ℕ) → f < 16 → IsFound Putd (2 * f)
unfolding special_of rows row_for shape_of_named
putd_found f lt = record {
  named = named Putd (2 * f);
  word = each_at (λ f. is_word (spelled Putd (2 * f)) ≡ true) 16 f putd_words lt;
  found = each_at (λ f. mnemonic (spelled Putd (2 * f)) ≡ Some (named Putd (2 * f))) 16 f putd_finds lt;
  shape = refl;
  flag = refl;
  told = refl;
}
