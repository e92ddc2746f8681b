-- A row without faults has all its values.
use Rattle.std.proofs.Common.{◌≡◌, ℕ, Bool, true, false, List, [], ◌∷◌, ◌++◌, Option, Some, None, Result, Ok, Err, option_and_then, refl, arith}
use Rattle.std.specs.Result.{result_ok, result_err}
use Rattle.std.specs.Option.{ok_or}
use Rattle.toml.specs.Data.{Data, Members, as_str}
use Rattle.board_file.specs.Faults.{fault_at, fault_unless}
use Rattle.board_file.specs.Read.{break_in, core_in, core_of, file_in, judged, key_code, number_in, only_if, pipeline_in, right, value_code}
use Rattle.board_file.specs.Tree.{has_core}
use Rattle.board_file.specs.declared.fault.BoardRule.{BoardRule}
use Rattle.board_file.specs.declared.fault.BoardRule.TheVariants as broken
use Rattle.board_file.specs.declared.keys.Key.{Key}
use Rattle.board_file.specs.declared.keys.KeyRule.TheVariants.{Needs, May}
use Rattle.board_file.specs.declared.keys.Kind.{Kind}
use Rattle.board_file.specs.declared.keys.Kind.TheVariants as kind
use Rattle.board_file.specs.declared.keys.Quantity.{Quantity}
use Rattle.board_file.specs.declared.board.Pipeline.{Pipeline}

pub both_nil : {X : Type 0} (xs ys : List X) → xs ++ ys ≡ [] → (xs ≡ []) × (ys ≡ [])
both_nil [] ys e = (refl, e)
both_nil (x ∷ xs) ys e = grind arith

pub true_from_nil : (holds : Bool) (code : BoardRule) (at : List ℕ) → fault_unless holds code at ≡ [] → holds ≡ true
true_from_nil true code at e = refl
true_from_nil false code at e = grind arith

pub none_from_nil : (code : Option BoardRule) (at : List ℕ) → fault_at code at ≡ [] → code ≡ None
none_from_nil None at e = refl
none_from_nil (Some code) at e = grind arith

-- a value that has no code is right
ok_from_none : {X : Type 0} (r : Result X BoardRule) → result_err r ≡ None → (x : X) × (result_ok r ≡ Some x)
ok_from_none (Ok x) e = (x, refl)
ok_from_none (Err code) e = grind arith

-- a key that a row needs and that has no code is there
there : (tree : Members) (k : Key) (v : Kind) (o : Option Data) → key_code tree (Needs k v) o ≡ None → (d : Data) × (o ≡ Some d) × (value_code tree v d ≡ None)
unfolding key_code
there tree k v None e = grind arith
there tree k v (Some d) e = (d, refl, e)

pub needed_file : (tree : Members) (k : Key) (o : Option Data) → key_code tree (Needs k kind.File) o ≡ None → (s : List ℕ) × (right file_in o ≡ Some s)
unfolding key_code value_code
needed_file tree k None e = grind arith
needed_file tree k (Some d) e = ok_from_none (file_in d) e

pub needed_number : (tree : Members) (k : Key) (q : Quantity) (o : Option Data) → key_code tree (Needs k (kind.Number q)) o ≡ None → (n : ℕ) × (right (number_in q) o ≡ Some n)
unfolding key_code value_code
needed_number tree k q None e = grind arith
needed_number tree k q (Some d) e = ok_from_none (number_in q d) e

pub needed_pipeline : (tree : Members) (k : Key) (o : Option Data) → key_code tree (Needs k kind.PipelineName) o ≡ None → (p : Pipeline) × (right pipeline_in o ≡ Some p)
unfolding key_code value_code
needed_pipeline tree k None e = grind arith
needed_pipeline tree k (Some d) e = ok_from_none (pipeline_in d) e

pub needed_break : (tree : Members) (k : Key) (o : Option Data) → key_code tree (Needs k kind.BreakName) o ≡ None → (b : Bool) × (right break_in o ≡ Some b)
unfolding key_code value_code
needed_break tree k None e = grind arith
needed_break tree k (Some d) e = ok_from_none (break_in d) e

-- a value that a row may have, where it is there
pub given_file : (tree : Members) (k : Key) (d : Data) → key_code tree (May k kind.File) (Some d) ≡ None → (s : List ℕ) × (right file_in (Some d) ≡ Some s)
unfolding key_code value_code
given_file tree k d e = ok_from_none (file_in d) e

pub given_number : (tree : Members) (k : Key) (q : Quantity) (d : Data) → key_code tree (May k (kind.Number q)) (Some d) ≡ None → (n : ℕ) × (right (number_in q) (Some d) ≡ Some n)
unfolding key_code value_code
given_number tree k q d e = ok_from_none (number_in q d) e

held : (holds : Bool) (s : List ℕ) → result_err {E = BoardRule} (ok_or (only_if holds s) broken.UnknownCore) ≡ None → holds ≡ true
held true s e = refl
held false s e = grind arith

-- the name of a core that is there
named_there : (tree : Members) (s : Option (List ℕ)) → result_err {E = BoardRule} (judged broken.UnknownCore (core_of tree) s) ≡ None → (name : List ℕ) × (s ≡ Some name) × (has_core tree name ≡ true)
named_there tree None e = grind arith
named_there tree (Some s) e = (s, refl, held (has_core tree s) s e)

pub core_value : (tree : Members) (d : Data) → value_code tree kind.CoreName d ≡ None → (name : List ℕ) × (as_str d ≡ Some name) × (has_core tree name ≡ true)
unfolding value_code core_in
core_value tree d e = named_there tree (as_str d) e

pub needed_core : (tree : Members) (k : Key) (o : Option Data) → key_code tree (Needs k kind.CoreName) o ≡ None → (name : List ℕ) × (option_and_then as_str o ≡ Some name) × (has_core tree name ≡ true)
unfolding key_code
needed_core tree k None e = grind arith
needed_core tree k (Some d) e = core_value tree d e

pub given_core : (tree : Members) (k : Key) (d : Data) → key_code tree (May k kind.CoreName) (Some d) ≡ None → (name : List ℕ) × (option_and_then as_str (Some d) ≡ Some name) × (has_core tree name ≡ true)
unfolding key_code
given_core tree k d e = core_value tree d e
