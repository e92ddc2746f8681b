-- What a code of a value says of it.
use Rattle.std.proofs.Common.{◌≡◌, ◌⊎◌, inl, inr, ℕ, ℤ, Bool, true, false, List, Option, Some, None, is_some, ok_or, option_and_then, refl, subst, arith}
use Rattle.std.specs.Result.{result_err}
use Rattle.toml.specs.Data.{Data, Members, as_bool, as_integer, as_str, as_table}
use Rattle.board_file.specs.Keys.{key_of, key_text}
use Rattle.board_file.specs.Read.{break_in, break_of, core_in, core_of, file_in, file_of, flag_in, judged, key_code, missing_code, number_code, number_in, number_of, only_if, pipeline_in, pipeline_of, table_in, turn_in, turn_of, value_code, version_in, version_of}
use Rattle.board_file.specs.Tree.{at_key, further, has_core}
use Rattle.board_file.specs.declared.fault.BoardRule.{BoardRule}
use Rattle.board_file.specs.declared.fault.BoardRule.TheVariants as broken
use Rattle.board_file.specs.declared.keys.KeyRule.{KeyRule}
use Rattle.board_file.specs.declared.keys.KeyRule.TheVariants.{May, Needs}
use Rattle.board_file.specs.declared.keys.Kind.{Kind}
use Rattle.board_file.specs.declared.keys.Kind.TheVariants as kind
use Rattle.board_file.specs.declared.keys.Quantity.{Quantity}
use Rattle.board_file.specs.declared.keys.Quantity.TheVariants as quantity
use Rattle.board_faults.specs.Told.{HasKeys, HasValue, IsIn, LacksKey, Tells, bad_break, bad_file, bad_memory, bad_number, bad_order, bad_pipeline, missing_key, no_core, no_version, other_type, other_version}

same_some : {X : Type 0} (m n : X) → Some m ≡ Some n → m ≡ n
same_some m n e = grind (arith, e)

-- a value that is none of those that are right
or_code : {X : Type 0} (o : Option X) (c code : BoardRule) → result_err (ok_or o c) ≡ Some code → (o ≡ None) × (c ≡ code)
or_code None c code e = (refl, same_some c code e)
or_code (Some x) c code e = grind (arith, e)

-- a value of another type, or one of this type that isn't right
judged_code : {X Y : Type 0} (c : BoardRule) (means : X → Option Y) (o : Option X) (code : BoardRule) → result_err (judged c means o) ≡ Some code
    → ((o ≡ None) × (broken.WrongType ≡ code)) ⊎ ((x : X) × (o ≡ Some x) × (means x ≡ None) × (c ≡ code))
judged_code c means None code e = inl (refl, same_some broken.WrongType code e)
judged_code c means (Some x) code e = let h = or_code (means x) c code e in inr (x, refl, h.0, h.1)

none_type : {X : Type 0} (o : Option X) → o ≡ None → is_some o ≡ false
none_type o e = rw e refl

core_missing : (b : Bool) (s : List ℕ) → only_if b s ≡ None → b ≡ false
core_missing false s e = refl
core_missing true s e = grind (arith, e)

-- a fact of one code is a fact of an equal one
as_code : (tree : Members) (place : List ℕ) (c code : BoardRule) → c ≡ code → Tells tree c place → Tells tree code place
as_code tree place c code same says = let P : BoardRule → Type 0 = λ n. Tells tree n place in subst P same says

number_told : (tree : Members) (place : List ℕ) (q : Quantity) (d : Data) (z : ℤ) → HasValue tree place (kind.Number q) d → as_integer d ≡ Some z → number_of q z ≡ None → Tells tree (number_code q) place
unfolding number_code
number_told tree place quantity.Port d z has is none = bad_number place quantity.Port d z refl has is none
number_told tree place quantity.Irq d z has is none = bad_number place quantity.Irq d z refl has is none
number_told tree place quantity.Base d z has is none = bad_number place quantity.Base d z refl has is none
number_told tree place quantity.Clock d z has is none = bad_number place quantity.Clock d z refl has is none
number_told tree place quantity.Depth d z has is none = bad_number place quantity.Depth d z refl has is none
number_told tree place quantity.Cycle d z has is none = bad_number place quantity.Cycle d z refl has is none
number_told tree place quantity.Memory d z has is none = bad_memory place d z has is none

value_told : (tree : Members) (place : List ℕ) (v : Kind) (d : Data) (code : BoardRule) → HasValue tree place v d → value_code tree v d ≡ Some code → Tells tree code place
unfolding value_code flag_in number_in file_in core_in pipeline_in turn_in break_in version_in table_in
value_told tree place kind.Flag d code has e =
    let h = or_code (as_bool d) broken.WrongType code e in
    as_code tree place broken.WrongType code h.1 (other_type place kind.Flag d has (none_type (as_bool d) h.0))
value_told tree place (kind.Number q) d code has e = by_type (judged_code (number_code q) (number_of q) (as_integer d) code e)
  where
    by_type : ((as_integer d ≡ None) × (broken.WrongType ≡ code)) ⊎ ((z : ℤ) × (as_integer d ≡ Some z) × (number_of q z ≡ None) × (number_code q ≡ code)) → Tells tree code place
    by_type (inl h) = as_code tree place broken.WrongType code h.1 (other_type place (kind.Number q) d has (none_type (as_integer d) h.0))
    by_type (inr h) = as_code tree place (number_code q) code h.3 (number_told tree place q d h.0 has h.1 h.2)
value_told tree place kind.File d code has e = by_type (judged_code broken.BadFileName file_of (as_str d) code e)
  where
    by_type : ((as_str d ≡ None) × (broken.WrongType ≡ code)) ⊎ ((s : List ℕ) × (as_str d ≡ Some s) × (file_of s ≡ None) × (broken.BadFileName ≡ code)) → Tells tree code place
    by_type (inl h) = as_code tree place broken.WrongType code h.1 (other_type place kind.File d has (none_type (as_str d) h.0))
    by_type (inr h) = as_code tree place broken.BadFileName code h.3 (bad_file place d h.0 has h.1 h.2)
value_told tree place kind.CoreName d code has e = by_type (judged_code broken.UnknownCore (core_of tree) (as_str d) code e)
  where
    by_type : ((as_str d ≡ None) × (broken.WrongType ≡ code)) ⊎ ((s : List ℕ) × (as_str d ≡ Some s) × (core_of tree s ≡ None) × (broken.UnknownCore ≡ code)) → Tells tree code place
    by_type (inl h) = as_code tree place broken.WrongType code h.1 (other_type place kind.CoreName d has (none_type (as_str d) h.0))
    by_type (inr h) = as_code tree place broken.UnknownCore code h.3 (no_core place d h.0 has h.1 (core_missing (has_core tree h.0) h.0 h.2))
value_told tree place kind.PipelineName d code has e = by_type (judged_code broken.UnknownPipeline pipeline_of (as_str d) code e)
  where
    by_type : ((as_str d ≡ None) × (broken.WrongType ≡ code)) ⊎ ((s : List ℕ) × (as_str d ≡ Some s) × (pipeline_of s ≡ None) × (broken.UnknownPipeline ≡ code)) → Tells tree code place
    by_type (inl h) = as_code tree place broken.WrongType code h.1 (other_type place kind.PipelineName d has (none_type (as_str d) h.0))
    by_type (inr h) = as_code tree place broken.UnknownPipeline code h.3 (bad_pipeline place d h.0 has h.1 h.2)
value_told tree place kind.OrderName d code has e = by_type (judged_code broken.UnknownOrder turn_of (as_str d) code e)
  where
    by_type : ((as_str d ≡ None) × (broken.WrongType ≡ code)) ⊎ ((s : List ℕ) × (as_str d ≡ Some s) × (turn_of s ≡ None) × (broken.UnknownOrder ≡ code)) → Tells tree code place
    by_type (inl h) = as_code tree place broken.WrongType code h.1 (other_type place kind.OrderName d has (none_type (as_str d) h.0))
    by_type (inr h) = as_code tree place broken.UnknownOrder code h.3 (bad_order place d h.0 has h.1 h.2)
value_told tree place kind.BreakName d code has e = by_type (judged_code broken.BadValue break_of (as_str d) code e)
  where
    by_type : ((as_str d ≡ None) × (broken.WrongType ≡ code)) ⊎ ((s : List ℕ) × (as_str d ≡ Some s) × (break_of s ≡ None) × (broken.BadValue ≡ code)) → Tells tree code place
    by_type (inl h) = as_code tree place broken.WrongType code h.1 (other_type place kind.BreakName d has (none_type (as_str d) h.0))
    by_type (inr h) = as_code tree place broken.BadValue code h.3 (bad_break place d h.0 has h.1 h.2)
value_told tree place kind.VersionNumber d code has e =
    let h = or_code (option_and_then version_of (as_integer d)) broken.UnknownVersion code e in
    as_code tree place broken.UnknownVersion code h.1 (other_version place d has h.0)
value_told tree place kind.Rows d code has e =
    let h = or_code (as_table d) broken.WrongType code e in
    as_code tree place broken.WrongType code h.1 (other_type place kind.Rows d has (none_type (as_table d) h.0))

missing_told : (tree : Members) (place : List ℕ) (v : Kind) → LacksKey tree place v → Tells tree (missing_code v) place
unfolding missing_code
missing_told tree place kind.Flag lacks = missing_key place kind.Flag refl lacks
missing_told tree place (kind.Number q) lacks = missing_key place (kind.Number q) refl lacks
missing_told tree place kind.File lacks = missing_key place kind.File refl lacks
missing_told tree place kind.CoreName lacks = missing_key place kind.CoreName refl lacks
missing_told tree place kind.PipelineName lacks = missing_key place kind.PipelineName refl lacks
missing_told tree place kind.OrderName lacks = missing_key place kind.OrderName refl lacks
missing_told tree place kind.BreakName lacks = missing_key place kind.BreakName refl lacks
missing_told tree place kind.VersionNumber lacks = no_version place lacks
missing_told tree place kind.Rows lacks = missing_key place kind.Rows refl lacks

-- a key that has a code tells what is wrong there
by_rule : (tree : Members) (before : List ℕ) (keys : Members) (rules : List KeyRule) (rule : KeyRule) (o : Option Data) (code : BoardRule) → HasKeys tree before keys rules → IsIn rule rules
    → at_key (key_of rule) keys ≡ o → key_code tree rule o ≡ Some code → Tells tree code (further before (key_text (key_of rule)))
unfolding key_code
by_rule tree before keys rules (Needs k v) None code of_file known there e =
    as_code tree _ (missing_code v) code (same_some _ _ e)
    (missing_told tree _ v (record { before = before; keys = keys; rules = rules; of_file = of_file; needed = k; known = known; missing = there; at = refl }))
by_rule tree before keys rules (May k v) None code of_file known there e = grind (arith, e)
by_rule tree before keys rules (Needs k v) (Some d) code of_file known there e =
    value_told tree _ v d code (record { before = before; keys = keys; rules = rules; of_file = of_file; rule = Needs k v; known = known; of_kind = refl; there = there; at = refl }) e
by_rule tree before keys rules (May k v) (Some d) code of_file known there e =
    value_told tree _ v d code (record { before = before; keys = keys; rules = rules; of_file = of_file; rule = May k v; known = known; of_kind = refl; there = there; at = refl }) e

pub key_told : (tree : Members) (before : List ℕ) (keys : Members) (rules : List KeyRule) (rule : KeyRule) (code : BoardRule) → HasKeys tree before keys rules → IsIn rule rules
    → key_code tree rule (at_key (key_of rule) keys) ≡ Some code → Tells tree code (further before (key_text (key_of rule)))
key_told tree before keys rules rule code of_file known e = by_rule tree before keys rules rule (at_key (key_of rule) keys) code of_file known refl e
