-- What is due depends on no register but those that the instruction reads.
use Rattle.std.specs.Prelude.{◌≡◌, ℕ, ◌&&◌, ◌||◌, ◌==◌, not, Bool, true, false, List, Option, Some, None, is_some, slice_index, if◌then◌else◌}
use Rattle.std.proofs.Common.{refl, ap, sym, ◌∙◌}
use Rattle.std.proofs.lemmas.Bool.{eq-eqb}
use Rattle.core_regs.specs.declared.registers.Arch.{Arch}
use Rattle.core_regs.specs.declared.causes.StopCause.{StopCause}
use Rattle.core_regs.specs.declared.causes.StopCause.TheVariants as stop
use Rattle.core_regs.specs.declared.causes.Take.{Take}
use Rattle.core_regs.specs.State.{reg}
use Rattle.mb_decode.specs.declared.instruction.Instr.{Instr}
use Rattle.op_table.specs.Table.{is_store}
use Rattle.mb_decode.specs.Registers.{reads, reads_a, reads_b}
use Rattle.isa_step.specs.declared.acts.Here.{Here}
use Rattle.isa_step.specs.declared.acts.Operands.{Operands}
use Rattle.isa_step.specs.declared.operands.Given.{Given}
use Rattle.op_table.specs.declared.kinds.Kind.{Kind}
use Rattle.op_table.specs.declared.kinds.Kind.TheVariants.{Add, Store}
use Rattle.op_table.specs.declared.kinds.Second.{Second}
use Rattle.op_table.specs.declared.kinds.Second.TheVariants.{Register, Immediate, Count}
use Rattle.isa_step.specs.Effects.{Request, Goes, HaltLoop, stops}
use Rattle.isa_step.specs.Due.{awake, due_by, due_with, reply, take_due}
use Rattle.op_table.specs.Table.{kind_of, second_of}
use Rattle.isa_step.specs.Shown.{Shown}
use Rattle.isa_step.specs.Requests.{halt_loop, effect_of, request_of, given, illegal, is_banned, is_end, second_value, requested, requested_kind}
use Rattle.op_table.specs.Kinds.{belongs_into_slot}
use Rattle.act_laws.specs.Lateness.{here_is}
use Rattle.act_laws.specs.Reading.{AgreesOn, ReadsAreNamed}
use Rattle.op_table.specs.Kinds.{stores}

with_d : Operands → ℕ → Operands
with_d o x = record { a = o.a; b = o.b; d = x }

given_d : Given → ℕ → Given
given_d g x = record g { d = x }

-- only a store looks at rD

effect_same : (kind : Kind) (g : Given) (x : ℕ) (a : Arch) → effect_of kind (given_d g x) a ≡ effect_of kind g a
unfolding effect_of given_d
effect_same (Add with_carry keep) g x a = refl
effect_same _ g x a = refl

request_of_same : (kind : Kind) (g : Given) (x : ℕ) (a : Arch) (m : List ℕ) → stores kind ≡ false → request_of kind (given_d g x) a m ≡ request_of kind g a m
unfolding request_of effect_of given_d
request_of_same (Store size) g x a m h = cc
request_of_same _ g x a m h = refl

second_same : (second : Second) (a : Arch) (i : Instr) (o : Operands) (x : ℕ) → second_value second a i (with_d o x) ≡ second_value second a i o
unfolding with_d
second_same Register a i o x = refl
second_same Immediate a i o x = refl
second_same Count a i o x = refl

with_second : Instr → Operands → Arch → ℕ → ℕ → Given
with_second i o a x b = record (given i o a) { b = b; d = x }

given_same : (i : Instr) (o : Operands) (a : Arch) (x : ℕ) → given i (with_d o x) a ≡ given_d (given i o a) x
unfolding given with_d given_d with_second
given_same i o a x = ap (with_second i o a x) (second_same (second_of i.op) a i o x)

abbrev placed : Kind → Instr → ℕ → Arch → Request → Request
placed kind i word a w =
    if is_banned i kind a.network then illegal a word
    else if is_some a.slot && not (belongs_into_slot kind) then Goes (stops a (stop.Slot word) None)
    else w

kind_same : (kind : Kind) (i : Instr) (word : ℕ) (o : Operands) (x : ℕ) (a : Arch) (m : List ℕ) → stores kind ≡ false → requested_kind kind i word (with_d o x) a m ≡ requested_kind kind i word o a m
kind_same kind i word o x a m h =
    let e : request_of kind (given i (with_d o x) a) a m ≡ request_of kind (given i o a) a m = ap (λ g. request_of kind g a m) (given_same i o a x) ∙ request_of_same kind (given i o a) x a m h in
    ap (placed kind i word a) e

requested_same : (i : Instr) (word : ℕ) (o : Operands) (x : ℕ) (a : Arch) (m : List ℕ) → is_store i.op ≡ false → requested (Some (here_is word i)) (with_d o x) a m ≡ requested (Some (here_is word i)) o a m
unfolding requested
requested_same i word o x a m h = ap (λ (w : Request). if is_end word a then HaltLoop (halt_loop a) else w) (kind_same (kind_of i.op) i word o x a m h)

-- the outcome is that of what is asked

awake_same : (here : Option Here) (o p : Operands) (a : Arch) (m : List ℕ) (s : Shown) (asleep : Bool) → requested here o a m ≡ requested here p a m → awake here o a m s asleep ≡ awake here p a m s asleep
awake_same here o p a m s true e = refl
awake_same here o p a m s false e = ap (λ w. reply a w s) e

by_same : (here : Option Here) (o p : Operands) (a : Arch) (m : List ℕ) (s : Shown) (t : Option Take) (stopped : Option StopCause) → requested here o a m ≡ requested here p a m → due_by here o a m s t stopped ≡ due_by here p a m s t stopped
by_same here o p a m s t (Some cause) e = refl
by_same here o p a m s (Some t) None e = refl
by_same here o p a m s None None e = awake_same here o p a m s a.asleep e

due_same : (i : Instr) (word : ℕ) (o p : Operands) (a : Arch) (m : List ℕ) (s : Shown) → requested (Some (here_is word i)) o a m ≡ requested (Some (here_is word i)) p a m → due_with (Some (here_is word i)) o a m s ≡ due_with (Some (here_is word i)) p a m s
unfolding due_with
due_same i word o p a m s e = by_same (Some (here_is word i)) o p a m s (take_due (Some (here_is word i)) a s) a.stopped e

-- the registers that an instruction reads

or_left : (x y z : Bool) → x ≡ true → x || y || z ≡ true
or_left x y z e = rw e refl

or_middle : (x y z : Bool) → y ≡ true → x || y || z ≡ true
or_middle true y z e = refl
or_middle false y z e = rw e refl

or_right : (x y z : Bool) → z ≡ true → x || y || z ≡ true
or_right true y z e = refl
or_right false true z e = refl
or_right false false z e = e

names : (n : ℕ) (b : Bool) → n == 0 ≡ false → b ≡ true → not (n == 0) && b && n == n ≡ true
names n b e f = rw (e, f, eq-eqb n n refl) refl

names_field : (n : ℕ) → n == 0 ≡ false → not (n == 0) && n == n ≡ true
names_field n e = rw (e, eq-eqb n n refl) refl

reads_ra : (i : Instr) → i.ra == 0 ≡ false → reads i i.ra ≡ true
reads_ra i e = or_left _ _ _ (names_field i.ra e)

reads_rb : (i : Instr) → i.rb == 0 ≡ false → reads i i.rb ≡ true
reads_rb i e = or_middle (reads_a i && i.ra == i.rb) _ _ (names_field i.rb e)

reads_rd : (i : Instr) → is_store i.op ≡ true → i.rd == 0 ≡ false → reads i i.rd ≡ true
reads_rd i s e = or_right (reads_a i && i.ra == i.rd) (reads_b i && i.rb == i.rd) _ (names i.rd (is_store i.op) e s)

reg_by : (regs : List ℕ) (r : ℕ) (b : Bool) → r == 0 ≡ b → reg regs r ≡ (if b then 0 else slice_index regs r)
reg_by regs r b e = ap (λ b. if b then 0 else slice_index regs r) e

operand_by : (i : Instr) (regs other : List ℕ) (r : ℕ) (b : Bool) → r == 0 ≡ b → (r == 0 ≡ false → reads i r ≡ true) → AgreesOn i regs other → reg other r ≡ reg regs r
operand_by i regs other r true e k h = reg_by other r true e ∙ sym (reg_by regs r true e)
operand_by i regs other r false e k h = h.each r (k e)

operand : (i : Instr) (regs other : List ℕ) (r : ℕ) → (r == 0 ≡ false → reads i r ≡ true) → AgreesOn i regs other → reg other r ≡ reg regs r
operand i regs other r k h = operand_by i regs other r (r == 0) refl k h

operands : ℕ → ℕ → ℕ → Operands
operands a b d = record { a = a; b = b; d = d }

same_by : (i : Instr) (word : ℕ) (regs other : List ℕ) (a : Arch) (m : List ℕ) (s : Shown) (b : Bool) → is_store i.op ≡ b → AgreesOn i regs other
    → due_with (Some (here_is word i)) (operands (reg other i.ra) (reg other i.rb) (reg other i.rd)) a m s ≡ due_with (Some (here_is word i)) (operands (reg regs i.ra) (reg regs i.rb) (reg regs i.rd)) a m s
unfolding operands with_d
same_by i word regs other a m s true e h =
    ap (λ x. due_with (Some (here_is word i)) (operands x (reg other i.rb) (reg other i.rd)) a m s) (operand i regs other i.ra (reads_ra i) h)
    ∙ ap (λ x. due_with (Some (here_is word i)) (operands (reg regs i.ra) x (reg other i.rd)) a m s) (operand i regs other i.rb (reads_rb i) h)
    ∙ ap (λ x. due_with (Some (here_is word i)) (operands (reg regs i.ra) (reg regs i.rb) x) a m s) (operand i regs other i.rd (reads_rd i e) h)
same_by i word regs other a m s false e h =
    ap (λ x. due_with (Some (here_is word i)) (operands x (reg other i.rb) (reg other i.rd)) a m s) (operand i regs other i.ra (reads_ra i) h)
    ∙ ap (λ x. due_with (Some (here_is word i)) (operands (reg regs i.ra) x (reg other i.rd)) a m s) (operand i regs other i.rb (reads_rb i) h)
    ∙ due_same i word (with_d (operands (reg regs i.ra) (reg regs i.rb) (reg regs i.rd)) (reg other i.rd)) (operands (reg regs i.ra) (reg regs i.rb) (reg regs i.rd)) a m s
    (requested_same i word (operands (reg regs i.ra) (reg regs i.rb) (reg regs i.rd)) (reg other i.rd) a m e)

pub reads_are_named : ReadsAreNamed
unfolding operands
reads_are_named = record { same = λ i word regs other a m s h. same_by i word regs other a m s (is_store i.op) refl h }
