-- An act leaves no number of the past more than five ticks ahead, and the next act is due soon.
use Rattle.std.proofs.Common.{ℕ, ◌≡◌, ◌≤◌, ◌+◌, ◌==◌, nat_lt, Bool, true, false, List, Option, Some, None, refl, arith, length, slice_index, slice_set, if◌then◌else◌, replicate}
use Rattle.std.proofs.lemmas.List.{length-set, get_or-set_same, get_or-set_other, get_or_past, get_or-replicate, length-replicate}
use Rattle.mb_decode.specs.declared.instruction.Instr.{Instr}
use Rattle.mb_decode.specs.Registers.{reads_a, reads_b, reads_d}
use Rattle.isa_step.specs.declared.acts.Act.{Act}
use Rattle.isa_step.specs.declared.acts.Act.TheVariants as acts
use Rattle.isa_step.specs.declared.acts.Late.{Late}
use Rattle.op_table.specs.declared.kinds.Latency.{Latency}
use Rattle.op_table.specs.declared.kinds.Latency.TheVariants.{Single, Multiply, Load}
use Rattle.op_table.specs.Table.{kind_of}
use Rattle.timing_law.specs.declared.pipe.Pipe.{Pipe}
use Rattle.timing_law.specs.declared.pipe.Pipe.TheVariants.{Plain, Three, Five, Eight}
use Rattle.timing_law.specs.declared.pipe.Jump.{Jump}
use Rattle.timing_law.specs.declared.pipe.Jump.TheVariants.{On, Taken, Struck}
use Rattle.timing_law.specs.declared.past.Past.{Past}
use Rattle.timing_law.specs.Near.{IsBefore}
use Rattle.timing_law.specs.Table.{branch_of, divide_extra, extra_for, first_of, is_divide, is_memory, late_of, memory_hold, ready_of, redirected, turn_of}
use Rattle.timing_law.specs.Past.{begins_at, due_at, fresh, greatest_read, marked, operands_at, turned, used}
use Rattle.timing_law.specs.Passing.{passed_by, retired_here}

pub later : (x : Past) (tick more : ℕ) → IsBefore x tick → tick ≤ more → IsBefore x more
later x tick more h le = record {
  first = omega (arith, h.first, le);
  next = omega (arith, h.next, le);
  ready = λ r. let here = h.ready r in omega (arith, here, le);
  redirect = omega (arith, h.redirect, le);
}

-- a fresh past
pub zero_at : (n r : ℕ) → slice_index (replicate n 0) r ≡ 0
zero_at n r = grind (arith, get_or-replicate, get_or_past, length-replicate)

few_first : (p : Pipe) → first_of p ≤ 4
few_first Plain = omega arith
few_first Three = omega arith
few_first Five = omega arith
few_first Eight = omega arith

pub fresh_near : (p : Pipe) → IsBefore (fresh p) 4
fresh_near p = record { first = few_first p; next = omega arith; ready = λ r. rw (zero_at 32 r) (omega arith); redirect = omega arith }

-- the times of the table are short
few_hold : (p : Pipe) (b : Bool) → (if b then memory_hold p else 1) ≤ 5
few_hold Plain true = omega arith
few_hold Three true = omega arith
few_hold Five true = omega arith
few_hold Eight true = omega arith
few_hold p false = omega arith

few_ready : (p : Pipe) (l : Latency) → ready_of p l ≤ 5
few_ready p Single = omega arith
few_ready Plain Multiply = omega arith
few_ready Three Multiply = omega arith
few_ready Five Multiply = omega arith
few_ready Eight Multiply = omega arith
few_ready Plain Load = omega arith
few_ready Three Load = omega arith
few_ready Five Load = omega arith
few_ready Eight Load = omega arith

few_turn : (p : Pipe) → (branch_of p ≤ 5) × (turn_of p ≤ 5)
few_turn Plain = (omega arith, omega arith)
few_turn Three = (omega arith, omega arith)
few_turn Five = (omega arith, omega arith)
few_turn Eight = (omega arith, omega arith)

few_extra : (p : Pipe) (b : Bool) → (if b then divide_extra p else 0) ≤ 33
few_extra Plain true = omega arith
few_extra Three true = omega arith
few_extra Five true = omega arith
few_extra Eight true = omega arith
few_extra p false = omega arith

extra_few : (p : Pipe) (i : Option Instr) → extra_for p i ≤ 33
extra_few p None = omega arith
extra_few p (Some i) = few_extra p (is_divide (kind_of i.op))

-- what an act makes of the numbers
jump_near : (p : Pipe) (jump : Jump) (at before high : ℕ) → before ≤ high → at + 5 ≤ high → redirected p jump at before ≤ high
jump_near p On at before high le near = le
jump_near p Taken at before high le near = let few = few_turn p in omega (arith, few.0, near)
jump_near p Struck at before high le near = let few = few_turn p in omega (arith, few.1, near)

set_at : (ready : List ℕ) (r value high : ℕ) → value ≤ high → (t : Bool) → nat_lt r (length ready) ≡ t → slice_index (slice_set ready r value) r ≤ high
set_at ready r value high le true is = rw (get_or-set_same ready r value 0 (grind (arith, is))) le
set_at ready r value high le false is = rw (get_or_past (slice_set ready r value) r 0 (rw (length-set ready r value) (grind (arith, is)))) (omega arith)

-- a list with one number set has no greater number
pub set_within : (ready : List ℕ) (reg value r high : ℕ) → value ≤ high → ((k : ℕ) → slice_index ready k ≤ high) → (t : Bool) → (reg == r) ≡ t → slice_index (slice_set ready reg value) r ≤ high
set_within ready reg value r high le all true is = let e : reg ≡ r = grind (arith, is) in rw e (set_at ready r value high le _ refl)
set_within ready reg value r high le all false is = rw (get_or-set_other ready reg r value 0 (grind (arith, is))) (all r)

marked_near : (p : Pipe) (late : Option Late) (at high : ℕ) (ready : List ℕ) → ((k : ℕ) → slice_index ready k ≤ high) → at + 5 ≤ high → (r : ℕ) → slice_index (marked p at late ready) r ≤ high
marked_near p None at high ready all near r = all r
marked_near p (Some l) at high ready all near r =
    let few = few_ready p l.latency in
    set_within ready l.reg (at + ready_of p l.latency) r high (omega (arith, few, near)) all _ refl

pub retired_near : (i : Option Instr) (jump : Jump) (x : Past) (at high : ℕ) → IsBefore x high → at + 5 ≤ high → IsBefore (retired_here i at jump x) high
retired_near None jump x at high h near = h
retired_near (Some i) jump x at high h near = record {
  first = h.first;
  next = let few = few_hold x.pipe (is_memory (kind_of i.op)) in omega (arith, few, near);
  ready = λ r. marked_near x.pipe (late_of i) at high x.ready h.ready near r;
  redirect = jump_near x.pipe jump at x.redirect high h.redirect near;
}

turned_near : (x : Past) (at high : ℕ) → IsBefore x high → at + 5 ≤ high → IsBefore (turned at x) high
turned_near x at high h near = record {
  first = h.first;
  next = omega (arith, near);
  ready = h.ready;
  redirect = let few = few_turn x.pipe in omega (arith, few.1, near);
}

pub passed_near : (act : Act) (i : Option Instr) (jump : Jump) (x : Past) (at high : ℕ) → IsBefore x high → at + 5 ≤ high → IsBefore (passed_by act i at jump x) high
passed_near acts.Retired i jump x at high h near = retired_near i jump x at high h near
passed_near acts.Slept i jump x at high h near = retired_near i jump x at high h near
passed_near (acts.Took take) i jump x at high h near = turned_near x at high h near
passed_near (acts.Raised esr) i jump x at high h near = turned_near x at high h near
passed_near (acts.Stopped cause) i jump x at high h near = h

-- the next act is due soon
used_near : (reads : Bool) (n high : ℕ) → n ≤ high → used reads n ≤ high
used_near true n high le = le
used_near false n high le = omega (arith, le)

read_near : (i : Option Instr) (number : ℕ → ℕ) (high : ℕ) → ((r : ℕ) → number r ≤ high) → greatest_read i number ≤ high
read_near None number high all = omega arith
read_near (Some i) number high all =
    let a = used_near (reads_a i) (number i.ra) high (all i.ra) in
    let b = used_near (reads_b i) (number i.rb) high (all i.rb) in
    let d = used_near (reads_d i) (number i.rd) high (all i.rd) in
    omega (arith, a, b, d)

slot_near : (in_slot : Bool) (n high : ℕ) → n ≤ high → (if in_slot then 0 else n) ≤ high
slot_near true n high le = omega (arith, le)
slot_near false n high le = le

pub begins_near : (x : Past) (i : Option Instr) (in_slot : Bool) (high : ℕ) → IsBefore x high → begins_at x i in_slot ≤ high
unfolding operands_at
begins_near x i in_slot high h =
    let read = read_near i (λ r. slice_index x.ready r) high h.ready in
    let slot = slot_near in_slot x.redirect high h.redirect in
    omega (arith, read, slot, h.first, h.next)

pub due_near : (x : Past) (i : Option Instr) (in_slot : Bool) (high : ℕ) → IsBefore x high → due_at x i in_slot ≤ high + 33
unfolding due_at
due_near x i in_slot high h =
    let begins = begins_near x i in_slot high h in
    let extra = extra_few x.pipe i in
    omega (arith, begins, extra)
