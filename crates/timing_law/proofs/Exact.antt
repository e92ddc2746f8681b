-- The numbers of a past are those of the whole list of acts.
use Rattle.std.proofs.Common.{ℕ, ◌≡◌, ◌<◌, ◌≤◌, ◌+◌, ◌==◌, Bool, true, false, cond, List, [], ◌∷◌, ◌++◌, Option, Some, None, IfSome, refl, sym, subst, ap, ◌∙◌, arith, length, map, reverse, max, replicate, slice_index, slice_set, if◌then◌else◌}
use Rattle.std.proofs.lemmas.List.{reverse-append, append_assoc, append-nil, get_or-replicate, get_or_past, length-replicate, map-append, length-set, get_or-set_same, get_or-set_other}
use Rattle.std.proofs.lemmas.List.Folds.{find-append}
use Rattle.std.specs.Option.{option_or}
use Rattle.std.specs.List.{find, last_or}
use Rattle.mb_decode.specs.declared.instruction.Instr.{Instr}
use Rattle.mb_decode.specs.Meaning.{NamesRegisters}
use Rattle.isa_step.specs.declared.acts.Late.{Late}
use Rattle.op_table.specs.Table.{kind_of}
use Rattle.timing_law.specs.declared.pipe.Pipe.{Pipe}
use Rattle.timing_law.specs.declared.pipe.Pipe.TheVariants.{Plain, Three, Five, Eight}
use Rattle.timing_law.specs.declared.pipe.Jump.{Jump}
use Rattle.timing_law.specs.declared.pipe.Jump.TheVariants.{On, Taken, Struck}
use Rattle.timing_law.specs.declared.past.Past.{Past}
use Rattle.timing_law.specs.Table.{branch_of, first_of, hold_of, late_of, ready_of, redirected, turn_of}
use Rattle.timing_law.specs.Past.{due_at, fresh, greatest_read, marked, operands_at, used}
use Rattle.timing_law.specs.DueTick.{IsRising, Passed, Retired, Timed, Turned, free_after, greatest, held_by, is_writer, late_after, moved_all, moved_by, names_late, ready_after, ready_by, ready_with, redirect_by, redirected_by}
use Rattle.timing_law.specs.Laws.{IsExact}

-- a past has the numbers of a list of acts, all of which lie before a tick
record Agrees (p : Pipe) (acts : List Timed) (low : ℕ) (x : Past) : Type 0 where
  pipe : x.pipe ≡ p
  first : x.first ≡ first_of p
  next : x.next ≡ held_by p acts
  redirect : x.redirect ≡ redirected_by p acts
  near : x.redirect ≤ low + branch_of p
  registers : length x.ready ≡ 32
  ready : (r : ℕ) → r < 32 → slice_index x.ready r ≡ ready_by p acts r

-- the last item, the greatest number and the last writer of a longer list
last_more : (o : Option Timed) (xs : List Timed) (y : Timed) → last_or o (xs ++ y ∷ []) ≡ Some y
last_more o [] y = refl
last_more o (x ∷ xs) y = last_more (Some x) xs y

max_three : (x y z : ℕ) → max x (max y z) ≡ max (max x y) z
max_three x y z = grind arith

greatest_more : (xs : List ℕ) (y : ℕ) → greatest (xs ++ y ∷ []) ≡ max (greatest xs) y
greatest_more [] y = grind arith
greatest_more (x ∷ xs) y = ap (λ z. max x z) (greatest_more xs y) ∙ max_three x (greatest xs) y

redirected_more : (p : Pipe) (acts : List Timed) (act : Timed) → redirected_by p (acts ++ act ∷ []) ≡ max (redirected_by p acts) (redirect_by p act)
redirected_more p acts act = ap greatest (map-append (redirect_by p) acts (act ∷ [])) ∙ greatest_more (map (redirect_by p) acts) (redirect_by p act)

either_writer : (p : Pipe) (r : ℕ) (act : Timed) (o : Option Timed) (t : Bool) → is_writer r act ≡ t
    → ready_after p (option_or (cond t (Some act) None) o) ≡ (if t then ready_with p act.tick (late_after act.passed) else ready_after p o)
either_writer p r act o true is = refl
either_writer p r act o false is = refl

ready_more : (p : Pipe) (acts : List Timed) (act : Timed) (r : ℕ)
    → ready_by p (acts ++ act ∷ []) r ≡ (if is_writer r act then ready_with p act.tick (late_after act.passed) else ready_by p acts r)
ready_more p acts act r =
    rw (reverse-append acts (act ∷ []), find-append (is_writer r) (act ∷ []) (reverse acts))
    (either_writer p r act (find (is_writer r) (reverse acts)) _ refl)

-- one act more
turn_near : (p : Pipe) → (branch_of p ≤ turn_of p) × (turn_of p ≤ branch_of p + 1)
turn_near Plain = (omega arith, omega arith)
turn_near Three = (omega arith, omega arith)
turn_near Five = (omega arith, omega arith)
turn_near Eight = (omega arith, omega arith)

jump_so : (p : Pipe) (jump : Jump) (low at before : ℕ) → before ≤ low + branch_of p → low ≤ at → redirected p jump at before ≡ max before (redirected p jump at 0)
jump_so p On low at before near le = omega arith
jump_so p Taken low at before near le = omega (arith, near, le)
jump_so p Struck low at before near le = let t = turn_near p in omega (arith, near, le, t.0)

jump_near : (p : Pipe) (jump : Jump) (low at before : ℕ) → before ≤ low + branch_of p → low ≤ at → redirected p jump at before ≤ at + 1 + branch_of p
jump_near p On low at before near le = omega (arith, near, le)
jump_near p Taken low at before near le = omega arith
jump_near p Struck low at before near le = let t = turn_near p in omega (arith, t.1)

length_marked : (p : Pipe) (at : ℕ) (late : Option Late) (ready : List ℕ) → length (marked p at late ready) ≡ length ready
length_marked p at None ready = refl
length_marked p at (Some l) ready = length-set ready l.reg (at + ready_of p l.latency)

set_at : (ready : List ℕ) (reg value r : ℕ) (t : Bool) → (reg == r) ≡ t → r < length ready → slice_index (slice_set ready reg value) r ≡ (if t then value else slice_index ready r)
set_at ready reg value r true is lt = let e : reg ≡ r = grind (arith, is) in rw e (get_or-set_same ready r value 0 lt)
set_at ready reg value r false is lt = get_or-set_other ready reg r value 0 (grind (arith, is))

marked_at : (p : Pipe) (at : ℕ) (late : Option Late) (ready : List ℕ) (r : ℕ) → r < length ready
    → slice_index (marked p at late ready) r ≡ (if names_late r late then ready_with p at late else slice_index ready r)
marked_at p at None ready r lt = refl
marked_at p at (Some l) ready r lt = set_at ready l.reg (at + ready_of p l.latency) r _ refl lt

agrees_more : (p : Pipe) (acts : List Timed) (low : ℕ) (x : Past) (tick : ℕ) (passed : Passed) → Agrees p acts low x → low ≤ tick
    → Agrees p (acts ++ record { tick = tick; passed = passed } ∷ []) (tick + 1) (moved_by passed tick x)
agrees_more p acts low x tick (Retired i jump) h le =
    let act : Timed = record { tick = tick; passed = Retired i jump } in
    let near : x.redirect ≤ low + branch_of p = h.near in
    record {
      pipe = h.pipe;
      first = h.first;
      next = ap (λ q. tick + hold_of q (kind_of i.op)) h.pipe ∙ sym (ap (free_after p) (last_more None acts act));
      redirect = ap (λ q. redirected q jump tick x.redirect) h.pipe ∙ jump_so p jump low tick x.redirect near le
          ∙ ap (λ z. max z (redirected p jump tick 0)) h.redirect ∙ sym (redirected_more p acts act);
      near = subst (λ q. redirected q jump tick x.redirect ≤ tick + 1 + branch_of p) (sym h.pipe) (jump_near p jump low tick x.redirect near le);
      registers = length_marked x.pipe tick (late_of i) x.ready ∙ h.registers;
      ready = λ r lt. ap (λ q. slice_index (marked q tick (late_of i) x.ready) r) h.pipe
          ∙ marked_at p tick (late_of i) x.ready r (subst (λ n. r < n) (sym h.registers) lt)
          ∙ ap (λ z. if names_late r (late_of i) then ready_with p tick (late_of i) else z) (h.ready r lt)
          ∙ sym (ready_more p acts act r);
    }
agrees_more p acts low x tick Turned h le =
    let act : Timed = record { tick = tick; passed = Turned } in
    let near : x.redirect ≤ low + branch_of p = h.near in
    let t = turn_near p in
    record {
      pipe = h.pipe;
      first = h.first;
      next = sym (ap (free_after p) (last_more None acts act));
      redirect = ap (λ q. tick + turn_of q) h.pipe ∙ jump_so p Struck low tick x.redirect near le
          ∙ ap (λ z. max z (tick + turn_of p)) h.redirect ∙ sym (redirected_more p acts act);
      near = subst (λ q. tick + turn_of q ≤ tick + 1 + branch_of p) (sym h.pipe) (omega (arith, t.1));
      registers = h.registers;
      ready = λ r lt. h.ready r lt ∙ sym (ready_more p acts act r);
    }

all_agree : (p : Pipe) (rest acts : List Timed) (low : ℕ) (x : Past) → Agrees p acts low x → IsRising low rest
    → (after : ℕ) × Agrees p (acts ++ rest) after (moved_all rest x)
all_agree p [] acts low x h rising = (low, subst (λ L. Agrees p L low x) (sym (append-nil acts)) h)
all_agree p (act ∷ rest) acts low x h rising =
    let more = all_agree p rest (acts ++ act ∷ []) (act.tick + 1) (moved_by act.passed act.tick x) (agrees_more p acts low x act.tick act.passed h rising.0) rising.2 in
    (more.0, subst (λ L. Agrees p L more.0 (moved_all rest (moved_by act.passed act.tick x))) (append_assoc acts (act ∷ []) rest) more.1)

zero_at : (n r : ℕ) → slice_index (replicate n 0) r ≡ 0
zero_at n r = grind (arith, get_or-replicate, get_or_past, length-replicate)

fresh_agrees : (p : Pipe) → Agrees p [] 0 (fresh p)
fresh_agrees p = record {
  pipe = refl;
  first = refl;
  next = refl;
  redirect = refl;
  near = omega arith;
  registers = refl;
  ready = λ r lt. zero_at 32 r;
}

-- what is read is the same where the numbers are
used_same : (reads : Bool) (m n : ℕ) → m ≡ n → used reads m ≡ used reads n
used_same reads m n e = ap (λ z. used reads z) e

read_same : (i : Option Instr) (f g : ℕ → ℕ) → IfSome i NamesRegisters → ((r : ℕ) → r < 32 → f r ≡ g r) → greatest_read i f ≡ greatest_read i g
read_same None f g names same = refl
read_same (Some i) f g names same = rw (same i.ra names.ra, same i.rb names.rb, same i.rd names.rd) refl

pub is_exact : IsExact
unfolding due_at operands_at
is_exact = record {
  exact = λ p acts i in_slot rising names.
      let h = (all_agree p acts [] 0 (fresh p) (fresh_agrees p) rising).1 in
      rw (h.pipe, h.first, h.next, h.redirect, read_same i (λ r. slice_index (moved_all acts (fresh p)).ready r) (ready_by p acts) names h.ready) refl;
}
