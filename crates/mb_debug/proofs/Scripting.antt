-- Commands, one after the other.
use Rattle.std.specs.Prelude.{⊤}
use Rattle.std.specs.Result.{IsErrAnd}
use Rattle.std.proofs.Common.{◌≡◌, ℕ, suc, ◌+◌, ◌<◌, ◌≤◌, ◌⊎◌, List, [], ◌∷◌, ◌++◌, filter, map, take, drop, length, Bool, true, false, if◌then◌else◌, Option, Some, None, Result, Ok, Err, inl, inr, refl, sym, ap, subst, ◌∙◌, append_assoc, append-nil, get_or, arith}
use Rattle.std.proofs.Math.Seq.{take-suc}
use Rattle.std.proofs.lemmas.List.{take-append-drop, take_all}
use Rattle.board_machine.specs.declared.events.RunEnd.{RunEnd}
use Rattle.host_io.specs.Outside.{Adds, SinkState}
use Rattle.host_io.specs.declared.faults.StoreFault.{StoreFault}
use Rattle.host_io.specs.declared.faults.StoreFault.TheVariants as store
use Rattle.piece_output.proofs.Added.{adds_cut, adds_nothing, adds_then}
use Rattle.exact_machine.specs.Machine.{ExactWorld}
use Rattle.probe_set.specs.Sets.{HaveRoom, Named}
use Rattle.debug_script.specs.declared.command.Command.{Command}
use Rattle.debug_script.specs.declared.command.Command.TheVariants.{Break, Step, Run, Regs, Mem, Links, Where, Probe, Detach, Probes}
use Rattle.debug_script.specs.declared.names.ScriptNames.{ScriptNames}
use Rattle.mb_debug.specs.Prints.{said}
use Rattle.mb_debug.specs.Scenes.{RunsOn, Scene, StepsOn, cycles, scene}
use Rattle.mb_debug.specs.Scripts.{ByCycles, Does, DoesAll, DoesOne, Ran, Session, dropped, last_end}
use Rattle.mb_debug.specs.declared.run.ScriptEnd.{ScriptEnd}
use Rattle.mb_debug.specs.declared.run.ScriptEnd.TheVariants as end
use Rattle.mb_debug.proofs.Cycling.{Ready, by_both, by_none, ready_after, world_after}

-- the states of the probes that are left are those that are left of the states
pub filter_of_mapped : {X Y : Type 0} (f : X → Y) (p : X → Bool) (q : Y → Bool) (xs : List X) → ((x : X) → p x ≡ q (f x)) → map f (filter p xs) ≡ filter q (map f xs)
filter_of_mapped f p q [] same = refl
filter_of_mapped f p q (x ∷ xs) same = kept_or_not (p x) (same x) (filter_of_mapped f p q xs same) where
  kept_or_not : (b : Bool) → b ≡ q (f x) → map f (filter p xs) ≡ filter q (map f xs) → map f (if b then x ∷ filter p xs else filter p xs) ≡ filter q (f x ∷ map f xs)
  kept_or_not true e others = rw (sym e) (ap (λ l. f x ∷ l) others)
  kept_or_not false e others = rw (sym e) others

-- fewer probes have as much room
room_kept : (n : ℕ) (p : Named → Bool) (ns : List Named) → HaveRoom n ns → HaveRoom n (filter p ns)
room_kept n p [] h = tt
room_kept n p (a ∷ ns) h = kept_or_not (p a) (room_kept n p ns h.1) where
  kept_or_not : (b : Bool) → HaveRoom n (filter p ns) → HaveRoom n (if b then a ∷ filter p ns else filter p ns)
  kept_or_not true others = (h.0, others)
  kept_or_not false others = others

-- what cycles lead to is as ready
ready_by : (limit done : ℕ) (old new : Scene) → new ≡ cycles old done → ((k : ℕ) → k < done → Rattle.exact_machine.specs.Runs.exact_end limit (cycles old k).world ≡ None) → Ready limit old → Ready limit new
ready_by limit done old new ran on r = subst (Ready limit) (sym ran) (ready_after limit old done r on)

world_by : (old new : Scene) (done : ℕ) → new ≡ cycles old done → ByCycles old.world new.world
world_by old new done ran = (done, ap (λ (s : Scene). s.world) ran ∙ world_after old done)

stays_ready : (limit : ℕ) (old new : Session) → new ≡ old → Ready limit old.scene → Ready limit new.scene
stays_ready limit old new is r = subst (λ (s : Session). Ready limit s.scene) (sym is) r

stays_put : (old new : Session) → new ≡ old → ByCycles old.scene.world new.scene.world
stays_put old new is = subst (λ (s : Session). ByCycles old.scene.world s.scene.world) (sym is) (by_none old.scene.world)

-- after a command the board is as ready for the next
pub still_ready : (limit : ℕ) (c : Command) (old new : Session) → Does limit c old new → Ready limit old.scene → Ready limit new.scene
still_ready limit (Break core addr) old new d r = subst (λ (s : Session). Ready limit s.scene) (sym d) r
still_ready limit (Step count) old new d r = ready_by limit d.0.done old.scene new.scene d.0.ran d.0.goes_on r
still_ready limit (Run count) old new d r = ready_by limit d.0.done old.scene new.scene d.0.ran d.0.goes_on r
still_ready limit (Detach name) old new d r = subst (λ (s : Session). Ready limit s.scene) (sym d) (record { can = r.can; clocks = r.clocks; room = room_kept _ _ _ r.room })
still_ready limit (Regs core) old new d r = stays_ready limit old new d r
still_ready limit (Mem core addr count) old new d r = stays_ready limit old new d r
still_ready limit Links old new d r = stays_ready limit old new d r
still_ready limit Where old new d r = stays_ready limit old new d r
still_ready limit (Probe name) old new d r = stays_ready limit old new d r
still_ready limit Probes old new d r = stays_ready limit old new d r

-- and cycles alone led to it
pub by_cycles : (limit : ℕ) (c : Command) (old new : Session) → Does limit c old new → ByCycles old.scene.world new.scene.world
by_cycles limit (Break core addr) old new d = subst (λ (s : Session). ByCycles old.scene.world s.scene.world) (sym d) (by_none old.scene.world)
by_cycles limit (Step count) old new d = world_by old.scene new.scene d.0.done d.0.ran
by_cycles limit (Run count) old new d = world_by old.scene new.scene d.0.done d.0.ran
by_cycles limit (Detach name) old new d = subst (λ (s : Session). ByCycles old.scene.world s.scene.world) (sym d) (by_none old.scene.world)
by_cycles limit (Regs core) old new d = stays_put old new d
by_cycles limit (Mem core addr count) old new d = stays_put old new d
by_cycles limit Links old new d = stays_put old new d
by_cycles limit Where old new d = stays_put old new d
by_cycles limit (Probe name) old new d = stays_put old new d
by_cycles limit Probes old new d = stays_put old new d

-- one command more
pub does_more : (names : ScriptNames) (limit : ℕ) (cs : List Command) (c : Command) (old mid new : Session) (text : List ℕ) → DoesAll names limit cs old mid text → Does limit c mid new
    → DoesAll names limit (cs ++ c ∷ []) old new (text ++ said names c new.scene)
does_more names limit [] c old mid new text d one =
    (new, [], subst (λ s. Does limit c s new) d.0 one, ap (λ t. t ++ said names c new.scene) d.1 ∙ sym (append-nil (said names c new.scene)), (refl, refl))
does_more names limit (b ∷ cs) c old mid new text (next, rest, first, is, others) one = (
  next,
  rest ++ said names c new.scene,
  first,
  ap (λ t. t ++ said names c new.scene) is ∙ append_assoc (said names b next.scene) rest (said names c new.scene),
  does_more names limit cs c next mid new rest others one,
)

-- the first commands of a script were done, and their texts were written
pub record Done (names : ScriptNames) (limit : ℕ) (cs : List Command) (first now : Session) (out out' : SinkState) : Type 0 where
  pub text : List ℕ
  pub does : DoesAll names limit cs first now text
  pub adds : Adds out out' text (Ok tt)
  pub ready : Ready limit now.scene
  pub cycles : ByCycles first.scene.world now.scene.world

pub done_none : (names : ScriptNames) (limit : ℕ) (s : Session) (out : SinkState) → Ready limit s.scene → Done names limit [] s s out out
done_none names limit s out r = record { text = []; does = (refl, refl); adds = adds_nothing out; ready = r; cycles = by_none s.scene.world }

pub done_more : (names : ScriptNames) (limit : ℕ) (cs : List Command) (c : Command) (first now later : Session) (out out' out'' : SinkState)
    → Done names limit cs first now out out' → DoesOne names limit c now later out' out'' (Ok tt) → Done names limit (cs ++ c ∷ []) first later out out''
done_more names limit cs c first now later out out' out'' d one = record {
  text = d.text ++ said names c later.scene;
  does = does_more names limit cs c first now later d.text d.does one.0;
  adds = adds_then out out' out'' d.text (said names c later.scene) (Ok tt) d.adds one.1;
  ready = still_ready limit c now later one.0 d.ready;
  cycles = by_both first.scene.world now.scene.world later.scene.world d.cycles (by_cycles limit c now later one.0);
}

-- no memory for the text of a command that was done
pub no_text : (names : ScriptNames) (limit : ℕ) (c : Command) (old new : Session) (out : SinkState) (result : Result ⊤ ScriptEnd) → IsErrAnd result (λ e. e ≡ end.NoMemory)
    → Does limit c old new → DoesOne names limit c old new out out result
no_text names limit c old new out (Ok done) is d = absurd is
no_text names limit c old new out (Err end.WriteFault) is d = cc
no_text names limit c old new out (Err end.NoMemory) is d = inr (d, ((0, omega arith, (adds_nothing out).0), refl))

-- the first so many, and the next
pub take_next : {X : Type 0} (xs : List X) (k : ℕ) (x d : X) → k < length xs → x ≡ get_or xs k d → take k xs ++ x ∷ [] ≡ take (k + 1) xs
take_next xs k x d below at = let one : k + 1 ≡ suc k = omega arith in sym (ap (λ n. take n xs) one ∙ take-suc xs k d below ∙ ap (λ y. take k xs ++ y ∷ []) (sym at))

-- all commands were done
pub all_done : (names : ScriptNames) (limit k : ℕ) (cs : List Command) (first now : Session) (out out' : SinkState) (how : RunEnd) → length cs ≤ k
    → Done names limit (take k cs) first now out out' → how ≡ last_end now.scene.world → Ran names limit cs first now out out' (Ok how)
all_done names limit k cs first now out out' how past d is = (d.text, subst (λ l. DoesAll names limit l first now d.text) (take_all k cs past) d.does, d.adds, is)

-- a script of which the first commands were done, and at the next one its text was refused, or there was no memory
module _ (names : ScriptNames) (limit : ℕ) (cs : List Command) (k : ℕ) (c : Command) (first now later : Session) (out out' out'' : SinkState)
    (here : take k cs ++ c ∷ [] ≡ take (k + 1) cs) (d : Done names limit (take k cs) first now out out') where
  pub cut_off : (why : ScriptEnd) → DoesOne names limit c now later out' out'' (Err why) → Ran names limit cs first later out out'' (Err why)
  cut_off why one = record {
    before = take k cs;
    command = c;
    after = drop (k + 1) cs;
    place = sym (take-append-drop (k + 1) cs) ∙ ap (λ l. l ++ drop (k + 1) cs) (sym here) ∙ append_assoc (take k cs) (c ∷ []) (drop (k + 1) cs);
    mid = now;
    held = out';
    text = d.text;
    does = d.does;
    adds = d.adds;
    fails = one;
  }

  pub cut_cycles : (why : ScriptEnd) → DoesOne names limit c now later out' out'' (Err why) → ByCycles first.scene.world later.scene.world
  cut_cycles end.WriteFault one = by_both first.scene.world now.scene.world later.scene.world d.cycles (by_cycles limit c now later one.0)
  cut_cycles end.NoMemory (inl same) = by_both first.scene.world now.scene.world later.scene.world d.cycles (stays_put now later same.0)
  cut_cycles end.NoMemory (inr one) = by_both first.scene.world now.scene.world later.scene.world d.cycles (by_cycles limit c now later one.0)

  pub cut_by : (result : Result RunEnd ScriptEnd) (why : ScriptEnd) → IsErrAnd result (λ y. y ≡ why) → DoesOne names limit c now later out' out'' (Err why) → Ran names limit cs first later out out'' result
  cut_by (Ok how) why is one = absurd is
  cut_by (Err y) why is one = subst (λ e. Ran names limit cs first later out out'' (Err e)) (sym is) (cut_off why one)
