-- Rings are network boards and can be built, and their runs follow the reference network.
use Rattle.std.proofs.Common.{◌≡◌, ℕ, zero, suc, ◌+◌, ◌<◌, ◌≤◌, List, [], ◌∷◌, ◌++◌, map, length, Some, None, true, refl, sym, ap, subst, ◌∙◌, arith, slice_get, length-append}
use Rattle.std.proofs.lemmas.List.{map-append}
use Rattle.std.proofs.lemmas.List.FromFn.{length-map-range_with_len}
use Rattle.std.proofs.lemmas.Option.{same_Some, slice_get-map}
use Rattle.std.specs.List.{range_with_len}
use Rattle.core_regs.specs.declared.registers.Arch.{Arch}
use Rattle.isa_step.specs.Effects.{View}
use Rattle.timing_law.specs.Past.{fresh as fresh_past}
use Rattle.timing_law.specs.declared.pipe.Pipe.{Pipe}
use Rattle.timing_law.specs.declared.pipe.Pipe.TheVariants as pipe
use Rattle.core_iface.specs.Cores.{CoreState, made}
use Rattle.any_core.specs.Any.{slack_of}
use Rattle.any_core.specs.States.{any_state}
use Rattle.any_core.specs.declared.AnyCore.{AnyCore}
use Rattle.board_file.specs.declared.board.BoardFile.{BoardFile}
use Rattle.board_file.specs.declared.board.CoreRow.{CoreRow}
use Rattle.board_file.specs.declared.board.LinkRow.{LinkRow}
use Rattle.board_file.specs.declared.board.Turn.{Turn}
use Rattle.board_machine.specs.World.{Inputs}
use Rattle.exact_machine.specs.Machine.{ExactWorld}
use Rattle.exact_machine.specs.Runs.{ExactRun, exact_start, pipe_of}
use Rattle.board_run.specs.Boards.{AreNew, IsBuildable, IsNew}
use Rattle.board_run.proofs.WholeRuns.{run_of}
use Rattle.board_run.proofs.Beginning.{map_some}
use Rattle.board_run.proofs.Built.{are_new_more}
use Rattle.net_law.specs.Boards.{AreMarked, IsNetwork}
use Rattle.ring_demo.specs.Programs.{no_inputs, ring_view, ring_views}
use Rattle.ring_demo.specs.Ring.{cores_of, output_link, ring_board, ring_core, ring_cores, ring_link, ring_links}
use Rattle.ring_demo.specs.Runs.{HasRun, RingsAreNetworks, ring_start}
use Rattle.ring_demo.specs.Summary.{IsTally}
use Rattle.ring_demo.specs.declared.run.Ran.{Ran}
use Rattle.ring_demo.proofs.Lists.{row_next}

-- a ring is a network board

marked : (number : ℕ) (cores : List ℕ) → AreMarked (map (ring_view number) cores)
marked number cores core v at =
    let x = map_some (ring_view number) (slice_get cores core) v (sym (slice_get-map (ring_view number) cores core) ∙ at) in
    subst (λ (v : View). v.arch.network ≡ true) x.2 refl

is_network : (turn : Turn) (number : ℕ) → IsNetwork (ring_board turn number) (ring_views number)
is_network turn number = record { network = refl; marked = marked number (range_with_len 0 (cores_of number)); timers = refl; intcs = refl; uarts = refl; events = refl }

pub are_networks : RingsAreNetworks
are_networks = record { are = is_network }

-- a ring can be built

none_some : {X : Type 0} (x : X) → None ≡ Some x → ⊥
none_some x e = cc

few : (number : ℕ) → cores_of number ≤ 16
few number = omega arith

clocked : (cores : List ℕ) (k : ℕ) (row : CoreRow) → slice_get (map ring_core cores) k ≡ Some row → 1 ≤ row.clock
clocked cores k row at =
    let x = map_some ring_core (slice_get cores k) row (sym (slice_get-map ring_core cores k) ∙ at) in
    subst (λ (r : CoreRow). 1 ≤ r.clock) x.2 (omega arith)

abbrev HasDepth : LinkRow → Type 0
HasDepth row = (1 ≤ row.depth) × (row.depth ≤ 4096)

deep : (count : ℕ) (cores : List ℕ) (k : ℕ) (row : LinkRow) → slice_get (map (ring_link count) cores ++ output_link ∷ []) k ≡ Some row → HasDepth row
deep count [] zero row at = subst HasDepth (same_Some output_link row at) (omega arith, omega arith)
deep count [] (suc k) row at = absurd (none_some row at)
deep count (core ∷ cores) zero row at = subst HasDepth (same_Some (ring_link count core) row at) (omega arith, omega arith)
deep count (core ∷ cores) (suc k) row at = deep count cores k row at

buildable : (turn : Turn) (number : ℕ) → IsBuildable (ring_board turn number)
buildable turn number =
    let small = few number in
    let cores : length (ring_cores (cores_of number)) ≡ cores_of number = length-map-range_with_len ring_core 0 (cores_of number) in
    let joined : length (map (ring_link (cores_of number)) (range_with_len 0 (cores_of number))) ≡ cores_of number =
    length-map-range_with_len (ring_link (cores_of number)) 0 (cores_of number) in
    let links : length (ring_links (cores_of number)) ≡ length (map (ring_link (cores_of number)) (range_with_len 0 (cores_of number))) + 1 =
    length-append (map (ring_link (cores_of number)) (range_with_len 0 (cores_of number))) (output_link ∷ []) in
    record {
      few_cores = omega (arith, small, cores);
      few_links = omega (arith, small, joined, links);
      clocks = clocked (range_with_len 0 (cores_of number));
      depths = deep (cores_of number) (range_with_len 0 (cores_of number));
      timers = λ k row at. absurd (none_some row at);
      intcs = λ k row at. absurd (none_some row at);
      few_uarts = omega arith;
      uarts = λ k row at. absurd (none_some row at);
    }

pub can_build : (turn : Turn) (number : ℕ) (file : BoardFile) → file ≡ ring_board turn number → IsBuildable file
can_build turn number file is = subst IsBuildable (sym is) (buildable turn number)

-- its cores are new

few_slack : (p : Pipe) → slack_of p < 64
few_slack pipe.Plain = omega arith
few_slack pipe.Three = omega arith
few_slack pipe.Five = omega arith
few_slack pipe.Eight = omega arith

pub begun_is_new : (row : CoreRow) (p : Pipe) (arch : Arch) (memory : List ℕ) (s : CoreState) → p ≡ pipe_of row.pipeline → s ≡ made p (slack_of p) arch memory → IsNew row s
begun_is_new row p arch memory s same e = subst (IsNew row) (sym e) (record {
  acts = refl;
  ticks = refl;
  slack = few_slack p;
  flights = refl;
  past = ap fresh_past same;
})

pub none_new : AreNew [] []
none_new = record { count = refl; each = λ k row s at there. absurd (none_some row at) }

abbrev pub view_seen : AnyCore → View
view_seen core = (any_state core).view

-- one core more
pub new_more : (k : ℕ) (cores new : List AnyCore) (core : AnyCore) → new ≡ cores ++ core ∷ [] → AreNew (map ring_core (range_with_len 0 k)) (map any_state cores)
    → IsNew (ring_core k) (any_state core) → AreNew (map ring_core (range_with_len 0 (k + 1))) (map any_state new)
new_more k cores new core pushed hs h =
    rw (pushed, map-append any_state cores (core ∷ []), row_next ring_core k)
    (are_new_more (map ring_core (range_with_len 0 k)) (map any_state cores) (ring_core k) (any_state core) hs h)

pub views_more : (number k : ℕ) (cores new : List AnyCore) (core : AnyCore) → new ≡ cores ++ core ∷ [] → map view_seen cores ≡ map (ring_view number) (range_with_len 0 k)
    → view_seen core ≡ ring_view number k → map view_seen new ≡ map (ring_view number) (range_with_len 0 (k + 1))
views_more number k cores new core pushed hs h =
    ap (map view_seen) pushed ∙ map-append view_seen cores (core ∷ []) ∙ ap (λ vs. vs ++ view_seen core ∷ []) hs
    ∙ ap (λ v. map (ring_view number) (range_with_len 0 k) ++ v ∷ []) h ∙ sym (row_next (ring_view number) k)

pub all_new : (number count : ℕ) (file : BoardFile) (turn : Turn) (cores : List AnyCore) → file ≡ ring_board turn number → count ≡ cores_of number
    → AreNew (map ring_core (range_with_len 0 count)) (map any_state cores) → AreNew file.cores (map any_state cores)
all_new number count file turn cores is many h =
    let P : ℕ → Type 0 = λ n. AreNew (map ring_core (range_with_len 0 n)) (map any_state cores) in
    let Q : BoardFile → Type 0 = λ b. AreNew b.cores (map any_state cores) in
    subst Q (sym is) (subst P many h)

-- it starts
pub started : (turn : Turn) (number count : ℕ) (file : BoardFile) (cores : List AnyCore) (inputs : Inputs) (x : ExactWorld) → file ≡ ring_board turn number → count ≡ cores_of number
    → map view_seen cores ≡ map (ring_view number) (range_with_len 0 count) → inputs.links ≡ [] → inputs.uarts ≡ [] → x ≡ exact_start file (map view_seen cores) inputs 1_048_576
    → x ≡ ring_start turn number
started turn number count file cores inputs x is many views links uarts began =
    let none : inputs ≡ no_inputs = λ i. record { links = links i; uarts = uarts i } in
    began ∙ ap (λ given. exact_start file (map view_seen cores) given 1_048_576) none ∙ ap (λ b. exact_start b (map view_seen cores) no_inputs 1_048_576) is
    ∙ ap (λ vs. exact_start (ring_board turn number) vs no_inputs 1_048_576) (views ∙ ap (λ n. map (ring_view number) (range_with_len 0 n)) many)

-- and runs
pub has_run : (turn : Turn) (number : ℕ) (ran : Ran) (first last : ExactWorld) → first ≡ ring_start turn number → ExactRun 10_000_000 first last ran.end
    → IsTally ran.tally last.fabric.journal → HasRun turn number ran
has_run turn number ran first last start run left =
    let count : length (ring_views number) ≡ length (ring_board turn number).cores =
    length-map-range_with_len (ring_view number) 0 (cores_of number) ∙ sym (length-map-range_with_len ring_core 0 (cores_of number)) in
    let runs = run_of (ring_board turn number) (ring_views number) no_inputs 1_048_576 10_000_000 last ran.end count (subst (λ x. ExactRun 10_000_000 x last ran.end) start run) in
    record { last = last; runs = runs; left = left; network = runs.is_run.network (is_network turn number) }
