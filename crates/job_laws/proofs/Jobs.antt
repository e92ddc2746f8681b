-- What a loaded network board's run follows, and that what is loaded is determined by the files.
use Rattle.std.proofs.Common.{◌≡◌, ℕ, zero, suc, List, [], ◌∷◌, map, Option, Some, refl, ap, sym, ◌∙◌, subst, slice_get, Bool, true}
use Rattle.std.proofs.lemmas.Option.{same_Some}
use Rattle.isa_step.specs.Effects.{View}
use Rattle.elf_image.specs.Elf.{image_of}
use Rattle.host_io.specs.Outside.{Files}
use Rattle.board_file.specs.declared.board.BoardFile.{BoardFile}
use Rattle.board_file.specs.declared.board.CoreRow.{CoreRow}
use Rattle.board_file.specs.declared.board.LinkRow.{LinkRow}
use Rattle.board_file.specs.declared.board.UartRow.{UartRow}
use Rattle.board_file_laws.proofs.Soundness.{read_is_sound}
use Rattle.board_load.specs.Files.{Holds}
use Rattle.board_load.specs.Jobs.{AreCoresOf, AreLoaded, IsCoreOf, IsInputOf, IsSerialOf, input_files, serial_files, view_of}
use Rattle.board_machine.specs.Cycles.{cycles_of}
use Rattle.board_machine.specs.World.{Inputs, Reached, World}
use Rattle.net_law.specs.Boards.{IsNetwork}
use Rattle.net_law.proofs.Files.{leads_out, network_law, runs_agree}
use Rattle.net_law.proofs.Reading.{read_boards}
use Rattle.exact_machine.specs.Runs.{ExactRun, exact_start}
use Rattle.exact_machine.proofs.Determined.{determined}
use Rattle.job_laws.specs.Jobs.{IsNetworkRun, JobsAgree, JobsFollow, JobsRunAlike, loaded_by}

-- each core is made with the mark of its board
marked : (files : Option Files) (network : Bool) (rows : List CoreRow) (views : List View) (core : ℕ) (v : View) → AreCoresOf files network rows views → slice_get views core ≡ Some v → v.arch.network ≡ network
marked files network [] [] core v h e = cc
marked files network [] (x ∷ views) core v h e = absurd h
marked files network (r ∷ rows) [] core v h e = absurd h
marked files network (r ∷ rows) (x ∷ views) zero v h e = ap (λ (v : View). v.arch.network) (sym (same_Some x v e) ∙ h.0.2)
marked files network (r ∷ rows) (x ∷ views) (suc core) v h e = marked files network rows views core v h.1 e

is_network : (files : Option Files) (b : BoardFile) (views : List View) (inputs : Inputs) (last : World) → IsNetworkRun files b views inputs last → IsNetwork b views
is_network files b views inputs last r =
    let board = r.job.passes.is_board in
    read_boards.read board.0 b views board.2 r.network (λ core v e. marked files b.network b.cores views core v r.job.has_cores e ∙ r.network)

reached : (files : Option Files) (b : BoardFile) (views : List View) (inputs : Inputs) (last : World) → IsNetworkRun files b views inputs last → Reached b views inputs last
reached files b views inputs last r = record { first = r.first; events = cycles_of r.first.schedule r.first.fabric.cycle r.count; began = r.began; ran = r.ran }

pub jobs_follow : JobsFollow
jobs_follow = record {
  follows = λ files b views inputs last r. network_law.follows b views inputs last (is_network files b views inputs last r) (reached files b views inputs last r);
  outputs = λ files b views inputs last r link row name there to.
      let board = r.job.passes.is_board in
      leads_out b link row name there (λ other from. (read_is_sound board.0 b board.2).one_file link row other name there from to) to;
}

-- what is loaded is determined by the files

same_bytes : (files : Files) (name other : List ℕ) (limit : ℕ) (xs ys : List ℕ) → other ≡ name → Holds (Some files) name limit xs → Holds (Some files) other limit ys → ys ≡ xs
same_bytes files name other limit xs ys e h k = same_Some ys xs (sym k.0 ∙ ap files e ∙ h.0)

same_view : (files : Files) (network : Bool) (row other : CoreRow) (v w : View) → loaded_by other ≡ loaded_by row → IsCoreOf (Some files) network row v → IsCoreOf (Some files) network other w → w ≡ v
same_view files network row other v w e h k =
    let bytes = same_bytes files row.image other.image _ h.0 k.0 (ap (λ (p : List ℕ × ℕ). p.0) e) h.1.0 k.1.0 in
    k.2 ∙ ap (λ (p : List ℕ × ℕ). view_of network p.1 (image_of k.0)) e ∙ ap (λ bytes. view_of network row.memory (image_of bytes)) bytes ∙ sym h.2

same_views : (files : Files) (network : Bool) (rows others : List CoreRow) (vs ws : List View) → map loaded_by others ≡ map loaded_by rows → AreCoresOf (Some files) network rows vs → AreCoresOf (Some files) network others ws → ws ≡ vs
same_views files network [] [] [] [] e h k = refl
same_views files network [] [] [] (w ∷ ws) e h k = absurd k
same_views files network [] [] (v ∷ vs) ws e h k = absurd h
same_views files network [] (o ∷ others) vs ws e h k = cc
same_views files network (r ∷ rows) [] vs ws e h k = cc
same_views files network (r ∷ rows) (o ∷ others) [] ws e h k = absurd h
same_views files network (r ∷ rows) (o ∷ others) (v ∷ vs) [] e h k = absurd k
same_views files network (r ∷ rows) (o ∷ others) (v ∷ vs) (w ∷ ws) e h k =
    let first : loaded_by o ≡ loaded_by r = cc in
    let rest : map loaded_by others ≡ map loaded_by rows = cc in
    ap (λ x. x ∷ ws) (same_view files network r o v w first h.0 k.0) ∙ ap (λ xs. v ∷ xs) (same_views files network rows others vs ws rest h.1 k.1)

same_inputs : (files : Files) (names : List (List ℕ)) (xs ys : List (List ℕ)) → AreLoaded (IsInputOf (Some files)) names xs → AreLoaded (IsInputOf (Some files)) names ys → ys ≡ xs
same_inputs files [] [] [] h k = refl
same_inputs files [] [] (y ∷ ys) h k = absurd k
same_inputs files [] (x ∷ xs) ys h k = absurd h
same_inputs files (name ∷ names) [] ys h k = absurd h
same_inputs files (name ∷ names) (x ∷ xs) [] h k = absurd k
same_inputs files (name ∷ names) (x ∷ xs) (y ∷ ys) h k = ap (λ z. z ∷ ys) (same_bytes files name name _ x y refl h.0.0 k.0.0) ∙ ap (λ zs. x ∷ zs) (same_inputs files names xs ys h.1 k.1)

same_serials : (files : Files) (names : List (List ℕ)) (xs ys : List (List ℕ)) → AreLoaded (IsSerialOf (Some files)) names xs → AreLoaded (IsSerialOf (Some files)) names ys → ys ≡ xs
same_serials files [] [] [] h k = refl
same_serials files [] [] (y ∷ ys) h k = absurd k
same_serials files [] (x ∷ xs) ys h k = absurd h
same_serials files (name ∷ names) [] ys h k = absurd h
same_serials files (name ∷ names) (x ∷ xs) [] h k = absurd k
same_serials files (name ∷ names) (x ∷ xs) (y ∷ ys) h k = ap (λ z. z ∷ ys) (same_bytes files name name _ x y refl h.0 k.0) ∙ ap (λ zs. x ∷ zs) (same_serials files names xs ys h.1 k.1)

pub jobs_run_alike : JobsRunAlike
jobs_run_alike = record {
  alike = λ files b room limit v w end last r s.
      let views : s.views ≡ r.views = same_views files b.network b.cores b.cores r.views s.views refl r.job.has_cores s.job.has_cores in
      let from_links : s.inputs.links ≡ r.inputs.links = same_inputs files (input_files b.links) r.inputs.links s.inputs.links r.job.has_inputs s.job.has_inputs in
      let from_uarts : s.inputs.uarts ≡ r.inputs.uarts = same_serials files (serial_files b.uarts) r.inputs.uarts s.inputs.uarts r.job.has_serials s.job.has_serials in
      let inputs : s.inputs ≡ r.inputs = λ k. record { links = from_links k; uarts = from_uarts k } in
      let ran : ExactRun limit (exact_start b r.views r.inputs room) w last =
      subst (λ given. ExactRun limit (exact_start b r.views given room) w last) inputs (subst (λ vs. ExactRun limit (exact_start b vs s.inputs room) w last) views s.ran) in
      determined.one_end limit (exact_start b r.views r.inputs room) w v last end ran r.ran;
}

-- a network board has no UART, and so no input of one
none_loaded : (files : Files) (uarts : List UartRow) (xs : List (List ℕ)) → uarts ≡ [] → AreLoaded (IsSerialOf (Some files)) (serial_files uarts) xs → xs ≡ []
none_loaded files uarts [] e h = refl
none_loaded files uarts (x ∷ xs) e h = absurd (subst (λ us. AreLoaded (IsSerialOf (Some files)) (serial_files us) (x ∷ xs)) e h)

pub jobs_agree : JobsAgree
jobs_agree = record {
  agree = λ files b c views others inputs given v w links cores r s.
      let i = is_network (Some files) b views inputs v r in
      let j = is_network (Some files) c others given w s in
      let same : others ≡ views = same_views files true b.cores c.cores views others cores
      (subst (λ network. AreCoresOf (Some files) network b.cores views) r.network r.job.has_cores)
      (subst (λ network. AreCoresOf (Some files) network c.cores others) s.network s.job.has_cores) in
      let from_links : given.links ≡ inputs.links = same_inputs files (input_files b.links) inputs.links given.links r.job.has_inputs
      (subst (λ (rows : List LinkRow). AreLoaded (IsInputOf (Some files)) (input_files rows) given.links) links s.job.has_inputs) in
      let from_uarts : given.uarts ≡ inputs.uarts = none_loaded files c.uarts given.uarts j.uarts s.job.has_serials ∙ sym (none_loaded files b.uarts inputs.uarts i.uarts r.job.has_serials) in
      let all : given ≡ inputs = λ k. record { links = from_links k; uarts = from_uarts k } in
      runs_agree.agree b c views inputs v w links i (subst (IsNetwork c) same j) (reached (Some files) b views inputs v r)
      (subst (λ inputs. Reached c views inputs w) all (subst (λ views. Reached c views given w) same (reached (Some files) c others given w s)));
}
