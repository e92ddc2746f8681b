-- What every run of a network board has in common with the reference network, and so with every other run of it.
use Rattle.std.specs.Prelude.{◌≡◌, ◌⊎◌, ℕ, ◌+◌, ◌<◌, ◌==◌, Bool, true, false, if◌then◌else◌, List, ◌++◌, length, map, filter, Option, Some, None}
use Rattle.std.specs.Option.{option_map}
use Rattle.std.specs.List.{filter_map, sum_by}
use Rattle.axi_link.specs.declared.item.Item.{Item}
use Rattle.isa_step.specs.Effects.{View}
use Rattle.run_journal.specs.declared.entry.Entry.{Entry}
use Rattle.run_journal.specs.declared.entry.What.{What}
use Rattle.run_journal.specs.declared.entry.What.TheVariants.{Got, Sent, HostSent, HostGot}
use Rattle.run_journal.specs.Files.{link_file}
use Rattle.link_file.specs.File.{file_of}
use Rattle.board_file.specs.declared.board.BoardFile.{BoardFile}
use Rattle.board_file.specs.declared.board.LinkRow.{LinkRow}
use Rattle.board_machine.specs.Fabric.{link_from, link_to}
use Rattle.board_machine.specs.World.{CoreAt, Inputs, Reached, World}
use Rattle.board_machine.specs.Resting.{Still}
use Rattle.board_machine.specs.Runs.{KeepsRuns}
use Rattle.net_law.specs.Boards.{IsNetwork, IsOutput}
use Rattle.net_law.specs.Network.{Process, history, plain}

-- the journal's history of a link

-- the link that an entry put an item in, and the one that it took an item out of
abbrev pub put_of : List LinkRow → ℕ → What → Option (ℕ × Item)
put_of rows core (Sent port item) = option_map (λ link. (link, item)) (link_from rows core port)
put_of rows core (HostSent link item) = Some (link, item)
put_of rows core _ = None

abbrev pub taken_of : List LinkRow → ℕ → What → Option (ℕ × Item)
taken_of rows core (Got port item) = option_map (λ link. (link, item)) (link_to rows core port)
taken_of rows core (HostGot link item) = Some (link, item)
taken_of rows core _ = None

abbrev pub on_link : ℕ → Option (ℕ × Item) → Option Item
on_link link None = None
on_link link (Some m) = if m.0 == link then Some m.1 else None

-- the items that were sent to a link, and those that left it
abbrev pub sent_on : List LinkRow → ℕ → List Entry → List Item
sent_on rows link journal = filter_map (λ (e : Entry). on_link link (put_of rows e.core e.what)) journal

abbrev pub got_on : List LinkRow → ℕ → List Entry → List Item
got_on rows link journal = filter_map (λ (e : Entry). on_link link (taken_of rows e.core e.what)) journal

-- the number of rounds: all that the cores and the host did

abbrev pub is_move_of_host : What → Bool
is_move_of_host (HostSent link item) = true
is_move_of_host (HostGot link item) = true
is_move_of_host _ = false

abbrev pub acts_in : World → ℕ
acts_in w = sum_by (λ (s : CoreAt). s.acts) w.cores + length (filter (λ (e : Entry). is_move_of_host e.what) w.fabric.journal)

-- the law

abbrev pub IsPrefixOf : {X : Type 0} → List X → List X → Type 0
IsPrefixOf {X} xs ys = (rest : List X) × (xs ++ rest ≡ ys)

abbrev pub process_of : CoreAt → Process
process_of s = record { view = s.view; acts = s.acts }

-- each link's items and file are a prefix of what the reference network sends in as many rounds as there were acts; at rest
-- they are all of that, however many more rounds follow, and each core's view and acts are the reference network's
pub record FollowsNetwork (b : BoardFile) (views : List View) (inputs : Inputs) (w : World) : Type 0 where
  pub sent : (link : ℕ) → link < length b.links → IsPrefixOf (sent_on b.links link w.fabric.journal) (history (plain b views inputs (acts_in w)) link)
  pub got : (link : ℕ) → link < length b.links → IsPrefixOf (got_on b.links link w.fabric.journal) (history (plain b views inputs (acts_in w)) link)
  pub file : (link : ℕ) → IsOutput b link → IsPrefixOf (link_file link w.fabric.journal) (file_of (history (plain b views inputs (acts_in w)) link))
  pub cores_at_rest : Still w → (more : ℕ) → map process_of w.cores ≡ (plain b views inputs (more + acts_in w)).processes
  pub sent_at_rest : Still w → (more link : ℕ) → link < length b.links → sent_on b.links link w.fabric.journal ≡ history (plain b views inputs (more + acts_in w)) link
  pub file_at_rest : Still w → (more link : ℕ) → IsOutput b link → link_file link w.fabric.journal ≡ file_of (history (plain b views inputs (more + acts_in w)) link)

-- whatever the list of events
pub record NetworkLaw : Type 0 where
  pub follows : (b : BoardFile) (views : List View) (inputs : Inputs) (w : World) → IsNetwork b views → Reached b views inputs w → FollowsNetwork b views inputs w

-- the consequence

-- of each link's two files one is a prefix of the other, and that of a run at rest is the longer one; when both rest, the
-- files are equal, and so are the cores
pub record Agree (b : BoardFile) (v w : World) : Type 0 where
  pub files : (link : ℕ) → IsOutput b link → IsPrefixOf (link_file link v.fabric.journal) (link_file link w.fabric.journal) ⊎ IsPrefixOf (link_file link w.fabric.journal) (link_file link v.fabric.journal)
  pub longest_at_rest : Still v → (link : ℕ) → IsOutput b link → IsPrefixOf (link_file link w.fabric.journal) (link_file link v.fabric.journal)
  pub files_at_rest : Still v → Still w → (link : ℕ) → IsOutput b link → link_file link v.fabric.journal ≡ link_file link w.fabric.journal
  pub cores_at_rest : Still v → Still w → map process_of v.cores ≡ map process_of w.cores

-- whatever differs between two runs, but links, first views and input files
pub record RunsAgree : Type 0 where
  pub agree : (b c : BoardFile) (views : List View) (inputs : Inputs) (v w : World) → c.links ≡ b.links → IsNetwork b views → IsNetwork c views → Reached b views inputs v → Reached c views inputs w → Agree b v w

-- for a call: if the state before it was reached from the beginning of a network board, the state after it follows the
-- reference network
abbrev pub KeepsNetwork : World → World → Type 0
KeepsNetwork old new = (b : BoardFile) (views : List View) (inputs : Inputs) → IsNetwork b views → Reached b views inputs old → FollowsNetwork b views inputs new

-- what keeps the runs of a board keeps the law
pub record RunsKeepNetwork : Type 0 where
  pub keeps : (old new : World) → KeepsRuns old new → KeepsNetwork old new
