-- What a tree without faults says of each part of it.
use Rattle.std.proofs.Common.{◌≡◌, ℕ, true, List, [], ◌∷◌, ◌++◌, flat_map, None}
use Rattle.toml.specs.Data.{Members}
use Rattle.board_file.proofs.Values.{both_nil, true_from_nil, none_from_nil}
use Rattle.board_file.specs.Board.{base_faults, faults, irq_faults, naming_faults, within_tables}
use Rattle.board_file.specs.Bus.{is_affordable, memory_sum, sum_faults}
use Rattle.board_file.specs.Claims.{core_claims, file_claims, gets, puts, twice_faults}
use Rattle.board_file.specs.Faults.{fault_at, fault_unless}
use Rattle.board_file.specs.Keys.{key_of, tables}
use Rattle.board_file.specs.Read.{key_code}
use Rattle.board_file.specs.Rules.{are_few, count_faults, count_members, each_row, is_network, key_faults, keys_faults, many_code, table_faults, top_faults, version_in_file}
use Rattle.board_file.specs.Tree.{at_key, rows_in, table_place}
use Rattle.board_file.specs.declared.fault.BoardRule.TheVariants as broken
use Rattle.board_file.specs.declared.keys.Key.{Key}
use Rattle.board_file.specs.declared.keys.KeyRule.{KeyRule}
use Rattle.board_file.specs.declared.keys.Rows.{Rows}
use Rattle.board_file.specs.declared.keys.Rows.TheVariants as rows

-- a table without faults: its rows have none, and they are few
pub record IsFaultless (tree : Members) (r : Rows) : Type 0 where
  pub rows : each_row (is_network tree) tree r (rows_in tree r) ≡ []
  pub few : are_few (version_in_file tree) r (count_members (rows_in tree r)) ≡ true

faultless : (tree : Members) (r : Rows) → table_faults tree r ≡ [] → IsFaultless tree r
unfolding table_faults count_faults
faultless tree r e =
    let parts = both_nil (each_row (is_network tree) tree r (rows_in tree r)) (fault_unless (are_few (version_in_file tree) r (count_members (rows_in tree r))) (many_code r) (table_place r)) e in
    record { rows = parts.0; few = true_from_nil _ _ _ parts.1 }

-- the parts of a tree without faults that the rows of the board rest on
pub record IsWhole (tree : Members) : Type 0 where
  pub top : top_faults tree ≡ []
  pub cores : IsFaultless tree rows.Core
  pub links : IsFaultless tree rows.Link
  pub timers : IsFaultless tree rows.Timer
  pub intcs : IsFaultless tree rows.Intc
  pub uarts : IsFaultless tree rows.Uart
  pub events : IsFaultless tree rows.Event
  pub files : twice_faults broken.FileTwice (file_claims tree) ≡ []
  pub puts : twice_faults broken.PortTwice (core_claims tree puts) ≡ []
  pub gets : twice_faults broken.PortTwice (core_claims tree gets) ≡ []
  pub sum : is_affordable (memory_sum (rows_in tree rows.Core)) ≡ true

record AreTables (tree : Members) : Type 0 where
  cores : IsFaultless tree rows.Core
  links : IsFaultless tree rows.Link
  timers : IsFaultless tree rows.Timer
  intcs : IsFaultless tree rows.Intc
  uarts : IsFaultless tree rows.Uart
  events : IsFaultless tree rows.Event

each_table : (tree : Members) → flat_map (table_faults tree) tables ≡ [] → AreTables tree
unfolding tables
each_table tree e =
    let core = both_nil (table_faults tree rows.Core) _ e in
    let link = both_nil (table_faults tree rows.Link) _ core.1 in
    let timer = both_nil (table_faults tree rows.Timer) _ link.1 in
    let intc = both_nil (table_faults tree rows.Intc) _ timer.1 in
    let uart = both_nil (table_faults tree rows.Uart) _ intc.1 in
    let event = both_nil (table_faults tree rows.Event) _ uart.1 in
    record {
      cores = faultless tree rows.Core core.0;
      links = faultless tree rows.Link link.0;
      timers = faultless tree rows.Timer timer.0;
      intcs = faultless tree rows.Intc intc.0;
      uarts = faultless tree rows.Uart uart.0;
      events = faultless tree rows.Event event.0;
    }

affordable : (tree : Members) → sum_faults tree ≡ [] → is_affordable (memory_sum (rows_in tree rows.Core)) ≡ true
unfolding sum_faults
affordable tree e = true_from_nil _ _ _ e

pub whole : (tree : Members) → faults tree ≡ [] → IsWhole tree
unfolding faults within_tables naming_faults
whole tree e =
    let sum = both_nil (within_tables tree ++ naming_faults tree ++ base_faults tree ++ irq_faults tree) (sum_faults tree) e in
    let irq = both_nil (within_tables tree ++ naming_faults tree ++ base_faults tree) (irq_faults tree) sum.0 in
    let base = both_nil (within_tables tree ++ naming_faults tree) (base_faults tree) irq.0 in
    let naming = both_nil (within_tables tree) (naming_faults tree) base.0 in
    let within = both_nil (top_faults tree) (flat_map (table_faults tree) tables) naming.0 in
    let tables = each_table tree within.1 in
    let got = both_nil (twice_faults broken.FileTwice (file_claims tree) ++ twice_faults broken.PortTwice (core_claims tree puts)) (twice_faults broken.PortTwice (core_claims tree gets)) naming.1 in
    let put = both_nil (twice_faults broken.FileTwice (file_claims tree)) (twice_faults broken.PortTwice (core_claims tree puts)) got.0 in
    record {
      top = within.0;
      cores = tables.cores;
      links = tables.links;
      timers = tables.timers;
      intcs = tables.intcs;
      uarts = tables.uarts;
      events = tables.events;
      files = put.0;
      puts = put.1;
      gets = got.1;
      sum = affordable tree sum.1;
    }

-- the rest of the keys are right where all are, and so is the first
pub first_key : (tree : Members) (at : List ℕ) (ms : Members) (k : Key) (rule : KeyRule) (more : List KeyRule) → key_of rule ≡ k → keys_faults tree at ms (rule ∷ more) ≡ [] → (key_code tree rule (at_key k ms) ≡ None) × (keys_faults tree at ms more ≡ [])
unfolding keys_faults key_faults
first_key tree at ms k rule more is e =
    let parts = both_nil (fault_at (key_code tree rule (at_key (key_of rule) ms)) _) _ e in
    (rw is at (none_from_nil _ _ parts.0), parts.1)
