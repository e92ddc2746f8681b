-- A board that was read and is a network has no device and no event.
use Rattle.std.proofs.Common.{◌≡◌, ℕ, List, [], ◌∷◌, ◌++◌, Option, flat_map, refl, sym, ◌∙◌, subst, true, false}
use Rattle.std.specs.Option.{is_some}
use Rattle.toml.specs.Data.{Data, Members, table, no_members, member}
use Rattle.board_file.proofs.Values.{both_nil, none_from_nil}
use Rattle.board_file.specs.Board.{base_faults, faults, irq_faults, naming_faults, within_tables}
use Rattle.board_file.specs.Bus.{sum_faults}
use Rattle.board_file.specs.Faults.{fault_at}
use Rattle.board_file.specs.Keys.{row_keys, tables}
use Rattle.board_file.specs.Rows.{AreRows}
use Rattle.board_file.specs.Rules.{count_faults, each_row, inner_faults, is_network, keys_faults, row_code, row_faults, stray_faults, table_faults, top_faults, value_faults, version_in_file}
use Rattle.board_file.specs.Tree.{inside, row_place, rows_in}
use Rattle.board_file.specs.declared.keys.Rows.{Rows}
use Rattle.board_file.specs.declared.keys.Rows.TheVariants as rows
use Rattle.net_law.specs.Boards.{ReadBoardsAreNetworks}

-- a table of which a network board has no row
abbrev IsBanned : Rows → Type 0
IsBanned r = (ms : Members) → is_some (row_code true r ms) ≡ true

banned_inner : (tree : Members) (r : Rows) (at : List ℕ) (ms : Members) → IsBanned r → inner_faults true tree r at ms ≡ [] → ⊥
unfolding inner_faults
banned_inner tree r at ms banned e =
    let last = both_nil (keys_faults tree (inside at) ms (row_keys (version_in_file tree) r) ++ stray_faults (inside at) (row_keys (version_in_file tree) r) ms) (fault_at (row_code true r ms) at) e in
    let none : is_some (row_code true r ms) ≡ false = rw (none_from_nil (row_code true r ms) at last.1) refl in
    let z : true ≡ false = sym (banned ms) ∙ none in
    cc

banned_value : (tree : Members) (r : Rows) (at : List ℕ) (d : Data) → IsBanned r → value_faults true tree r at d ≡ [] → ⊥
banned_value tree r at (table ms) banned e = banned_inner tree r at ms banned e
banned_value tree r at _ banned e = cc

banned_row : (tree : Members) (r : Rows) (name : List ℕ) (d : Data) → IsBanned r → row_faults true tree r name d ≡ [] → ⊥
unfolding row_faults
banned_row tree r name d banned e = banned_value tree r (row_place r name) d banned (both_nil _ (value_faults true tree r (row_place r name) d) e).1

no_rows_read : {R : Type 0} (means : List ℕ → Members → Option R) (tree : Members) (r : Rows) (ms : Members) (rows : List R) → IsBanned r → each_row true tree r ms ≡ [] → AreRows means ms rows → rows ≡ []
no_rows_read means tree r no_members [] banned e a = refl
no_rows_read means tree r no_members (row ∷ rows) banned e a = absurd a
no_rows_read means tree r (member name d ms) rows banned e a = absurd (banned_row tree r name d banned (both_nil (row_faults true tree r name d) (each_row true tree r ms) e).0)

timers_banned : IsBanned rows.Timer
unfolding row_code
timers_banned ms = refl

intcs_banned : IsBanned rows.Intc
unfolding row_code
intcs_banned ms = refl

uarts_banned : IsBanned rows.Uart
unfolding row_code
uarts_banned ms = refl

events_banned : IsBanned rows.Event
unfolding row_code
events_banned ms = refl

abbrev IsFaultless : Members → Rows → Type 0
IsFaultless tree r = each_row (is_network tree) tree r (rows_in tree r) ≡ []

faultless : (tree : Members) (r : Rows) → table_faults tree r ≡ [] → IsFaultless tree r
unfolding table_faults
faultless tree r e = (both_nil (each_row (is_network tree) tree r (rows_in tree r)) (count_faults tree r) e).0

record AreFaultless (tree : Members) : Type 0 where
  timers : IsFaultless tree rows.Timer
  intcs : IsFaultless tree rows.Intc
  uarts : IsFaultless tree rows.Uart
  events : IsFaultless tree rows.Event

each_table : (tree : Members) → flat_map (table_faults tree) tables ≡ [] → AreFaultless tree
unfolding tables
each_table tree e =
    let core = both_nil (table_faults tree rows.Core) _ e in
    let link = both_nil (table_faults tree rows.Link) _ core.1 in
    let timer = both_nil (table_faults tree rows.Timer) _ link.1 in
    let intc = both_nil (table_faults tree rows.Intc) _ timer.1 in
    let uart = both_nil (table_faults tree rows.Uart) _ intc.1 in
    let event = both_nil (table_faults tree rows.Event) _ uart.1 in
    record { timers = faultless tree rows.Timer timer.0; intcs = faultless tree rows.Intc intc.0; uarts = faultless tree rows.Uart uart.0; events = faultless tree rows.Event event.0 }

all_faultless : (tree : Members) → faults tree ≡ [] → AreFaultless tree
unfolding faults within_tables
all_faultless tree e =
    let sum = both_nil (within_tables tree ++ naming_faults tree ++ base_faults tree ++ irq_faults tree) (sum_faults tree) e in
    let irq = both_nil (within_tables tree ++ naming_faults tree ++ base_faults tree) (irq_faults tree) sum.0 in
    let base = both_nil (within_tables tree ++ naming_faults tree) (base_faults tree) irq.0 in
    let naming = both_nil (within_tables tree) (naming_faults tree) base.0 in
    let within = both_nil (top_faults tree) (flat_map (table_faults tree) tables) naming.0 in
    each_table tree within.1

on_network : (tree : Members) (r : Rows) → is_network tree ≡ true → IsFaultless tree r → each_row true tree r (rows_in tree r) ≡ []
on_network tree r e h = subst (λ network. each_row network tree r (rows_in tree r) ≡ []) e h

pub read_boards : ReadBoardsAreNetworks
read_boards = record {
  read = λ file b views h network marked.
      let tree = h.tree in
      let is = sym h.is_board.network ∙ network in
      let f = all_faultless tree h.is_right in
      record {
        network = network;
        marked = marked;
        timers = no_rows_read _ tree rows.Timer (rows_in tree rows.Timer) b.timers timers_banned (on_network tree rows.Timer is f.timers) h.is_board.timers;
        intcs = no_rows_read _ tree rows.Intc (rows_in tree rows.Intc) b.intcs intcs_banned (on_network tree rows.Intc is f.intcs) h.is_board.intcs;
        uarts = no_rows_read _ tree rows.Uart (rows_in tree rows.Uart) b.uarts uarts_banned (on_network tree rows.Uart is f.uarts) h.is_board.uarts;
        events = no_rows_read _ tree rows.Event (rows_in tree rows.Event) b.events events_banned (on_network tree rows.Event is f.events) h.is_board.events;
      };
}
