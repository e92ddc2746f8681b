-- The board of a tree without faults has each row of its tables.
use Rattle.std.proofs.Common.{◌≡◌, ℕ, Bool, true, false, ◌&&◌, not, ◌==◌, nat_le, if◌then◌else◌, List, [], ◌∷◌, ◌++◌, flat_map, Option, Some, None, option_and_then, unwrap_or, refl, sym, subst, arith}
use Rattle.std.specs.Option.{is_some}
use Rattle.toml.specs.Data.{Data, Members, as_str}
use Rattle.board_file.proofs.Least.{none_is_least}
use Rattle.board_file.proofs.Values.{both_nil, true_from_nil, none_from_nil, needed_file, needed_number, needed_pipeline, needed_break, needed_core, given_file, given_number, given_core}
use Rattle.board_file.proofs.WholeRows.{Makes, ArePlaced, all_rows, cores_placed}
use Rattle.board_file.specs.Board.{IsRead, base_faults, faults, irq_faults, naming_faults, within_tables}
use Rattle.board_file.specs.Bus.{sum_faults}
use Rattle.board_file.specs.Faults.{fault_at, fault_unless, least}
use Rattle.board_file.specs.Keys.{key_of, row_keys, tables}
use Rattle.board_file.specs.Read.{file_at, file_in, key_code, number_at, number_in, right}
use Rattle.board_file.specs.Rows.{IsBoardOf, board_of, core_at, core_row, device_clock, end_made, event_row, from_end, intc_row, link_row, place_of, rows_by, timer_row, to_end, uart_row}
use Rattle.board_file.specs.Rules.{are_few, code_if, count_faults, count_members, each_row, has, is_end, is_link, is_network, key_faults, keys_faults, many_code, row_code, table_faults, top_faults, version_in_file}
use Rattle.board_file.specs.Tree.{IsTomlOf, are_ascending, at_key, rows_in, table_place}
use Rattle.board_file.specs.declared.board.BoardFile.{BoardFile}
use Rattle.board_file.specs.declared.board.CoreRow.{CoreRow}
use Rattle.board_file.specs.declared.board.End.{End}
use Rattle.board_file.specs.declared.board.End.TheVariants as end
use Rattle.board_file.specs.declared.fault.BoardRule.{BoardRule}
use Rattle.board_file.specs.declared.fault.BoardRule.TheVariants as broken
use Rattle.board_file.specs.declared.keys.Key.{Key}
use Rattle.board_file.specs.declared.keys.Key.TheVariants as key
use Rattle.board_file.specs.declared.keys.KeyRule.{KeyRule}
use Rattle.board_file.specs.declared.keys.KeyRule.TheVariants.{Needs, May}
use Rattle.board_file.specs.declared.keys.Kind.TheVariants as kind
use Rattle.board_file.specs.declared.keys.Quantity.TheVariants as quantity
use Rattle.board_file.specs.declared.keys.Rows.{Rows}
use Rattle.board_file.specs.declared.keys.Rows.TheVariants as rows

-- the rest of the keys are right where all are, and so is the first
first_key : (tree : Members) (at : List ℕ) (ms : Members) (k : Key) (rule : KeyRule) (more : List KeyRule) → key_of rule ≡ k → keys_faults tree at ms (rule ∷ more) ≡ [] → (key_code tree rule (at_key k ms) ≡ None) × (keys_faults tree at ms more ≡ [])
unfolding keys_faults key_faults
first_key tree at ms k rule more is e =
    let parts = both_nil (fault_at (key_code tree rule (at_key (key_of rule) ms)) _) _ e in
    (rw is at (none_from_nil _ _ parts.0), parts.1)

-- a core
core_makes : (network : Bool) (tree : Members) → Makes network tree rows.Core (core_row [])
unfolding core_row row_keys file_at
core_makes network tree = record {
  made = λ name ms named keys code.
      let image = first_key tree _ ms key.Image _ _ refl keys in
      let pipeline = first_key tree _ ms key.Pipeline _ _ refl image.1 in
      let i = needed_file tree key.Image (at_key key.Image ms) image.0 in
      let p = needed_pipeline tree key.Pipeline (at_key key.Pipeline ms) pipeline.0 in
      (record { name = name; image = i.0; pipeline = p.0; clock = unwrap_or (number_at quantity.Clock key.Clock ms) 1; memory = unwrap_or (number_at quantity.Memory key.Memory ms) 65536 }, rw (named, i.1, p.1) refl);
}

-- the core that a key names has its place
needed_place : (tree : Members) (cores : List CoreRow) (k : Key) (o : Option Data) → ArePlaced tree cores → key_code tree (Needs k kind.CoreName) o ≡ None → (c : ℕ) × (option_and_then (place_of cores) (option_and_then as_str o) ≡ Some c)
needed_place tree cores k o h e =
    let n = needed_core tree k o e in
    let at = h.placed n.0 n.2 in
    (at.0, rw n.1 at.1)

given_place : (tree : Members) (cores : List CoreRow) (k : Key) (d : Data) → ArePlaced tree cores → key_code tree (May k kind.CoreName) (Some d) ≡ None → (c : ℕ) × (option_and_then (place_of cores) (option_and_then as_str (Some d)) ≡ Some c)
given_place tree cores k d h e =
    let n = given_core tree k d e in
    let at = h.placed n.0 n.2 in
    (at.0, rw n.1 at.1)

timer_makes : (network : Bool) (tree : Members) (cores : List CoreRow) → ArePlaced tree cores → Makes network tree rows.Timer (timer_row cores)
unfolding timer_row row_keys core_at number_at
timer_makes network tree cores h = record {
  made = λ name ms named keys code.
      let core = first_key tree _ ms key.Core _ _ refl keys in
      let base = first_key tree _ ms key.Base _ _ refl core.1 in
      let c = needed_place tree cores key.Core (at_key key.Core ms) h core.0 in
      let b = needed_number tree key.Base quantity.Base (at_key key.Base ms) base.0 in
      (record { name = name; core = c.0; base = b.0; irq = number_at quantity.Irq key.Irq ms; clock = device_clock ms }, rw (named, c.1, b.1) refl);
}

intc_makes : (network : Bool) (tree : Members) (cores : List CoreRow) → ArePlaced tree cores → Makes network tree rows.Intc (intc_row cores)
unfolding intc_row row_keys core_at number_at
intc_makes network tree cores h = record {
  made = λ name ms named keys code.
      let core = first_key tree _ ms key.Core _ _ refl keys in
      let base = first_key tree _ ms key.Base _ _ refl core.1 in
      let c = needed_place tree cores key.Core (at_key key.Core ms) h core.0 in
      let b = needed_number tree key.Base quantity.Base (at_key key.Base ms) base.0 in
      (record { name = name; core = c.0; base = b.0; clock = device_clock ms }, rw (named, c.1, b.1) refl);
}

uart_makes : (network : Bool) (tree : Members) (cores : List CoreRow) → ArePlaced tree cores → Makes network tree rows.Uart (uart_row cores)
unfolding uart_row row_keys core_at number_at file_at
uart_makes network tree cores h = record {
  made = λ name ms named keys code.
      let core = first_key tree _ ms key.Core _ _ refl keys in
      let base = first_key tree _ ms key.Base _ _ refl core.1 in
      let output = first_key tree _ ms key.Output _ _ refl base.1 in
      let c = needed_place tree cores key.Core (at_key key.Core ms) h core.0 in
      let b = needed_number tree key.Base quantity.Base (at_key key.Base ms) base.0 in
      let o = needed_file tree key.Output (at_key key.Output ms) output.0 in
      (record { name = name; core = c.0; base = b.0; output = o.0; irq = number_at quantity.Irq key.Irq ms; input = file_at key.Input ms; every = unwrap_or (number_at quantity.Clock key.Every ms) 64; clock = device_clock ms }, rw (named, c.1, b.1, o.1) refl);
}

event_makes : (network : Bool) (tree : Members) (cores : List CoreRow) → ArePlaced tree cores → Makes network tree rows.Event (event_row cores)
unfolding event_row row_keys core_at number_at
event_makes network tree cores h = record {
  made = λ name ms named keys code.
      let core = first_key tree _ ms key.Core _ _ refl keys in
      let cycle = first_key tree _ ms key.Cycle _ _ refl core.1 in
      let taken = first_key tree _ ms key.Kind _ _ refl cycle.1 in
      let c = needed_place tree cores key.Core (at_key key.Core ms) h core.0 in
      let n = needed_number tree key.Cycle quantity.Cycle (at_key key.Cycle ms) cycle.0 in
      let b = needed_break tree key.Kind (at_key key.Kind ms) taken.0 in
      (record { name = name; core = c.0; cycle = n.0; nonmaskable = b.0 }, rw (named, c.1, n.1, b.1) refl);
}

-- an end of a link that has one form is a file or a port
end_there : (tree : Members) (cores : List CoreRow) (kc kp kf : Key) (core port file : Option Data) → ArePlaced tree cores
    → key_code tree (May kc kind.CoreName) core ≡ None → key_code tree (May kp (kind.Number quantity.Port)) port ≡ None → key_code tree (May kf kind.File) file ≡ None
    → is_end (is_some core) (is_some port) (is_some file) ≡ true
    → (e : End) × (end_made (option_and_then (place_of cores) (option_and_then as_str core)) (right (number_in quantity.Port) port) (right file_in file) ≡ Some e)
end_there tree cores kc kp kf core port (Some f) h c p e whole =
    let name = given_file tree kf f e in
    (end.File name.0, rw name.1 refl)
end_there tree cores kc kp kf (Some d) (Some n) None h c p e whole =
    let at = given_place tree cores kc d h c in
    let number = given_number tree kp quantity.Port n p in
    (end.Port at.0 number.0, rw (at.1, number.1) refl)
end_there tree cores kc kp kf None port None h c p e whole = grind arith
end_there tree cores kc kp kf (Some d) None None h c p e whole = grind arith

both_true : (a b c : Bool) → (a && b && c) ≡ true → (a ≡ true) × (b ≡ true)
both_true true true c e = (refl, refl)
both_true true false c e = grind arith
both_true false b c e = grind arith

no_code : (holds : Bool) (code : BoardRule) → code_if (not holds) code ≡ None → holds ≡ true
no_code true code e = refl
no_code false code e = grind arith

ends_are_whole : (network : Bool) (ms : Members) → row_code network rows.Link ms ≡ None
    → (is_end (has key.From ms) (has key.FromPort ms) (has key.FromFile ms) ≡ true) × (is_end (has key.To ms) (has key.ToPort ms) (has key.ToFile ms) ≡ true)
unfolding row_code is_link
ends_are_whole network ms e = both_true _ _ _ (no_code _ broken.BadLink e)

link_makes : (network : Bool) (tree : Members) (cores : List CoreRow) → ArePlaced tree cores → Makes network tree rows.Link (link_row cores)
unfolding link_row row_keys from_end to_end core_at number_at file_at
link_makes network tree cores h = record {
  made = λ name ms named keys code.
      let depth = first_key tree _ ms key.Depth _ _ refl keys in
      let from = first_key tree _ ms key.From _ _ refl depth.1 in
      let from_port = first_key tree _ ms key.FromPort _ _ refl from.1 in
      let from_file = first_key tree _ ms key.FromFile _ _ refl from_port.1 in
      let to = first_key tree _ ms key.To _ _ refl from_file.1 in
      let to_port = first_key tree _ ms key.ToPort _ _ refl to.1 in
      let to_file = first_key tree _ ms key.ToFile _ _ refl to_port.1 in
      let whole = ends_are_whole network ms code in
      let f = end_there tree cores key.From key.FromPort key.FromFile _ _ _ h from.0 from_port.0 from_file.0 whole.0 in
      let t = end_there tree cores key.To key.ToPort key.ToFile _ _ _ h to.0 to_port.0 to_file.0 whole.1 in
      (record { name = name; depth = unwrap_or (number_at quantity.Depth key.Depth ms) 16; from = f.0; to = t.0 }, rw (named, f.1, t.1) refl);
}

-- each table of a tree without faults has none
table_rows_right : (tree : Members) (r : Rows) → table_faults tree r ≡ [] → (each_row (is_network tree) tree r (rows_in tree r) ≡ []) × (are_few (version_in_file tree) r (count_members (rows_in tree r)) ≡ true)
unfolding table_faults count_faults
table_rows_right tree r e =
    let parts = both_nil (each_row (is_network tree) tree r (rows_in tree r)) (fault_unless (are_few (version_in_file tree) r (count_members (rows_in tree r))) (many_code r) (table_place r)) e in
    (parts.0, true_from_nil _ _ _ parts.1)

record TablesRight (tree : Members) : Type 0 where
  core : table_faults tree rows.Core ≡ []
  link : table_faults tree rows.Link ≡ []
  timer : table_faults tree rows.Timer ≡ []
  intc : table_faults tree rows.Intc ≡ []
  uart : table_faults tree rows.Uart ≡ []
  event : table_faults tree rows.Event ≡ []

each_table : (tree : Members) → flat_map (table_faults tree) tables ≡ [] → TablesRight tree
unfolding tables
each_table tree e =
    let a = both_nil (table_faults tree rows.Core) _ e in
    let b = both_nil (table_faults tree rows.Link) _ a.1 in
    let c = both_nil (table_faults tree rows.Timer) _ b.1 in
    let d = both_nil (table_faults tree rows.Intc) _ c.1 in
    let f = both_nil (table_faults tree rows.Uart) _ d.1 in
    let g = both_nil (table_faults tree rows.Event) _ f.1 in
    record { core = a.0; link = b.0; timer = c.0; intc = d.0; uart = f.0; event = g.0 }

all_tables_right : (tree : Members) → faults tree ≡ [] → TablesRight tree
unfolding faults within_tables
all_tables_right tree e =
    let a = both_nil (within_tables tree ++ naming_faults tree ++ base_faults tree ++ irq_faults tree) (sum_faults tree) e in
    let b = both_nil (within_tables tree ++ naming_faults tree ++ base_faults tree) (irq_faults tree) a.0 in
    let c = both_nil (within_tables tree ++ naming_faults tree) (base_faults tree) b.0 in
    let d = both_nil (within_tables tree) (naming_faults tree) c.0 in
    let f = both_nil (top_faults tree) (flat_map (table_faults tree) tables) d.0 in
    each_table tree f.1

few_by : (second : Bool) (n : ℕ) → nat_le n (if second then 64 else 16) ≡ true → nat_le n 64 ≡ true
few_by true n e = e
few_by false n e = grind arith

few_cores : (version n : ℕ) → are_few version rows.Core n ≡ true → nat_le n 64 ≡ true
unfolding are_few
few_cores version n e = few_by (version == 2) n e

pub board_is_whole : (tree : Members) → faults tree ≡ [] → IsBoardOf tree (board_of tree)
unfolding board_of
board_is_whole tree e =
    let network = is_network tree in
    let t = all_tables_right tree e in
    let core = table_rows_right tree rows.Core t.core in
    let cores = rows_by (core_row []) (rows_in tree rows.Core) in
    let are = all_rows network tree rows.Core (core_row []) (core_makes network tree) (rows_in tree rows.Core) core.0 in
    let placed = cores_placed tree cores are (few_cores _ _ core.1) in
    record {
      version = refl;
      turn = refl;
      network = refl;
      cores = are;
      links = all_rows network tree rows.Link (link_row cores) (link_makes network tree cores placed) (rows_in tree rows.Link) (table_rows_right tree rows.Link t.link).0;
      timers = all_rows network tree rows.Timer (timer_row cores) (timer_makes network tree cores placed) (rows_in tree rows.Timer) (table_rows_right tree rows.Timer t.timer).0;
      intcs = all_rows network tree rows.Intc (intc_row cores) (intc_makes network tree cores placed) (rows_in tree rows.Intc) (table_rows_right tree rows.Intc t.intc).0;
      uarts = all_rows network tree rows.Uart (uart_row cores) (uart_makes network tree cores placed) (rows_in tree rows.Uart) (table_rows_right tree rows.Uart t.uart).0;
      events = all_rows network tree rows.Event (event_row cores) (event_makes network tree cores placed) (rows_in tree rows.Event) (table_rows_right tree rows.Event t.event).0;
    }

pub is_read : (file : List ℕ) (tree : Members) (board : BoardFile) → IsTomlOf file tree → least (faults tree) ≡ None → board ≡ board_of tree → ((r : Rows) → are_ascending (rows_in tree r) ≡ true) → IsRead file board
is_read file tree board toml none same ascends =
    let right = none_is_least (faults tree) none in
    record { tree = tree; is_toml = toml; is_right = right; is_board = subst (λ b. IsBoardOf tree b) (sym same) (board_is_whole tree right); ascends = ascends }
