-- A board that was read is sound.
use Rattle.std.proofs.Common.{◌≡◌, ◌⊎◌, ℕ, ◌<◌, ◌≤◌, true, not, ◌==◌, List, [], ◌∷◌, ◌++◌, length, slice_get, Option, Some, None, unwrap_or, Less, refl, sym, ◌∙◌, subst, arith}
use Rattle.std.specs.Cmp.Lexicographic.{slice_cmp}
use Rattle.std.specs.Option.{ok_or}
use Rattle.std.specs.Ordering.{nat_cmp}
use Rattle.std.specs.Result.{result_err}
use Rattle.toml.specs.Data.{Data, Members, as_table, no_members}
use Rattle.board_file.proofs.Values.{both_nil, true_from_nil}
use Rattle.board_file.proofs.WholeRows.{same_count}
use Rattle.board_file.specs.Faults.{fault_unless}
use Rattle.board_file.specs.Keys.{table_key, top_keys}
use Rattle.board_file.specs.Read.{key_code, table_in, value_code}
use Rattle.board_file.specs.Rows.{core_row, event_row, intc_row, link_row, timer_row, uart_row}
use Rattle.board_file.specs.Rules.{are_few, count_members, is_empty, is_empty_table, is_network, keys_faults, most_cores, most_links, stray_faults, top_faults, version_in_file}
use Rattle.board_file.specs.Tree.{are_ascending, at_key, members_in, rows_in, table_place}
use Rattle.board_file.specs.declared.board.CoreRow.{CoreRow}
use Rattle.board_file.specs.declared.fault.BoardRule.{BoardRule}
use Rattle.board_file.specs.declared.fault.BoardRule.TheVariants as broken
use Rattle.board_file.specs.declared.keys.Key.TheVariants as key
use Rattle.board_file.specs.declared.keys.Kind.TheVariants as kind
use Rattle.board_file.specs.declared.keys.KeyRule.TheVariants.{Needs}
use Rattle.board_file.specs.declared.keys.Rows.TheVariants as rows
use Rattle.board_file_laws.proofs.Distinct.{AreLoneLinks, distinct_files}
use Rattle.board_file_laws.proofs.Ends.{event_name, event_there, from_port, not_two_files, to_port}
use Rattle.board_file_laws.proofs.Files.{IsFromTree, apart_kinds, fresh_link, fresh_uart, lone_link, lone_uart}
use Rattle.board_file_laws.proofs.Origins.{IsFrom, origin}
use Rattle.board_file_laws.proofs.Lone.{lone_get, lone_put}
use Rattle.board_file_laws.proofs.Names.{ascend}
use Rattle.board_file_laws.proofs.Memories.{affordable, memories_sum}
use Rattle.board_file_laws.proofs.Numbers.{core_clock, core_memory, core_name, intc_clock, intc_device, link_depth, link_name, timer_clock, timer_device, timer_input, uart_clock, uart_device, uart_input, uart_turn}
use Rattle.board_file_laws.proofs.Parts.{first_key, whole}
use Rattle.board_file_laws.proofs.Versions.{all_cores, all_links, few_ends, few_rows, first_clock, intc_unclocked, known_version, timer_unclocked, uart_unclocked}
use Rattle.board_file_laws.specs.Sound.{IsBefore, ReadIsSound}

-- the table of cores is there, and isn't empty
not_none : (n : ℕ) → not (n == 0) ≡ true → 1 ≤ n
not_none n e = grind arith

some_members : (o : Option Members) → result_err {E = BoardRule} (ok_or o broken.WrongType) ≡ None → not (is_empty o) ≡ true → 1 ≤ count_members (unwrap_or o no_members)
some_members None e f = grind arith
some_members (Some ms) e f = not_none (count_members ms) f

some_rows : (tree : Members) (o : Option Data) → key_code tree (Needs key.Core kind.Rows) o ≡ None → not (is_empty_table o) ≡ true → 1 ≤ count_members (members_in o)
unfolding key_code value_code table_in
some_rows tree None e f = grind arith
some_rows tree (Some d) e f = some_members (as_table d) e f

some_cores : (tree : Members) → top_faults tree ≡ [] → 1 ≤ count_members (rows_in tree rows.Core)
unfolding top_faults top_keys rows_in table_key
some_cores tree e =
    let last = both_nil (keys_faults tree [] tree top_keys ++ stray_faults [] top_keys tree) (fault_unless (not (is_empty_table (at_key key.Core tree))) broken.Missing (table_place rows.Core)) e in
    let keys = both_nil (keys_faults tree [] tree top_keys) (stray_faults [] top_keys tree) last.0 in
    let version = first_key tree [] tree key.Version _ _ refl keys.0 in
    let order = first_key tree [] tree key.Order _ _ refl version.1 in
    let network = first_key tree [] tree key.Network _ _ refl order.1 in
    let core = first_key tree [] tree key.Core _ _ refl network.1 in
    some_rows tree (at_key key.Core tree) core.0 (true_from_nil _ _ _ last.1)

few_serials : (version n : ℕ) → are_few version rows.Uart n ≡ true → n ≤ 64
unfolding are_few
few_serials version n e = grind arith

-- the names of rows ascend as those of their members do
is_before_too : (m n one other : List ℕ) → m ≡ one → n ≡ other → slice_cmp nat_cmp m n ≡ Less → IsBefore one other
is_before_too m n one other a o e = let b : slice_cmp nat_cmp one other ≡ Less = rw (a, o) at e in rw b refl

before_by : {R : Type 0} (ms : Members) → are_ascending ms ≡ true → (means : List ℕ → Members → Option R) (its_name : R → List ℕ) → ((name : List ℕ) (members : Members) (row : R) → means name members ≡ Some row → name ≡ its_name row)
    → (j k : ℕ) (one other : R) → j < k → IsFrom means ms j one → IsFrom means ms k other → IsBefore (its_name one) (its_name other)
before_by ms ascends means its_name same j k one other lt a o =
    is_before_too _ _ _ _ (same a.name a.members one a.made) (same o.name o.members other o.made) (ascend ms ascends j k a.name o.name lt a.place o.place)

pub read_is_sound : ReadIsSound
read_is_sound file b h =
    let tree = h.tree in
    let parts = whole tree h.is_right in
    let cores = same_count (core_row []) (rows_in tree rows.Core) b.cores h.is_board.cores in
    let links = same_count (link_row b.cores) (rows_in tree rows.Link) b.links h.is_board.links in
    let uarts = same_count (uart_row b.cores) (rows_in tree rows.Uart) b.uarts h.is_board.uarts in
    let core_from = origin (core_row []) (rows_in tree rows.Core) b.cores h.is_board.cores in
    let link_from = origin (link_row b.cores) (rows_in tree rows.Link) b.links h.is_board.links in
    let event_from = origin (event_row b.cores) (rows_in tree rows.Event) b.events h.is_board.events in
    let intc_from = origin (intc_row b.cores) (rows_in tree rows.Intc) b.intcs h.is_board.intcs in
    let timer_from = origin (timer_row b.cores) (rows_in tree rows.Timer) b.timers h.is_board.timers in
    let uart_from = origin (uart_row b.cores) (rows_in tree rows.Uart) b.uarts h.is_board.uarts in
    let from : IsFromTree tree b = record { cores = core_from; links = link_from; uarts = uart_from } in
    let lone_links : AreLoneLinks b.links = lone_link (is_network tree) tree b parts.files from (h.ascends rows.Link) parts.links.rows in
    let version = h.is_board.version in
    let few_cores : length b.cores ≤ most_cores (version_in_file tree) = rw (sym cores) at (few_rows (version_in_file tree) _ parts.cores.few) in
    let few_links : length b.links ≤ most_links (version_in_file tree) = rw (sym links) at (few_ends (version_in_file tree) _ parts.links.few) in
    record {
      known_version = subst (λ n. (n ≡ 1) ⊎ (n ≡ 2)) (sym version) (known_version tree);
      few_cores = (rw (sym cores) at (some_cores tree parts.top), all_cores _ _ few_cores);
      few_links = all_links _ _ few_links;
      in_version = subst (λ n. (length b.cores ≤ most_cores n) × (length b.links ≤ most_links n)) (sym version) (few_cores, few_links);
      clocks = λ k core e. let o = core_from k core e in core_clock [] o.name o.members core o.made;
      memories = λ k core e. let o = core_from k core e in core_memory [] o.name o.members core o.made;
      total = affordable _ _ (memories_sum (is_network tree) tree (rows_in tree rows.Core) b.cores h.is_board.cores parts.cores.rows) parts.sum;
      depths = λ k link e. let o = link_from k link e in link_depth b.cores o.name o.members link o.made;
      ports = λ k link e. let o = link_from k link e in (from_port b.cores o.name o.members link o.made, to_port b.cores o.name o.members link o.made);
      one_file = λ k link f g e from to.
          let o = link_from k link e in
          let right = o.right (is_network tree) tree rows.Link parts.links.rows in
          not_two_files (is_network tree) b.cores o.name o.members link f g o.made right.code from to;
      events = λ k event e. let o = event_from k event e in event_there b.cores o.name o.members event o.made;
      few_uarts = rw (sym uarts) at (few_serials _ _ parts.uarts.few);
      timer_inputs = λ k timer e. let o = timer_from k timer e in timer_input b.cores o.name o.members timer o.made;
      uart_inputs = λ k uart e. let o = uart_from k uart e in uart_input b.cores o.name o.members uart o.made;
      uart_turns = λ k uart e. let o = uart_from k uart e in uart_turn b.cores o.name o.members uart o.made;
      timer_clocks = λ k timer e. let o = timer_from k timer e in timer_clock b.cores o.name o.members timer o.made;
      intc_clocks = λ k intc e. let o = intc_from k intc e in intc_clock b.cores o.name o.members intc o.made;
      uart_clocks = λ k uart e. let o = uart_from k uart e in uart_clock b.cores o.name o.members uart o.made;
      first_clocks = λ first.
          let is : version_in_file tree ≡ 1 = sym version ∙ first in
          record {
            timers = λ k timer e.
                let o = timer_from k timer e in
                sym (timer_device b.cores o.name o.members timer o.made) ∙ first_clock _ rows.Timer _ o.members timer_unclocked is (o.right (is_network tree) tree rows.Timer parts.timers.rows).strays;
            intcs = λ k intc e.
                let o = intc_from k intc e in
                sym (intc_device b.cores o.name o.members intc o.made) ∙ first_clock _ rows.Intc _ o.members intc_unclocked is (o.right (is_network tree) tree rows.Intc parts.intcs.rows).strays;
            uarts = λ k uart e.
                let o = uart_from k uart e in
                sym (uart_device b.cores o.name o.members uart o.made) ∙ first_clock _ rows.Uart _ o.members uart_unclocked is (o.right (is_network tree) tree rows.Uart parts.uarts.rows).strays;
          };
      lone_puts = λ j k one other core port e f from also.
          let a = link_from j one e in
          let o = link_from k other f in
          lone_put (is_network tree) tree b.cores parts.puts (h.ascends rows.Link) j k one other core port
          a (a.right (is_network tree) tree rows.Link parts.links.rows) o (o.right (is_network tree) tree rows.Link parts.links.rows) from also;
      lone_gets = λ j k one other core port e f to also.
          let a = link_from j one e in
          let o = link_from k other f in
          lone_get (is_network tree) tree b.cores parts.gets (h.ascends rows.Link) j k one other core port
          a (a.right (is_network tree) tree rows.Link parts.links.rows) o (o.right (is_network tree) tree rows.Link parts.links.rows) to also;
      lone_outputs = lone_links;
      distinct_outputs = distinct_files b.links b.uarts lone_links
          (lone_uart (is_network tree) tree b parts.files from (h.ascends rows.Uart) parts.uarts.rows) (apart_kinds tree b parts.files from);
      fresh_outputs = fresh_link tree b parts.files from;
      fresh_uart_outputs = fresh_uart tree b parts.files from;
      core_names = λ j k one other lt e f. before_by (rows_in tree rows.Core) (h.ascends rows.Core) (core_row []) (λ core. core.name) (core_name []) j k one other lt (core_from j one e) (core_from k other f);
      link_names = λ j k one other lt e f. before_by (rows_in tree rows.Link) (h.ascends rows.Link) (link_row b.cores) (λ link. link.name) (link_name b.cores) j k one other lt (link_from j one e) (link_from k other f);
      event_names = λ j k one other lt e f. before_by (rows_in tree rows.Event) (h.ascends rows.Event) (event_row b.cores) (λ event. event.name) (event_name b.cores) j k one other lt (event_from j one e) (event_from k other f);
    }
