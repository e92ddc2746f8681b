-- No two links or UARTs have one output file, and none is a file that is read.
use Rattle.std.proofs.Common.{◌≡◌, inl, ℕ, ◌≤◌, Bool, true, false, ◌&&◌, ◌||◌, not, List, [], ◌++◌, ◌∷◌, length, slice_get, Option, Some, None, refl, sym, ap, ◌∙◌, arith}
use Rattle.std.proofs.lemmas.Slice.Eq.{bytes_eq-Decides}
use Rattle.std.specs.List.{list_any}
use Rattle.std.specs.Str.{bytes_eq}
use Rattle.toml.specs.Data.{Members}
use Rattle.board_file.proofs.Paths.{places_are_paths}
use Rattle.board_file.proofs.Values.{true_from_nil}
use Rattle.board_file.specs.Claims.{claims_on_file, collides, file_claim_of, file_claims, twice_faults}
use Rattle.board_file.specs.Faults.{is_earlier}
use Rattle.board_file.specs.Keys.{key_text, table_key}
use Rattle.board_file.specs.Read.{file_at}
use Rattle.board_file.specs.Rows.{core_row, from_end, link_row, to_end, uart_made, uart_row}
use Rattle.board_file.specs.Rules.{each_row}
use Rattle.board_file.specs.Tree.{are_ascending, key_place, rows_in}
use Rattle.board_file.specs.declared.board.BoardFile.{BoardFile}
use Rattle.board_file.specs.declared.board.CoreRow.{CoreRow}
use Rattle.board_file.specs.declared.board.End.TheVariants.{File}
use Rattle.board_file.specs.declared.board.LinkRow.{LinkRow}
use Rattle.board_file.specs.declared.board.UartRow.{UartRow}
use Rattle.board_file.specs.declared.claims.Claim.{Claim}
use Rattle.board_file.specs.declared.claims.Subject.TheVariants as subject
use Rattle.board_file.specs.declared.fault.BoardRule.{BoardRule}
use Rattle.board_file.specs.declared.fault.BoardRule.TheVariants as broken
use Rattle.board_file.specs.declared.keys.Key.{Key}
use Rattle.board_file.specs.declared.keys.Key.TheVariants as key
use Rattle.board_file.specs.declared.keys.Rows.{Rows}
use Rattle.board_file.specs.declared.keys.Rows.TheVariants as rows
use Rattle.board_file_laws.proofs.Ends.{file_made}
use Rattle.board_file_laws.proofs.Lone.{earlier_false, free, not_met, not_true, same_name, short_table}
use Rattle.board_file_laws.proofs.Names.{one_place, same_place}
use Rattle.board_file_laws.proofs.Numbers.{core_image, made_link}
use Rattle.board_file_laws.proofs.Origins.{IsAmong, IsFrom, among_first, among_later}
use Rattle.board_file_laws.specs.Sound.{IsFresh}

-- the claim of an output, or of an input, on a file
abbrev pub claim_on : Bool → List ℕ → List ℕ → Claim
claim_on sole at file = record { place = at; on = subject.File file; sole = sole }

claim_made : (sole : Bool) (r : Rows) (k : Key) (name : List ℕ) (ms : Members) (file : List ℕ) → file_at k ms ≡ Some file → IsAmong (claim_on sole (key_place r name k) file) (file_claim_of sole r k name ms)
unfolding file_claim_of
claim_made sole r k name ms file e = rw e (inl refl)

-- a row whose key gives a file claims this file
claimed_by_row : {R : Type 0} (means : List ℕ → Members → Option R) (tree : Members) (sole : Bool) (r : Rows) (k : Key) (j : ℕ) (row : R) (o : IsFrom means (rows_in tree r) j row) (file : List ℕ) → file_at k o.members ≡ Some file
    → IsAmong (claim_on sole (key_place r o.name k) file) (claims_on_file tree sole r k)
unfolding claims_on_file
claimed_by_row means tree sole r k j row o file e = o.claims (file_claim_of sole r k) _ (claim_made sole r k o.name o.members file e)

link_output : (tree : Members) (c : Claim) → IsAmong c (claims_on_file tree true rows.Link key.ToFile) → IsAmong c (file_claims tree)
unfolding file_claims
link_output tree c h = among_first c _ _ (among_first c _ _ (among_first c _ _ (among_first c _ _ h)))

link_input : (tree : Members) (c : Claim) → IsAmong c (claims_on_file tree false rows.Link key.FromFile) → IsAmong c (file_claims tree)
unfolding file_claims
link_input tree c h = among_first c _ _ (among_first c _ _ (among_later c (claims_on_file tree true rows.Link key.ToFile ++ claims_on_file tree true rows.Uart key.Output) _ h))

uart_output : (tree : Members) (c : Claim) → IsAmong c (claims_on_file tree true rows.Uart key.Output) → IsAmong c (file_claims tree)
unfolding file_claims
uart_output tree c h = among_first c _ _ (among_first c _ _ (among_first c _ _ (among_later c (claims_on_file tree true rows.Link key.ToFile) _ h)))

uart_input : (tree : Members) (c : Claim) → IsAmong c (claims_on_file tree false rows.Uart key.Input) → IsAmong c (file_claims tree)
unfolding file_claims
uart_input tree c h = among_first c _ _ (among_later c (claims_on_file tree true rows.Link key.ToFile ++ claims_on_file tree true rows.Uart key.Output ++ claims_on_file tree false rows.Link key.FromFile) _ h)

core_input : (tree : Members) (c : Claim) → IsAmong c (claims_on_file tree false rows.Core key.Image) → IsAmong c (file_claims tree)
unfolding file_claims
core_input tree c h = among_later c (claims_on_file tree true rows.Link key.ToFile ++ claims_on_file tree true rows.Uart key.Output ++ claims_on_file tree false rows.Link key.FromFile ++ claims_on_file tree false rows.Uart key.Input) _ h

same_file : (s : List ℕ) → bytes_eq s s ≡ true
same_file s = (bytes_eq-Decides s s).1 refl

-- where claims don't collide, an output's claim meets no other one
unmet : (code : BoardRule) (all : List Claim) (at file : List ℕ) (d : Claim) → twice_faults code all ≡ [] → IsAmong (claim_on true at file) all → IsAmong d all → collides (claim_on true at file) d ≡ false
unfolding twice_faults
unmet code all at file d e one other =
    let c = claim_on true at file in
    not_met c all d (not_true (list_any (collides c) all) (true_from_nil _ _ _ (free code all all c e one))) other

none_earlier : (code : BoardRule) (all : List Claim) (at next file : List ℕ) → twice_faults code all ≡ [] → IsAmong (claim_on true at file) all → IsAmong (claim_on true next file) all → is_earlier next at ≡ false
none_earlier code all at next file e one other = earlier_false (bytes_eq file file) (is_earlier next at) (same_file file) (unmet code all at file (claim_on true next file) e one other)

one_output : (code : BoardRule) (all : List Claim) (at next file : List ℕ) → twice_faults code all ≡ [] → IsAmong (claim_on true at file) all → IsAmong (claim_on true next file) all → at ≡ next
one_output code all at next file e one other = same_place at next (none_earlier code all next at file e other one) (none_earlier code all at next file e one other)

met : (same earlier : Bool) → same ≡ true → (same && (not false || earlier)) ≡ false → ⊥
met true earlier e f = grind (arith, f)
met false earlier e f = grind (arith, e)

no_input : (code : BoardRule) (all : List Claim) (at next file : List ℕ) → twice_faults code all ≡ [] → IsAmong (claim_on true at file) all → IsAmong (claim_on false next file) all → ⊥
no_input code all at next file e one other = met (bytes_eq file file) (is_earlier next at) (same_file file) (unmet code all at file (claim_on false next file) e one other)

-- the file that a link leads to, the one that it comes from, and the image of a core
to_file : (cores : List CoreRow) (name : List ℕ) (ms : Members) (link : LinkRow) (file : List ℕ) → link_row cores name ms ≡ Some link → link.to ≡ File file → file_at key.ToFile ms ≡ Some file
unfolding link_row to_end
to_file cores name ms link file e is = let made = made_link _ _ _ _ link e in file_made _ _ _ file (rw is at made.to)

from_file : (cores : List CoreRow) (name : List ℕ) (ms : Members) (link : LinkRow) (file : List ℕ) → link_row cores name ms ≡ Some link → link.from ≡ File file → file_at key.FromFile ms ≡ Some file
unfolding link_row from_end
from_file cores name ms link file e is = let made = made_link _ _ _ _ link e in file_made _ _ _ file (rw is at made.from)

made_uart : (name : Option (List ℕ)) (core base : Option ℕ) (output : Option (List ℕ)) (irq : Option ℕ) (input : Option (List ℕ)) (every clock : ℕ) (uart : UartRow) → uart_made name core base output irq input every clock ≡ Some uart → (output ≡ Some uart.output) × (input ≡ uart.input)
made_uart (Some n) (Some c) (Some b) (Some o) irq input every clock uart e = (grind arith, grind arith)
made_uart None core base output irq input every clock uart e = grind arith
made_uart (Some n) None base output irq input every clock uart e = grind arith
made_uart (Some n) (Some c) None output irq input every clock uart e = grind arith
made_uart (Some n) (Some c) (Some b) None irq input every clock uart e = grind arith

uart_to : (cores : List CoreRow) (name : List ℕ) (ms : Members) (uart : UartRow) → uart_row cores name ms ≡ Some uart → file_at key.Output ms ≡ Some uart.output
unfolding uart_row
uart_to cores name ms uart e = (made_uart _ _ _ _ _ _ _ _ uart e).0

uart_from : (cores : List CoreRow) (name : List ℕ) (ms : Members) (uart : UartRow) → uart_row cores name ms ≡ Some uart → file_at key.Input ms ≡ uart.input
unfolding uart_row
uart_from cores name ms uart e = (made_uart _ _ _ _ _ _ _ _ uart e).1

output_claimed : (tree : Members) (cores : List CoreRow) (j : ℕ) (link : LinkRow) (o : IsFrom (link_row cores) (rows_in tree rows.Link) j link) (file : List ℕ) → link.to ≡ File file
    → IsAmong (claim_on true (key_place rows.Link o.name key.ToFile) file) (file_claims tree)
output_claimed tree cores j link o file is = link_output tree _ (claimed_by_row (link_row cores) tree true rows.Link key.ToFile j link o file (to_file cores o.name o.members link file o.made is))

input_claimed : (tree : Members) (cores : List CoreRow) (j : ℕ) (link : LinkRow) (o : IsFrom (link_row cores) (rows_in tree rows.Link) j link) (file : List ℕ) → link.from ≡ File file
    → IsAmong (claim_on false (key_place rows.Link o.name key.FromFile) file) (file_claims tree)
input_claimed tree cores j link o file is = link_input tree _ (claimed_by_row (link_row cores) tree false rows.Link key.FromFile j link o file (from_file cores o.name o.members link file o.made is))

sending_claimed : (tree : Members) (cores : List CoreRow) (j : ℕ) (uart : UartRow) (o : IsFrom (uart_row cores) (rows_in tree rows.Uart) j uart) (file : List ℕ) → uart.output ≡ file
    → IsAmong (claim_on true (key_place rows.Uart o.name key.Output) file) (file_claims tree)
sending_claimed tree cores j uart o file is = uart_output tree _ (claimed_by_row (uart_row cores) tree true rows.Uart key.Output j uart o file (uart_to cores o.name o.members uart o.made ∙ ap Some is))

feed_claimed : (tree : Members) (cores : List CoreRow) (j : ℕ) (uart : UartRow) (o : IsFrom (uart_row cores) (rows_in tree rows.Uart) j uart) (file : List ℕ) → uart.input ≡ Some file
    → IsAmong (claim_on false (key_place rows.Uart o.name key.Input) file) (file_claims tree)
feed_claimed tree cores j uart o file is = uart_input tree _ (claimed_by_row (uart_row cores) tree false rows.Uart key.Input j uart o file (uart_from cores o.name o.members uart o.made ∙ is))

image_claimed : (tree : Members) (cores : List CoreRow) (j : ℕ) (core : CoreRow) (o : IsFrom (core_row cores) (rows_in tree rows.Core) j core) (file : List ℕ) → core.image ≡ file
    → IsAmong (claim_on false (key_place rows.Core o.name key.Image) file) (file_claims tree)
image_claimed tree cores j core o file is = core_input tree _ (claimed_by_row (core_row cores) tree false rows.Core key.Image j core o file (core_image cores o.name o.members core o.made ∙ ap Some is))

-- where the rows of a board come from
pub record IsFromTree (tree : Members) (b : BoardFile) : Type 0 where
  pub cores : (k : ℕ) (core : CoreRow) → slice_get b.cores k ≡ Some core → IsFrom (core_row []) (rows_in tree rows.Core) k core
  pub links : (k : ℕ) (link : LinkRow) → slice_get b.links k ≡ Some link → IsFrom (link_row b.cores) (rows_in tree rows.Link) k link
  pub uarts : (k : ℕ) (uart : UartRow) → slice_get b.uarts k ≡ Some uart → IsFrom (uart_row b.cores) (rows_in tree rows.Uart) k uart

-- a file that is claimed as an output is not read
fresh : (tree : Members) (b : BoardFile) → twice_faults broken.FileTwice (file_claims tree) ≡ [] → IsFromTree tree b → (at file : List ℕ) → IsAmong (claim_on true at file) (file_claims tree) → IsFresh b file
fresh tree b e from at file claim =
    let against : (next : List ℕ) → IsAmong (claim_on false next file) (file_claims tree) → ⊥ = λ next. no_input broken.FileTwice (file_claims tree) at next file e claim in
    record {
      no_image = λ k core there is. let o = from.cores k core there in against (key_place rows.Core o.name key.Image) (image_claimed tree [] k core o file is);
      no_input = λ k link there is. let o = from.links k link there in against (key_place rows.Link o.name key.FromFile) (input_claimed tree b.cores k link o file is);
      no_feed = λ k uart there is. let o = from.uarts k uart there in against (key_place rows.Uart o.name key.Input) (feed_claimed tree b.cores k uart o file is);
    }

pub fresh_link : (tree : Members) (b : BoardFile) → twice_faults broken.FileTwice (file_claims tree) ≡ [] → IsFromTree tree b → (k : ℕ) (link : LinkRow) (file : List ℕ) → slice_get b.links k ≡ Some link → link.to ≡ File file → IsFresh b file
fresh_link tree b e from k link file there is =
    let o = from.links k link there in
    fresh tree b e from (key_place rows.Link o.name key.ToFile) file (output_claimed tree b.cores k link o file is)

pub fresh_uart : (tree : Members) (b : BoardFile) → twice_faults broken.FileTwice (file_claims tree) ≡ [] → IsFromTree tree b → (k : ℕ) (uart : UartRow) → slice_get b.uarts k ≡ Some uart → IsFresh b uart.output
fresh_uart tree b e from k uart there =
    let o = from.uarts k uart there in
    fresh tree b e from (key_place rows.Uart o.name key.Output) uart.output (sending_claimed tree b.cores k uart o uart.output refl)

short_key : length (key_text key.ToFile) ≤ 9
unfolding key_text
short_key = omega arith

short_output : length (key_text key.Output) ≤ 9
unfolding key_text
short_output = omega arith

short_uart : length (key_text (table_key rows.Uart)) ≤ 4
unfolding key_text table_key
short_uart = omega arith

-- the place of an output of a link is none of a UART
same_head : (x y : ℕ) (xs ys : List ℕ) → x ∷ xs ≡ y ∷ ys → x ≡ y
same_head x y xs ys e = grind (arith, e)

other_places : (m n : List ℕ) → key_place rows.Link m key.ToFile ≡ key_place rows.Uart n key.Output → ⊥
unfolding key_text table_key
other_places m n e = let same = same_head 108 117 _ _ (sym (places_are_paths rows.Link m key.ToFile) ∙ e ∙ places_are_paths rows.Uart n key.Output) in omega (arith, same)

pub lone_link : (network : Bool) (tree : Members) (b : BoardFile) → twice_faults broken.FileTwice (file_claims tree) ≡ [] → IsFromTree tree b → are_ascending (rows_in tree rows.Link) ≡ true → each_row network tree rows.Link (rows_in tree rows.Link) ≡ []
    → (j k : ℕ) (one other : LinkRow) (file : List ℕ) → slice_get b.links j ≡ Some one → slice_get b.links k ≡ Some other → one.to ≡ File file → other.to ≡ File file → j ≡ k
lone_link network tree b e from ascends right j k one other file f g is also =
    let a = from.links j one f in
    let o = from.links k other g in
    let place = one_output broken.FileTwice (file_claims tree) (key_place rows.Link a.name key.ToFile) (key_place rows.Link o.name key.ToFile) file e (output_claimed tree b.cores j one a file is) (output_claimed tree b.cores k other o file also) in
    let name = same_name rows.Link key.ToFile a.name o.name short_table short_key (a.right network tree rows.Link right).named (o.right network tree rows.Link right).named place in
    one_place (rows_in tree rows.Link) ascends j k o.name (rw name at a.place) o.place

pub lone_uart : (network : Bool) (tree : Members) (b : BoardFile) → twice_faults broken.FileTwice (file_claims tree) ≡ [] → IsFromTree tree b → are_ascending (rows_in tree rows.Uart) ≡ true → each_row network tree rows.Uart (rows_in tree rows.Uart) ≡ []
    → (j k : ℕ) (one other : UartRow) (file : List ℕ) → slice_get b.uarts j ≡ Some one → slice_get b.uarts k ≡ Some other → one.output ≡ file → other.output ≡ file → j ≡ k
lone_uart network tree b e from ascends right j k one other file f g is also =
    let a = from.uarts j one f in
    let o = from.uarts k other g in
    let place = one_output broken.FileTwice (file_claims tree) (key_place rows.Uart a.name key.Output) (key_place rows.Uart o.name key.Output) file e (sending_claimed tree b.cores j one a file is) (sending_claimed tree b.cores k other o file also) in
    let name = same_name rows.Uart key.Output a.name o.name short_uart short_output (a.right network tree rows.Uart right).named (o.right network tree rows.Uart right).named place in
    one_place (rows_in tree rows.Uart) ascends j k o.name (rw name at a.place) o.place

pub apart_kinds : (tree : Members) (b : BoardFile) → twice_faults broken.FileTwice (file_claims tree) ≡ [] → IsFromTree tree b → (j k : ℕ) (link : LinkRow) (uart : UartRow) (file : List ℕ) → slice_get b.links j ≡ Some link → slice_get b.uarts k ≡ Some uart → link.to ≡ File file → uart.output ≡ file → ⊥
apart_kinds tree b e from j k link uart file f g is also =
    let a = from.links j link f in
    let o = from.uarts k uart g in
    other_places a.name o.name (one_output broken.FileTwice (file_claims tree) (key_place rows.Link a.name key.ToFile) (key_place rows.Uart o.name key.Output) file e (output_claimed tree b.cores j link a file is) (sending_claimed tree b.cores k uart o file also))
