-- A number of a row is one of its quantity, and so is what stands for it where the file doesn't say.
use Rattle.std.proofs.Common.{◌≡◌, ℕ, ◌<◌, ℤ, pos, negsuc, Bool, true, false, List, Option, Some, None, unwrap_or, refl, arith}
use Rattle.std.specs.Option.{ok_or}
use Rattle.std.specs.Result.{result_ok}
use Rattle.toml.specs.Data.{Data, Members, as_integer}
use Rattle.board_file.specs.Read.{file_at, is_board_name, is_number, name_of, judged, number_at, number_code, number_in, number_of, only_if, right}
use Rattle.board_file.specs.Rows.{core_made, core_row, device_clock, intc_made, intc_row, link_made, link_row, timer_made, timer_row, uart_made, uart_row}
use Rattle.board_file.specs.Tree.{at_key}
use Rattle.board_file.specs.declared.board.CoreRow.{CoreRow}
use Rattle.board_file.specs.declared.board.End.{End}
use Rattle.board_file.specs.declared.board.IntcRow.{IntcRow}
use Rattle.board_file.specs.declared.board.LinkRow.{LinkRow}
use Rattle.board_file.specs.declared.board.Pipeline.{Pipeline}
use Rattle.board_file.specs.declared.board.TimerRow.{TimerRow}
use Rattle.board_file.specs.declared.board.UartRow.{UartRow}
use Rattle.board_file.specs.declared.fault.BoardRule.{BoardRule}
use Rattle.board_file.specs.declared.keys.Key.{Key}
use Rattle.board_file.specs.declared.keys.Key.TheVariants as key
use Rattle.board_file.specs.declared.keys.Quantity.{Quantity}
use Rattle.board_file.specs.declared.keys.Quantity.TheVariants as quantity
use Rattle.board_file_laws.specs.Sound.{IsClock, IsDepth, IsInput, IsMemory}

picked : (holds : Bool) (code : BoardRule) (m n : ℕ) → result_ok (ok_or (only_if holds m) code) ≡ Some n → (holds ≡ true) × (m ≡ n)
picked true code m n e = (refl, grind (arith, e))
picked false code m n e = grind (arith, e)

judged_number : (q : Quantity) (code : BoardRule) (o : Option ℤ) (n : ℕ) → result_ok (judged code (number_of q) o) ≡ Some n → is_number q n ≡ true
judged_number q code None n e = grind (arith, e)
judged_number q code (Some (pos m)) n e = let h = picked (is_number q m) code m n e in rw h.1 at h.0
judged_number q code (Some (negsuc m)) n e = grind (arith, e)

right_number : (q : Quantity) (o : Option Data) (n : ℕ) → right (number_in q) o ≡ Some n → is_number q n ≡ true
unfolding number_in
right_number q None n e = grind (arith, e)
right_number q (Some d) n e = judged_number q (number_code q) (as_integer d) n e

-- the number at a key is one of its quantity
pub number_there : (q : Quantity) (k : Key) (ms : Members) (n : ℕ) → number_at q k ms ≡ Some n → is_number q n ≡ true
unfolding number_at
number_there q k ms n e = right_number q (at_key k ms) n e

or_default : (q : Quantity) (o : Option ℕ) (default : ℕ) → ((n : ℕ) → o ≡ Some n → is_number q n ≡ true) → is_number q default ≡ true → is_number q (unwrap_or o default) ≡ true
or_default q None default h e = e
or_default q (Some n) default h e = h n refl

pub number_or : (q : Quantity) (k : Key) (ms : Members) (default : ℕ) → is_number q default ≡ true → is_number q (unwrap_or (number_at q k ms) default) ≡ true
number_or q k ms default e = or_default q (number_at q k ms) default (number_there q k ms) e

pub clock_range : (n : ℕ) → is_number quantity.Clock n ≡ true → IsClock n
unfolding is_number
clock_range n e = (grind arith, grind arith)

pub memory_range : (n : ℕ) → is_number quantity.Memory n ≡ true → IsMemory n
unfolding is_number
memory_range n e = (grind arith, grind arith, grind arith)

pub depth_range : (n : ℕ) → is_number quantity.Depth n ≡ true → IsDepth n
unfolding is_number
depth_range n e = (grind arith, grind arith)

clock_default : is_number quantity.Clock 1 ≡ true
unfolding is_number
clock_default = refl

memory_default : is_number quantity.Memory 65536 ≡ true
unfolding is_number
memory_default = refl

depth_default : is_number quantity.Depth 16 ≡ true
unfolding is_number
depth_default = refl

-- a core's row has the numbers that it is made of
made_core : (name image : Option (List ℕ)) (pipeline : Option Pipeline) (clock memory : ℕ) (core : CoreRow) → core_made name image pipeline clock memory ≡ Some core → (name ≡ Some core.name) × (clock ≡ core.clock) × (memory ≡ core.memory) × (image ≡ Some core.image)
made_core (Some n) (Some i) (Some p) clock memory core e = (grind arith, grind arith, grind arith, grind arith)
made_core None i p clock memory core e = grind arith
made_core (Some n) None p clock memory core e = grind arith
made_core (Some n) (Some i) None clock memory core e = grind arith

-- a row has the name of its member
pub name_kept : (name : List ℕ) (found : List ℕ) → name_of name ≡ Some found → name ≡ found
name_kept name found e = kept (is_board_name name) e
  where
    kept : (holds : Bool) → only_if holds name ≡ Some found → name ≡ found
    kept true h = grind (arith, h)
    kept false h = grind (arith, h)

pub core_name : (cores : List CoreRow) (name : List ℕ) (ms : Members) (core : CoreRow) → core_row cores name ms ≡ Some core → name ≡ core.name
unfolding core_row
core_name cores name ms core e = name_kept name core.name (made_core _ _ _ _ _ core e).0

pub core_image : (cores : List CoreRow) (name : List ℕ) (ms : Members) (core : CoreRow) → core_row cores name ms ≡ Some core → file_at key.Image ms ≡ Some core.image
unfolding core_row
core_image cores name ms core e = (made_core _ _ _ _ _ core e).3

pub core_clock : (cores : List CoreRow) (name : List ℕ) (ms : Members) (core : CoreRow) → core_row cores name ms ≡ Some core → IsClock core.clock
unfolding core_row
core_clock cores name ms core e =
    let made = made_core _ _ _ _ _ core e in
    clock_range core.clock (rw made.1 at (number_or quantity.Clock key.Clock ms 1 clock_default))

pub core_memory : (cores : List CoreRow) (name : List ℕ) (ms : Members) (core : CoreRow) → core_row cores name ms ≡ Some core → IsMemory core.memory
unfolding core_row
core_memory cores name ms core e =
    let made = made_core _ _ _ _ _ core e in
    memory_range core.memory (rw made.2 at (number_or quantity.Memory key.Memory ms 65536 memory_default))

pub core_size : (cores : List CoreRow) (name : List ℕ) (ms : Members) (core : CoreRow) → core_row cores name ms ≡ Some core → unwrap_or (number_at quantity.Memory key.Memory ms) 65536 ≡ core.memory
unfolding core_row
core_size cores name ms core e = (made_core _ _ _ _ _ core e).2

-- a link's row has the parts that it is made of
pub record IsMadeOf (n : Option (List ℕ)) (d : ℕ) (f t : Option End) (link : LinkRow) : Type 0 where
  pub name : n ≡ Some link.name
  pub depth : d ≡ link.depth
  pub from : f ≡ Some link.from
  pub to : t ≡ Some link.to

pub made_link : (name : Option (List ℕ)) (depth : ℕ) (from to : Option End) (link : LinkRow) → link_made name depth from to ≡ Some link → IsMadeOf name depth from to link
made_link (Some n) depth (Some f) (Some t) link e = record { name = grind arith; depth = grind arith; from = grind arith; to = grind arith }
made_link None depth f t link e = grind arith
made_link (Some n) depth None t link e = grind arith
made_link (Some n) depth (Some f) None link e = grind arith

pub link_name : (cores : List CoreRow) (name : List ℕ) (ms : Members) (link : LinkRow) → link_row cores name ms ≡ Some link → name ≡ link.name
unfolding link_row
link_name cores name ms link e = name_kept name link.name (made_link _ _ _ _ link e).name

pub link_depth : (cores : List CoreRow) (name : List ℕ) (ms : Members) (link : LinkRow) → link_row cores name ms ≡ Some link → IsDepth link.depth
unfolding link_row
link_depth cores name ms link e =
    let made = made_link _ _ _ _ link e in
    depth_range link.depth (rw made.depth at (number_or quantity.Depth key.Depth ms 16 depth_default))

-- a device's row has the numbers that it is made of

input_range : (n : ℕ) → is_number quantity.Irq n ≡ true → n < 32
unfolding is_number
input_range n e = grind arith

input_there : (ms : Members) (o : Option ℕ) → number_at quantity.Irq key.Irq ms ≡ o → IsInput o
input_there ms None e = tt
input_there ms (Some n) e = input_range n (number_there quantity.Irq key.Irq ms n e)

turn_default : is_number quantity.Clock 64 ≡ true
unfolding is_number
turn_default = refl

made_timer : (name : Option (List ℕ)) (core base irq : Option ℕ) (clock : ℕ) (timer : TimerRow) → timer_made name core base irq clock ≡ Some timer → (irq ≡ timer.irq) × (clock ≡ timer.clock)
made_timer (Some n) (Some c) (Some b) irq clock timer e = (grind arith, grind arith)
made_timer None c b irq clock timer e = grind arith
made_timer (Some n) None b irq clock timer e = grind arith
made_timer (Some n) (Some c) None irq clock timer e = grind arith

pub timer_input : (cores : List CoreRow) (name : List ℕ) (ms : Members) (timer : TimerRow) → timer_row cores name ms ≡ Some timer → IsInput timer.irq
unfolding timer_row
timer_input cores name ms timer e = input_there ms timer.irq (made_timer _ _ _ _ _ timer e).0

made_uart : (name : Option (List ℕ)) (core base : Option ℕ) (output : Option (List ℕ)) (irq : Option ℕ) (input : Option (List ℕ)) (every clock : ℕ) (uart : UartRow) → uart_made name core base output irq input every clock ≡ Some uart → (irq ≡ uart.irq) × (every ≡ uart.every) × (clock ≡ uart.clock)
made_uart (Some n) (Some c) (Some b) (Some o) irq input every clock uart e = (grind arith, grind arith, grind arith)
made_uart None c b o irq input every clock uart e = grind arith
made_uart (Some n) None b o irq input every clock uart e = grind arith
made_uart (Some n) (Some c) None o irq input every clock uart e = grind arith
made_uart (Some n) (Some c) (Some b) None irq input every clock uart e = grind arith

pub uart_input : (cores : List CoreRow) (name : List ℕ) (ms : Members) (uart : UartRow) → uart_row cores name ms ≡ Some uart → IsInput uart.irq
unfolding uart_row
uart_input cores name ms uart e = input_there ms uart.irq (made_uart _ _ _ _ _ _ _ _ uart e).0

pub uart_turn : (cores : List CoreRow) (name : List ℕ) (ms : Members) (uart : UartRow) → uart_row cores name ms ≡ Some uart → IsClock uart.every
unfolding uart_row
uart_turn cores name ms uart e =
    let made = made_uart _ _ _ _ _ _ _ _ uart e in
    clock_range uart.every (rw made.1 at (number_or quantity.Clock key.Every ms 64 turn_default))

-- the clock of a device
device_turn : (ms : Members) (clock : ℕ) → device_clock ms ≡ clock → IsClock clock
unfolding device_clock
device_turn ms clock e = clock_range clock (rw e at (number_or quantity.Clock key.Clock ms 1 clock_default))

made_intc : (name : Option (List ℕ)) (core base : Option ℕ) (clock : ℕ) (intc : IntcRow) → intc_made name core base clock ≡ Some intc → clock ≡ intc.clock
made_intc (Some n) (Some c) (Some b) clock intc e = grind arith
made_intc None c b clock intc e = grind arith
made_intc (Some n) None b clock intc e = grind arith
made_intc (Some n) (Some c) None clock intc e = grind arith

-- a device has the clock that its keys give
pub timer_device : (cores : List CoreRow) (name : List ℕ) (ms : Members) (timer : TimerRow) → timer_row cores name ms ≡ Some timer → device_clock ms ≡ timer.clock
unfolding timer_row
timer_device cores name ms timer e = (made_timer _ _ _ _ _ timer e).1

pub intc_device : (cores : List CoreRow) (name : List ℕ) (ms : Members) (intc : IntcRow) → intc_row cores name ms ≡ Some intc → device_clock ms ≡ intc.clock
unfolding intc_row
intc_device cores name ms intc e = made_intc _ _ _ _ intc e

pub uart_device : (cores : List CoreRow) (name : List ℕ) (ms : Members) (uart : UartRow) → uart_row cores name ms ≡ Some uart → device_clock ms ≡ uart.clock
unfolding uart_row
uart_device cores name ms uart e = (made_uart _ _ _ _ _ _ _ _ uart e).2

pub timer_clock : (cores : List CoreRow) (name : List ℕ) (ms : Members) (timer : TimerRow) → timer_row cores name ms ≡ Some timer → IsClock timer.clock
timer_clock cores name ms timer e = device_turn ms timer.clock (timer_device cores name ms timer e)

pub intc_clock : (cores : List CoreRow) (name : List ℕ) (ms : Members) (intc : IntcRow) → intc_row cores name ms ≡ Some intc → IsClock intc.clock
intc_clock cores name ms intc e = device_turn ms intc.clock (intc_device cores name ms intc e)

pub uart_clock : (cores : List CoreRow) (name : List ℕ) (ms : Members) (uart : UartRow) → uart_row cores name ms ≡ Some uart → IsClock uart.clock
uart_clock cores name ms uart e = device_turn ms uart.clock (uart_device cores name ms uart e)
