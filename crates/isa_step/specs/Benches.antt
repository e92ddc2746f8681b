-- What the ports of a bench mean: a depth of one item at each port, one word on the bus, and a log of actions.
use Rattle.std.specs.Prelude.{◌≡◌, ℕ, ◌==◌, ◌||◌, Bool, false, if◌then◌else◌, Option, Some, None, is_none, slice_index_or, slice_set}
use Rattle.isa_step.specs.declared.acts.Action.{Action}
use Rattle.isa_step.specs.declared.acts.Breaks.{Breaks}
use Rattle.isa_step.specs.declared.acts.Hopes.{Hopes}
use Rattle.isa_step.specs.declared.acts.Action.TheVariants.{Got, Sent, Wrote}
use Rattle.isa_step.specs.declared.bench.BenchPorts.{BenchPorts}
use Rattle.isa_step.specs.Shown.{Shown}

-- the word of the bus, at its one address
abbrev pub word_on : Option ℕ → ℕ → ℕ → Option ℕ
word_on None at addr = None
word_on (Some word) at addr = if addr == at then Some word else None

abbrev pub takes_on : Option ℕ → ℕ → ℕ → Bool
takes_on None at addr = false
takes_on (Some word) at addr = addr == at

abbrev pub no_breaks : Breaks
no_breaks = record { maskable = false; nonmaskable = false }

abbrev pub no_hopes : Hopes
no_hopes = record { interrupt = false; maskable = false; nonmaskable = false }

-- what has come was announced for
abbrev pub hopes_of : BenchPorts → Hopes
hopes_of b = record {
  interrupt = b.line || b.hopes.interrupt;
  maskable = b.breaks.maskable || b.hopes.maskable;
  nonmaskable = b.breaks.nonmaskable || b.hopes.nonmaskable;
}

abbrev pub bench_shows : BenchPorts → Shown
bench_shows b = record {
  line = b.line;
  breaks = b.breaks;
  hopes = hopes_of b;
  first = λ port. slice_index_or b.inputs port None;
  room = λ port. is_none (slice_index_or b.outputs port None);
  bus_word = word_on b.bus b.bus_addr;
  bus_takes = λ addr word. takes_on b.bus b.bus_addr addr;
}

-- an item that is taken leaves its port, one that is sent stays in its port, and a word that is written stays on the bus;
-- all else stays but the log
abbrev pub BenchLeaves : BenchPorts → Action → BenchPorts → Type 0
BenchLeaves old (Got port item) new = new ≡ record old { inputs = slice_set old.inputs port None; log = new.log }
BenchLeaves old (Sent port item) new = new ≡ record old { outputs = slice_set old.outputs port (Some item); log = new.log }
BenchLeaves old (Wrote addr word) new = new ≡ record old { bus = Some word; log = new.log }
BenchLeaves old action new = new ≡ record old { log = new.log }
