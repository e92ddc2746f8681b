-- The past of a plain core, no number of which lies ahead.
use Rattle.std.specs.Prelude.{ℕ, ◌≡◌, ◌≤◌, ◌-◌, List, Option, slice_index, slice_set, length, unwrap_or}
use Rattle.timing_law.specs.declared.pipe.Pipe.TheVariants.{Plain}
use Rattle.core_iface.specs.Pace.{Times}

-- by all its ticks and those without an act; the tick from which it is free, if that has passed; and the ticks from which
-- the word at pc is decoded and each register but 0 can be used
abbrev pub times_of : ℕ → ℕ → Option ℕ → ℕ → List ℕ → Times
times_of ticks stays free redirect ready = record {
  acts = ticks - stays;
  ticks = ticks;
  past = record { pipe = Plain; first = 0; next = unwrap_or free ticks; ready = slice_set ready 0 0; redirect = redirect };
}

pub record IsPlain (t : Times) : Type 0 where
  pub pipe : t.past.pipe ≡ Plain
  pub first : t.past.first ≡ 0
  pub fewer : t.acts ≤ t.ticks
  pub registers : length t.past.ready ≡ 32
  pub next : t.past.next ≤ t.ticks
  pub redirect : t.past.redirect ≤ t.ticks
  pub ready : (r : ℕ) → slice_index t.past.ready r ≤ t.ticks
