-- How far ahead the numbers of a past lie.
use Rattle.std.specs.Prelude.{ℕ, ◌≤◌, slice_index}
use Rattle.timing_law.specs.declared.past.Past.{Past}

-- no number of a past lies ahead of a tick
pub record IsBefore (past : Past) (tick : ℕ) : Type 0 where
  pub first : past.first ≤ tick
  pub next : past.next ≤ tick
  pub ready : (r : ℕ) → slice_index past.ready r ≤ tick
  pub redirect : past.redirect ≤ tick
