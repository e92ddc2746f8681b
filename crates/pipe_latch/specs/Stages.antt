-- The pipelines by how many stages they have.
use Rattle.std.specs.Prelude.{ℕ, ◌≡◌, ◌==◌, ◌||◌, true, if◌then◌else◌}
use Rattle.timing_law.specs.declared.pipe.Pipe.{Pipe}
use Rattle.timing_law.specs.declared.pipe.Pipe.TheVariants.{Three, Five, Eight}

-- the numbers of stages that pipelines have
abbrev pub HasStages : ℕ → Type 0
HasStages n = ((n == 3 || n == 5) || n == 8) ≡ true

-- the pipeline with so many stages
abbrev pub pipe_with : ℕ → Pipe
pipe_with n = if n == 3 then Three else if n == 5 then Five else Eight
