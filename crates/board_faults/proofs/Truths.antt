-- Each refusal is true of its file.
use Rattle.std.proofs.Common.{◌⊎◌, inl, inr, List, ◌++◌, flat_map}
use Rattle.toml.specs.Data.{Members}
use Rattle.board_file.specs.Board.{base_faults, faults, irq_faults, least_fault, naming_faults, not_toml, within_tables}
use Rattle.board_file.specs.Bus.{below_faults, lone_faults, sum_faults}
use Rattle.board_file.specs.Claims.{bases, controllers, core_claims, file_claims, gets, irqs, puts, twice_faults}
use Rattle.board_file.specs.Faults.{IsOneOf}
use Rattle.board_file.specs.Keys.{tables}
use Rattle.board_file.specs.Rules.{table_faults, top_faults}
use Rattle.board_file.specs.declared.fault.BoardRule.TheVariants as broken
use Rattle.board_file.specs.declared.fault.Fault.{Fault}
use Rattle.board_faults.proofs.Found.{from_each, one_of_two}
use Rattle.board_faults.proofs.InTables.{IsTrue, table_told, top_told}
use Rattle.board_faults.proofs.Twice.{bases_told, below_told, controllers_told, files_told, gets_told, irqs_told, lone_told, puts_told, sum_told}
use Rattle.board_faults.specs.Told.{RefusalsAreTold, faulty, no_toml}

within_told : (tree : Members) (f : Fault) → IsOneOf f (within_tables tree) → IsTrue tree f
unfolding within_tables
within_told tree f h = by_side (one_of_two f (top_faults tree) (flat_map (table_faults tree) tables) h)
  where
    by_side : IsOneOf f (top_faults tree) ⊎ IsOneOf f (flat_map (table_faults tree) tables) → IsTrue tree f
    by_side (inl g) = top_told tree f g
    by_side (inr g) = let (r, of_tables, here) = from_each f (table_faults tree) tables g in table_told tree r f here

naming_told : (tree : Members) (f : Fault) → IsOneOf f (naming_faults tree) → IsTrue tree f
unfolding naming_faults
naming_told tree f h = by_side (one_of_two f (files ++ put) got h)
  where
    files : List Fault
    files = twice_faults broken.FileTwice (file_claims tree)

    put : List Fault
    put = twice_faults broken.PortTwice (core_claims tree puts)

    got : List Fault
    got = twice_faults broken.PortTwice (core_claims tree gets)

    by_front : IsOneOf f files ⊎ IsOneOf f put → IsTrue tree f
    by_front (inl g) = files_told tree f g
    by_front (inr g) = puts_told tree f g

    by_side : IsOneOf f (files ++ put) ⊎ IsOneOf f got → IsTrue tree f
    by_side (inl g) = by_front (one_of_two f files put g)
    by_side (inr g) = gets_told tree f g

base_told : (tree : Members) (f : Fault) → IsOneOf f (base_faults tree) → IsTrue tree f
unfolding base_faults
base_told tree f h = by_side (one_of_two f (twice_faults broken.BadBase (core_claims tree bases)) (flat_map (below_faults tree) (core_claims tree bases)) h)
  where
    by_side : IsOneOf f (twice_faults broken.BadBase (core_claims tree bases)) ⊎ IsOneOf f (flat_map (below_faults tree) (core_claims tree bases)) → IsTrue tree f
    by_side (inl g) = bases_told tree f g
    by_side (inr g) = below_told tree f g

irq_told : (tree : Members) (f : Fault) → IsOneOf f (irq_faults tree) → IsTrue tree f
unfolding irq_faults
irq_told tree f h = by_side (one_of_two f (control ++ inputs) alone h)
  where
    control : List Fault
    control = twice_faults broken.InterruptTwice (core_claims tree controllers)

    inputs : List Fault
    inputs = twice_faults broken.InterruptTwice (core_claims tree irqs)

    alone : List Fault
    alone = flat_map (lone_faults (core_claims tree controllers)) (core_claims tree irqs)

    by_front : IsOneOf f control ⊎ IsOneOf f inputs → IsTrue tree f
    by_front (inl g) = controllers_told tree f g
    by_front (inr g) = irqs_told tree f g

    by_side : IsOneOf f (control ++ inputs) ⊎ IsOneOf f alone → IsTrue tree f
    by_side (inl g) = by_front (one_of_two f control inputs g)
    by_side (inr g) = lone_told tree f g

fault_told : (tree : Members) (f : Fault) → IsOneOf f (faults tree) → IsTrue tree f
unfolding faults
fault_told tree f h = last (one_of_two f (within_tables tree ++ naming_faults tree ++ base_faults tree ++ irq_faults tree) (sum_faults tree) h)
  where
    first : IsOneOf f (within_tables tree) ⊎ IsOneOf f (naming_faults tree) → IsTrue tree f
    first (inl g) = within_told tree f g
    first (inr g) = naming_told tree f g

    second : IsOneOf f (within_tables tree ++ naming_faults tree) ⊎ IsOneOf f (base_faults tree) → IsTrue tree f
    second (inl g) = first (one_of_two f (within_tables tree) (naming_faults tree) g)
    second (inr g) = base_told tree f g

    third : IsOneOf f (within_tables tree ++ naming_faults tree ++ base_faults tree) ⊎ IsOneOf f (irq_faults tree) → IsTrue tree f
    third (inl g) = second (one_of_two f (within_tables tree ++ naming_faults tree) (base_faults tree) g)
    third (inr g) = irq_told tree f g

    last : IsOneOf f (within_tables tree ++ naming_faults tree ++ base_faults tree ++ irq_faults tree) ⊎ IsOneOf f (sum_faults tree) → IsTrue tree f
    last (inl g) = third (one_of_two f (within_tables tree ++ naming_faults tree ++ base_faults tree) (irq_faults tree) g)
    last (inr g) = sum_told tree f g

pub refusals_told : RefusalsAreTold
refusals_told file code place (not_toml refuted) = no_toml refuted
refusals_told file code place (least_fault tree f is least) = faulty tree f.rule f.place is (fault_told tree f least.among)
