-- What one row of the file alone may name: an output file, or a port, a base, an input or the controller of a core.
use Rattle.std.specs.Prelude.{ℕ, Bool, true, false, ◌==◌, ◌&&◌, ◌||◌, not, List, [], ◌∷◌, ◌++◌, flat_map, Option, Some, None}
use Rattle.std.specs.List.{list_any}
use Rattle.std.specs.Str.{bytes_eq}
use Rattle.toml.specs.Data.{Members, as_table, no_members, member}
use Rattle.board_file.specs.Faults.{fault_unless, is_earlier}
use Rattle.board_file.specs.Read.{core_name_at, file_at, number_at}
use Rattle.board_file.specs.Tree.{key_place, rows_in}
use Rattle.board_file.specs.declared.claims.Claim.{Claim}
use Rattle.board_file.specs.declared.claims.Subject.{Subject}
use Rattle.board_file.specs.declared.claims.Subject.TheVariants.{File, OfCore}
use Rattle.board_file.specs.declared.claims.Usage.{Usage}
use Rattle.board_file.specs.declared.claims.Usage.TheVariants.{Number, Whole}
use Rattle.board_file.specs.declared.fault.BoardRule.{BoardRule}
use Rattle.board_file.specs.declared.fault.Fault.{Fault}
use Rattle.board_file.specs.declared.keys.Key.{Key}
use Rattle.board_file.specs.declared.keys.Key.TheVariants as key
use Rattle.board_file.specs.declared.keys.Quantity.TheVariants as quantity
use Rattle.board_file.specs.declared.keys.Rows.{Rows}
use Rattle.board_file.specs.declared.keys.Rows.TheVariants as rows

-- the claims of the rows of a table; a row of another kind makes none
abbrev pub row_claims : (List ℕ → Members → List Claim) → List ℕ → Option Members → List Claim
row_claims of name None = []
row_claims of name (Some ms) = of name ms

abbrev pub claims_in : (List ℕ → Members → List Claim) → Members → List Claim
claims_in of no_members = []
claims_in of (member name d ms) = row_claims of name (as_table d) ++ claims_in of ms

-- a claim on a file, where its name is right
abbrev pub file_claim : Bool → List ℕ → Option (List ℕ) → List Claim
file_claim sole at None = []
file_claim sole at (Some name) = record { place = at; on = File name; sole = sole } ∷ []

unfoldable pub file_claim_of : Bool → Rows → Key → List ℕ → Members → List Claim
file_claim_of sole r k name ms = file_claim sole (key_place r name k) (file_at k ms)

unfoldable pub claims_on_file : Members → Bool → Rows → Key → List Claim
claims_on_file tree sole r k = claims_in (file_claim_of sole r k) (rows_in tree r)

-- an output claims its file alone; an image and an input don't
unfoldable pub file_claims : Members → List Claim
file_claims tree =
    claims_on_file tree true rows.Link key.ToFile
    ++ claims_on_file tree true rows.Uart key.Output
    ++ claims_on_file tree false rows.Link key.FromFile
    ++ claims_on_file tree false rows.Uart key.Input
    ++ claims_on_file tree false rows.Core key.Image

-- a claim on a number of a core, where the core is there and the number right
abbrev pub core_claim : List ℕ → Option (List ℕ) → Option ℕ → List Claim
core_claim at (Some core) (Some n) = record { place = at; on = OfCore core n; sole = true } ∷ []
core_claim at _ _ = []

-- the table whose rows claim something of a core
abbrev pub claimed_by : Usage → Rows
claimed_by (Number r c k q) = r
claimed_by (Whole r c) = r

unfoldable pub core_claim_of : Members → Usage → List ℕ → Members → List Claim
core_claim_of tree (Number r c k q) name ms = core_claim (key_place r name k) (core_name_at tree c ms) (number_at q k ms)
core_claim_of tree (Whole r c) name ms = core_claim (key_place r name c) (core_name_at tree c ms) (Some 0)

unfoldable pub claims_by : Members → Usage → List Claim
claims_by tree u = claims_in (core_claim_of tree u) (rows_in tree (claimed_by u))

unfoldable pub core_claims : Members → List Usage → List Claim
core_claims tree us = flat_map (claims_by tree) us

unfoldable pub puts : List Usage
puts = Number rows.Link key.From key.FromPort quantity.Port ∷ []

unfoldable pub gets : List Usage
gets = Number rows.Link key.To key.ToPort quantity.Port ∷ []

unfoldable pub bases : List Usage
bases =
    Number rows.Timer key.Core key.Base quantity.Base ∷
    Number rows.Intc key.Core key.Base quantity.Base ∷
    Number rows.Uart key.Core key.Base quantity.Base ∷
    []

unfoldable pub irqs : List Usage
irqs = Number rows.Timer key.Core key.Irq quantity.Irq ∷ Number rows.Uart key.Core key.Irq quantity.Irq ∷ []

unfoldable pub controllers : List Usage
controllers = Whole rows.Intc key.Core ∷ []

abbrev pub same_subject : Subject → Subject → Bool
same_subject (File a) (File b) = bytes_eq a b
same_subject (OfCore c n) (OfCore d m) = bytes_eq c d && n == m
same_subject _ _ = false

-- a sole claim fails where another claim on the same is earlier, or isn't sole
abbrev pub collides : Claim → Claim → Bool
collides c d = same_subject c.on d.on && (not d.sole || is_earlier d.place c.place)

abbrev pub claim_faults : BoardRule → List Claim → Claim → List Fault
claim_faults rule all c = fault_unless (not (c.sole && list_any (collides c) all)) rule c.place

unfoldable pub twice_faults : BoardRule → List Claim → List Fault
twice_faults rule all = flat_map (claim_faults rule all) all
