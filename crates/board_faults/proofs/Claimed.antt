-- What a claim says of the row that makes it.
use Rattle.std.proofs.Common.{◌≡◌, ◌⊎◌, inl, inr, ℕ, Bool, true, false, List, [], ◌∷◌, ◌++◌, Option, Some, None, refl, sym, ap, ◌∙◌}
use Rattle.toml.specs.Data.{Data, Members, as_table, member, no_members}
use Rattle.board_file.specs.Claims.{bases, claims_by, claims_in, claims_on_file, controllers, core_claim, core_claim_of, core_claims, file_claim, file_claim_of, file_claims, irqs, row_claims}
use Rattle.board_file.specs.Read.{core_name_at, file_at, number_at}
use Rattle.board_file.specs.Tree.{key_place, rows_in}
use Rattle.board_file.specs.declared.claims.Claim.{Claim}
use Rattle.board_file.specs.declared.claims.Subject.TheVariants.{File, OfCore}
use Rattle.board_file.specs.declared.claims.Usage.{Usage}
use Rattle.board_file.specs.declared.claims.Usage.TheVariants.{Number, Whole}
use Rattle.board_file.specs.declared.keys.Key.{Key}
use Rattle.board_file.specs.declared.keys.Key.TheVariants as key
use Rattle.board_file.specs.declared.keys.Quantity.{Quantity}
use Rattle.board_file.specs.declared.keys.Quantity.TheVariants as quantity
use Rattle.board_file.specs.declared.keys.Rows.{Rows}
use Rattle.board_file.specs.declared.keys.Rows.TheVariants as rows
use Rattle.board_faults.proofs.Found.{in_first, in_later, in_two}
use Rattle.board_faults.specs.Told.{Controls, HasBase, HasIrq, HasRow, IsIn, IsInput, IsMember, IsOutput, NamesFile, Uses, controller_base, core_image, link_input, link_output, timer_base, timer_irq, uart_base, uart_input, uart_irq, uart_output}

-- the row that makes a claim
record IsMade (tree : Members) (r : Rows) (of : List ℕ → Members → List Claim) (c : Claim) : Type 0 where
  name : List ℕ
  keys : Members
  row : HasRow tree r name keys
  made : IsIn c (of name keys)

by_row : (tree : Members) (r : Rows) (of : List ℕ → Members → List Claim) (c : Claim) (name : List ℕ) (d : Data) (o : Option Members) → IsMember name d (rows_in tree r) → as_table d ≡ o → IsIn c (row_claims of name o) → IsMade tree r of c
by_row tree r of c name d None there is h = elim h [ ]
by_row tree r of c name d (Some keys) there is h = record { name = name; keys = keys; row = record { value = d; there = there; is_table = is }; made = h }

made_by : (tree : Members) (r : Rows) (of : List ℕ → Members → List Claim) (c : Claim) (ms : Members) → ((name : List ℕ) (d : Data) → IsMember name d ms → IsMember name d (rows_in tree r)) → IsIn c (claims_in of ms) → IsMade tree r of c
made_by tree r of c no_members more h = elim h [ ]
made_by tree r of c (member name d ms) more h =
    by_side (in_two c (row_claims of name (as_table d)) (claims_in of ms) h) (λ g. made_by tree r of c ms (λ n e m. more n e (inr m)) g)
  where
    by_side : IsIn c (row_claims of name (as_table d)) ⊎ IsIn c (claims_in of ms) → (IsIn c (claims_in of ms) → IsMade tree r of c) → IsMade tree r of c
    by_side (inl here) rest = by_row tree r of c name d (as_table d) (more name d (inl (refl, refl))) refl here
    by_side (inr later) rest = rest later

-- a claim on a number of a core
abbrev number_claim : List ℕ → List ℕ → ℕ → Claim
number_claim at core n = record { place = at; on = OfCore core n; sole = true }

claim_on : (at : List ℕ) (o : Option (List ℕ)) (m : Option ℕ) (c : Claim) → IsIn c (core_claim at o m) → (core : List ℕ) × (n : ℕ) × (o ≡ Some core) × (m ≡ Some n) × (number_claim at core n ≡ c)
claim_on at (Some core) (Some n) c (inl same) = (core, n, refl, refl, same)
claim_on at (Some core) (Some n) c (inr h) = elim h [ ]
claim_on at (Some core) None c h = elim h [ ]
claim_on at None (Some n) c h = elim h [ ]
claim_on at None None c h = elim h [ ]

-- a claim of a row that names a core and a number
pub record IsUse (tree : Members) (r : Rows) (of_core of_number : Key) (q : Quantity) (c : Claim) : Type 0 where
  pub core : List ℕ
  pub n : ℕ
  pub use_of : Uses tree r of_core of_number q c.place core n
  pub on : c.on ≡ OfCore core n
  pub sole : c.sole ≡ true

pub used : (tree : Members) (r : Rows) (of_core of_number : Key) (q : Quantity) (c : Claim) → IsIn c (claims_by tree (Number r of_core of_number q)) → IsUse tree r of_core of_number q c
unfolding claims_by core_claim_of
used tree r of_core of_number q c h =
    let m = made_by tree r (core_claim_of tree (Number r of_core of_number q)) c (rows_in tree r) (λ n d g. g) h in
    let (core, n, named, given, same) = claim_on (key_place r m.name of_number) (core_name_at tree of_core m.keys) (number_at q of_number m.keys) c m.made in
    record {
      core = core;
      n = n;
      use_of = record { name = m.name; keys = m.keys; row = m.row; core_named = named; number_given = given; at = ap (λ (x : Claim). x.place) same };
      on = sym (ap (λ (x : Claim). x.on) same);
      sole = sym (ap (λ (x : Claim). x.sole) same);
    }

-- the claim of an interrupt controller
pub record IsControl (tree : Members) (c : Claim) : Type 0 where
  pub core : List ℕ
  pub n : ℕ
  pub controls : Controls tree c.place core
  pub on : c.on ≡ OfCore core n
  pub sole : c.sole ≡ true

pub controlled : (tree : Members) (c : Claim) → IsIn c (core_claims tree controllers) → IsControl tree c
unfolding core_claims controllers claims_by core_claim_of
controlled tree c h = by_side (in_two c (claims_by tree (Whole rows.Intc key.Core)) [] h)
  where
    by_side : IsIn c (claims_by tree (Whole rows.Intc key.Core)) ⊎ IsIn c [] → IsControl tree c
    by_side (inr g) = elim g [ ]
    by_side (inl g) =
        let m = made_by tree rows.Intc (core_claim_of tree (Whole rows.Intc key.Core)) c (rows_in tree rows.Intc) (λ n d f. f) g in
        let (core, n, named, given, same) = claim_on (key_place rows.Intc m.name key.Core) (core_name_at tree key.Core m.keys) (Some 0) c m.made in
        record {
          core = core;
          n = n;
          controls = record { name = m.name; keys = m.keys; row = m.row; core_named = named; at = ap (λ (x : Claim). x.place) same };
          on = sym (ap (λ (x : Claim). x.on) same);
          sole = sym (ap (λ (x : Claim). x.sole) same);
        }

-- a controller makes a claim
in_row : (of : List ℕ → Members → List Claim) (c : Claim) (n name : List ℕ) (keys : Members) (o : Option Members) → n ≡ name → o ≡ Some keys → IsIn c (of name keys) → IsIn c (row_claims of n o)
in_row of c n name keys o same is h = rw (same, is) h

claims : (of : List ℕ → Members → List Claim) (c : Claim) (name : List ℕ) (d : Data) (keys : Members) (ms : Members) → IsMember name d ms → as_table d ≡ Some keys → IsIn c (of name keys) → IsIn c (claims_in of ms)
claims of c name d keys no_members there is h = elim there [ ]
claims of c name d keys (member n e ms) (inl (named, same)) is h = in_first c _ (claims_in of ms) (in_row of c n name keys (as_table e) named (ap as_table same ∙ is) h)
claims of c name d keys (member n e ms) (inr more) is h = in_later c _ (claims_in of ms) (claims of c name d keys ms more is h)

control_claim : (at core : List ℕ) (o : Option (List ℕ)) → o ≡ Some core → IsIn (number_claim at core 0) (core_claim at o (Some 0))
control_claim at core o is = rw is (inl refl)

pub control_claims : (tree : Members) (place core : List ℕ) → Controls tree place core → (c : Claim) × IsIn c (core_claims tree controllers) × (c.on ≡ OfCore core 0)
unfolding core_claims controllers claims_by core_claim_of
control_claims tree place core k =
    let c = number_claim (key_place rows.Intc k.name key.Core) core 0 in (
      c,
      in_first c (claims_by tree (Whole rows.Intc key.Core)) []
          (claims (core_claim_of tree (Whole rows.Intc key.Core)) c k.name k.row.value k.keys (rows_in tree rows.Intc) k.row.there k.row.is_table
          (control_claim _ core (core_name_at tree key.Core k.keys) k.core_named)),
      refl,
    )

-- the claims of one usage
pub one_usage : (tree : Members) (u : Usage) (c : Claim) → IsIn c (core_claims tree (u ∷ [])) → IsIn c (claims_by tree u)
unfolding core_claims
one_usage tree u c h = by_side (in_two c (claims_by tree u) [] h)
  where
    by_side : IsIn c (claims_by tree u) ⊎ IsIn c [] → IsIn c (claims_by tree u)
    by_side (inl g) = g
    by_side (inr g) = elim g [ ]

-- the claim of a device on a base, or on an input
pub record IsDevice (c : Claim) (Has : List ℕ → List ℕ → ℕ → Type 0) : Type 0 where
  pub core : List ℕ
  pub n : ℕ
  pub has : Has c.place core n
  pub on : c.on ≡ OfCore core n
  pub sole : c.sole ≡ true

abbrev device : {r : Rows} {k m : Key} {q : Quantity} (tree : Members) (c : Claim) (Has : List ℕ → List ℕ → ℕ → Type 0) (u : IsUse tree r k m q c) → Has c.place u.core u.n → IsDevice c Has
device tree c Has u has = record { core = u.core; n = u.n; has = has; on = u.on; sole = u.sole }

pub based : (tree : Members) (c : Claim) → IsIn c (core_claims tree bases) → IsDevice c (HasBase tree)
unfolding core_claims bases
based tree c h = of_timer (in_two c (claims_by tree timers) _ h)
  where
    timers : Usage
    timers = Number rows.Timer key.Core key.Base quantity.Base

    intcs : Usage
    intcs = Number rows.Intc key.Core key.Base quantity.Base

    uarts : Usage
    uarts = Number rows.Uart key.Core key.Base quantity.Base

    of_uart : IsIn c (claims_by tree uarts) ⊎ IsIn c [] → IsDevice c (HasBase tree)
    of_uart (inl g) = let u = used tree rows.Uart key.Core key.Base quantity.Base c g in device tree c (HasBase tree) u (uart_base u.use_of)
    of_uart (inr g) = elim g [ ]

    of_intc : IsIn c (claims_by tree intcs) ⊎ IsIn c (claims_by tree uarts ++ []) → IsDevice c (HasBase tree)
    of_intc (inl g) = let u = used tree rows.Intc key.Core key.Base quantity.Base c g in device tree c (HasBase tree) u (controller_base u.use_of)
    of_intc (inr g) = of_uart (in_two c (claims_by tree uarts) [] g)

    of_timer : IsIn c (claims_by tree timers) ⊎ IsIn c (claims_by tree intcs ++ (claims_by tree uarts ++ [])) → IsDevice c (HasBase tree)
    of_timer (inl g) = let u = used tree rows.Timer key.Core key.Base quantity.Base c g in device tree c (HasBase tree) u (timer_base u.use_of)
    of_timer (inr g) = of_intc (in_two c (claims_by tree intcs) _ g)

pub led : (tree : Members) (c : Claim) → IsIn c (core_claims tree irqs) → IsDevice c (HasIrq tree)
unfolding core_claims irqs
led tree c h = of_timer (in_two c (claims_by tree timers) _ h)
  where
    timers : Usage
    timers = Number rows.Timer key.Core key.Irq quantity.Irq

    uarts : Usage
    uarts = Number rows.Uart key.Core key.Irq quantity.Irq

    of_uart : IsIn c (claims_by tree uarts) ⊎ IsIn c [] → IsDevice c (HasIrq tree)
    of_uart (inl g) = let u = used tree rows.Uart key.Core key.Irq quantity.Irq c g in device tree c (HasIrq tree) u (uart_irq u.use_of)
    of_uart (inr g) = elim g [ ]

    of_timer : IsIn c (claims_by tree timers) ⊎ IsIn c (claims_by tree uarts ++ []) → IsDevice c (HasIrq tree)
    of_timer (inl g) = let u = used tree rows.Timer key.Core key.Irq quantity.Irq c g in device tree c (HasIrq tree) u (timer_irq u.use_of)
    of_timer (inr g) = of_uart (in_two c (claims_by tree uarts) [] g)

-- the claim of a row on a file
record IsNaming (tree : Members) (r : Rows) (k : Key) (sole : Bool) (c : Claim) : Type 0 where
  file : List ℕ
  names : NamesFile tree r k c.place file
  on : c.on ≡ File file
  is_sole : c.sole ≡ sole

-- a claim on a file
abbrev pub file_claim_on : Bool → List ℕ → List ℕ → Claim
file_claim_on sole at file = record { place = at; on = File file; sole = sole }

claim_on_file : (sole : Bool) (at : List ℕ) (o : Option (List ℕ)) (c : Claim) → IsIn c (file_claim sole at o) → (file : List ℕ) × (o ≡ Some file) × (file_claim_on sole at file ≡ c)
claim_on_file sole at None c h = elim h [ ]
claim_on_file sole at (Some file) c (inl same) = (file, refl, same)
claim_on_file sole at (Some file) c (inr h) = elim h [ ]

naming : (tree : Members) (r : Rows) (k : Key) (sole : Bool) (c : Claim) → IsIn c (claims_on_file tree sole r k) → IsNaming tree r k sole c
unfolding claims_on_file file_claim_of
naming tree r k sole c h =
    let m = made_by tree r (file_claim_of sole r k) c (rows_in tree r) (λ n d g. g) h in
    let (file, named, same) = claim_on_file sole (key_place r m.name k) (file_at k m.keys) c m.made in
    record {
      file = file;
      names = record { name = m.name; keys = m.keys; row = m.row; named = named; at = ap (λ (x : Claim). x.place) same };
      on = sym (ap (λ (x : Claim). x.on) same);
      is_sole = sym (ap (λ (x : Claim). x.sole) same);
    }

-- the claim of an output is sole, and that of an input isn't
pub record IsFileClaim (tree : Members) (c : Claim) : Type 0 where
  pub file : List ℕ
  pub on : c.on ≡ File file
  pub use_as : ((c.sole ≡ true) × IsOutput tree c.place file) ⊎ ((c.sole ≡ false) × IsInput tree c.place file)

pub file_claimed : (tree : Members) (c : Claim) → IsIn c (file_claims tree) → IsFileClaim tree c
unfolding file_claims
file_claimed tree c h = last (in_two c (link_outputs ++ uart_outputs ++ link_inputs ++ uart_inputs) images h)
  where
    link_outputs : List Claim
    link_outputs = claims_on_file tree true rows.Link key.ToFile

    uart_outputs : List Claim
    uart_outputs = claims_on_file tree true rows.Uart key.Output

    link_inputs : List Claim
    link_inputs = claims_on_file tree false rows.Link key.FromFile

    uart_inputs : List Claim
    uart_inputs = claims_on_file tree false rows.Uart key.Input

    images : List Claim
    images = claims_on_file tree false rows.Core key.Image

    first : IsIn c link_outputs ⊎ IsIn c uart_outputs → IsFileClaim tree c
    first (inl g) = let n = naming tree rows.Link key.ToFile true c g in record { file = n.file; on = n.on; use_as = inl (n.is_sole, link_output n.names) }
    first (inr g) = let n = naming tree rows.Uart key.Output true c g in record { file = n.file; on = n.on; use_as = inl (n.is_sole, uart_output n.names) }

    second : IsIn c (link_outputs ++ uart_outputs) ⊎ IsIn c link_inputs → IsFileClaim tree c
    second (inl g) = first (in_two c link_outputs uart_outputs g)
    second (inr g) = let n = naming tree rows.Link key.FromFile false c g in record { file = n.file; on = n.on; use_as = inr (n.is_sole, link_input n.names) }

    third : IsIn c (link_outputs ++ uart_outputs ++ link_inputs) ⊎ IsIn c uart_inputs → IsFileClaim tree c
    third (inl g) = second (in_two c (link_outputs ++ uart_outputs) link_inputs g)
    third (inr g) = let n = naming tree rows.Uart key.Input false c g in record { file = n.file; on = n.on; use_as = inr (n.is_sole, uart_input n.names) }

    last : IsIn c (link_outputs ++ uart_outputs ++ link_inputs ++ uart_inputs) ⊎ IsIn c images → IsFileClaim tree c
    last (inl g) = third (in_two c (link_outputs ++ uart_outputs ++ link_inputs) uart_inputs g)
    last (inr g) = let n = naming tree rows.Core key.Image false c g in record { file = n.file; on = n.on; use_as = inr (n.is_sole, core_image n.names) }
