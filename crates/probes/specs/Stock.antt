-- The four probes of the program, in order of attachment, before any entry.
use Rattle.std.specs.Prelude.{List, [], ◌∷◌, codes}
use Rattle.probe_set.specs.declared.probe.ProbeKind.TheVariants.{Count, Trace, Watch, Cover}
use Rattle.probe_set.specs.Folds.{begun}
use Rattle.probe_set.specs.Sets.{Named, named}

abbrev pub stock : List Named
stock =
    named (codes "count") (begun Count)
    ∷ named (codes "trace") (begun Trace)
    ∷ named (codes "watch") (begun Watch)
    ∷ named (codes "cover") (begun Cover)
    ∷ []
