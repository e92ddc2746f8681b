use Rattle.std.proofs.Common.{◌<◌, length, refl, ap, ◌∙◌, sym, arith, slice_get}
use Rattle.std.proofs.lemmas.List.{length-map}
use Rattle.std.proofs.lemmas.Option.{slice_get_read}
use Rattle.board_profile.specs.Profiles.{Profiled, counts_of}
use Rattle.board_profile.proofs.Counting.{mapped_at}
use Rattle.board_profile.proofs.board.ProfiledBoard.profile.Goals as goal

pub returns : goal.returns
returns g c =
    let items = c.self.inside.profiles.items in
    let there : c.args.core < length items = omega (arith, c.requires.there, ap (λ (w : Profiled). length w.world.cores) c.self.view_is, c.self.invariant.count, length-map items counts_of) in
    ap (λ (w : Profiled). slice_get w.profiles c.args.core) (sym c.self.view_is) ∙ mapped_at items c.args.core c.index.result.now (slice_get_read items (length items) c.args.core c.index.result.now refl there c.index.ensures)
