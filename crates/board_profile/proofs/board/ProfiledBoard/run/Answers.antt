use Rattle.std.proofs.Common.{◌≡◌, ℕ, ◌≤◌, List, drop, length, sym, subst}
use Rattle.probe_set.specs.Sets.{HaveRoom, Named}
use Rattle.board_run.proofs.Filling.{room_for, run_tells}
use Rattle.board_profile.proofs.board.ProfiledBoard.run.Goals as goal

pub tell_from-requires-clause-there : goal.tell_from-requires-clause-there
tell_from-requires-clause-there g c =
    let told = run_tells c.args.limit c.args.self.now.world c.run_to-end.new.self.world c.run_to-end.result c.entry_count-told.ensures.clocks c.run_to-end.ensures.ran in
    subst (λ n. n ≤ length c.run_to-end.new.self.world.fabric.journal) (sym c.entry_count-told.ensures.count) told.there

pub tell_from-requires-clause-room : goal.tell_from-requires-clause-room
tell_from-requires-clause-room g c =
    let told = run_tells c.args.limit c.args.self.now.world c.run_to-end.new.self.world c.run_to-end.result c.entry_count-told.ensures.clocks c.run_to-end.ensures.ran in
    let P : List Named → ℕ → Type 0 = λ ns n. HaveRoom (length (drop n c.run_to-end.new.self.world.fabric.journal)) ns in
    subst (P _) (sym c.entry_count-told.ensures.count) (room_for c.args.self.now.world.fabric.spare (length (drop (length c.args.self.now.world.fabric.journal) c.run_to-end.new.self.world.fabric.journal)) _ told.few c.requires.room)
