-- What a tick was spent on is told by its answer and by the reason before it.
use Rattle.std.proofs.Common.{◌≡◌, ℕ, Bool, true, false, Option, Some, None, refl, ap, sym, ◌∙◌, subst, slice_get}
use Rattle.std.proofs.lemmas.Option.{same_Some}
use Rattle.board_machine.specs.Fabric.{shown}
use Rattle.board_profile.specs.Profiles.{spent_on}
use Rattle.board_run.specs.Boards.{AnswerOf, TickSays}
use Rattle.core_iface.specs.declared.Tick.{Tick}
use Rattle.core_iface.specs.declared.Tick.TheVariants.{Acted, Ended, Filling, Sleeping, Stopped, Waiting}
use Rattle.exact_machine.specs.Machine.{ExactCore, ExactWorld}
use Rattle.exact_machine.specs.Profile.{Spent, reason, spent, spent_by}
use Rattle.isa_step.specs.Effects.{Does, Due, Ends, Sleeps, Stops, Waits}

says_by : (d : Due) (held quiet : Bool) (answer : Tick) (why : Spent) → AnswerOf d held quiet answer → spent_on answer why ≡ spent_by d held quiet why
says_by (Does effect) false quiet (Acted act) why h = refl
says_by (Does effect) true quiet (Acted act) why h = absurd h
says_by (Does effect) false quiet Filling why h = absurd h
says_by (Does effect) true quiet Filling why h = refl
says_by (Does effect) false quiet (Waiting on) why h = absurd h
says_by (Does effect) true quiet (Waiting on) why h = absurd h
says_by (Does effect) false quiet Sleeping why h = absurd h
says_by (Does effect) true quiet Sleeping why h = absurd h
says_by (Does effect) false quiet Ended why h = absurd h
says_by (Does effect) true quiet Ended why h = absurd h
says_by (Does effect) false quiet (Stopped cause) why h = absurd h
says_by (Does effect) true quiet (Stopped cause) why h = absurd h
says_by (Waits port full) false quiet (Acted act) why h = absurd h
says_by (Waits port full) true quiet (Acted act) why h = absurd h
says_by (Waits port full) false quiet Filling why h = absurd h
says_by (Waits port full) true quiet Filling why h = refl
says_by (Waits port full) false quiet (Waiting on) why h = refl
says_by (Waits port full) true quiet (Waiting on) why h = absurd h
says_by (Waits port full) false quiet Sleeping why h = absurd h
says_by (Waits port full) true quiet Sleeping why h = absurd h
says_by (Waits port full) false quiet Ended why h = absurd h
says_by (Waits port full) true quiet Ended why h = absurd h
says_by (Waits port full) false quiet (Stopped cause) why h = absurd h
says_by (Waits port full) true quiet (Stopped cause) why h = absurd h
says_by Sleeps held false (Acted act) why h = absurd h
says_by Sleeps held true (Acted act) why h = absurd h
says_by Sleeps held false Filling why h = absurd h
says_by Sleeps held true Filling why h = absurd h
says_by Sleeps held false (Waiting on) why h = absurd h
says_by Sleeps held true (Waiting on) why h = absurd h
says_by Sleeps held false Sleeping why h = refl
says_by Sleeps held true Sleeping why h = absurd h
says_by Sleeps held false Ended why h = absurd h
says_by Sleeps held true Ended why h = refl
says_by Sleeps held false (Stopped cause) why h = absurd h
says_by Sleeps held true (Stopped cause) why h = absurd h
says_by Ends held quiet (Acted act) why h = absurd h
says_by Ends held quiet Filling why h = absurd h
says_by Ends held quiet (Waiting on) why h = absurd h
says_by Ends held quiet Sleeping why h = absurd h
says_by Ends held quiet Ended why h = refl
says_by Ends held quiet (Stopped cause) why h = absurd h
says_by (Stops cause) held quiet (Acted act) why h = absurd h
says_by (Stops cause) held quiet Filling why h = absurd h
says_by (Stops cause) held quiet (Waiting on) why h = absurd h
says_by (Stops cause) held quiet Sleeping why h = absurd h
says_by (Stops cause) held quiet Ended why h = absurd h
says_by (Stops cause) held quiet (Stopped other) why h = refl

pub says : (x : ExactWorld) (core : ℕ) (answer : Tick) (s : ExactCore) → TickSays core answer x → slice_get x.cores core ≡ Some s → spent_on answer (reason s) ≡ spent s (shown x.fabric core)
says x core answer s t q =
    let same : t.was ≡ s = same_Some t.was s (sym t.there ∙ q) in
    subst (λ s. spent_on answer (reason s) ≡ spent s (shown x.fabric core)) same (says_by _ _ _ answer (reason t.was) t.says)
