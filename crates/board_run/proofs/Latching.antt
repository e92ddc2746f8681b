-- The step of the devices in parts: the devices move, and then each core's line is latched.
use Rattle.std.proofs.Common.{◌≡◌, ℕ, suc, ◌+◌, ◌≤◌, List, length, ap, sym, ◌∙◌, arith, not, true, slice_get}
use Rattle.std.specs.List.{list_all}
use Rattle.board_machine.specs.DeviceMoves.{devices_moved, in_order, latched}
use Rattle.board_machine.specs.Fabric.{Fabric, breaks_come}
use Rattle.board_file.specs.declared.board.LinkRow.{LinkRow}
use Rattle.board_machine.specs.declared.events.Event.TheVariants.{Devices}
use Rattle.exact_machine.specs.Stepping.{CanCycle}
use Rattle.board_machine.specs.World.{devices_done, line_latched}
use Rattle.exact_machine.specs.Stepping.{Step}
use Rattle.exact_machine.specs.Machine.{ExactWorld, opened, with_slack}
use Rattle.std.proofs.lemmas.List.{length-map}
use Rattle.board_run.specs.Boards.{exact_acts}
use Rattle.board_run.proofs.Ticks.{acts_seen}
use Rattle.board_machine.proofs.DeviceSteps.{done_enters, latch_enters, moved_enter}
use Rattle.quiet_cycles.specs.Quiet.{AreAtRest}
use Rattle.quiet_cycles.proofs.Calm.{all_low}
use Rattle.quiet_cycles.proofs.Doing.{lines_stay}

-- the lines of the first cores are latched
abbrev pub lines_latched : ℕ → ExactWorld → ExactWorld
lines_latched n w = record w { fabric = in_order (line_latched (opened w).cores) n w.fabric }

-- one line more
pub latch_more : (old w v : ExactWorld) (k : ℕ) → w ≡ lines_latched k old → v ≡ record w { fabric = latched k (exact_acts (slice_get w.cores k)) w.fabric } → v ≡ lines_latched (k + 1) old
latch_more old w v k e h =
    let next : suc k ≡ k + 1 = omega arith in
    h ∙ ap (λ act. record w { fabric = latched k act w.fabric }) (sym (acts_seen w.cores k)) ∙ ap (λ (x : ExactWorld). record x { fabric = line_latched (opened x).cores k x.fabric }) e ∙ ap (λ n. lines_latched n old) next

pub latch_room : (w v : ExactWorld) (k : ℕ) → v ≡ record w { fabric = latched k (exact_acts (slice_get w.cores k)) w.fabric } → w.fabric.spare ≤ v.fabric.spare + 1
latch_room w v k h = omega (arith, (latch_enters (opened w).cores k w.fabric).spare, ap (λ act. (latched k act w.fabric).spare) (acts_seen w.cores k), ap (λ (x : ExactWorld). x.fabric.spare) h)

-- low lines stay where the devices are at rest
pub lines_rest : (w : ExactWorld) → list_all (λ high. not high) w.fabric.lines ≡ true → AreAtRest w.fabric.bus w.fabric.devices → w ≡ lines_latched (length w.cores) w
lines_rest w low rest = ap (λ (f : Fabric). record w { fabric = f }) (sym (lines_stay (opened w).cores w.fabric rest (all_low w.fabric.lines low) (length w.cores)))

-- what the devices' moves leave of the room
pub moves_room : (old mid : ExactWorld) → mid ≡ record old { fabric = devices_moved (breaks_come old.fabric) } → length old.fabric.bus.uarts + length old.cores ≤ old.fabric.spare → length mid.cores ≤ mid.fabric.spare
moves_room old mid e room = omega (arith, room, (moved_enter (breaks_come old.fabric)).spare, ap (λ (x : ExactWorld). x.fabric.spare) e, ap (λ (x : ExactWorld). length x.cores) e)

pub devices_step : (old mid new : ExactWorld) → mid ≡ record old { fabric = devices_moved (breaks_come old.fabric) } → new ≡ lines_latched (length mid.cores) mid → new ≡ record old { fabric = devices_done (opened old).cores old.fabric }
unfolding devices_done
devices_step old mid new e h =
    h ∙ ap (λ (x : ExactWorld). lines_latched (length x.cores) x) e
    ∙ ap (λ n. record old { fabric = in_order (line_latched (opened old).cores) n (devices_moved (breaks_come old.fabric)) }) (sym (length-map old.cores (with_slack 0)))

-- a cycle's devices leave the room that the host may need
pub host_room : (old mid : ExactWorld) → CanCycle old → Step old Devices mid → length mid.fabric.rows ≤ mid.fabric.spare
host_room old mid can e =
    let d = done_enters (opened old).cores old.fabric in
    let n : length (opened old).cores ≡ length old.cores = length-map old.cores (with_slack 0) in
    omega (arith, can.spare, d.spare, n, ap (λ (rows : List LinkRow). length rows) d.rows, ap (λ (x : ExactWorld). x.fabric.spare) e, ap (λ (x : ExactWorld). length x.fabric.rows) e)
