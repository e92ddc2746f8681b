use Rattle.std.proofs.Common.{◌≡◌, length, subst, arith}
use Rattle.bus_map.proofs.Building.{IsBuilt, built_apart, built_finds}
use Rattle.bus_map.proofs.map.Map.build.Goals as goal

pub invariant_of-result : goal.invariant_of-result
invariant_of-result c = built_apart c.args.windows.now c.loop-window.window-index c.loop-window.devices c.loop-window.invariant c.requires

pub returns : goal.returns
returns c =
    let all : c.loop-window.window-index ≡ length c.args.windows.now = omega (arith, c.loop-window-test.false, c.loop-window.auto.window-index-end) in
    built_finds c.args.windows.now c.loop-window.devices (subst (λ done. IsBuilt c.args.windows.now done c.loop-window.devices) all c.loop-window.invariant) c.requires
