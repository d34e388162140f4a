use Rattle.std.proofs.Common.{◌≡◌, ◌∙◌, ◌<◌, ◌+◌, ℕ, length, get_or, drop, subst, ap, ◌++◌}
use Rattle.std.specs.Prelude.{filter_map}
use Rattle.cycle_sim.specs.Drivers.{driver_at}
use Rattle.cycle_sim.proofs.Ordering.{place_of_each}
use Rattle.cycle_sim.proofs.NewOrder.{drivers_step}
use Rattle.std.proofs.lemmas.Option.{slice_get-get_or}
use Rattle.cycle_sim.proofs.order.drivers_at.Goals as goal

pub loop-signal-preserved : goal.loop-signal-preserved
loop-signal-preserved c =
    let place : ℕ = c.loop-signal.signal-index in
    let known = place_of_each (λ s. s < length c.args.drivers.now) c.args.signals.now c.requires place (get_or c.args.signals.now place 0) (slice_get-get_or c.args.signals.now place 0 c.loop-signal-test.true) in
    ap (λ xs. xs ++ filter_map (driver_at c.args.drivers.now) (drop (place + 1) c.args.signals.now)) c.in_ok-push_found.ensures
    ∙ drivers_step c.args.drivers.now c.args.signals.now place c.loop-signal.found c.loop-signal-test.true known
    ∙ c.loop-signal.invariant
