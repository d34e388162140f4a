use Rattle.std.proofs.Common.{◌≡◌, map, take}
use Rattle.net_tests.specs.declared.held.Held.{Held}
use Rattle.net_tests.proofs.running.run_pair.Given as goal

abbrev pub invariant-loop-p : goal.invariant-loop-p
invariant-loop-p g l = map (λ (held : Held _). g.B.Body.behavior held.body.now) l.held.items ≡ map g.B.Body.behavior (take l.p l.bodies)
