use Rattle.std.proofs.Common.{◌≡◌, map, take}
use Rattle.dslx_core.specs.Designs.{core_behaviors}
use Rattle.dslx_interp.specs.Network.DslxBodies.{behavior_of}
use Rattle.dslx_interp.proofs.network.bodies.bodies_of.Given as goal

abbrev pub invariant-procs : goal.invariant-procs
invariant-procs l = map behavior_of l.bodies.items ≡ take l.number (core_behaviors l.design)
