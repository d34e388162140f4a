use Rattle.std.proofs.Common.{◌≡◌, map, take}
use Rattle.ir_tree.specs.Networks.{behaviors_of}
use Rattle.ir_eval.specs.IrBodies.{behavior_of}
use Rattle.ir_eval.proofs.bodies.bodies_of.Given as goal

abbrev pub invariant-procs : goal.invariant-procs
invariant-procs l = map behavior_of l.bodies.items ≡ take l.number (behaviors_of l.ir)
