use Rattle.std.proofs.Common.{◌≡◌, take}
use Rattle.dslx_check_judge.specs.Instances.Inner.Arguments.{bound_behind}
use Rattle.dslx_check_judge.proofs.instances.arguments.bind_arguments.Given as goal

abbrev pub invariant-arguments : goal.invariant-arguments
invariant-arguments l = l.s ≡ record l.fn.s { locals = bound_behind l.fn.s.locals (take l.i l.arguments) (take l.i l.types) }
