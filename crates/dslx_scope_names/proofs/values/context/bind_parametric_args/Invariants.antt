use Rattle.std.proofs.Common.{◌≡◌, ◌++◌, drop, map, reverse}
use Rattle.dslx_meaning.specs.Names.Bound.{given}
use Rattle.dslx_scope_names.proofs.values.context.bind_parametric_args.Given as goal

-- those that are left complete the whole
abbrev pub invariant-parametric_args : goal.invariant-parametric_args
invariant-parametric_args l = reverse (map given (drop l.number-index l.parametric_args)) ++ l.bound ≡ reverse (map given l.parametric_args)
