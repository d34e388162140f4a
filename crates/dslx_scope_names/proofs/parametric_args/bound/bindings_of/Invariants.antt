use Rattle.std.proofs.Common.{◌≡◌, [], drop, map, reverse}
use Rattle.dslx_meaning.specs.Items.{parametric_args_bound}
use Rattle.dslx_meaning.specs.Names.Bound.{given}
use Rattle.dslx_scope_names.proofs.parametric_args.bound.bindings_of.Given as goal

abbrev pub invariant-parametrics : goal.invariant-parametrics
invariant-parametrics l = parametric_args_bound (reverse (map given l.bound.items)) (drop l.i l.parametrics) (drop l.i l.parametric_args) ≡ parametric_args_bound [] l.parametrics l.parametric_args
