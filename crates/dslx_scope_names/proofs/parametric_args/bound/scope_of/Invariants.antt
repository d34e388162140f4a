use Rattle.std.proofs.Common.{◌≡◌, [], drop}
use Rattle.dslx_meaning.specs.Items.{parametric_args_bound}
use Rattle.dslx_scope_names.proofs.parametric_args.bound.scope_of.Given as goal

abbrev pub invariant-parametrics : goal.invariant-parametrics
invariant-parametrics l = parametric_args_bound l.bound (drop l.i l.parametrics) (drop l.i l.parametric_args) ≡ parametric_args_bound [] l.parametrics l.parametric_args
