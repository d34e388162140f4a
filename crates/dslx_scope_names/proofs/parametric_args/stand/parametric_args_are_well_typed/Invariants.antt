use Rattle.std.proofs.Common.{◌≡◌, drop, map, reverse}
use Rattle.std.specs.List.{list_all}
use Rattle.dslx_meaning.specs.Items.{meanings_of}
use Rattle.dslx_meaning.specs.Names.Bound.{given}
use Rattle.dslx_scope_names.proofs.OnParametricArgs.Stands.{stands}
use Rattle.dslx_scope_names.proofs.parametric_args.stand.parametric_args_are_well_typed.Given as goal

abbrev pub invariant-parametric_args : goal.invariant-parametric_args
invariant-parametric_args l = list_all (stands (meanings_of l.text)) (map given (drop l.number-index l.parametric_args)) ≡ list_all (stands (meanings_of l.text)) (reverse (map given l.parametric_args))
