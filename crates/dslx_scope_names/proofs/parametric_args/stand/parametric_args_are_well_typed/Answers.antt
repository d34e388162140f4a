use Rattle.std.proofs.Common.{map}
use Rattle.dslx_meaning.specs.Items.{meanings_of}
use Rattle.dslx_meaning.specs.Names.Bound.{given}
use Rattle.dslx_scope_names.proofs.OnParametricArgs.Stands.{all_reversed, stands}
use Rattle.dslx_scope_names.proofs.parametric_args.stand.parametric_args_are_well_typed.Goals as goal

pub parametric_args-init : goal.parametric_args-init
parametric_args-init c = all_reversed (stands (meanings_of c.args.text.now)) (map given c.args.parametric_args.now)
