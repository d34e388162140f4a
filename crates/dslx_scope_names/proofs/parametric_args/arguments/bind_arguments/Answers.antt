use Rattle.std.proofs.Common.{[]}
use Rattle.dslx_meaning.specs.Items.{meanings_of}
use Rattle.dslx_scope_names.proofs.OnParametricArgs.Located.{uneven}
use Rattle.dslx_scope_names.proofs.parametric_args.arguments.bind_arguments.Goals as goal

pub returns-then-arguments-types : goal.returns-then-arguments-types
returns-then-arguments-types c = uneven (meanings_of c.args.text.now) c.args.arguments.now c.args.types.now [] 0 c.if-arguments-types.true
