use Rattle.std.proofs.Common.{ap}
use Rattle.dslx_check_declarations.proofs.OnScopes.{value_bound}
use Rattle.dslx_check_declarations.proofs.parametrics.bind_value.Goals as goal

pub returns : goal.returns
returns c = value_bound c.args.parametric.now c.args.value.now c.in_ok-ty.ensures c.in_ok-value.ensures (ap (λ l. record c.args.s.now { parametric_args = l }) c.in_ok-bind.ensures)
