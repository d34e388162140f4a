use Rattle.std.proofs.Common.{ap}
use Rattle.std.proofs.lemmas.Result.{on_ok_weaker}
use Rattle.dslx_check_declarations.proofs.OnScopes.{known_next, unknown_next}
use Rattle.dslx_check_declarations.proofs.parts.bind_next.Goals as goal

pub returns-in-None : goal.returns-in-None
returns-in-None c = on_ok_weaker c.bind.result (λ e. unknown_next c.args.parametric.now c.args.value.now c.in-None.is (ap (λ l. record c.args.s.now { unknown = l }) e)) c.bind.ensures

pub returns-in-Some : goal.returns-in-Some
returns-in-Some c = on_ok_weaker c.bind_value.result (known_next c.args.parametric.now c.args.value.now _ c.in-Some.is) c.bind_value.ensures
