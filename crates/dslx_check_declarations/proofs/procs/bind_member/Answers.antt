use Rattle.std.proofs.Common.{ap}
use Rattle.std.proofs.lemmas.Result.{on_ok_weaker}
use Rattle.dslx_check_declarations.proofs.procs.bind_member.Goals as goal

pub returns : goal.returns
returns c = on_ok_weaker c.bind.result (λ e. ap (λ l. record c.args.s.now { members = l }) e) c.bind.ensures
