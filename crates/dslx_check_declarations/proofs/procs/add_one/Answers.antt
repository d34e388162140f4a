use Rattle.std.proofs.Common.{ap}
use Rattle.std.proofs.lemmas.Result.{on_ok_weaker}
use Rattle.dslx_check_declarations.proofs.OnProcs.{one_end}
use Rattle.dslx_check_declarations.proofs.procs.add_one.Goals as goal

pub returns : goal.returns
returns c = on_ok_weaker c.add.result (one_end c.args.end.now (ap (λ l. record c.args.s.now { ends = l }) c.in_ok-bind.ensures)) c.add.ensures
