use Rattle.std.proofs.Common.{sym, subst}
use Rattle.net_core.specs.WellFormed.{IsDepths}
use Rattle.xls_cmd.proofs.design.running.run_text.Goals as goal

pub run_threads-requires-clause-depths : goal.run_threads-requires-clause-depths
run_threads-requires-clause-depths g c κs within = subst (IsDepths c.args.net.now) (sym c.as_slice.ensures.value) c.in_ok-depths.ensures.fit
