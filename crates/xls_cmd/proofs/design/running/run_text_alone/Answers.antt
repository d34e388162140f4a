use Rattle.std.proofs.Common.{sym, subst}
use Rattle.net_core.specs.WellFormed.{IsDepths}
use Rattle.xls_cmd.proofs.design.running.run_text_alone.Goals as goal

pub run_one-requires-clause-depths : goal.run_one-requires-clause-depths
run_one-requires-clause-depths g c = subst (IsDepths c.args.net.now) (sym c.as_slice.ensures.value) c.in_ok-depths.ensures.fit
