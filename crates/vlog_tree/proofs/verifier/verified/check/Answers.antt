use Rattle.std.proofs.Common.{subst}
use Rattle.vlog_tree.specs.Verifier.Verified.{IsVerdict}
use Rattle.vlog_tree.proofs.OnVerifier.Running.{can_run}
use Rattle.vlog_tree.proofs.verifier.verified.check.Goals as goal

pub returns-in-Ok-None-clause-runs : goal.returns-in-Ok-None-clause-runs
returns-in-Ok-None-clause-runs c =
    can_run c.args.design.now c.args.part_spans.now (subst (IsVerdict c.args.design.now c.args.part_spans.now) c.in-Ok-None.field-0-is c.in-Ok-None.ensures.judged) c.in-Ok-None.ensures.few
