use Rattle.std.proofs.Common.{◌∙◌, sym}
use Rattle.net_samples.proofs.CheckLaws.{are_positive}
use Rattle.net_samples.proofs.checks.depths_fit.Goals as goal

pub returns-then-depths-len : goal.returns-then-depths-len
returns-then-depths-len c h =
    record { count = c.if-depths-len.true ∙ c.len.ensures; some = are_positive c.args.depths.now (sym c.each_positive.ensures ∙ h) }
