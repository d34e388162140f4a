use Rattle.std.proofs.Common.{◌∙◌, sym}
use Rattle.dslx_check_judge.proofs.OnInstances.OnInstances.{site_counted, site_not_counted}
use Rattle.dslx_check_judge.proofs.instances.procs.and_site.Goals as goal

pub returns-then-counts : goal.returns-then-counts
returns-then-counts c = λ n h. site_counted c.args.sites n c.args.is_one (sym c.both-counts.ensures ∙ c.if-counts.true) h

pub returns-else-counts : goal.returns-else-counts
returns-else-counts c = λ n h. site_not_counted c.args.sites n c.args.is_one (sym c.both-counts.ensures ∙ c.if-counts.false) h
