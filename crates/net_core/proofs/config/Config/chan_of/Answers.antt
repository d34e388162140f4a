use Rattle.std.proofs.Common.{ap, ◌∙◌}
use Rattle.base.proofs.Lemmas.Lists.Indices.{read_is}
use Rattle.net_core.specs.declared.progress.Progress.{Progress}
use Rattle.net_core.specs.Behavior.{chan_at}
use Rattle.net_core.proofs.Shown.{chan_at-there}
use Rattle.net_core.proofs.config.Config.chan_of.Goals as goal

pub returns : goal.returns
returns c progress at e f =
    let here = read_is c.args.self.now.procs.items c.args.p c.index.result.now progress e c.index.ensures in
    c.chan_at.ensures ∙ (ap (λ (x : Progress). chan_at x.sites c.args.site) here ∙ chan_at-there progress.sites c.args.site at f)
