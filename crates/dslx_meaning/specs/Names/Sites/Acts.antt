-- What expressions do as statements, without references.
use Rattle.dslx_meaning.specs.Activation as m
use Rattle.dslx_meaning.specs.declared.names.sites.act.Act.{Act}
use Rattle.dslx_meaning.specs.declared.names.sites.act.Act.TheVariants as act

abbrev pub act_shown : Act → m.SiteAct
act_shown act.Compute = m.Computes
act_shown (act.Receive c) = m.TakesWord c.now
act_shown (act.ReceiveIf c p other) = m.TakesWordIf c.now p.now other.now
act_shown (act.Send c word) = m.SendsWord c.now word.now
act_shown (act.SendIf c p word) = m.SendsWordIf c.now p.now word.now
