use Rattle.std.proofs.Common.{◌∙◌, ◌∷◌, [], refl, ap}
use Rattle.dslx_meaning.specs.Rules.RuleNumbers as rule
use Rattle.dslx_meaning.specs.Rules.TypeEnvs.{breaks}
use Rattle.dslx_check_rules.specs.Seen.{seen}
use Rattle.dslx_check_declarations.proofs.OnTops.{last_none, last_some}
use Rattle.dslx_check_declarations.proofs.tops.default_top.Goals as goal

pub returns-in-None : goal.returns-in-None
returns-in-None c = last_none c.args.f.now c.last_proc.ensures c.in-None.is refl (c.breaks.ensures ∙ ap (λ s. seen (breaks rule.TOP_IS_A_PROC s ∷ [])) c.nowhere.ensures)

pub returns-in-Some : goal.returns-in-Some
returns-in-Some c = last_some c.args.f.now (c.in-Some.item, c.in-Some.process) c.last_proc.ensures c.in-Some.is refl c.default_faults.ensures
