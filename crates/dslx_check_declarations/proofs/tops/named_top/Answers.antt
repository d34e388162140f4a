use Rattle.std.proofs.Common.{◌∙◌, ◌∷◌, [], refl, ap}
use Rattle.dslx_meaning.specs.Rules.RuleNumbers as rule
use Rattle.dslx_meaning.specs.Rules.TypeEnvs.{breaks}
use Rattle.dslx_check_rules.specs.Seen.{seen}
use Rattle.dslx_check_declarations.proofs.OnTops.{named_none, named_some}
use Rattle.dslx_check_declarations.proofs.tops.named_top.Goals as goal

pub returns-in-None : goal.returns-in-None
returns-in-None c = named_none c.args.f.now c.args.name.now c.in-None.ensures refl (c.breaks.ensures ∙ ap (λ s. seen (breaks rule.TOP_IS_A_PROC s ∷ [])) c.nowhere.ensures)

pub returns-in-Some : goal.returns-in-Some
returns-in-Some c = named_some c.args.f.now c.args.name.now c.in-Some.definition.now c.in-Some.ensures.meant c.in-Some.ensures.at c.top_at.ensures
