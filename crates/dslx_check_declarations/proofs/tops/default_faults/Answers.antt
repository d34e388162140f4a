use Rattle.std.proofs.Common.{◌∙◌, ap}
use Rattle.std.specs.List.{list_any}
use Rattle.dslx_meaning.specs.Rules.ModuleRules.{lacks_default}
use Rattle.dslx_meaning.specs.Rules.RuleNumbers as rule
use Rattle.dslx_meaning.specs.Rules.TypeEnvs.{breaks_if}
use Rattle.dslx_check_rules.specs.Seen.{seen}
use Rattle.dslx_check_declarations.proofs.tops.default_faults.Goals as goal

pub returns : goal.returns
returns c = c.breaks_if.ensures ∙ ap (λ b. seen (breaks_if b rule.TOP_IS_A_PROC c.args.process.now.name.span)) (c.lacks_default-lacks.ensures ∙ ap (list_any lacks_default) c.as_slice.ensures)
