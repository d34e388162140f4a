use Rattle.std.proofs.Common.{◌∷◌, [], None, Some, refl}
use Rattle.dslx_meaning.specs.Rules.TypeEnvs.{breaks}
use Rattle.dslx_meaning.specs.Rules.RuleNumbers as rule
use Rattle.dslx_check_rules.proofs.nodes.aggregates.untyped_number.Goals as goal

pub returns : goal.returns
returns c = λ rows. record {
  typed = λ names later distinct p.
      c.unlimit.ensures.typed names rows later tt None (breaks rule.NUMBER_HAS_TYPE c.args.span ∷ []) [] (Some 1) refl c.breaks.ensures refl;
}
