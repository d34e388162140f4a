use Rattle.std.proofs.Common.{◌++◌, ◌∷◌, [], None, refl}
use Rattle.dslx_meaning.specs.Rules.TypeEnvs.{breaks}
use Rattle.dslx_meaning.specs.Rules.RuleNumbers as rule
use Rattle.dslx_check_rules.proofs.control.calls.wrong_call_typing.Goals as goal

pub returns : goal.returns
returns c = λ names later fs ms reached p parts more.
    c.settle.ensures.typed names later p tt None (fs ++ breaks rule.ARGUMENTS_FIT c.args.span ∷ ms) reached None refl
    (c.and-faults.ensures fs (breaks rule.ARGUMENTS_FIT c.args.span ∷ ms) parts (c.and-own.ensures (breaks rule.ARGUMENTS_FIT c.args.span ∷ []) ms c.breaks.ensures more)) refl
