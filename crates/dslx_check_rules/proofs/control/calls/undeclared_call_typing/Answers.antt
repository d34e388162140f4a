use Rattle.std.proofs.Common.{◌++◌, ◌∷◌, [], None, refl}
use Rattle.dslx_meaning.specs.Rules.TypeEnvs.{breaks}
use Rattle.dslx_meaning.specs.Rules.RuleNumbers as rule
use Rattle.dslx_check_rules.proofs.control.calls.undeclared_call_typing.Goals as goal

pub returns : goal.returns
returns c = λ names later fs reached p parts.
    c.settle.ensures.typed names later p tt None (fs ++ breaks rule.NAME_IS_DECLARED c.args.name ∷ []) reached None refl
    (c.and-faults.ensures fs (breaks rule.NAME_IS_DECLARED c.args.name ∷ []) parts c.breaks-own.ensures) refl
