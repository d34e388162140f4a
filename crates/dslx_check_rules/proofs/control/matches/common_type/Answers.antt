use Rattle.std.proofs.Common.{◌∙◌, ◌&&◌, sym, ap}
use Rattle.dslx_meaning.specs.Rules.TypeEnvs.{types_of}
use Rattle.dslx_meaning.specs.Rules.ControlRules.{all_known, arm_values}
use Rattle.dslx_check_rules.specs.Interned.{type_if}
use Rattle.dslx_check_rules.proofs.OnControl.OnControl.{common_there, no_common}
use Rattle.dslx_check_rules.proofs.control.matches.common_type.Goals as goal

pub returns-then-both-clause-is : goal.returns-then-both-clause-is
returns-then-both-clause-is c = λ names rows later xs all arms.
    common_there (all_known xs) c.args.all.is_typed (types_of (arm_values xs)) (type_if names later c.first_type-first.result) all.typed (c.first_type-first.ensures.is names rows later xs arms)
    (ap (λ b. b && c.args.all.is_typed) (sym all.known) ∙ sym c.both.ensures ∙ c.if-both.true)

pub returns-else-both-clause-is : goal.returns-else-both-clause-is
returns-else-both-clause-is c = λ names rows later xs all arms.
    no_common (all_known xs) c.args.all.is_typed (types_of (arm_values xs)) all.typed (ap (λ b. b && c.args.all.is_typed) (sym all.known) ∙ sym c.both.ensures ∙ c.if-both.false)
