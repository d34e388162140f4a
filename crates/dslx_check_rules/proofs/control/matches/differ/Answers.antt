use Rattle.std.proofs.Common.{◌∙◌, ◌&&◌, sym, ap}
use Rattle.dslx_meaning.specs.Rules.TypeEnvs.{types_of}
use Rattle.dslx_meaning.specs.Rules.ControlRules.{arm_values}
use Rattle.dslx_check_rules.specs.Control.Matches.{unlike_first}
use Rattle.dslx_check_rules.proofs.OnControl.OnControl.{differ_is}
use Rattle.dslx_check_rules.proofs.control.matches.differ.Goals as goal

pub returns-then-is_typed : goal.returns-then-is_typed
returns-then-is_typed c = λ names later xs distinct p arms e.
    c.unlike_first.ensures names later xs distinct p arms ∙ ap (λ b. b && unlike_first (types_of (arm_values xs))) (sym c.if-is_typed.true ∙ e) ∙ differ_is (types_of (arm_values xs))

pub returns-else-is_typed : goal.returns-else-is_typed
returns-else-is_typed c = λ names later xs distinct p arms e.
    c.if-is_typed.false ∙ ap (λ b. b && unlike_first (types_of (arm_values xs))) (sym c.if-is_typed.false ∙ e) ∙ differ_is (types_of (arm_values xs))
