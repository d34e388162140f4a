use Rattle.std.proofs.Common.{subst, sym, refl, None}
use Rattle.ir_lower_nodes.specs.Steps.Steps.{ConditionLowers}
use Rattle.ir_lower_nodes.proofs.steps.steps.lower_if.Goals as goal

pub returns-in-None-clause-value : goal.returns-in-None-clause-value
returns-in-None-clause-value c = subst (λ o. ConditionLowers c.args.functions.now o c.args.slots.now.items c.args.nodes.now c.args.nodes.now None) (sym c.in-None.is) refl
