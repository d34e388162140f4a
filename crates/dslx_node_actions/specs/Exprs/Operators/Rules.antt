-- What the rules of operators and of what stands behind an atom do where their symbols are complete.
use Rattle.dslx_actions.specs.declared.parts.SemanticStacks.{SemanticStacks}
use Rattle.dslx_node_actions.specs.declared.exprs.operators.rule.OperatorAction.{OperatorAction}
use Rattle.dslx_node_actions.specs.declared.exprs.operators.rule.OperatorAction.TheVariants as rules
use Rattle.dslx_node_actions.specs.Exprs.Operators.Operators as operators

abbrev pub reduced_operator : OperatorAction → SemanticStacks → SemanticStacks
reduced_operator (rules.Sign sign) s = operators.operator sign s
reduced_operator rules.Chain s = operators.chain s
reduced_operator (rules.Prefixed sign) s = operators.prefixed sign s
reduced_operator rules.Cast s = operators.cast_expr s
reduced_operator rules.Index s = operators.index_expr s
reduced_operator rules.Slice s = operators.slice_expr s
reduced_operator rules.Part s = operators.part_expr s
reduced_operator rules.Field s = operators.field_expr s
reduced_operator rules.Element s = operators.element_expr s
