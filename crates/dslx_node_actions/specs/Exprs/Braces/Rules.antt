-- What the rules of expressions with braces do where their symbols are complete.
use Rattle.dslx_actions.specs.declared.parts.SemanticStacks.{SemanticStacks}
use Rattle.dslx_actions.specs.Common.{given, start}
use Rattle.dslx_node_actions.specs.declared.exprs.braces.rule.BraceAction.{BraceAction}
use Rattle.dslx_node_actions.specs.declared.exprs.braces.rule.BraceAction.TheVariants as rules
use Rattle.dslx_node_actions.specs.Exprs.Braces.Braces as braces
use Rattle.dslx_node_actions.specs.Exprs.Braces.Fields as fields

abbrev pub reduced_brace : BraceAction → SemanticStacks → SemanticStacks
reduced_brace rules.Block s = braces.block_expr s
reduced_brace rules.FieldValue s = fields.field_value s
reduced_brace rules.FieldName s = fields.field_name s
reduced_brace rules.Others s = start (given 1 s)
reduced_brace rules.Struct s = fields.struct_expr s
reduced_brace rules.If s = braces.if_expr s
reduced_brace rules.Arm s = braces.arm s
reduced_brace rules.Match s = braces.match_expr s
reduced_brace rules.For s = braces.for_expr s
