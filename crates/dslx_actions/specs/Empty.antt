-- Nothing built, and what stands for a part that isn't there, as never happens by the grammar.
use Rattle.std.specs.Prelude.{false, List, [], None}
use Rattle.xb_span.specs.declared.span.Span.{Span}
use Rattle.xb_span.specs.Spans.{nowhere}
use Rattle.dslx_tree.specs.declared.block.Block.{Block, roll-Block}
use Rattle.dslx_tree.specs.declared.expr.Arg.{Arg, roll-Arg}
use Rattle.dslx_tree.specs.declared.expr.Expr.{Expr, roll-Expr}
use Rattle.dslx_tree.specs.declared.expr.Node as nodes
use Rattle.dslx_tree.specs.declared.ident.Ident.{Ident}
use Rattle.dslx_tree.specs.declared.item.Definition.{Definition}
use Rattle.dslx_tree.specs.declared.item.Definition.TheVariants as definitions
use Rattle.dslx_tree.specs.declared.pattern.Pattern.{Pattern, roll-Pattern}
use Rattle.dslx_tree.specs.declared.pattern.Shape as shapes
use Rattle.dslx_tree.specs.declared.process.Config.{Config}
use Rattle.dslx_tree.specs.declared.process.Next.{Next}
use Rattle.dslx_tree.specs.declared.type_expr.TypeExpr.{TypeExpr, roll-TypeExpr}
use Rattle.dslx_tree.specs.declared.type_expr.TypeNode as types
use Rattle.dslx_actions.specs.declared.parts.Digits.{Digits}
use Rattle.dslx_actions.specs.declared.parts.SemanticStacks.{SemanticStacks}

abbrev pub no_digits : Digits
no_digits = record { span = nowhere; is_negative = false; value = 0 }

abbrev pub no_ident : Ident
no_ident = record { span = nowhere; name = [] }

abbrev pub no_type : TypeExpr
no_type = roll-TypeExpr (record { span = nowhere; node = types.Bool })

abbrev pub no_pattern : Pattern
no_pattern = roll-Pattern (record { span = nowhere; shape = shapes.Wild })

abbrev pub no_expr : Expr
no_expr = roll-Expr (record { span = nowhere; node = nodes.Bool false })

abbrev pub no_arg : Arg
no_arg = roll-Arg (record { span = nowhere; value = no_expr })

abbrev pub no_block : Block
no_block = roll-Block (record { span = nowhere; statements = []; value = None })

abbrev pub no_config : Config
no_config = record { span = nowhere; ends = []; config_statements = []; result = [] }

abbrev pub no_next : Next
no_next = record { span = nowhere; state = no_ident; ty = no_type; body = no_block }

abbrev pub no_definition : Definition
no_definition = definitions.Alias (record { span = nowhere; name = no_ident; ty = no_type })

-- from the beginning of the one to the end of the other
abbrev pub join : Span → Span → Span
join first last = record { from = first.from; to = last.to }

abbrev pub empty : SemanticStacks
empty = record {
  token_spans = [];
  idents = [];
  numbers = [];
  flags = [];
  operators = [];
  directions = [];
  counts = [];
  types = [];
  annotations = [];
  patterns = [];
  expr_spans = [];
  exprs = [];
  values = [];
  args = [];
  depths = [];
  arms = [];
  field_values = [];
  statements = [];
  blocks = [];
  fields = [];
  parametrics = [];
  members = [];
  ends = [];
  config_statements = [];
  configs = [];
  nexts = [];
  definitions = [];
  items = [];
}
