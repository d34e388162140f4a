-- The judgement of each tree, from those of its parts.
use Rattle.std.specs.Prelude.{[], map, false, Some}
use Rattle.xb_span.specs.declared.span.Span.{Span}
use Rattle.dslx_tree.specs.declared.block.Stmt.TheOpen.{Node-F}
use Rattle.dslx_tree.specs.declared.block.Block.{Block}
use Rattle.dslx_tree.specs.declared.expr.Expr.{Expr}
use Rattle.dslx_tree.specs.declared.expr.Arg.{Arg}
use Rattle.dslx_tree.specs.declared.type_expr.TypeExpr.{TypeExpr}
use Rattle.dslx_meaning.specs.Callees.{kind_of_call}
use Rattle.dslx_meaning.specs.Types.{bool_type}
use Rattle.dslx_meaning.specs.Rules.Paired.{Recursion, ArmPart, FieldPart, paired_expr, paired_block, paired_type_expr, paired_arg}
use Rattle.dslx_meaning.specs.Rules.TypeEnvs.{ExprTyping, ExprPair, limited, settled}
use Rattle.dslx_meaning.specs.Rules.Typings.{typing_sorts, ArmSeen, FieldSeen, TypePair, BlockPair, ArgPair, TypeExprTyping, NodeSeenLayer, NumberLayer}
use Rattle.dslx_meaning.specs.Rules.NameRules.{name_typing, member_typing}
use Rattle.dslx_meaning.specs.Rules.PatternRules.{shape_typing}
use Rattle.dslx_meaning.specs.Rules.TypeRules.{type_expr_typing}
use Rattle.dslx_meaning.specs.Rules.OperatorRules.{binary_typing, prefix_typing, cast_typing, slice_typing, part_typing}
use Rattle.dslx_meaning.specs.Rules.AggregateRules.{number_typing, array_typing, tuple_typing, struct_typing, index_typing, field_part_typing, tuple_element_typing}
use Rattle.dslx_meaning.specs.Rules.ControlRules.{written_typing, let_typing, stmt_typing, block_typing, if_typing, match_typing, loop_typing}
use Rattle.dslx_meaning.specs.Rules.CallRules.{call_typing}

abbrev pub number_node_typing : NumberLayer → Span → TypeExprTyping
number_node_typing n span context = number_typing span (written_typing context n.ty) (record { is_negative = n.is_negative; value = n.value })

abbrev pub second_of : {A B : Type 0} → A × B → B
second_of p = p.1

abbrev pub node_typing : NodeSeenLayer → Span → ExprTyping
node_typing (Node-F.Node::Number n) span on_top context = limited span (n.1 span context)
node_typing (Node-F.Node::Bool b) span on_top context = settled span (Some bool_type) [] [] (Some 1)
node_typing (Node-F.Node::Array ty es dots) span on_top context = array_typing span context (written_typing context ty) es dots
node_typing (Node-F.Node::Name name) span on_top context = name_typing span context name
node_typing (Node-F.Node::Member e a) span on_top context = limited span (member_typing context e a)
node_typing (Node-F.Call f parametric_args es) span on_top context = call_typing (kind_of_call f.name) span f parametric_args es on_top context
node_typing (Node-F.Node::Tuple es) span on_top context = tuple_typing span context es
node_typing (Node-F.Struct s fields rest) span on_top context = struct_typing span context s (map second_of fields) rest
node_typing (Node-F.Block b) span on_top context = b.1 false context
node_typing (Node-F.If c a b) span on_top context = if_typing span context c a b
node_typing (Node-F.Match e arms) span on_top context = match_typing span context e (map second_of arms)
node_typing (Node-F.For f) span on_top context = f.1 span context
node_typing (Node-F.Index e i) span on_top context = index_typing span context e i
node_typing (Node-F.Slice e a b) span on_top context = slice_typing span context e a b
node_typing (Node-F.Part e i t) span on_top context = part_typing span context e i (t.1 context)
node_typing (Node-F.Field e name) span on_top context = field_part_typing span context e name
node_typing (Node-F.Element e index k) span on_top context = tuple_element_typing span context e k
node_typing (Node-F.Prefix o e) span on_top context = prefix_typing span context e
node_typing (Node-F.Cast e t) span on_top context = cast_typing span context e (t.1 context)
node_typing (Node-F.Binary o l r) span on_top context = binary_typing span context o l r

abbrev pub arm_seen : ArmPart typing_sorts → ArmSeen
arm_seen a = record { patterns = a.patterns; value = a.value }

abbrev pub field_seen : FieldPart typing_sorts → FieldSeen
field_seen f = record { name = f.name; value = f.value }

abbrev pub typing_steps : Recursion typing_sorts
typing_steps = record {
  stmt = stmt_typing;
  node = node_typing;
  shape = shape_typing;
  type_node = type_expr_typing;
  block = block_typing;
  bind = let_typing;
  arg = λ a. a.value;
  arm = arm_seen;
  expr = λ e. e.node.1 e.span;
  field = field_seen;
  loop = loop_typing;
  number = number_node_typing;
  pattern = λ p. p.shape.1 p.span;
  type_expr = λ t. t.node.1 t.span;
}

-- an expression, a block, a type and a parametric argument with what they come to
abbrev pub expr_pair : Expr → ExprPair
expr_pair = paired_expr typing_sorts typing_steps

abbrev pub block_pair : Block → BlockPair
block_pair = paired_block typing_sorts typing_steps

abbrev pub type_pair : TypeExpr → TypePair
type_pair = paired_type_expr typing_sorts typing_steps

abbrev pub arg_pair : Arg → ArgPair
arg_pair = paired_arg typing_sorts typing_steps
