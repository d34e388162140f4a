-- The depth of a tree: how many of its parts, each with a span of its own, stand one in another. Counted are expressions,
-- types, patterns, blocks, `let` and arguments between `<` and `>`, and of the items the definitions, `config` with
-- its statements, and `next`. What stands between two of them (a loop's or an arm's fields, say) counts nothing.
use Rattle.std.specs.Prelude.{◌≡◌, ◌+◌, ℕ, zero, suc, List, [], ◌∷◌, ◌++◌, Option, None, Some, map, max}
use Rattle.std.specs.Option.{option_map}
use Rattle.base.specs.Grammar.Derivation.{IsDerivation}
use Rattle.dslx_token.specs.Rules.Dslx.{dslx}
use Rattle.xb_span.specs.Nesting.Nesting.{first_past}
use Rattle.xb_span.specs.declared.nesting.depth.TheConstants.{MOST}
use Rattle.dslx_token.specs.BracketClasses.BracketClasses.{bracket_classes_of}
use Rattle.dslx_token.specs.Lexeme.{Lexeme}
use Rattle.dslx_tree.specs.declared.block.Stmt.TheOpen.{Stmt-F, Node-F, Shape-F, TypeNode-F, Block-F, Let-F, Arg-F, Arm-F, Expr-F, FieldValue-F, For-F, Number-F, Pattern-F, TypeExpr-F}
use Rattle.dslx_tree.specs.declared.block.Block.{Block, fold-Block}
use Rattle.dslx_tree.specs.declared.block.Stmt.{Stmt, fold-Stmt}
use Rattle.dslx_tree.specs.declared.expr.Arg.{Arg, fold-Arg}
use Rattle.dslx_tree.specs.declared.expr.Arm.{Arm, fold-Arm}
use Rattle.dslx_tree.specs.declared.expr.Expr.{Expr, fold-Expr}
use Rattle.dslx_tree.specs.declared.expr.FieldValue.{FieldValue, fold-FieldValue}
use Rattle.dslx_tree.specs.declared.item.Definition.{Definition}
use Rattle.dslx_tree.specs.declared.item.Definition.TheVariants as definitions
use Rattle.dslx_tree.specs.declared.item.Field.{Field}
use Rattle.dslx_tree.specs.declared.item.Item.{Item}
use Rattle.dslx_tree.specs.declared.item.Member.{Member}
use Rattle.dslx_tree.specs.declared.item.Module.{Module}
use Rattle.dslx_tree.specs.declared.item.Parametric.{Parametric}
use Rattle.dslx_tree.specs.declared.pattern.Pattern.{Pattern, fold-Pattern}
use Rattle.dslx_tree.specs.declared.process.Config.{Config}
use Rattle.dslx_tree.specs.declared.process.End.{End}
use Rattle.dslx_tree.specs.declared.process.ConfigStatement.{ConfigStatement}
use Rattle.dslx_tree.specs.declared.process.ConfigStatement.TheVariants as config_statements
use Rattle.dslx_tree.specs.declared.process.Next.{Next}
use Rattle.dslx_tree.specs.declared.type_expr.TypeExpr.{TypeExpr, fold-TypeExpr}

-- the greatest of these, or 0
abbrev pub highest : List ℕ → ℕ
highest [] = 0
highest (n ∷ ns) = max n (highest ns)

abbrev pub where_written : Option ℕ → List ℕ
where_written None = []
where_written (Some n) = n ∷ []

-- ---- one level of each sort, by the depths of its parts

abbrev pub node_level : Node-F ℕ ℕ ℕ ℕ ℕ ℕ ℕ ℕ ℕ ℕ ℕ ℕ ℕ ℕ → ℕ
node_level (Node-F.Node::Number n) = n
node_level (Node-F.Node::Bool b) = 0
node_level (Node-F.Node::Array ty elements dots) = highest (where_written ty ++ elements)
node_level (Node-F.Node::Name name) = 0
node_level (Node-F.Node::Member owner name) = 0
node_level (Node-F.Call name arguments values) = highest (arguments ++ values)
node_level (Node-F.Node::Tuple values) = highest values
node_level (Node-F.Struct name fields others) = highest (fields ++ where_written others)
node_level (Node-F.Block block) = block
node_level (Node-F.If condition block other) = highest (condition ∷ block ∷ other ∷ [])
node_level (Node-F.Match value arms) = highest (value ∷ arms)
node_level (Node-F.For loop) = loop
node_level (Node-F.Index value index) = highest (value ∷ index ∷ [])
node_level (Node-F.Slice value from to) = highest (value ∷ from ∷ to ∷ [])
node_level (Node-F.Part value first ty) = highest (value ∷ first ∷ ty ∷ [])
node_level (Node-F.Field value name) = value
node_level (Node-F.Element value place number) = value
node_level (Node-F.Prefix sign value) = value
node_level (Node-F.Cast value ty) = highest (value ∷ ty ∷ [])
node_level (Node-F.Binary operator left right) = highest (left ∷ right ∷ [])

abbrev pub shape_level : Shape-F ℕ ℕ ℕ ℕ ℕ ℕ ℕ ℕ ℕ ℕ ℕ ℕ ℕ ℕ → ℕ
shape_level Shape-F.Wild = 0
shape_level (Shape-F.Shape::Bool b) = 0
shape_level (Shape-F.Shape::Number n) = n
shape_level (Shape-F.Shape::Name name) = 0
shape_level (Shape-F.Shape::Member owner name) = 0
shape_level (Shape-F.Shape::Tuple patterns) = highest patterns

abbrev pub type_node_level : TypeNode-F ℕ ℕ ℕ ℕ ℕ ℕ ℕ ℕ ℕ ℕ ℕ ℕ ℕ ℕ → ℕ
type_node_level (TypeNode-F.Bits is_signed width) = 0
type_node_level (TypeNode-F.Wide is_signed width) = width
type_node_level TypeNode-F.TypeNode::Bool = 0
type_node_level (TypeNode-F.TypeNode::Name name) = 0
type_node_level (TypeNode-F.TypeNode::Tuple types) = highest types
type_node_level (TypeNode-F.TypeNode::Array element size) = highest (element ∷ size ∷ [])

abbrev pub stmt_level : Stmt-F ℕ ℕ ℕ ℕ ℕ ℕ ℕ ℕ ℕ ℕ ℕ ℕ ℕ ℕ → ℕ
stmt_level (Stmt-F.Let l) = l
stmt_level (Stmt-F.Bare value) = value

abbrev pub expr_level : Expr-F ℕ ℕ ℕ ℕ ℕ ℕ ℕ ℕ ℕ ℕ ℕ ℕ ℕ ℕ → ℕ
expr_level e = suc e.node

abbrev pub type_expr_level : TypeExpr-F ℕ ℕ ℕ ℕ ℕ ℕ ℕ ℕ ℕ ℕ ℕ ℕ ℕ ℕ → ℕ
type_expr_level ty = suc ty.node

abbrev pub pattern_level : Pattern-F ℕ ℕ ℕ ℕ ℕ ℕ ℕ ℕ ℕ ℕ ℕ ℕ ℕ ℕ → ℕ
pattern_level p = suc p.shape

abbrev pub block_level : Block-F ℕ ℕ ℕ ℕ ℕ ℕ ℕ ℕ ℕ ℕ ℕ ℕ ℕ ℕ → ℕ
block_level b = suc (highest (b.statements ++ where_written b.value))

abbrev pub let_level : Let-F ℕ ℕ ℕ ℕ ℕ ℕ ℕ ℕ ℕ ℕ ℕ ℕ ℕ ℕ → ℕ
let_level l = suc (highest (l.pattern ∷ (where_written l.ty ++ l.value ∷ [])))

abbrev pub arg_level : Arg-F ℕ ℕ ℕ ℕ ℕ ℕ ℕ ℕ ℕ ℕ ℕ ℕ ℕ ℕ → ℕ
arg_level a = suc a.value

abbrev pub arm_level : Arm-F ℕ ℕ ℕ ℕ ℕ ℕ ℕ ℕ ℕ ℕ ℕ ℕ ℕ ℕ → ℕ
arm_level a = highest (a.patterns ++ a.value ∷ [])

abbrev pub field_value_level : FieldValue-F ℕ ℕ ℕ ℕ ℕ ℕ ℕ ℕ ℕ ℕ ℕ ℕ ℕ ℕ → ℕ
field_value_level f = highest (where_written f.value)

abbrev pub number_level : Number-F ℕ ℕ ℕ ℕ ℕ ℕ ℕ ℕ ℕ ℕ ℕ ℕ ℕ ℕ → ℕ
number_level n = highest (where_written n.ty)

abbrev pub for_level : For-F ℕ ℕ ℕ ℕ ℕ ℕ ℕ ℕ ℕ ℕ ℕ ℕ ℕ ℕ → ℕ
for_level f = highest (f.index ∷ f.accumulator ∷ (where_written f.ty ++ f.from ∷ f.to ∷ f.body ∷ f.start ∷ []))

-- ---- trees

abbrev pub expr_depth : Expr → ℕ
expr_depth = fold-Expr ℕ ℕ ℕ ℕ ℕ ℕ ℕ ℕ ℕ ℕ ℕ ℕ ℕ ℕ
    stmt_level node_level shape_level type_node_level block_level let_level arg_level arm_level expr_level field_value_level for_level number_level pattern_level type_expr_level

abbrev pub type_expr_depth : TypeExpr → ℕ
type_expr_depth = fold-TypeExpr ℕ ℕ ℕ ℕ ℕ ℕ ℕ ℕ ℕ ℕ ℕ ℕ ℕ ℕ
    stmt_level node_level shape_level type_node_level block_level let_level arg_level arm_level expr_level field_value_level for_level number_level pattern_level type_expr_level

abbrev pub pattern_depth : Pattern → ℕ
pattern_depth = fold-Pattern ℕ ℕ ℕ ℕ ℕ ℕ ℕ ℕ ℕ ℕ ℕ ℕ ℕ ℕ
    stmt_level node_level shape_level type_node_level block_level let_level arg_level arm_level expr_level field_value_level for_level number_level pattern_level type_expr_level

abbrev pub block_depth : Block → ℕ
block_depth = fold-Block ℕ ℕ ℕ ℕ ℕ ℕ ℕ ℕ ℕ ℕ ℕ ℕ ℕ ℕ
    stmt_level node_level shape_level type_node_level block_level let_level arg_level arm_level expr_level field_value_level for_level number_level pattern_level type_expr_level

abbrev pub stmt_depth : Stmt → ℕ
stmt_depth = fold-Stmt ℕ ℕ ℕ ℕ ℕ ℕ ℕ ℕ ℕ ℕ ℕ ℕ ℕ ℕ
    stmt_level node_level shape_level type_node_level block_level let_level arg_level arm_level expr_level field_value_level for_level number_level pattern_level type_expr_level

abbrev pub arg_depth : Arg → ℕ
arg_depth = fold-Arg ℕ ℕ ℕ ℕ ℕ ℕ ℕ ℕ ℕ ℕ ℕ ℕ ℕ ℕ
    stmt_level node_level shape_level type_node_level block_level let_level arg_level arm_level expr_level field_value_level for_level number_level pattern_level type_expr_level

abbrev pub arm_depth : Arm → ℕ
arm_depth = fold-Arm ℕ ℕ ℕ ℕ ℕ ℕ ℕ ℕ ℕ ℕ ℕ ℕ ℕ ℕ
    stmt_level node_level shape_level type_node_level block_level let_level arg_level arm_level expr_level field_value_level for_level number_level pattern_level type_expr_level

abbrev pub field_value_depth : FieldValue → ℕ
field_value_depth = fold-FieldValue ℕ ℕ ℕ ℕ ℕ ℕ ℕ ℕ ℕ ℕ ℕ ℕ ℕ ℕ
    stmt_level node_level shape_level type_node_level block_level let_level arg_level arm_level expr_level field_value_level for_level number_level pattern_level type_expr_level

-- ---- items

abbrev pub parametric_depth : Parametric → ℕ
parametric_depth p = highest (type_expr_depth p.ty ∷ where_written (option_map expr_depth p.default))

abbrev pub field_depth : Field → ℕ
field_depth f = type_expr_depth f.ty

abbrev pub member_depth : Member → ℕ
member_depth m = expr_depth m.value

abbrev pub end_depth : End → ℕ
end_depth e = type_expr_depth e.word

abbrev pub config_statement_depth : ConfigStatement → ℕ
config_statement_depth (config_statements.Channel c) = suc (highest (type_expr_depth c.word ∷ where_written (option_map arg_depth c.depth)))
config_statement_depth (config_statements.Spawn s) = suc (highest (map arg_depth s.arguments))

abbrev pub config_depth : Config → ℕ
config_depth c = suc (highest (map end_depth c.ends ++ map config_statement_depth c.config_statements))

abbrev pub next_depth : Next → ℕ
next_depth n = suc (highest (type_expr_depth n.ty ∷ block_depth n.body ∷ []))

abbrev pub definition_depth : Definition → ℕ
definition_depth (definitions.Function f) = suc (highest (map parametric_depth f.parametrics ++ (map field_depth f.arguments ++ (where_written (option_map type_expr_depth f.result) ++ block_depth f.body ∷ []))))
definition_depth (definitions.Proc p) = suc (highest (map parametric_depth p.parametrics ++ (map end_depth p.members ++ config_depth p.config ∷ block_depth p.init ∷ next_depth p.next ∷ [])))
definition_depth (definitions.Constant c) = suc (highest (where_written (option_map type_expr_depth c.ty) ++ expr_depth c.value ∷ []))
definition_depth (definitions.Alias a) = suc (type_expr_depth a.ty)
definition_depth (definitions.Struct s) = suc (highest (map field_depth s.fields))
definition_depth (definitions.Enum e) = suc (highest (type_expr_depth e.base ∷ map member_depth e.members))

abbrev pub item_depth : Item → ℕ
item_depth x = definition_depth x.definition

-- the depth of a text's tree
abbrev pub tree_depth : Module → ℕ
tree_depth m = highest (map item_depth m.items)

-- ---- how deep it may be

-- The greatest depth of what stands in the outermost of so many brackets, heads and marks, where no more may be open at
-- one position. The marks of a bracket are those behind the bracket in it, so each bracket may have its own: 4 parts for a
-- bracket, and one for each mark that it leaves room for.
abbrev pub depth_within : ℕ → ℕ
depth_within zero = 0
depth_within (suc room) = (depth_within room + 4) + room

-- the greatest depth of a text's tree
abbrev pub most_high : ℕ
most_high = suc (depth_within (suc (suc MOST)))

abbrev pub kinds_in : List Lexeme → List ℕ
kinds_in ls = map (λ l. l.kind) ls

-- No token of the text is nested deeper than the limit.
abbrev pub NestWithin : List Lexeme → Type 0
NestWithin ls = (ps : List ℕ) → IsDerivation dslx ps (kinds_in ls) → first_past (bracket_classes_of ps (kinds_in ls)) ≡ None
