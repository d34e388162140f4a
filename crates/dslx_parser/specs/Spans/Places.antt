-- The parts of a tree, each with its span: what stands inside a part has its span within that of the part, in the order of the text.
use Rattle.std.specs.Prelude.{◌≢◌, ◌≤◌, ℕ, Bool, List, [], ◌∷◌, ◌++◌, Option, None, Some, map}
use Rattle.xb_span.specs.declared.span.Span.{Span}
use Rattle.dslx_tree.specs.declared.block.Block.{Block, roll-Block}
use Rattle.dslx_tree.specs.declared.block.Let.{roll-Let}
use Rattle.dslx_tree.specs.declared.block.Stmt.{Stmt}
use Rattle.dslx_tree.specs.declared.block.Stmt as stmts
use Rattle.dslx_tree.specs.declared.expr.Arg.{Arg, roll-Arg}
use Rattle.dslx_tree.specs.declared.expr.Arm.{Arm, roll-Arm}
use Rattle.dslx_tree.specs.declared.expr.Expr.{Expr, roll-Expr}
use Rattle.dslx_tree.specs.declared.expr.FieldValue.{FieldValue, roll-FieldValue}
use Rattle.dslx_tree.specs.declared.expr.For.{roll-For}
use Rattle.dslx_tree.specs.declared.expr.Node.{Node}
use Rattle.dslx_tree.specs.declared.expr.Node as nodes
use Rattle.dslx_tree.specs.declared.expr.Number.{roll-Number}
use Rattle.dslx_tree.specs.declared.ident.Ident.{Ident}
use Rattle.dslx_tree.specs.declared.item.Alias.{Alias}
use Rattle.dslx_tree.specs.declared.item.Constant.{Constant}
use Rattle.dslx_tree.specs.declared.item.Definition.{Definition}
use Rattle.dslx_tree.specs.declared.item.Definition.TheVariants as definitions
use Rattle.dslx_tree.specs.declared.item.Enum.{Enum}
use Rattle.dslx_tree.specs.declared.item.Field.{Field}
use Rattle.dslx_tree.specs.declared.item.Function.{Function}
use Rattle.dslx_tree.specs.declared.item.Item.{Item}
use Rattle.dslx_tree.specs.declared.item.Member.{Member}
use Rattle.dslx_tree.specs.declared.item.Module.{Module}
use Rattle.dslx_tree.specs.declared.item.Parametric.{Parametric}
use Rattle.dslx_tree.specs.declared.item.Struct.{Struct}
use Rattle.dslx_tree.specs.declared.operator.Binary.{Binary}
use Rattle.dslx_tree.specs.declared.operator.Prefix.{Prefix}
use Rattle.dslx_tree.specs.declared.pattern.Pattern.{Pattern, roll-Pattern}
use Rattle.dslx_tree.specs.declared.pattern.Shape.{Shape}
use Rattle.dslx_tree.specs.declared.pattern.Shape as shapes
use Rattle.dslx_tree.specs.declared.process.Channel.{Channel}
use Rattle.dslx_tree.specs.declared.process.Config.{Config}
use Rattle.dslx_tree.specs.declared.process.End.{End}
use Rattle.dslx_tree.specs.declared.process.ConfigStatement.{ConfigStatement}
use Rattle.dslx_tree.specs.declared.process.ConfigStatement.TheVariants as config_statements
use Rattle.dslx_tree.specs.declared.process.Next.{Next}
use Rattle.dslx_tree.specs.declared.process.Proc.{Proc}
use Rattle.dslx_tree.specs.declared.process.Spawn.{Spawn}
use Rattle.dslx_tree.specs.declared.type_expr.TypeExpr.{TypeExpr, roll-TypeExpr}
use Rattle.dslx_tree.specs.declared.type_expr.TypeNode.{TypeNode}
use Rattle.dslx_tree.specs.declared.type_expr.TypeNode as types

-- a part of a tree; `spot` is a span by itself
pub data Thing : Type 0 where
  spot : Span → Thing
  expr : Expr → Thing
  type_expr : TypeExpr → Thing
  pattern : Pattern → Thing
  block : Block → Thing
  statement : Stmt → Thing
  arg : Arg → Thing
  arm : Arm → Thing
  field_value : FieldValue → Thing
  ident : Ident → Thing
  item : Item → Thing
  definition : Definition → Thing
  parametric : Parametric → Thing
  field : Field → Thing
  member : Member → Thing
  end : End → Thing
  config : Config → Thing
  config_statement : ConfigStatement → Thing
  next : Next → Thing

abbrev pub maybe_expr : Option Expr → List Thing
maybe_expr None = []
maybe_expr (Some e) = expr e ∷ []

abbrev pub maybe_type : Option TypeExpr → List Thing
maybe_type None = []
maybe_type (Some ty) = type_expr ty ∷ []

abbrev pub maybe_arg : Option Arg → List Thing
maybe_arg None = []
maybe_arg (Some a) = arg a ∷ []

abbrev pub expr_at : Span → Node → Thing
expr_at span node = expr (roll-Expr (record { span = span; node = node }))

abbrev pub type_at : Span → TypeNode → Thing
type_at span node = type_expr (roll-TypeExpr (record { span = span; node = node }))

abbrev pub pattern_at : Span → Shape → Thing
pattern_at span shape = pattern (roll-Pattern (record { span = span; shape = shape }))

-- the parts of a proc may stand in any order
pub data InSomeOrder (a b c : Thing) : List Thing → Type 0 where
  abc : InSomeOrder a b c (a ∷ b ∷ c ∷ [])
  acb : InSomeOrder a b c (a ∷ c ∷ b ∷ [])
  bac : InSomeOrder a b c (b ∷ a ∷ c ∷ [])
  bca : InSomeOrder a b c (b ∷ c ∷ a ∷ [])
  cab : InSomeOrder a b c (c ∷ a ∷ b ∷ [])
  cba : InSomeOrder a b c (c ∷ b ∷ a ∷ [])

-- The part has this span, and these parts inside, in the order of the text. No name is empty; of a channel's name, which
-- stands in quotes, there is only the span.
pub data Inside : Thing → Span → List Thing → Type 0 where
  of_spot : (span : Span) → Inside (spot span) span []
  of_ident : (name : Ident) → name.name ≢ [] → Inside (ident name) name.span []
  -- expressions
  of_number : (span : Span) (ty : Option TypeExpr) (is_negative : Bool) (value : ℕ) → Inside (expr_at span (nodes.Number (roll-Number (record { ty = ty; is_negative = is_negative; value = value })))) span (maybe_type ty)
  of_bool : (span : Span) (value : Bool) → Inside (expr_at span (nodes.Bool value)) span []
  of_array : (span : Span) (ty : Option TypeExpr) (elements : List Expr) (is_repeated : Bool) → Inside (expr_at span (nodes.Array ty elements is_repeated)) span (maybe_type ty ++ map expr elements)
  of_name : (span : Span) (name : List ℕ) → name ≢ [] → Inside (expr_at span (nodes.Name name)) span []
  of_member : (span : Span) (owner name : Ident) → Inside (expr_at span (nodes.Member owner name)) span (ident owner ∷ ident name ∷ [])
  of_call : (span : Span) (name : Ident) (args : List Arg) (values : List Expr) → Inside (expr_at span (nodes.Call name args values)) span (ident name ∷ (map arg args ++ map expr values))
  of_tuple : (span : Span) (values : List Expr) → Inside (expr_at span (nodes.Tuple values)) span (map expr values)
  of_struct : (span : Span) (name : Ident) (fields : List FieldValue) (others : Option Expr) → Inside (expr_at span (nodes.Struct name fields others)) span (ident name ∷ (map field_value fields ++ maybe_expr others))
  of_block_value : (span : Span) (value : Block) → Inside (expr_at span (nodes.Block value)) span (block value ∷ [])
  of_if : (span : Span) (condition : Expr) (body : Block) (other : Expr) → Inside (expr_at span (nodes.If condition body other)) span (expr condition ∷ block body ∷ expr other ∷ [])
  of_match : (span : Span) (value : Expr) (arms : List Arm) → Inside (expr_at span (nodes.Match value arms)) span (expr value ∷ map arm arms)
  of_for : (span : Span) (index accumulator : Pattern) (ty : Option TypeExpr) (from to : Expr) (body : Block) (start : Expr) → Inside (expr_at span (nodes.For (roll-For (record { index = index; accumulator = accumulator; ty = ty; from = from; to = to; body = body; start = start })))) span (pattern index ∷ pattern accumulator ∷ (maybe_type ty ++ expr from ∷ expr to ∷ block body ∷ expr start ∷ []))
  of_index : (span : Span) (value index : Expr) → Inside (expr_at span (nodes.Index value index)) span (expr value ∷ expr index ∷ [])
  of_slice : (span : Span) (value from to : Expr) → Inside (expr_at span (nodes.Slice value from to)) span (expr value ∷ expr from ∷ expr to ∷ [])
  of_part : (span : Span) (value first : Expr) (ty : TypeExpr) → Inside (expr_at span (nodes.Part value first ty)) span (expr value ∷ expr first ∷ type_expr ty ∷ [])
  of_field : (span : Span) (value : Expr) (name : Ident) → Inside (expr_at span (nodes.Field value name)) span (expr value ∷ ident name ∷ [])
  of_element : (span : Span) (value : Expr) (place : Span) (number : ℕ) → Inside (expr_at span (nodes.Element value place number)) span (expr value ∷ spot place ∷ [])
  of_prefix : (span : Span) (sign : Prefix) (value : Expr) → Inside (expr_at span (nodes.Prefix sign value)) span (expr value ∷ [])
  of_cast : (span : Span) (value : Expr) (ty : TypeExpr) → Inside (expr_at span (nodes.Cast value ty)) span (expr value ∷ type_expr ty ∷ [])
  of_binary : (span : Span) (operator : Binary) (left right : Expr) → Inside (expr_at span (nodes.Binary operator left right)) span (expr left ∷ expr right ∷ [])
  of_arg : (span : Span) (value : Expr) → Inside (arg (roll-Arg (record { span = span; value = value }))) span (expr value ∷ [])
  -- types
  of_bits : (span : Span) (is_signed : Bool) (width : ℕ) → Inside (type_at span (types.Bits is_signed width)) span []
  of_wide : (span : Span) (is_signed : Bool) (width : Expr) → Inside (type_at span (types.Wide is_signed width)) span (expr width ∷ [])
  of_bool_type : (span : Span) → Inside (type_at span types.Bool) span []
  of_type_name : (span : Span) (name : List ℕ) → name ≢ [] → Inside (type_at span (types.Name name)) span []
  of_tuple_type : (span : Span) (parts : List TypeExpr) → Inside (type_at span (types.Tuple parts)) span (map type_expr parts)
  of_array_type : (span : Span) (element : TypeExpr) (size : Expr) → Inside (type_at span (types.Array element size)) span (type_expr element ∷ expr size ∷ [])
  -- patterns
  of_wild : (span : Span) → Inside (pattern_at span shapes.Wild) span []
  of_bool_pattern : (span : Span) (value : Bool) → Inside (pattern_at span (shapes.Bool value)) span []
  of_number_pattern : (span : Span) (ty : Option TypeExpr) (is_negative : Bool) (value : ℕ) → Inside (pattern_at span (shapes.Number (roll-Number (record { ty = ty; is_negative = is_negative; value = value })))) span (maybe_type ty)
  of_name_pattern : (span : Span) (name : List ℕ) → name ≢ [] → Inside (pattern_at span (shapes.Name name)) span []
  of_member_pattern : (span : Span) (owner name : Ident) → Inside (pattern_at span (shapes.Member owner name)) span (ident owner ∷ ident name ∷ [])
  of_tuple_pattern : (span : Span) (parts : List Pattern) → Inside (pattern_at span (shapes.Tuple parts)) span (map pattern parts)
  -- blocks
  of_block : (span : Span) (statements : List Stmt) (value : Option Expr) → Inside (block (roll-Block (record { span = span; statements = statements; value = value }))) span (map statement statements ++ maybe_expr value)
  of_let : (span : Span) (bound : Pattern) (ty : Option TypeExpr) (value : Expr) → Inside (statement (stmts.Let (roll-Let (record { span = span; pattern = bound; ty = ty; value = value })))) span (pattern bound ∷ (maybe_type ty ++ expr value ∷ []))
  -- definitions
  of_function : (f : Function) → Inside (definition (definitions.Function f)) f.span (ident f.name ∷ (map parametric f.parametrics ++ (map field f.arguments ++ (maybe_type f.result ++ block f.body ∷ []))))
  of_constant : (c : Constant) → Inside (definition (definitions.Constant c)) c.span (ident c.name ∷ (maybe_type c.ty ++ expr c.value ∷ []))
  of_alias : (a : Alias) → Inside (definition (definitions.Alias a)) a.span (ident a.name ∷ type_expr a.ty ∷ [])
  of_structure : (s : Struct) → Inside (definition (definitions.Struct s)) s.span (ident s.name ∷ map field s.fields)
  of_enumeration : (e : Enum) → Inside (definition (definitions.Enum e)) e.span (ident e.name ∷ type_expr e.base ∷ map member e.members)
  of_proc : (p : Proc) (parts : List Thing) → InSomeOrder (config p.config) (block p.init) (next p.next) parts → Inside (definition (definitions.Proc p)) p.span (ident p.name ∷ (map parametric p.parametrics ++ (map end p.members ++ parts)))
  -- procs
  of_config : (c : Config) → Inside (config c) c.span (map end c.ends ++ (map config_statement c.config_statements ++ map ident c.result))
  of_channel : (c : Channel) → Inside (config_statement (config_statements.Channel c)) c.span (ident c.sender ∷ ident c.receiver ∷ type_expr c.word ∷ (maybe_arg c.depth ++ spot c.name.span ∷ []))
  of_spawn : (s : Spawn) → Inside (config_statement (config_statements.Spawn s)) s.span (ident s.target ∷ (map arg s.arguments ++ map ident s.ends))
  of_next : (n : Next) → Inside (next n) n.span (ident n.state ∷ type_expr n.ty ∷ block n.body ∷ [])

-- The part has no span of its own: it is these parts.
pub data IsMadeOf : Thing → List Thing → Type 0 where
  of_bare : (value : Expr) → IsMadeOf (statement (stmts.Bare value)) (expr value ∷ [])
  of_arm : (patterns : List Pattern) (value : Expr) → IsMadeOf (arm (roll-Arm (record { patterns = patterns; value = value }))) (map pattern patterns ++ expr value ∷ [])
  of_field_value : (name : Ident) (value : Option Expr) → IsMadeOf (field_value (roll-FieldValue (record { name = name; value = value }))) (ident name ∷ maybe_expr value)
  of_item : (x : Item) → IsMadeOf (item x) (definition x.definition ∷ [])
  of_parametric : (p : Parametric) → IsMadeOf (parametric p) (ident p.name ∷ type_expr p.ty ∷ maybe_expr p.default)
  of_declared : (f : Field) → IsMadeOf (field f) (ident f.name ∷ type_expr f.ty ∷ [])
  of_constant_member : (m : Member) → IsMadeOf (member m) (ident m.name ∷ expr m.value ∷ [])
  of_end : (e : End) → IsMadeOf (end e) (ident e.name ∷ type_expr e.word ∷ [])

-- The parts stand between these bytes, one behind the other, and so do the parts inside each.
pub data LieBetween : List Thing → ℕ → ℕ → Type 0 where
  nothing : {from to : ℕ} → from ≤ to → LieBetween [] from to
  placed : {x : Thing} {span : Span} {inner more : List Thing} {from to : ℕ} → Inside x span inner → from ≤ span.from → LieBetween inner span.from span.to → LieBetween more span.to to → LieBetween (x ∷ more) from to
  spread : {x : Thing} {inner more : List Thing} {from to : ℕ} → IsMadeOf x inner → LieBetween (inner ++ more) from to → LieBetween (x ∷ more) from to

-- The items of the text stand between these bytes, and so does all inside them.
abbrev pub ItemsHaveSpans : Module → ℕ → ℕ → Type 0
ItemsHaveSpans m from to = LieBetween (map item m.items) from to
