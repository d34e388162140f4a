-- Which core expression each tree of a text is lowered to, by recursion on the tree.
use Rattle.std.specs.Prelude.{ℕ, suc, List, [], ◌∷◌, ◌++◌, ◌+◌, ◌-◌, ◌==◌, nat_le, map, Bool, true, false, Option, Some, None, length, if◌then◌else◌}
use Rattle.std.specs.List.{list_all}
use Rattle.dslx_tree.specs.declared.block.Stmt.TheOpen.{Stmt-F, Node-F, Shape-F, TypeNode-F}
use Rattle.dslx_tree.specs.declared.block.Block.{Block}
use Rattle.dslx_tree.specs.declared.expr.Expr.{Expr}
use Rattle.dslx_tree.specs.declared.pattern.Pattern.{Pattern}
use Rattle.dslx_tree.specs.declared.type_expr.TypeExpr.{TypeExpr}
use Rattle.dslx_meaning.specs.Lists.{all_some, and_then, with_both, where_true, is_in, repeated}
use Rattle.dslx_meaning.specs.Callees.{kind_of_call}
use Rattle.dslx_meaning.specs.Types.{bool_type, unit_type}
use Rattle.dslx_meaning.specs.Values.{bits_of, bool_value}
use Rattle.dslx_meaning.specs.Operators.{number_value}
use Rattle.dslx_meaning.specs.Meaning.{denotation}
use Rattle.dslx_meaning.specs.declared.ty.DslxType.{DslxType, out-DslxType}
use Rattle.dslx_meaning.specs.declared.ty.DslxType as ty
use Rattle.dslx_meaning.specs.declared.ty.DslxType.TheOpen.{DslxType-F}
use Rattle.dslx_meaning.specs.declared.value.UntypedLiteral.{UntypedLiteral}
use Rattle.dslx_meaning.specs.declared.value.DslxValue.{DslxValue}
use Rattle.dslx_meaning.specs.Rules.AggregateRules.{array_in}
use Rattle.dslx_meaning.specs.Rules.Paired.{Sorts, Recursion, StmtPart, NodePart, ShapePart, TypeNodePart, BlockPart, LetPart, ArmPart, FieldPart, ForPart, NumberPart, paired_expr, paired_block, paired_type_expr}
use Rattle.dslx_core.specs.declared.expr.CoreExpr.{CoreExpr}
use Rattle.dslx_core.specs.declared.expr.CoreExpr as core
use Rattle.dslx_core.specs.declared.expr.Shape as shape
use Rattle.dslx_core.specs.Lowering.EqualTypes.{equal_type}
use Rattle.dslx_core.specs.Lowering.CoreScopes.{CoreScope, with_unnamed, constant_at, size_at, bound_at}
use Rattle.dslx_core.specs.Lowering.Lowering.{LoweredExpr, lowered, literal, cores_of, lower_name, lower_number, lower_prefix, lower_binary, lower_cast, lower_slice, lower_part, lower_tuple, lower_element, lower_field, lower_index, lower_choice, lower_call}
use Rattle.dslx_core.specs.Lowering.Patterns.{ExprLowering, LoweredShape, PatternLowering, ArmLowering, shaped, value_shape, name_shape, tuple_shape, names_of_all, lower_match, lower_loop, lower_let}

-- the type that a written type denotes in each scope
abbrev pub TypeLowering : Type 0
TypeLowering = CoreScope → Option DslxType

pub record FieldLowering : Type 0 where
  pub name : List ℕ
  pub value : ExprLowering

abbrev pub lowering_sorts : Sorts
lowering_sorts = record {
  stmt = ExprLowering → ExprLowering;
  node = ExprLowering;
  shape = PatternLowering;
  type_node = TypeLowering;
  block = ExprLowering;
  bind = ExprLowering → ExprLowering;
  arg = Expr;
  arm = ArmLowering;
  expr = ExprLowering;
  field = FieldLowering;
  loop = ExprLowering;
  number = CoreScope → Option DslxValue;
  pattern = PatternLowering;
  type_expr = TypeLowering;
}

-- an expression, and what it is lowered to
abbrev pub LoweredPair : Type 0
LoweredPair = Expr × ExprLowering

-- ---- types

abbrev pub lower_type : TypeNodePart lowering_sorts → TypeLowering
lower_type (TypeNode-F.Bits s w) scope = Some (ty.Bits s w)
lower_type (TypeNode-F.Wide s e) scope = and_then (size_at scope e.0) (λ w. Some (ty.Bits s w))
lower_type TypeNode-F.TypeNode::Bool scope = Some bool_type
lower_type (TypeNode-F.TypeNode::Name name) scope = scope.known.items.type_named name
lower_type (TypeNode-F.TypeNode::Tuple ts) scope = and_then (all_some (map (λ (t : TypeExpr × TypeLowering). t.1 scope) ts)) (λ ts. Some (ty.Tuple ts))
lower_type (TypeNode-F.TypeNode::Array t e) scope = with_both (t.1 scope) (size_at scope e.0) (λ t n. Some (ty.Array t n))

abbrev pub lower_written : Option (TypeExpr × TypeLowering) → CoreScope → Option DslxType
lower_written None scope = None
lower_written (Some t) scope = t.1 scope

abbrev pub number_meaning : NumberPart lowering_sorts → CoreScope → Option DslxValue
number_meaning n scope = and_then (lower_written n.ty scope) (λ t. number_value t (record { is_negative = n.is_negative; value = n.value }))

-- ---- patterns

abbrev pub second_parts : List (Pattern × PatternLowering) → List PatternLowering
second_parts ps = map (λ (p : Pattern × PatternLowering). p.1) ps

abbrev pub lower_shape_names : ShapePart lowering_sorts → List (List ℕ)
lower_shape_names (Shape-F.Shape::Name name) = name ∷ []
lower_shape_names (Shape-F.Shape::Tuple ps) = names_of_all (second_parts ps)
lower_shape_names _ = []

abbrev pub shape_at : ShapePart lowering_sorts → CoreScope → CoreScope → DslxType → Option LoweredShape
shape_at Shape-F.Wild outer scope t = shaped shape.Wild scope
shape_at (Shape-F.Shape::Bool b) outer scope t = value_shape (Some (bool_value b)) scope t
shape_at (Shape-F.Shape::Number n) outer scope t = value_shape (n.1 outer) scope t
shape_at (Shape-F.Shape::Name name) outer scope t = name_shape name scope t
shape_at (Shape-F.Shape::Member e a) outer scope t = value_shape (scope.known.items.member e.name a.name) scope t
shape_at (Shape-F.Shape::Tuple ps) outer scope t = tuple_shape (second_parts ps) outer scope (out-DslxType t)

abbrev pub lower_shape : ShapePart lowering_sorts → PatternLowering
lower_shape s = record { names = lower_shape_names s; lower = shape_at s }

-- ---- arrays

abbrev pub of_type : DslxType → Option LoweredExpr → Option LoweredExpr
of_type t e = and_then e (λ e. where_true (equal_type t e.ty) (Some e))

-- without a type the first element decides
abbrev pub lower_array_elements : List LoweredExpr → Option LoweredExpr
lower_array_elements [] = None
lower_array_elements (e ∷ es) =
    where_true (list_all (λ (c : LoweredExpr). equal_type e.ty c.ty) es) (lowered (core.Array (cores_of (e ∷ es))) (ty.Array e.ty (suc (length es))))

-- an element of an array that has a type may be a number without one
abbrev pub element_or_number : DslxType → Option UntypedLiteral → Option LoweredExpr → Option LoweredExpr
element_or_number t None e = of_type t e
element_or_number t (Some number) e = of_type t (lower_number (Some t) number)

-- the values that are bound from this number on, one for each of these
abbrev pub slots_from : ℕ → List LoweredExpr → List CoreExpr
slots_from n [] = []
slots_from n (e ∷ es) = core.Slot n ∷ slots_from (suc n) es

-- `n` elements, of which the last one that is written is repeated: the written ones are bound, so that none is evaluated twice
abbrev pub filled_array : ℕ → ℕ → LoweredExpr → List LoweredExpr → CoreExpr
filled_array count n e es =
    core.Bind (core.Tuple (cores_of (e ∷ es))) (shape.Tuple (map (λ (e : LoweredExpr). shape.Bound) (e ∷ es)))
    (core.Array (slots_from count (e ∷ es) ++ repeated (n - suc (length es)) (core.Slot (count + length es))))

-- `n` elements, where so many values are bound
abbrev pub lower_filled : ℕ → DslxType → Bool → ℕ → List LoweredExpr → Option LoweredExpr
lower_filled count t dots n [] = None
lower_filled count t false n (e ∷ es) = where_true (suc (length es) == n) (lowered (core.Array (cores_of (e ∷ es))) (ty.Array t n))
lower_filled count t true n (e ∷ es) = where_true (nat_le (suc (length es)) n) (lowered (filled_array count n e es) (ty.Array t n))

abbrev pub lower_array : ℕ → Option (Option DslxType) → List (Option UntypedLiteral × Option LoweredExpr) → Bool → Option LoweredExpr
lower_array count None es dots = if dots then None else and_then (all_some (map (λ (e : Option UntypedLiteral × Option LoweredExpr). e.1) es)) lower_array_elements
lower_array count (Some t) es dots =
    and_then (and_then t array_in) (λ parts. and_then (all_some (map (λ (e : Option UntypedLiteral × Option LoweredExpr). element_or_number parts.0 e.0 e.1) es)) (lower_filled count parts.0 dots parts.1))

-- ---- structs

abbrev pub lower_field_value : List ℕ → Option LoweredPair → ExprLowering
lower_field_value name None = lower_name name
lower_field_value name (Some e) = e.1

abbrev pub value_written : List ℕ → List FieldLowering → Option ExprLowering
value_written name [] = None
value_written name (f ∷ fs) = if is_in name (f.name ∷ []) then Some f.value else value_written name fs

-- a field that is written, or that of the value which gives the others
abbrev pub field_or_other : CoreScope → Option LoweredExpr → List ℕ → Option ExprLowering → Option LoweredExpr
field_or_other scope others field None = lower_field others field
field_or_other scope others field (Some value) = value scope

abbrev pub lower_fields : CoreScope → List FieldLowering → Option LoweredExpr → List (List ℕ) → List DslxType → Option (List LoweredExpr)
lower_fields scope written others [] [] = Some []
lower_fields scope written others (field ∷ fields) (t ∷ ts) =
    with_both (of_type t (field_or_other scope others field (value_written field written))) (lower_fields scope written others fields ts) (λ e es. Some (e ∷ es))
lower_fields scope written others [] (t ∷ ts) = None
lower_fields scope written others (field ∷ fields) [] = None

abbrev pub names_written : List FieldLowering → List (List ℕ)
names_written fs = map (λ (f : FieldLowering). f.name) fs

-- the value that gives the others is bound, to no name
abbrev pub with_others : CoreScope → LoweredExpr → List FieldLowering → DslxType → List (List ℕ) → List DslxType → Option LoweredExpr
with_others scope others written t fields ts =
    and_then (lower_fields (with_unnamed scope) written (lowered (core.Slot scope.count) others.ty) fields ts) (λ es. lowered (core.Bind others.core shape.Bound (core.Tuple (cores_of es))) t)

abbrev pub without_others : CoreScope → List FieldLowering → DslxType → List (List ℕ) → List DslxType → Option LoweredExpr
without_others scope written t fields ts = and_then (lower_fields scope written None fields ts) (λ es. lowered (core.Tuple (cores_of es)) t)

-- the expression that has the other fields is lowered only where a field isn't written
abbrev pub struct_fields : CoreScope → List FieldLowering → Option ExprLowering → DslxType → List (List ℕ) → List DslxType → Option LoweredExpr
struct_fields scope written None t fields ts = without_others scope written t fields ts
struct_fields scope written (Some others) t fields ts =
    if list_all (λ field. is_in field (names_written written)) fields then without_others scope written t fields ts
    else and_then (others scope) (λ e. with_others scope e written t fields ts)

abbrev pub lower_struct_in : CoreScope → List FieldLowering → Option ExprLowering → DslxType-F DslxType → Option LoweredExpr
lower_struct_in scope written others (DslxType-F.Struct name fields ts) = struct_fields scope written others (ty.Struct name fields ts) fields ts
lower_struct_in scope written others _ = None

abbrev pub others_of : Option LoweredPair → Option ExprLowering
others_of None = None
others_of (Some e) = Some e.1

-- ---- expressions

abbrev pub lower_all : CoreScope → List LoweredPair → List (Option LoweredExpr)
lower_all scope es = map (λ (e : LoweredPair). e.1 scope) es

abbrev pub lower_node : NodePart lowering_sorts → ExprLowering
lower_node (Node-F.Node::Number n) scope = and_then (n.1 scope) literal
lower_node (Node-F.Node::Bool b) scope = literal (bool_value b)
lower_node (Node-F.Node::Array None es dots) scope = lower_array scope.count None (map (λ (e : LoweredPair). ((denotation e.0).bare, e.1 scope)) es) dots
lower_node (Node-F.Node::Array (Some t) es dots) scope = lower_array scope.count (Some (t.1 scope)) (map (λ (e : LoweredPair). ((denotation e.0).bare, e.1 scope)) es) dots
lower_node (Node-F.Node::Name name) scope = lower_name name scope
lower_node (Node-F.Node::Member e a) scope = and_then (scope.known.items.member e.name a.name) literal
lower_node (Node-F.Call f parametric_args es) scope = lower_call (kind_of_call f.name) f.name scope (map (λ a. constant_at scope a.1) parametric_args) (lower_all scope es)
lower_node (Node-F.Node::Tuple es) scope = lower_tuple (lower_all scope es)
lower_node (Node-F.Struct s fields rest) scope = and_then (scope.known.items.struct_named s.name) (λ t. lower_struct_in scope (map (λ f. f.1) fields) (others_of rest) (out-DslxType t))
lower_node (Node-F.Block b) scope = b.1 scope
lower_node (Node-F.If c a b) scope = lower_choice (c.1 scope) (a.1 scope) (b.1 scope)
lower_node (Node-F.Match e arms) scope = lower_match (e.1 scope) (map (λ a. a.1) arms) scope
lower_node (Node-F.For f) scope = f.1 scope
lower_node (Node-F.Index e i) scope = lower_index (e.1 scope) (i.1 scope)
lower_node (Node-F.Slice e a b) scope = lower_slice (e.1 scope) (bound_at scope a.0) (bound_at scope b.0)
lower_node (Node-F.Part e i t) scope = lower_part (e.1 scope) (i.1 scope) (t.1 scope)
lower_node (Node-F.Field e name) scope = lower_field (e.1 scope) name.name
lower_node (Node-F.Element e span k) scope = lower_element (e.1 scope) k
lower_node (Node-F.Prefix o e) scope = lower_prefix o (e.1 scope)
lower_node (Node-F.Cast e t) scope = lower_cast (e.1 scope) (t.1 scope)
lower_node (Node-F.Binary o l r) scope = lower_binary o (l.1 scope) (r.1 scope)

-- ---- statements and blocks

-- the value of an expression that stands as a statement isn't used
abbrev pub lower_stmt : StmtPart lowering_sorts → ExprLowering → ExprLowering
lower_stmt (Stmt-F.Let l) rest scope = l.1 rest scope
lower_stmt (Stmt-F.Bare e) rest scope = rest scope

abbrev pub lower_statements : List (ExprLowering → ExprLowering) → ExprLowering → ExprLowering
lower_statements [] last scope = last scope
lower_statements (s ∷ ss) last scope = s (lower_statements ss last) scope

abbrev pub lower_last_value : Option LoweredPair → ExprLowering
lower_last_value None scope = lowered (core.Tuple []) unit_type
lower_last_value (Some e) scope = e.1 scope

abbrev pub lower_block : BlockPart lowering_sorts → ExprLowering
lower_block b = lower_statements (map (λ s. s.1) b.statements) (lower_last_value b.value)

abbrev pub lower_bind : LetPart lowering_sorts → ExprLowering → ExprLowering
lower_bind l = lower_let l.value.1 l.pattern.1

abbrev pub lower_arm_part : ArmPart lowering_sorts → ArmLowering
lower_arm_part a = record { patterns = second_parts a.patterns; value = a.value.1 }

abbrev pub lower_field_part : FieldPart lowering_sorts → FieldLowering
lower_field_part f = record { name = f.name.name; value = lower_field_value f.name.name f.value }

abbrev pub lower_for : ForPart lowering_sorts → ExprLowering
lower_for f scope =
    lower_loop (f.start.1 scope) (f.from.1 scope) (and_then (constant_at scope f.from.0) bits_of) (and_then (constant_at scope f.to.0) bits_of) f.index.1 f.accumulator.1 f.body.1 scope

-- ---- the trees

abbrev pub lowering_steps : Recursion lowering_sorts
lowering_steps = record {
  stmt = lower_stmt;
  node = lower_node;
  shape = lower_shape;
  type_node = lower_type;
  block = lower_block;
  bind = lower_bind;
  arg = λ a. a.value.0;
  arm = lower_arm_part;
  expr = λ e. e.node.1;
  field = lower_field_part;
  loop = lower_for;
  number = number_meaning;
  pattern = λ p. p.shape.1;
  type_expr = λ t. t.node.1;
}

-- the core expression that an expression of a text is lowered to in a scope, with its type
abbrev pub lower_expression : Expr → ExprLowering
lower_expression e = (paired_expr lowering_sorts lowering_steps e).1

-- the same of a block
abbrev pub lower_block_of_text : Block → ExprLowering
lower_block_of_text b = (paired_block lowering_sorts lowering_steps b).1

-- a written type
abbrev pub lower_type_of_text : TypeExpr → TypeLowering
lower_type_of_text t = (paired_type_expr lowering_sorts lowering_steps t).1
