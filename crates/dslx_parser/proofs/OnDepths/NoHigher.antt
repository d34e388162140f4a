-- Parts that are no higher than a number, by what stands in each; and so the tree is no higher.
use Rattle.std.proofs.Common.{◌≡◌, ◌≤◌, ℕ, suc, Bool, List, [], ◌∷◌, ◌++◌, map, ◌∙◌, arith}
use Rattle.std.specs.Prelude.{Option, None, Some, max}
use Rattle.std.specs.Option.{option_map}
use Rattle.std.proofs.Math.Nat.{max-le}
use Rattle.xb_span.specs.declared.span.Span.{Span}
use Rattle.dslx_tree.specs.declared.block.Block.{roll-Block}
use Rattle.dslx_tree.specs.declared.block.Let.{roll-Let}
use Rattle.dslx_tree.specs.declared.block.Stmt.{Stmt}
use Rattle.dslx_tree.specs.declared.expr.Arg.{Arg}
use Rattle.dslx_tree.specs.declared.expr.Expr.{Expr, roll-Expr}
use Rattle.dslx_tree.specs.declared.expr.FieldValue.{roll-FieldValue}
use Rattle.dslx_tree.specs.declared.expr.For.{roll-For}
use Rattle.dslx_tree.specs.declared.expr.Node.{Node}
use Rattle.dslx_tree.specs.declared.expr.Node as nodes
use Rattle.dslx_tree.specs.declared.expr.Number.{roll-Number}
use Rattle.dslx_tree.specs.declared.block.Block.{Block}
use Rattle.dslx_tree.specs.declared.ident.Ident.{Ident}
use Rattle.dslx_tree.specs.declared.item.Item.{Item}
use Rattle.dslx_tree.specs.declared.pattern.Pattern.{Pattern, roll-Pattern}
use Rattle.dslx_tree.specs.declared.pattern.Shape.{Shape}
use Rattle.dslx_tree.specs.declared.pattern.Shape as shapes
use Rattle.dslx_tree.specs.declared.type_expr.TypeExpr.{TypeExpr, roll-TypeExpr}
use Rattle.dslx_tree.specs.declared.type_expr.TypeNode.{TypeNode}
use Rattle.dslx_tree.specs.declared.type_expr.TypeNode as types
use Rattle.dslx_tree.proofs.Lemmas.Folds.Levels.{Carriers}
use Rattle.dslx_tree.proofs.Lemmas.Folds.Folds as folds
use Rattle.dslx_tree.proofs.Lemmas.Folds.Folds.{Steps, fold_arg-roll, fold_arm-roll, fold_bind-roll, fold_block-roll, fold_expr-roll, fold_field-roll, fold_loop-roll, fold_node, fold_number, fold_number-roll, fold_pattern-roll, fold_shape, fold_type_expr-roll, fold_type_node, fold_loop, fold_stmt}
use Rattle.dslx_parser.specs.Spans.Places.{Thing, Inside, IsMadeOf, InSomeOrder}
use Rattle.dslx_parser.specs.Spans.Places as things
use Rattle.dslx_parser.specs.Depths.TreeDepths.{arg_depth, arg_level, arm_depth, arm_level, block_depth, block_level, config_depth, definition_depth, end_depth, expr_depth, expr_level, field_depth, field_value_depth, field_value_level, for_level, highest, item_depth, let_level, config_statement_depth, member_depth, next_depth, node_level, number_level, parametric_depth, pattern_depth, pattern_level, shape_level, stmt_depth, stmt_level, type_expr_depth, type_expr_level, type_node_level, where_written}

-- a name, by itself or as an expression, a type or a pattern
pub data IsAName : Thing → Type 0 where
  itself : (name : Ident) → IsAName (things.ident name)
  as_expr : (span : Span) (name : List ℕ) → IsAName (things.expr_at span (nodes.Name name))
  as_type : (span : Span) (name : List ℕ) → IsAName (things.type_at span (types.Name name))
  as_pattern : (span : Span) (name : List ℕ) → IsAName (things.pattern_at span (shapes.Name name))

-- None of these parts is higher than this. A part with a place of its own is one higher than the highest one in it, and
-- any other part as high as the highest of those that it is made of.
pub data AreNoHigher : ℕ → List Thing → Type 0 where
  nothing : {n : ℕ} → AreNoHigher n []
  placed : {x : Thing} {span : Span} {inner more : List Thing} {n : ℕ} → Inside x span inner → AreNoHigher n inner → AreNoHigher (suc n) more → AreNoHigher (suc n) (x ∷ more)
  called : {x : Thing} {more : List Thing} {n : ℕ} → IsAName x → AreNoHigher (suc n) more → AreNoHigher (suc n) (x ∷ more)
  spread : {x : Thing} {inner more : List Thing} {n : ℕ} → IsMadeOf x inner → AreNoHigher n (inner ++ more) → AreNoHigher n (x ∷ more)

-- ---- the depths of parts

abbrev numbers : Carriers
numbers = record { stmt = ℕ; node = ℕ; shape = ℕ; type_node = ℕ; block = ℕ; bind = ℕ; arg = ℕ; arm = ℕ; expr = ℕ; field = ℕ; loop = ℕ; number = ℕ; pattern = ℕ; type_expr = ℕ }

abbrev levels : Steps numbers
levels = record { stmt = stmt_level; node = node_level; shape = shape_level; type_node = type_node_level; block = block_level; bind = let_level; arg = arg_level; arm = arm_level; expr = expr_level; field = field_value_level; loop = for_level; number = number_level; pattern = pattern_level; type_expr = type_expr_level }

abbrev height : Thing → ℕ
height (things.spot span) = 0
height (things.expr e) = expr_depth e
height (things.type_expr ty) = type_expr_depth ty
height (things.pattern p) = pattern_depth p
height (things.block b) = block_depth b
height (things.statement s) = stmt_depth s
height (things.arg a) = arg_depth a
height (things.arm a) = arm_depth a
height (things.field_value f) = field_value_depth f
height (things.ident name) = 0
height (things.item x) = item_depth x
height (things.definition d) = definition_depth d
height (things.parametric p) = parametric_depth p
height (things.field f) = field_depth f
height (things.member m) = member_depth m
height (things.end e) = end_depth e
height (things.config c) = config_depth c
height (things.config_statement m) = config_statement_depth m
height (things.next n) = next_depth n

abbrev Below : ℕ → List Thing → Type 0
Below n [] = Unit {0}
Below n (x ∷ xs) = (height x ≤ n) × Below n xs

split : (n : ℕ) (xs ys : List Thing) → Below n (xs ++ ys) → Below n xs × Below n ys
split n [] ys below = (tt, below)
split n (x ∷ xs) ys below = let rest = split n xs ys below.1 in ((below.0, rest.0), rest.1)

-- ---- the greatest of the depths

none_by : (n : ℕ) → 0 ≤ n
none_by n = omega arith

append_by : (n : ℕ) (hs ks : List ℕ) → highest hs ≤ n → highest ks ≤ n → highest (hs ++ ks) ≤ n
append_by n [] ks le less = less
append_by n (h ∷ hs) ks le less =
    let first : h ≤ max h (highest hs) = omega arith in
    let rest : highest hs ≤ max h (highest hs) = omega arith in
    max-le (omega (arith, first, le)) (append_by n hs ks (omega (arith, rest, le)) less)

list_by : {T : Type 0} (n : ℕ) (kind : T → Thing) (ts : List T) → Below n (map kind ts) → highest (map (λ t. height (kind t)) ts) ≤ n
list_by n kind [] below = none_by n
list_by n kind (t ∷ ts) below = max-le below.0 (list_by n kind ts below.1)

maybe_expr_by : (n : ℕ) (o : Option Expr) → Below n (things.maybe_expr o) → highest (where_written (option_map expr_depth o)) ≤ n
maybe_expr_by n None below = none_by n
maybe_expr_by n (Some e) below = max-le below.0 (none_by n)

maybe_type_by : (n : ℕ) (o : Option TypeExpr) → Below n (things.maybe_type o) → highest (where_written (option_map type_expr_depth o)) ≤ n
maybe_type_by n None below = none_by n
maybe_type_by n (Some ty) below = max-le below.0 (none_by n)

maybe_arg_by : (n : ℕ) (o : Option Arg) → Below n (things.maybe_arg o) → highest (where_written (option_map arg_depth o)) ≤ n
maybe_arg_by n None below = none_by n
maybe_arg_by n (Some a) below = max-le below.0 (none_by n)

one_by : {a : ℕ} (n : ℕ) → a ≤ n → highest (a ∷ []) ≤ n
one_by n le = max-le le (none_by n)

next_up : (a b n : ℕ) → a ≡ b → b ≤ n → a ≤ n
next_up a b n e le = omega (arith, e, le)

-- ---- nodes

expr_up : (span : Span) (node : Node) (k n : ℕ) → fold_node numbers levels node ≡ k → k ≤ n → expr_depth (roll-Expr (record { span = span; node = node })) ≤ suc n
expr_up span node k n e le =
    let level : expr_depth (roll-Expr (record { span = span; node = node })) ≡ suc (fold_node numbers levels node) = fold_expr-roll numbers levels (record { span = span; node = node }) in
    omega (arith, level, e, le)

type_up : (span : Span) (node : TypeNode) (k n : ℕ) → fold_type_node numbers levels node ≡ k → k ≤ n → type_expr_depth (roll-TypeExpr (record { span = span; node = node })) ≤ suc n
type_up span node k n e le =
    let level : type_expr_depth (roll-TypeExpr (record { span = span; node = node })) ≡ suc (fold_type_node numbers levels node) = fold_type_expr-roll numbers levels (record { span = span; node = node }) in
    omega (arith, level, e, le)

pattern_up : (span : Span) (shape : Shape) (k n : ℕ) → fold_shape numbers levels shape ≡ k → k ≤ n → pattern_depth (roll-Pattern (record { span = span; shape = shape })) ≤ suc n
pattern_up span shape k n e le =
    let level : pattern_depth (roll-Pattern (record { span = span; shape = shape })) ≡ suc (fold_shape numbers levels shape) = fold_pattern-roll numbers levels (record { span = span; shape = shape }) in
    omega (arith, level, e, le)

number_is : (ty : Option TypeExpr) (is_negative : Bool) (value : ℕ) → fold_number numbers levels (roll-Number (record { ty = ty; is_negative = is_negative; value = value })) ≡ highest (where_written (option_map type_expr_depth ty))
number_is None is_negative value = fold_number-roll numbers levels (record { ty = None; is_negative = is_negative; value = value })
number_is (Some ty) is_negative value = fold_number-roll numbers levels (record { ty = Some ty; is_negative = is_negative; value = value })

loop_is : (index accumulator : Pattern) (ty : Option TypeExpr) (from to : Expr) (body : Block) (start : Expr)
    → fold_loop numbers levels (roll-For (record { index = index; accumulator = accumulator; ty = ty; from = from; to = to; body = body; start = start }))
    ≡ highest (pattern_depth index ∷ pattern_depth accumulator ∷ (where_written (option_map type_expr_depth ty) ++ expr_depth from ∷ expr_depth to ∷ block_depth body ∷ expr_depth start ∷ []))
loop_is index accumulator None from to body start = fold_loop-roll numbers levels (record { index = index; accumulator = accumulator; ty = None; from = from; to = to; body = body; start = start })
loop_is index accumulator (Some ty) from to body start = fold_loop-roll numbers levels (record { index = index; accumulator = accumulator; ty = Some ty; from = from; to = to; body = body; start = start })

block_is : (span : Span) (statements : List Stmt) (value : Option Expr) → block_depth (roll-Block (record { span = span; statements = statements; value = value })) ≡ suc (highest (map stmt_depth statements ++ where_written (option_map expr_depth value)))
block_is span statements None = fold_block-roll numbers levels (record { span = span; statements = statements; value = None })
block_is span statements (Some e) = fold_block-roll numbers levels (record { span = span; statements = statements; value = Some e })

let_is : (span : Span) (pattern : Pattern) (ty : Option TypeExpr) (value : Expr) → folds.fold_bind numbers levels (roll-Let (record { span = span; pattern = pattern; ty = ty; value = value })) ≡ suc (highest (pattern_depth pattern ∷ (where_written (option_map type_expr_depth ty) ++ expr_depth value ∷ [])))
let_is span pattern None value = fold_bind-roll numbers levels (record { span = span; pattern = pattern; ty = None; value = value })
let_is span pattern (Some ty) value = fold_bind-roll numbers levels (record { span = span; pattern = pattern; ty = Some ty; value = value })

field_is : (name : Ident) (value : Option Expr) → field_value_depth (roll-FieldValue (record { name = name; value = value })) ≡ highest (where_written (option_map expr_depth value))
field_is name None = fold_field-roll numbers levels (record { name = name; value = None })
field_is name (Some e) = fold_field-roll numbers levels (record { name = name; value = Some e })

in_any_order : {n : ℕ} {a b c : Thing} {parts : List Thing} → InSomeOrder a b c parts → Below n parts → Below n (a ∷ b ∷ c ∷ [])
in_any_order things.abc (x, (y, (z, _))) = (x, (y, (z, tt)))
in_any_order things.acb (x, (z, (y, _))) = (x, (y, (z, tt)))
in_any_order things.bac (y, (x, (z, _))) = (x, (y, (z, tt)))
in_any_order things.bca (y, (z, (x, _))) = (x, (y, (z, tt)))
in_any_order things.cab (z, (x, (y, _))) = (x, (y, (z, tt)))
in_any_order things.cba (z, (y, (x, _))) = (x, (y, (z, tt)))

one_more_by : (a n : ℕ) → a ≤ n → suc a ≤ suc n
one_more_by a n le = omega (arith, le)

-- ---- a part is at most one higher than those in it

inside_up : {x : Thing} {span : Span} {inner : List Thing} → Inside x span inner → (n : ℕ) → Below n inner → height x ≤ suc n
inside_up (things.of_spot span) n below = none_by (suc n)
inside_up (things.of_ident name there) n below = none_by (suc n)
inside_up (things.of_number span ty is_negative value) n below = expr_up span _ _ n (folds.fold_node-Number numbers levels _ ∙ number_is ty is_negative value) (maybe_type_by n ty below)
inside_up (things.of_bool span value) n below = expr_up span _ _ n (folds.fold_node-Bool numbers levels value) (none_by n)
inside_up (things.of_array span ty elements is_repeated) n below =
    let parts = split n (things.maybe_type ty) (map things.expr elements) below in
    expr_up span _ _ n (folds.fold_node-Array numbers levels ty elements is_repeated)
    (append_by n (where_written (option_map type_expr_depth ty)) (map expr_depth elements) (maybe_type_by n ty parts.0) (list_by n things.expr elements parts.1))
inside_up (things.of_name span name there) n below = expr_up span _ _ n (folds.fold_node-Name numbers levels name) (none_by n)
inside_up (things.of_member span owner name) n below = expr_up span _ _ n (folds.fold_node-Member numbers levels owner name) (none_by n)
inside_up (things.of_call span name args values) n below =
    let parts = split n (map things.arg args) (map things.expr values) below.1 in
    expr_up span _ _ n (folds.fold_node-Call numbers levels name args values)
    (append_by n (map arg_depth args) (map expr_depth values) (list_by n things.arg args parts.0) (list_by n things.expr values parts.1))
inside_up (things.of_tuple span values) n below = expr_up span _ _ n (folds.fold_node-Tuple numbers levels values) (list_by n things.expr values below)
inside_up (things.of_struct span name fields others) n below =
    let parts = split n (map things.field_value fields) (things.maybe_expr others) below.1 in
    expr_up span _ _ n (folds.fold_node-Struct numbers levels name fields others)
    (append_by n (map field_value_depth fields) (where_written (option_map expr_depth others)) (list_by n things.field_value fields parts.0) (maybe_expr_by n others parts.1))
inside_up (things.of_block_value span value) n below = expr_up span _ _ n (folds.fold_node-Block numbers levels value) below.0
inside_up (things.of_if span condition body other) n (a, (b, (c, _))) = expr_up span _ _ n (folds.fold_node-If numbers levels condition body other) (max-le a (max-le b (one_by n c)))
inside_up (things.of_match span value arms) n below = expr_up span _ _ n (folds.fold_node-Match numbers levels value arms) (max-le below.0 (list_by n things.arm arms below.1))
inside_up (things.of_for span index accumulator ty from to body start) n (a, (b, below)) =
    let parts = split n (things.maybe_type ty) (things.expr from ∷ things.expr to ∷ things.block body ∷ things.expr start ∷ []) below in
    expr_up span _ _ n (folds.fold_node-For numbers levels _ ∙ loop_is index accumulator ty from to body start)
    (max-le a (max-le b (append_by n (where_written (option_map type_expr_depth ty)) (expr_depth from ∷ expr_depth to ∷ block_depth body ∷ expr_depth start ∷ []) (maybe_type_by n ty parts.0)
    (max-le parts.1.0 (max-le parts.1.1.0 (max-le parts.1.1.1.0 (one_by n parts.1.1.1.1.0)))))))
inside_up (things.of_index span value index) n (a, (b, _)) = expr_up span _ _ n (folds.fold_node-Index numbers levels value index) (max-le a (one_by n b))
inside_up (things.of_slice span value from to) n (a, (b, (c, _))) = expr_up span _ _ n (folds.fold_node-Slice numbers levels value from to) (max-le a (max-le b (one_by n c)))
inside_up (things.of_part span value first ty) n (a, (b, (c, _))) = expr_up span _ _ n (folds.fold_node-Part numbers levels value first ty) (max-le a (max-le b (one_by n c)))
inside_up (things.of_field span value name) n below = expr_up span _ _ n (folds.fold_node-Field numbers levels value name) below.0
inside_up (things.of_element span value place number) n below = expr_up span _ _ n (folds.fold_node-Element numbers levels value place number) below.0
inside_up (things.of_prefix span sign value) n below = expr_up span _ _ n (folds.fold_node-Prefix numbers levels sign value) below.0
inside_up (things.of_cast span value ty) n (a, (b, _)) = expr_up span _ _ n (folds.fold_node-Cast numbers levels value ty) (max-le a (one_by n b))
inside_up (things.of_binary span operator left right) n (a, (b, _)) = expr_up span _ _ n (folds.fold_node-Binary numbers levels operator left right) (max-le a (one_by n b))
inside_up (things.of_arg span value) n below = next_up _ (suc (expr_depth value)) (suc n) (fold_arg-roll numbers levels (record { span = span; value = value })) (one_more_by (expr_depth value) n below.0)
inside_up (things.of_bits span is_signed width) n below = type_up span _ _ n (folds.fold_type_node-Bits numbers levels is_signed width) (none_by n)
inside_up (things.of_wide span is_signed width) n below = type_up span _ _ n (folds.fold_type_node-Wide numbers levels is_signed width) below.0
inside_up (things.of_bool_type span) n below = type_up span _ _ n (folds.fold_type_node-Bool numbers levels) (none_by n)
inside_up (things.of_type_name span name there) n below = type_up span _ _ n (folds.fold_type_node-Name numbers levels name) (none_by n)
inside_up (things.of_tuple_type span parts) n below = type_up span _ _ n (folds.fold_type_node-Tuple numbers levels parts) (list_by n things.type_expr parts below)
inside_up (things.of_array_type span element size) n (a, (b, _)) = type_up span _ _ n (folds.fold_type_node-Array numbers levels element size) (max-le a (one_by n b))
inside_up (things.of_wild span) n below = pattern_up span _ _ n (folds.fold_shape-Wild numbers levels) (none_by n)
inside_up (things.of_bool_pattern span value) n below = pattern_up span _ _ n (folds.fold_shape-Bool numbers levels value) (none_by n)
inside_up (things.of_number_pattern span ty is_negative value) n below = pattern_up span _ _ n (folds.fold_shape-Number numbers levels _ ∙ number_is ty is_negative value) (maybe_type_by n ty below)
inside_up (things.of_name_pattern span name there) n below = pattern_up span _ _ n (folds.fold_shape-Name numbers levels name) (none_by n)
inside_up (things.of_member_pattern span owner name) n below = pattern_up span _ _ n (folds.fold_shape-Member numbers levels owner name) (none_by n)
inside_up (things.of_tuple_pattern span parts) n below = pattern_up span _ _ n (folds.fold_shape-Tuple numbers levels parts) (list_by n things.pattern parts below)
inside_up (things.of_block span statements value) n below =
    let parts = split n (map things.statement statements) (things.maybe_expr value) below in
    next_up _ _ (suc n) (block_is span statements value)
    (one_more_by _ n (append_by n (map stmt_depth statements) (where_written (option_map expr_depth value)) (list_by n things.statement statements parts.0) (maybe_expr_by n value parts.1)))
inside_up (things.of_let span pattern ty value) n (a, below) =
    let parts = split n (things.maybe_type ty) (things.expr value ∷ []) below in
    next_up _ _ (suc n) (folds.fold_stmt-Let numbers levels _ ∙ let_is span pattern ty value)
    (one_more_by _ n (max-le a (append_by n (where_written (option_map type_expr_depth ty)) (expr_depth value ∷ []) (maybe_type_by n ty parts.0) (one_by n parts.1.0))))
inside_up (things.of_function f) n (_, below) =
    let parts = split n (map things.parametric f.parametrics) (map things.field f.arguments ++ (things.maybe_type f.result ++ things.block f.body ∷ [])) below in
    let others = split n (map things.field f.arguments) (things.maybe_type f.result ++ things.block f.body ∷ []) parts.1 in
    let last = split n (things.maybe_type f.result) (things.block f.body ∷ []) others.1 in
    one_more_by _ n (append_by n (map parametric_depth f.parametrics) (map field_depth f.arguments ++ (where_written (option_map type_expr_depth f.result) ++ block_depth f.body ∷ [])) (list_by n things.parametric f.parametrics parts.0)
    (append_by n (map field_depth f.arguments) (where_written (option_map type_expr_depth f.result) ++ block_depth f.body ∷ []) (list_by n things.field f.arguments others.0)
    (append_by n (where_written (option_map type_expr_depth f.result)) (block_depth f.body ∷ []) (maybe_type_by n f.result last.0) (one_by n last.1.0))))
inside_up (things.of_constant c) n (_, below) =
    let parts = split n (things.maybe_type c.ty) (things.expr c.value ∷ []) below in
    one_more_by _ n (append_by n (where_written (option_map type_expr_depth c.ty)) (expr_depth c.value ∷ []) (maybe_type_by n c.ty parts.0) (one_by n parts.1.0))
inside_up (things.of_alias a) n (_, (t, _)) = one_more_by _ n t
inside_up (things.of_structure s) n (_, below) = one_more_by _ n (list_by n things.field s.fields below)
inside_up (things.of_enumeration e) n (_, (t, below)) = one_more_by _ n (max-le t (list_by n things.member e.members below))
inside_up (things.of_proc p all order) n (_, below) =
    let parts = split n (map things.parametric p.parametrics) (map things.end p.members ++ all) below in
    let others = split n (map things.end p.members) all parts.1 in
    let last = in_any_order order others.1 in
    one_more_by _ n (append_by n (map parametric_depth p.parametrics) (map end_depth p.members ++ config_depth p.config ∷ block_depth p.init ∷ next_depth p.next ∷ []) (list_by n things.parametric p.parametrics parts.0)
    (append_by n (map end_depth p.members) (config_depth p.config ∷ block_depth p.init ∷ next_depth p.next ∷ []) (list_by n things.end p.members others.0)
    (max-le last.0 (max-le last.1.0 (one_by n last.1.1.0)))))
inside_up (things.of_config c) n below =
    let parts = split n (map things.end c.ends) (map things.config_statement c.config_statements ++ map things.ident c.result) below in
    let others = split n (map things.config_statement c.config_statements) (map things.ident c.result) parts.1 in
    one_more_by _ n (append_by n (map end_depth c.ends) (map config_statement_depth c.config_statements) (list_by n things.end c.ends parts.0) (list_by n things.config_statement c.config_statements others.0))
inside_up (things.of_channel c) n (_, (_, (w, below))) =
    let parts = split n (things.maybe_arg c.depth) (things.spot c.name.span ∷ []) below in
    one_more_by _ n (max-le w (maybe_arg_by n c.depth parts.0))
inside_up (things.of_spawn s) n (_, below) = one_more_by _ n (list_by n things.arg s.arguments (split n (map things.arg s.arguments) (map things.ident s.ends) below).0)
inside_up (things.of_next next) n (_, (t, (b, _))) = one_more_by _ n (max-le t (one_by n b))

-- ---- a part without a place is as high as those that it is made of

made_up : {x : Thing} {inner : List Thing} → IsMadeOf x inner → (n : ℕ) → Below n inner → height x ≤ n
made_up (things.of_bare value) n below = next_up _ _ n (folds.fold_stmt-Bare numbers levels value) below.0
made_up (things.of_arm patterns value) n below =
    let parts = split n (map things.pattern patterns) (things.expr value ∷ []) below in
    next_up _ _ n (fold_arm-roll numbers levels (record { patterns = patterns; value = value }))
    (append_by n (map pattern_depth patterns) (expr_depth value ∷ []) (list_by n things.pattern patterns parts.0) (one_by n parts.1.0))
made_up (things.of_field_value name value) n (_, below) = next_up _ _ n (field_is name value) (maybe_expr_by n value below)
made_up (things.of_item x) n below = below.0
made_up (things.of_parametric p) n (_, (t, below)) = max-le t (maybe_expr_by n p.default below)
made_up (things.of_declared f) n (_, (t, _)) = t
made_up (things.of_constant_member m) n (_, (v, _)) = v
made_up (things.of_end e) n (_, (t, _)) = t

-- ---- all parts

name_low : {x : Thing} → IsAName x → (n : ℕ) → height x ≤ suc n
name_low (itself name) n = none_by (suc n)
name_low (as_expr span name) n = expr_up span _ _ n (folds.fold_node-Name numbers levels name) (none_by n)
name_low (as_type span name) n = type_up span _ _ n (folds.fold_type_node-Name numbers levels name) (none_by n)
name_low (as_pattern span name) n = pattern_up span _ _ n (folds.fold_shape-Name numbers levels name) (none_by n)

below : {n : ℕ} {xs : List Thing} → AreNoHigher n xs → Below n xs
below nothing = tt
below (placed {n = n} inside under more) = (inside_up inside n (below under), below more)
below (called {n = n} is more) = (name_low is n, below more)
below {n} (spread {inner = inner} {more = more} made rest) = let parts = split n inner more (below rest) in (made_up made n parts.0, parts.1)

pub no_higher : (n : ℕ) (items : List Item) → AreNoHigher n (map things.item items) → highest (map item_depth items) ≤ n
no_higher n items up = list_by n things.item items (below up)
