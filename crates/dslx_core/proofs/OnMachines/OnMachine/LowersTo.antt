-- What the parts of a text become, by what stands at their top.
use Rattle.std.proofs.Common.{◌≡◌, ℕ, List, map, Option, Some, None, refl, ap, ◌∙◌}
use Rattle.std.specs.Option.{option_map}
use Rattle.std.proofs.lemmas.Simd.{map-map}
use Rattle.dslx_tree.specs.declared.block.Block.{Block, out-Block}
use Rattle.dslx_tree.specs.declared.block.Let.{out-Let}
use Rattle.dslx_tree.specs.declared.block.Stmt.{Stmt, out-Stmt}
use Rattle.dslx_tree.specs.declared.block.Stmt.TheOpen.{Stmt-F, Node-F}
use Rattle.dslx_tree.specs.declared.expr.Arg.{Arg, out-Arg}
use Rattle.dslx_tree.specs.declared.expr.Arm.{Arm, out-Arm}
use Rattle.dslx_tree.specs.declared.expr.Expr.{Expr, out-Expr}
use Rattle.dslx_tree.specs.declared.expr.FieldValue.{FieldValue, out-FieldValue}
use Rattle.dslx_tree.specs.declared.expr.For.{For, out-For}
use Rattle.dslx_tree.specs.declared.expr.Number.{Number, out-Number}
use Rattle.dslx_tree.specs.declared.type_expr.TypeExpr.{TypeExpr}
use Rattle.dslx_tree.proofs.Lemmas.Folds.Levels.{BlockLevel, FieldValueLevel, NumberLevel, trees, map_stmt, map_node, map_block, map_field, map_number}
use Rattle.dslx_tree.proofs.Lemmas.Folds.Folds.{fold_stmt, fold_arg, fold_arm, fold_expr, fold_field, fold_loop, fold_number, fold_pattern}
use Rattle.dslx_meaning.specs.Activation.{NodeLayer, StmtLayer, node_of}
use Rattle.dslx_meaning.specs.Callees.{kind_of_call}
use Rattle.dslx_meaning.specs.Lists.{and_then}
use Rattle.dslx_meaning.specs.Meaning.{denotation}
use Rattle.dslx_meaning.specs.Operators.{number_value}
use Rattle.dslx_meaning.specs.Values.{bits_of, bool_value}
use Rattle.dslx_meaning.specs.declared.ty.DslxType.{DslxType, out-DslxType}
use Rattle.dslx_meaning.specs.declared.value.UntypedLiteral.{UntypedLiteral}
use Rattle.dslx_core.specs.Lowering.CoreScopes.{CoreScope, bound_at, constant_at}
use Rattle.dslx_core.specs.Lowering.Lowering.{LoweredExpr, lower_binary, lower_call, lower_cast, lower_choice, lower_element, lower_field, lower_index, literal, lower_name, lower_part, lower_prefix, lower_slice, lower_tuple}
use Rattle.dslx_core.specs.Lowering.Patterns.{ExprLowering, ArmLowering, lower_let, lower_loop, lower_match}
use Rattle.dslx_core.specs.Lowering.Steps.{lower_pattern_of_text}
use Rattle.dslx_core.specs.Lowering.Trees.{FieldLowering, lower_array, lower_block, lower_block_of_text, lower_expression, lower_field_part, lower_last_value, lower_node, number_meaning, lower_statements, lower_stmt, lower_struct_in, lower_type_of_text}
use Rattle.dslx_core.specs.Machines.Machine.Steps.{number_at}
use Rattle.dslx_core.specs.Machines.Machine.Parts.{parametric_args_at}
use Rattle.dslx_core.proofs.OnMachines.OnMachine.Opened.{out_stmt, out_node, out_block, out_bind, out_arg, out_arm, out_expr, out_field, out_loop, out_number}
use Rattle.dslx_core.proofs.Lemmas.Machines.Machine.Rebuilt.{become, becoming, each_lowers_to, rebuilt_expr}

-- ---- arms, fields and numbers

abbrev pub arm_lowers_to : Arm → ArmLowering
arm_lowers_to a = record { patterns = map lower_pattern_of_text (out-Arm a).patterns; value = lower_expression (out-Arm a).value }

arm_opened : (a : Arm) → (fold_arm become becoming a).1 ≡ arm_lowers_to a
arm_opened a =
    ap (λ p. p.1) (out_arm a)
    ∙ (λ i. record { patterns = map-map (λ p. p.1) (fold_pattern become becoming) (out-Arm a).patterns i; value = lower_expression (out-Arm a).value })

abbrev pub field_lowers_to : FieldValue → FieldLowering
field_lowers_to f = (fold_field become becoming f).1

abbrev pub field_value_lowers_to : List ℕ → Option Expr → ExprLowering
field_value_lowers_to name None = lower_name name
field_value_lowers_to name (Some e) = lower_expression e

abbrev pub field_by_parts : FieldValue → FieldLowering
field_by_parts f = record { name = (out-FieldValue f).name.name; value = field_value_lowers_to (out-FieldValue f).name.name (out-FieldValue f).value }

field_layer : (x : FieldValueLevel trees) → lower_field_part (map_field trees become each_lowers_to x) ≡ record { name = x.name.name; value = field_value_lowers_to x.name.name x.value }
field_layer x = by x.value
  where
    by : (o : Option Expr) → lower_field_part (map_field trees become each_lowers_to (record { name = x.name; value = o })) ≡ record { name = x.name.name; value = field_value_lowers_to x.name.name o }
    by None = refl
    by (Some e) = refl

pub field_opened : (f : FieldValue) → field_lowers_to f ≡ field_by_parts f
field_opened f = ap (λ p. p.1) (out_field f) ∙ field_layer (out-FieldValue f)

number_layer : (x : NumberLevel trees) (scope : CoreScope)
    → number_meaning (map_number trees become each_lowers_to x) scope ≡ and_then (and_then x.ty (λ t. lower_type_of_text t scope)) (λ t. number_value t (record { is_negative = x.is_negative; value = x.value }))
number_layer x scope = by x.ty
  where
    by : (o : Option TypeExpr) → number_meaning (map_number trees become each_lowers_to (record { ty = o; is_negative = x.is_negative; value = x.value })) scope
        ≡ and_then (and_then o (λ t. lower_type_of_text t scope)) (λ t. number_value t (record { is_negative = x.is_negative; value = x.value }))
    by None = refl
    by (Some t) = refl

number_opened : (n : Number) (scope : CoreScope) → (fold_number become becoming n).1 scope ≡ number_at scope n
number_opened n scope = ap (λ p. p.1 scope) (out_number n) ∙ number_layer (out-Number n) scope

abbrev pub loop_lowers_to : For → ExprLowering
loop_lowers_to f scope =
    lower_loop (lower_expression (out-For f).start scope) (lower_expression (out-For f).from scope) (and_then (constant_at scope (out-For f).from) bits_of) (and_then (constant_at scope (out-For f).to) bits_of)
    (lower_pattern_of_text (out-For f).index) (lower_pattern_of_text (out-For f).accumulator) (lower_block_of_text (out-For f).body) scope

loop_opened : (f : For) (scope : CoreScope) → (fold_loop become becoming f).1 scope ≡ loop_lowers_to f scope
loop_opened f scope =
    ap (λ p. p.1 scope) (out_loop f)
    ∙ (λ i. lower_loop (lower_expression (out-For f).start scope) (lower_expression (out-For f).from scope)
    (and_then (constant_at scope (rebuilt_expr (out-For f).from i)) bits_of) (and_then (constant_at scope (rebuilt_expr (out-For f).to i)) bits_of)
    (lower_pattern_of_text (out-For f).index) (lower_pattern_of_text (out-For f).accumulator) (lower_block_of_text (out-For f).body) scope)

arg_opened : (a : Arg) → (fold_arg become becoming a).1 ≡ (out-Arg a).value
arg_opened a = ap (λ p. p.1) (out_arg a) ∙ rebuilt_expr (out-Arg a).value

-- ---- expressions

-- an element of an array, which may be a number without a type
abbrev pub element_pair : CoreScope → Expr → Option UntypedLiteral × Option LoweredExpr
element_pair scope e = ((denotation e).bare, lower_expression e scope)

abbrev pub all_become : CoreScope → List Expr → List (Option LoweredExpr)
all_become scope es = map (λ e. lower_expression e scope) es

abbrev pub array_type_at : CoreScope → Option TypeExpr → Option (Option DslxType)
array_type_at scope None = None
array_type_at scope (Some t) = Some (lower_type_of_text t scope)

abbrev pub node_lowers_to : NodeLayer → ExprLowering
node_lowers_to (Node-F.Node::Number n) scope = and_then (number_at scope n) literal
node_lowers_to (Node-F.Node::Bool b) scope = literal (bool_value b)
node_lowers_to (Node-F.Node::Array t es dots) scope = lower_array scope.count (array_type_at scope t) (map (element_pair scope) es) dots
node_lowers_to (Node-F.Node::Name name) scope = lower_name name scope
node_lowers_to (Node-F.Node::Member e a) scope = and_then (scope.known.items.member e.name a.name) literal
node_lowers_to (Node-F.Call f parametric_args es) scope = lower_call (kind_of_call f.name) f.name scope (parametric_args_at scope parametric_args) (all_become scope es)
node_lowers_to (Node-F.Node::Tuple es) scope = lower_tuple (all_become scope es)
node_lowers_to (Node-F.Struct s fields rest) scope = and_then (scope.known.items.struct_named s.name) (λ t. lower_struct_in scope (map field_lowers_to fields) (option_map lower_expression rest) (out-DslxType t))
node_lowers_to (Node-F.Block b) scope = lower_block_of_text b scope
node_lowers_to (Node-F.If c a b) scope = lower_choice (lower_expression c scope) (lower_block_of_text a scope) (lower_expression b scope)
node_lowers_to (Node-F.Match e arms) scope = lower_match (lower_expression e scope) (map arm_lowers_to arms) scope
node_lowers_to (Node-F.For f) scope = loop_lowers_to f scope
node_lowers_to (Node-F.Index e i) scope = lower_index (lower_expression e scope) (lower_expression i scope)
node_lowers_to (Node-F.Slice e a b) scope = lower_slice (lower_expression e scope) (bound_at scope a) (bound_at scope b)
node_lowers_to (Node-F.Part e i t) scope = lower_part (lower_expression e scope) (lower_expression i scope) (lower_type_of_text t scope)
node_lowers_to (Node-F.Field e name) scope = lower_field (lower_expression e scope) name.name
node_lowers_to (Node-F.Element e span k) scope = lower_element (lower_expression e scope) k
node_lowers_to (Node-F.Prefix o e) scope = lower_prefix o (lower_expression e scope)
node_lowers_to (Node-F.Cast e t) scope = lower_cast (lower_expression e scope) (lower_type_of_text t scope)
node_lowers_to (Node-F.Binary o l r) scope = lower_binary o (lower_expression l scope) (lower_expression r scope)

elements_opened : (scope : CoreScope) (es : List Expr) → map (λ (e : Expr × ExprLowering). ((denotation e.0).bare, e.1 scope)) (map (fold_expr become becoming) es) ≡ map (element_pair scope) es
elements_opened scope es =
    map-map (λ (e : Expr × ExprLowering). ((denotation e.0).bare, e.1 scope)) (fold_expr become becoming) es
    ∙ (λ i. map (λ e. ((denotation (rebuilt_expr e i)).bare, lower_expression e scope)) es)

parametric_args_opened : (scope : CoreScope) (parametric_args : List Arg) → map (λ (a : Arg × Expr). constant_at scope a.1) (map (fold_arg become becoming) parametric_args) ≡ parametric_args_at scope parametric_args
parametric_args_opened scope parametric_args =
    map-map (λ (a : Arg × Expr). constant_at scope a.1) (fold_arg become becoming) parametric_args ∙ (λ i. map (λ a. constant_at scope (arg_opened a i)) parametric_args)

node_layer : (x : NodeLayer) (scope : CoreScope) → lower_node (map_node trees become each_lowers_to x) scope ≡ node_lowers_to x scope
node_layer (Node-F.Node::Number n) scope = ap (λ o. and_then o literal) (number_opened n scope)
node_layer (Node-F.Node::Bool b) scope = refl
node_layer (Node-F.Node::Array None es dots) scope = ap (λ ps. lower_array scope.count None ps dots) (elements_opened scope es)
node_layer (Node-F.Node::Array (Some t) es dots) scope = ap (λ ps. lower_array scope.count (Some (lower_type_of_text t scope)) ps dots) (elements_opened scope es)
node_layer (Node-F.Node::Name name) scope = refl
node_layer (Node-F.Node::Member e a) scope = refl
node_layer (Node-F.Call f parametric_args es) scope =
    λ i. lower_call (kind_of_call f.name) f.name scope (parametric_args_opened scope parametric_args i) (map-map (λ (e : Expr × ExprLowering). e.1 scope) (fold_expr become becoming) es i)
node_layer (Node-F.Node::Tuple es) scope = ap lower_tuple (map-map (λ (e : Expr × ExprLowering). e.1 scope) (fold_expr become becoming) es)
node_layer (Node-F.Struct s fields None) scope =
    λ i. and_then (scope.known.items.struct_named s.name) (λ t. lower_struct_in scope (map-map (λ f. f.1) (fold_field become becoming) fields i) None (out-DslxType t))
node_layer (Node-F.Struct s fields (Some e)) scope =
    λ i. and_then (scope.known.items.struct_named s.name) (λ t. lower_struct_in scope (map-map (λ f. f.1) (fold_field become becoming) fields i) (Some (lower_expression e)) (out-DslxType t))
node_layer (Node-F.Block b) scope = refl
node_layer (Node-F.If c a b) scope = refl
node_layer (Node-F.Match e arms) scope =
    ap (λ arms. lower_match (lower_expression e scope) arms scope) (map-map (λ a. a.1) (fold_arm become becoming) arms ∙ (λ i. map (λ a. arm_opened a i) arms))
node_layer (Node-F.For f) scope = loop_opened f scope
node_layer (Node-F.Index e i) scope = refl
node_layer (Node-F.Slice e a b) scope = λ i. lower_slice (lower_expression e scope) (bound_at scope (rebuilt_expr a i)) (bound_at scope (rebuilt_expr b i))
node_layer (Node-F.Part e i t) scope = refl
node_layer (Node-F.Field e name) scope = refl
node_layer (Node-F.Element e span k) scope = refl
node_layer (Node-F.Prefix o e) scope = refl
node_layer (Node-F.Cast e t) scope = refl
node_layer (Node-F.Binary o l r) scope = refl

pub expression_opened : (e : Expr) (scope : CoreScope) → lower_expression e scope ≡ node_lowers_to (node_of e) scope
expression_opened e scope = ap (λ p. p.1 scope) (out_expr e) ∙ ap (λ p. p.1 scope) (out_node (out-Expr e).node) ∙ node_layer (node_of e) scope

-- ---- blocks

abbrev pub stmt_lowers_to : Stmt → ExprLowering → ExprLowering
stmt_lowers_to s = (fold_stmt become becoming s).1

abbrev pub last_lowers_to : Option Expr → ExprLowering
last_lowers_to None = lower_last_value None
last_lowers_to (Some e) = lower_expression e

abbrev pub statements_become : List Stmt → Option Expr → ExprLowering
statements_become ss last = lower_statements (map stmt_lowers_to ss) (last_lowers_to last)

block_layer : (x : BlockLevel trees) (scope : CoreScope) → lower_block (map_block trees become each_lowers_to x) scope ≡ statements_become x.statements x.value scope
block_layer x scope = by x.value
  where
    by : (o : Option Expr) → lower_block (map_block trees become each_lowers_to (record { span = x.span; statements = x.statements; value = o })) scope ≡ statements_become x.statements o scope
    by None = ap (λ ss. lower_statements ss (last_lowers_to None) scope) (map-map (λ s. s.1) (fold_stmt become becoming) x.statements)
    by (Some e) = ap (λ ss. lower_statements ss (last_lowers_to (Some e)) scope) (map-map (λ s. s.1) (fold_stmt become becoming) x.statements)

pub block_opened : (b : Block) (scope : CoreScope) → lower_block_of_text b scope ≡ statements_become (out-Block b).statements (out-Block b).value scope
block_opened b scope = ap (λ p. p.1 scope) (out_block b) ∙ block_layer (out-Block b) scope

abbrev pub stmt_layer_lowers_to : StmtLayer → ExprLowering → ExprLowering
stmt_layer_lowers_to (Stmt-F.Let l) = lower_let (lower_expression (out-Let l).value) (lower_pattern_of_text (out-Let l).pattern)
stmt_layer_lowers_to (Stmt-F.Bare e) = λ rest. rest

stmt_layer : (x : StmtLayer) → lower_stmt (map_stmt trees become each_lowers_to x) ≡ stmt_layer_lowers_to x
stmt_layer (Stmt-F.Let l) = ap (λ p. p.1) (out_bind l)
stmt_layer (Stmt-F.Bare e) = refl

pub stmt_opened : (s : Stmt) → stmt_lowers_to s ≡ stmt_layer_lowers_to (out-Stmt s)
stmt_opened s = ap (λ p. p.1) (out_stmt s) ∙ stmt_layer (out-Stmt s)
