-- The induction on all sorts of parts of a tree: each part means the same as what it becomes.
use Rattle.std.proofs.Common.{◌≡◌, List, [], ◌∷◌, map, Option, Some, None, refl, sym, ap, subst, ◌∙◌}
use Rattle.dslx_tree.specs.declared.block.Block.{Block}
use Rattle.dslx_tree.specs.declared.block.Stmt.{Stmt}
use Rattle.dslx_tree.specs.declared.block.Stmt.TheOpen.{Stmt-F, Node-F, Shape-F, TypeNode-F}
use Rattle.dslx_tree.specs.declared.expr.Arg.{Arg}
use Rattle.dslx_tree.specs.declared.expr.Arm.{Arm}
use Rattle.dslx_tree.specs.declared.expr.Expr.{Expr}
use Rattle.dslx_tree.specs.declared.expr.FieldValue.{FieldValue}
use Rattle.dslx_tree.specs.declared.pattern.Pattern.{Pattern}
use Rattle.dslx_tree.specs.declared.type_expr.TypeExpr.{TypeExpr}
use Rattle.dslx_tree.proofs.Lemmas.Folds.Levels.{Carriers, StmtLevel, NodeLevel, ShapeLevel, TypeNodeLevel, BlockLevel, LetLevel, ArmLevel, FieldValueLevel, ForLevel, NumberLevel, map_stmt, map_node, map_shape, map_type_node, map_block, map_bind, map_arm, map_field, map_loop, map_number}
use Rattle.dslx_tree.proofs.Lemmas.Folds.Related.{both, firsts, seconds, KeepRelated, related_expr, related_block, related_pattern, related_type_expr}
use Rattle.dslx_meaning.specs.Callees.{kind_of_call}
use Rattle.dslx_meaning.specs.Lists.{all_some, and_then, where_true}
use Rattle.dslx_meaning.specs.Values.{bits_of, bool_value, plain_value, type_of_value}
use Rattle.dslx_meaning.specs.Operators.{number_value}
use Rattle.dslx_meaning.specs.Environment.{Given, Env}
use Rattle.dslx_meaning.specs.Meaning.{ValueDen, StmtDen, ExprDen, array_at, bound_of, element_den, filled, fit_value, last_den, denotation, pattern_denotation, rest_of, statements_den, value_of, value_of_block, written_type}
use Rattle.dslx_meaning.specs.declared.ty.DslxType.{DslxType, out-DslxType}
use Rattle.dslx_meaning.specs.declared.ty.DslxType as ty
use Rattle.dslx_meaning.specs.declared.value.UntypedLiteral.{UntypedLiteral}
use Rattle.dslx_meaning.specs.declared.value.DslxValue.{DslxValue}
use Rattle.dslx_meaning.specs.declared.value.SignedWord.{SignedWord}
use Rattle.dslx_core.proofs.Lemmas.Typing.Typed.{none_some, same_some}
use Rattle.dslx_core.specs.CoreValues.{Bindings, Functions, taken_apart}
use Rattle.dslx_core.specs.declared.expr.Shape as shape
use Rattle.dslx_core.specs.Lowering.CoreScopes.{CoreScope, constant_at}
use Rattle.dslx_core.specs.Lowering.EqualTypes.{equal_type}
use Rattle.dslx_core.specs.Lowering.Lowering.{LoweredExpr, literal}
use Rattle.dslx_core.specs.Lowering.Patterns.{ExprLowering, ArmLowering, shaped, value_shape}
use Rattle.dslx_core.specs.Lowering.Trees.{LoweredPair, FieldLowering, TypeLowering, lower_all, lower_block_of_text, lower_expression, lower_last_value, second_parts, lower_statements, lower_type_of_text}
use Rattle.dslx_core.specs.Lowering.Steps.{lower_pattern_of_text}
use Rattle.dslx_core.specs.Lowering.Correspondence.{FitLowerPreserves, IsOwn, KeepsValue, LowerPreserves, PatternLowerPreserves, SimulatesInScope, TypeLowerPreserves, env_at}
use Rattle.dslx_core.proofs.OnLowering.Kept.{from_then}
use Rattle.dslx_core.proofs.OnLowering.Lists.{EachGivesSame, EachKeeps}
use Rattle.dslx_core.proofs.OnLowering.Links.{Claims, become, becoming, claimed, meaning, meanings, link_stmt, link_node, link_shape, link_type_node, link_block, link_bind, link_arg, link_arm, link_expr, link_field, link_loop, link_number, link_pattern, link_type_expr}
use Rattle.dslx_core.proofs.OnLowering.OfAggregates.{EachFieldMeans, FieldLowerPreserves, element_by, mean_elements, struct_keeps, typed_keeps, untyped_keeps}
use Rattle.dslx_core.proofs.OnLowering.OfBinary.{binary_keeps}
use Rattle.dslx_core.proofs.OnLowering.OfCalls.{call_keeps}
use Rattle.dslx_core.proofs.OnLowering.OfCasts.{bits_part_keeps, cast_keeps, slice_keeps}
use Rattle.dslx_core.proofs.OnLowering.OfControl.{bare_keeps, choice_keeps, let_keeps, loop_keeps, unit_keeps}
use Rattle.dslx_core.proofs.OnLowering.OfMatch.{ArmLowerPreserves, EachArmMeans, match_keeps}
use Rattle.dslx_core.proofs.OnLowering.OfNames.{bool_keeps, bool_own, globals_keep, literal_keeps, name_keeps, number_own}
use Rattle.dslx_core.proofs.OnLowering.OfParts.{element_keeps, field_keeps, index_keeps, tuple_keeps}
use Rattle.dslx_core.proofs.OnLowering.OfPatterns.{EachPatternMeans, PartFits, each_name, name_bare, name_fits, one_value_bare, one_value_fits, tuple_bare, tuple_fits, wild_bare, wild_fits}
use Rattle.dslx_core.proofs.OnLowering.OfTypes.{EachTypeLowerPreserves, array_means, tuple_means, wide_means}
use Rattle.dslx_core.proofs.OnLowering.Operations.{prefix_keeps}
use Rattle.dslx_core.proofs.OnLowering.Slots.{bound_means, constant_means}

-- ---- what is to hold of each sort

-- a statement, before whatever the rest of its block is
abbrev pub StatementMeans : (ExprLowering → ExprLowering) → StmtDen → Type 0
StatementMeans s g = (rest : ExprLowering) (r : ValueDen) → LowerPreserves rest r → LowerPreserves (s rest) (g r)

abbrev pub NumberMeans : (CoreScope → Option DslxValue) → ExprDen → Type 0
NumberMeans l x = (scope : CoreScope) (calls : Functions) (given : List Given) (bound : Bindings) → SimulatesInScope scope calls given bound → (v : DslxValue) → l scope ≡ Some v
    → (x.value (env_at scope given) ≡ Some v) × IsOwn v

abbrev pub same : Claims
same = record {
  stmt = StatementMeans;
  node = λ l x. LowerPreserves l x.value;
  shape = PatternLowerPreserves;
  type_node = TypeLowerPreserves;
  block = LowerPreserves;
  bind = StatementMeans;
  arg = λ e x. denotation e ≡ x;
  arm = ArmLowerPreserves;
  expr = λ l x. LowerPreserves l x.value;
  field = FieldLowerPreserves;
  loop = LowerPreserves;
  number = NumberMeans;
  pattern = PatternLowerPreserves;
  type_expr = TypeLowerPreserves;
}

abbrev Parts : Carriers
Parts = both become meanings (claimed same)

abbrev ExprPart : Type 0
ExprPart = Parts.expr

abbrev ArgPart : Type 0
ArgPart = Parts.arg

abbrev FieldPart : Type 0
FieldPart = Parts.field

abbrev ArmPart : Type 0
ArmPart = Parts.arm

abbrev PatternPart : Type 0
PatternPart = Parts.pattern

abbrev TypePart : Type 0
TypePart = Parts.type_expr

abbrev StmtPart : Type 0
StmtPart = Parts.stmt

abbrev lower_node_of : NodeLevel Parts → ExprLowering
lower_node_of x = (becoming.node (map_node Parts become (firsts become meanings (claimed same)) x)).1

abbrev den_of_node : NodeLevel Parts → ExprDen
den_of_node x = meaning.node (map_node Parts meanings (seconds become meanings (claimed same)) x)

-- ---- lists of parts

abbrev pairs_of : List ExprPart → List LoweredPair
pairs_of ps = map (λ (p : ExprPart). p.0) ps

abbrev den_of : List ExprPart → List ExprDen
den_of ps = map (λ (p : ExprPart). p.1) ps

abbrev values_at : List ExprPart → Env → List (Option DslxValue)
values_at ps env = map (λ (m : ExprDen). m.value env) (den_of ps)

each_expr : (ps : List ExprPart) (scope : CoreScope) (calls : Functions) (given : List Given) (bound : Bindings) → SimulatesInScope scope calls given bound
    → EachKeeps calls bound (lower_all scope (pairs_of ps)) (values_at ps (env_at scope given))
each_expr [] scope calls given bound at = tt
each_expr (p ∷ ps) scope calls given bound at = (p.2.1 scope calls given bound at, each_expr ps scope calls given bound at)

-- elements, which may be numbers without a type
abbrev elements_at : List ExprPart → CoreScope → List (Option UntypedLiteral × Option LoweredExpr)
elements_at ps scope = map (λ (e : LoweredPair). ((denotation e.0).bare, e.1 scope)) (pairs_of ps)

each_element : (ps : List ExprPart) (scope : CoreScope) (calls : Functions) (given : List Given) (bound : Bindings) → SimulatesInScope scope calls given bound
    → EachKeeps calls bound (map (λ (e : Option UntypedLiteral × Option LoweredExpr). e.1) (elements_at ps scope)) (values_at ps (env_at scope given))
each_element [] scope calls given bound at = tt
each_element (p ∷ ps) scope calls given bound at = (p.2.1 scope calls given bound at, each_element ps scope calls given bound at)

element_is : (t : DslxType) (env : Env) (m : ExprDen) → element_den t env m ≡ element_by t m.bare (m.value env)
element_is t env m = by m.bare
  where
    by : (b : Option UntypedLiteral) → (elim b as (λ x. Option DslxValue) [ None ↦ m.value env | Some number ↦ number_value t number ]) ≡ element_by t b (m.value env)
    by None = refl
    by (Some number) = refl

elements_are : (ps : List ExprPart) (scope : CoreScope) (env : Env) (t : DslxType) → map (element_den t env) (den_of ps) ≡ mean_elements t (elements_at ps scope) (values_at ps env)
elements_are [] scope env t = refl
elements_are (p ∷ ps) scope env t =
    λ i. (element_is t env p.1 ∙ ap (λ (m : ExprDen). element_by t m.bare (p.1.value env)) (sym p.2.0)) i ∷ elements_are ps scope env t i

each_number : (ps : List ArgPart) (scope : CoreScope) (calls : Functions) (given : List Given) (bound : Bindings) → SimulatesInScope scope calls given bound
    → EachGivesSame (map (λ (a : Arg × Expr). constant_at scope a.1) (map (λ (p : ArgPart). p.0) ps)) (map (λ (m : ExprDen). m.value (env_at scope given)) (map (λ (p : ArgPart). p.1) ps))
each_number [] scope calls given bound at = tt
each_number (p ∷ ps) scope calls given bound at =
    (λ v k. sym (ap (λ (m : ExprDen). m.value (env_at scope given)) p.2.1) ∙ constant_means scope calls given bound at p.0.1 v k, each_number ps scope calls given bound at)

each_field : (ps : List FieldPart) → EachFieldMeans (map (λ (f : FieldValue × FieldLowering). f.1) (map (λ (p : FieldPart). p.0) ps)) (map (λ (p : FieldPart). p.1) ps)
each_field [] = tt
each_field (p ∷ ps) = (p.2.1, each_field ps)

each_arm : (ps : List ArmPart) → EachArmMeans (map (λ (a : Arm × ArmLowering). a.1) (map (λ (p : ArmPart). p.0) ps)) (map (λ (p : ArmPart). p.1) ps)
each_arm [] = tt
each_arm (p ∷ ps) = (p.2.1, each_arm ps)

each_pattern : (ps : List PatternPart) → EachPatternMeans (second_parts (map (λ (p : PatternPart). p.0) ps)) (map (λ (p : PatternPart). p.1) ps)
each_pattern [] = tt
each_pattern (p ∷ ps) = (p.2.1, each_pattern ps)

each_type : (ps : List TypePart) → EachTypeLowerPreserves (map (λ (t : TypeExpr × TypeLowering). t.1) (map (λ (p : TypePart). p.0) ps)) (map (λ (p : TypePart). p.1) ps)
each_type [] = tt
each_type (p ∷ ps) = (p.2.1, each_type ps)

-- ---- expressions

-- what is there in both
through : {A : Type 0} (calls : Functions) (bound : Bindings) (o : Option A) (f : A → Option LoweredExpr) (g : A → Option DslxValue) → ((a : A) → KeepsValue calls bound (f a) (g a))
    → KeepsValue calls bound (and_then o f) (and_then o g)
through calls bound None f g h e k v q = none_some e k
through calls bound (Some a) f g h e k v q = h a e k v q

number_keeps : (l : CoreScope → Option DslxValue) (x : ExprDen) → NumberMeans l x → LowerPreserves (λ scope. and_then (l scope) literal) x.value
number_keeps l x means scope calls given bound at e k v g =
    let w = from_then (l scope) literal e k in
    let is = means scope calls given bound at w.0 w.1 in
    literal_keeps calls bound w.0 is.1 e w.2 v (sym is.0 ∙ g)

node_means : (x : NodeLevel Parts) → LowerPreserves (lower_node_of x) (den_of_node x).value
node_means (Node-F.Node::Number n) scope calls given bound at = number_keeps n.0.1 n.1 n.2.1 scope calls given bound at
node_means (Node-F.Node::Bool bit) scope calls given bound at = bool_keeps calls bound bit
node_means (Node-F.Node::Array None es dots) scope calls given bound at =
    untyped_keeps calls bound (elements_at es scope) (values_at es (env_at scope given)) dots (each_element es scope calls given bound at) scope.count
node_means (Node-F.Node::Array (Some t) es dots) scope calls given bound at =
    typed_keeps calls bound (t.0.1 scope) (t.1 (env_at scope given)) (t.2.1 scope calls given bound at) (elements_at es scope) (values_at es (env_at scope given)) dots
    (array_at (env_at scope given) (den_of es) dots) (λ t n. ap (λ os. and_then (all_some os) (filled dots n)) (elements_are es scope (env_at scope given) t)) (each_element es scope calls given bound at) scope.count at.count
node_means (Node-F.Node::Name name) scope calls given bound at = name_keeps scope calls given bound at name
node_means (Node-F.Node::Member e a) scope calls given bound at = globals_keep calls bound (scope.known.items.member e.name a.name) (λ v q. at.known.members e.name a.name v q)
node_means (Node-F.Call f parametric_args es) scope calls given bound at =
    call_keeps scope calls given bound at (kind_of_call f.name) f.name (map (λ (a : Arg × Expr). constant_at scope a.1) (map (λ (p : ArgPart). p.0) parametric_args))
    (map (λ (m : ExprDen). m.value (env_at scope given)) (map (λ (p : ArgPart). p.1) parametric_args)) (lower_all scope (pairs_of es)) (values_at es (env_at scope given)) (each_number parametric_args scope calls given bound at)
    (each_expr es scope calls given bound at)
node_means (Node-F.Node::Tuple es) scope calls given bound at = tuple_keeps calls bound (lower_all scope (pairs_of es)) (values_at es (env_at scope given)) (each_expr es scope calls given bound at)
node_means (Node-F.Struct name fields None) scope calls given bound at =
    through calls bound (scope.known.items.struct_named name.name) _ _
    (λ t. struct_keeps scope calls given bound at (map (λ (f : FieldValue × FieldLowering). f.1) (map (λ (p : FieldPart). p.0) fields)) (map (λ (p : FieldPart). p.1) fields) (each_field fields) None (rest_of None) tt (out-DslxType t))
node_means (Node-F.Struct name fields (Some rest)) scope calls given bound at =
    through calls bound (scope.known.items.struct_named name.name) _ _
    (λ t. struct_keeps scope calls given bound at (map (λ (f : FieldValue × FieldLowering). f.1) (map (λ (p : FieldPart). p.0) fields)) (map (λ (p : FieldPart). p.1) fields) (each_field fields)
    (Some rest.0.1) (rest_of (Some rest.1)) rest.2.1 (out-DslxType t))
node_means (Node-F.Block block) scope calls given bound at = block.2.1 scope calls given bound at
node_means (Node-F.If test taken other) scope calls given bound at =
    choice_keeps calls bound (test.0.1 scope) (taken.0.1 scope) (other.0.1 scope) (test.1.value (env_at scope given)) (taken.1 (env_at scope given)) (other.1.value (env_at scope given))
    (test.2.1 scope calls given bound at) (taken.2.1 scope calls given bound at) (other.2.1 scope calls given bound at)
node_means (Node-F.Match e arms) scope calls given bound at =
    match_keeps scope calls given bound at (e.0.1 scope) (e.1.value (env_at scope given)) (e.2.1 scope calls given bound at) (map (λ (a : Arm × ArmLowering). a.1) (map (λ (p : ArmPart). p.0) arms)) (map (λ (p : ArmPart). p.1) arms)
    (each_arm arms)
node_means (Node-F.For loop) scope calls given bound at = loop.2.1 scope calls given bound at
node_means (Node-F.Index e i) scope calls given bound at =
    index_keeps calls bound (e.0.1 scope) (i.0.1 scope) (e.1.value (env_at scope given)) (i.1.value (env_at scope given)) (e.2.1 scope calls given bound at) (i.2.1 scope calls given bound at)
node_means (Node-F.Slice e low high) scope calls given bound at =
    slice_keeps calls bound (e.0.1 scope) (e.1.value (env_at scope given)) _ _ _ _ (λ k q. ap (λ m. bound_of m (env_at scope given)) (sym low.2.0) ∙ bound_means scope calls given bound at low.0.0 k q)
    (λ k q. ap (λ m. bound_of m (env_at scope given)) (sym high.2.0) ∙ bound_means scope calls given bound at high.0.0 k q) (e.2.1 scope calls given bound at)
node_means (Node-F.Part e start t) scope calls given bound at =
    bits_part_keeps calls bound (e.0.1 scope) (start.0.1 scope) (e.1.value (env_at scope given)) (start.1.value (env_at scope given)) (t.0.1 scope) (t.1 (env_at scope given)) (t.2.1 scope calls given bound at)
    (e.2.1 scope calls given bound at) (start.2.1 scope calls given bound at)
node_means (Node-F.Field e name) scope calls given bound at = field_keeps calls bound (e.0.1 scope) (e.1.value (env_at scope given)) name.name (e.2.1 scope calls given bound at)
node_means (Node-F.Element e span k) scope calls given bound at = element_keeps calls bound (e.0.1 scope) (e.1.value (env_at scope given)) k (e.2.1 scope calls given bound at)
node_means (Node-F.Prefix o e) scope calls given bound at = prefix_keeps calls bound o (e.0.1 scope) (e.1.value (env_at scope given)) (e.2.1 scope calls given bound at)
node_means (Node-F.Cast e t) scope calls given bound at =
    cast_keeps calls bound (e.0.1 scope) (e.1.value (env_at scope given)) (t.0.1 scope) (t.1 (env_at scope given)) (t.2.1 scope calls given bound at) (e.2.1 scope calls given bound at)
node_means (Node-F.Binary o l r) scope calls given bound at =
    binary_keeps calls bound o (l.0.1 scope) (r.0.1 scope) (l.1.value (env_at scope given)) (r.1.value (env_at scope given)) (l.2.1 scope calls given bound at) (r.2.1 scope calls given bound at)

-- ---- types and patterns

type_means : (x : TypeNodeLevel Parts) → TypeLowerPreserves (becoming.type_node (map_type_node Parts become (firsts become meanings (claimed same)) x)).1 (meaning.type_node (map_type_node Parts meanings (seconds become meanings (claimed same)) x))
type_means (TypeNode-F.Bits s w) scope calls given bound at t k = k
type_means (TypeNode-F.Wide s e) scope calls given bound at t k = wide_means s e.0.0 e.1 e.2.0 scope calls given bound at t k
type_means TypeNode-F.TypeNode::Bool scope calls given bound at t k = k
type_means (TypeNode-F.TypeNode::Name name) scope calls given bound at t k = k
type_means (TypeNode-F.TypeNode::Tuple ts) scope calls given bound at t k =
    tuple_means (map (λ (t : TypeExpr × TypeLowering). t.1) (map (λ (p : TypePart). p.0) ts)) (map (λ (p : TypePart). p.1) ts) (each_type ts) scope calls given bound at t (ap (λ os. and_then (all_some os) (λ ts. Some (ty.Tuple ts))) (sym (map_twice ts scope)) ∙ k)
  where
    map_twice : (ts : List TypePart) (scope : CoreScope) → map (λ (t : TypeExpr × TypeLowering). t.1 scope) (map (λ (p : TypePart). p.0) ts) ≡ map (λ (l : TypeLowering). l scope) (map (λ (t : TypeExpr × TypeLowering). t.1) (map (λ (p : TypePart). p.0) ts))
    map_twice [] scope = refl
    map_twice (t ∷ ts) scope = ap (λ os. t.0.1 scope ∷ os) (map_twice ts scope)
type_means (TypeNode-F.TypeNode::Array t e) scope calls given bound at u k = array_means t.0.1 t.1 e.0.0 e.1 t.2.1 e.2.0 scope calls given bound at u k

-- a number as a pattern
number_fits : (l : CoreScope → Option DslxValue) (x : ExprDen) → NumberMeans l x → PartFits (λ outer scope t. value_shape (l outer) scope t) (λ outer v env. fit_value (x.value outer) v env)
number_fits l x means outer scope t s e calls around others out given bound at v of =
    let w = from_then (l outer) (λ v. where_true (equal_type t (type_of_value v)) (shaped (shape.Equal (plain_value v)) scope)) s e in
    let is = means outer calls around others out w.0 w.1 in
    subst (λ o. FitLowerPreserves s.scope calls (fit_value o v (env_at scope given)) (taken_apart s.shape (plain_value v) bound)) (w.1 ∙ sym is.0)
    (one_value_fits (l outer) scope t s e (λ y q. subst IsOwn (same_some w.0 y (sym w.1 ∙ q)) is.1) calls given bound at v of)

shape_means : (x : ShapeLevel Parts) → PatternLowerPreserves (becoming.shape (map_shape Parts become (firsts become meanings (claimed same)) x)).1 (meaning.shape (map_shape Parts meanings (seconds become meanings (claimed same)) x))
shape_means Shape-F.Wild = record { names = refl; fits = λ outer scope t s e calls around others out. wild_fits scope t s e calls; bare = wild_bare [] }
shape_means (Shape-F.Shape::Bool b) = record {
  names = refl;
  fits = λ outer scope t s e calls around others out given bound at v of. one_value_fits (Some (bool_value b)) scope t s e (λ x q. subst IsOwn (same_some (bool_value b) x q) (bool_own b)) calls given bound at v of;
  bare = λ outer scope t s e all. one_value_bare (Some (bool_value b)) scope t s e;
}
shape_means (Shape-F.Shape::Number n) = record {
  names = refl;
  fits = number_fits n.0.1 n.1 n.2.1;
  bare = λ outer scope t s e all. one_value_bare (n.0.1 outer) scope t s e;
}
shape_means (Shape-F.Shape::Name name) = record { names = refl; fits = λ outer scope t s e calls around others out. name_fits name scope t s e calls; bare = name_bare name }
shape_means (Shape-F.Shape::Member e a) = record {
  names = refl;
  fits = λ outer scope t s k calls around others out given bound at v of. one_value_fits (scope.known.items.member e.name a.name) scope t s k (λ x q. at.known.members e.name a.name x q) calls given bound at v of;
  bare = λ outer scope t s k all. one_value_bare (scope.known.items.member e.name a.name) scope t s k;
}
shape_means (Shape-F.Shape::Tuple ps) =
    let ls = second_parts (map (λ (p : PatternPart). p.0) ps) in
    let ms = map (λ (p : PatternPart). p.1) ps in
    record { names = each_name ls ms (each_pattern ps); fits = tuple_fits ls ms (each_pattern ps); bare = tuple_bare ls ms (each_pattern ps) }

arm_means : (x : ArmLevel Parts) → ArmLowerPreserves (becoming.arm (map_arm Parts become (firsts become meanings (claimed same)) x)).1 (meaning.arm (map_arm Parts meanings (seconds become meanings (claimed same)) x))
arm_means x = record { patterns = each_pattern x.patterns; value = x.value.2.1 }

-- ---- statements and blocks

bind_means : (x : LetLevel Parts) → StatementMeans (becoming.bind (map_bind Parts become (firsts become meanings (claimed same)) x)).1 (meaning.bind (map_bind Parts meanings (seconds become meanings (claimed same)) x))
bind_means x rest r more = let_keeps x.value.0.1 x.value.1.value x.pattern.0.1 x.pattern.1 rest r x.value.2.1 x.pattern.2.1 more

stmt_means : (x : StmtLevel Parts) → StatementMeans (becoming.stmt (map_stmt Parts become (firsts become meanings (claimed same)) x)).1 (meaning.stmt (map_stmt Parts meanings (seconds become meanings (claimed same)) x))
stmt_means (Stmt-F.Let l) rest r more = l.2.1 rest r more
stmt_means (Stmt-F.Bare e) rest r more = bare_keeps e.1.value rest r more

statements_mean : (ps : List StmtPart) (last : ExprLowering) (r : ValueDen) → LowerPreserves last r
    → LowerPreserves (lower_statements (map (λ (s : Stmt × (ExprLowering → ExprLowering)). s.1) (map (λ (p : StmtPart). p.0) ps)) last) (statements_den (map (λ (p : StmtPart). p.1) ps) r)
statements_mean [] last r h = h
statements_mean (p ∷ ps) last r h = p.2.1 _ _ (statements_mean ps last r h)

block_means : (x : BlockLevel Parts) → LowerPreserves (becoming.block (map_block Parts become (firsts become meanings (claimed same)) x)).1 (meaning.block (map_block Parts meanings (seconds become meanings (claimed same)) x))
block_means x = by_value x.value
  where
    by_value : (o : Option ExprPart)
        → LowerPreserves (becoming.block (map_block Parts become (firsts become meanings (claimed same)) (record { span = x.span; statements = x.statements; value = o }))).1
        (meaning.block (map_block Parts meanings (seconds become meanings (claimed same)) (record { span = x.span; statements = x.statements; value = o })))
    by_value None = statements_mean x.statements (lower_last_value None) (last_den None) (λ scope calls given bound at. unit_keeps calls bound)
    by_value (Some e) = statements_mean x.statements (lower_last_value (Some e.0)) (last_den (Some e.1)) e.2.1

-- ---- loops, numbers and fields

loop_means : (x : ForLevel Parts) → LowerPreserves (becoming.loop (map_loop Parts become (firsts become meanings (claimed same)) x)).1 (meaning.loop (map_loop Parts meanings (seconds become meanings (claimed same)) x))
loop_means x scope calls given bound at =
    loop_keeps scope calls given bound at (x.start.0.1 scope) (x.from.0.1 scope) (x.start.1.value (env_at scope given)) (x.from.1.value (env_at scope given)) (x.to.1.value (env_at scope given))
    (and_then (constant_at scope x.from.0.0) bits_of) (and_then (constant_at scope x.to.0.0) bits_of) (bits_mean x.from) (bits_mean x.to) (x.start.2.1 scope calls given bound at) (x.from.2.1 scope calls given bound at)
    x.index.0.1 x.accumulator.0.1 x.index.1 x.accumulator.1 x.index.2.1 x.accumulator.2.1 x.body.0.1 x.body.1 x.body.2.1
  where
    bits_mean : (p : ExprPart) (w : SignedWord) → and_then (constant_at scope p.0.0) bits_of ≡ Some w → and_then (p.1.value (env_at scope given)) bits_of ≡ Some w
    bits_mean p w k =
        let v = from_then (constant_at scope p.0.0) bits_of w k in
        ap (λ o. and_then o bits_of) (sym (ap (λ (m : ExprDen). m.value (env_at scope given)) p.2.0) ∙ constant_means scope calls given bound at p.0.0 v.0 v.1) ∙ v.2

number_means : (x : NumberLevel Parts) → NumberMeans (becoming.number (map_number Parts become (firsts become meanings (claimed same)) x)).1 (meaning.number (map_number Parts meanings (seconds become meanings (claimed same)) x))
number_means x = by_type x.ty
  where
    by_type : (o : Option TypePart)
        → NumberMeans (becoming.number (map_number Parts become (firsts become meanings (claimed same)) (record { ty = o; is_negative = x.is_negative; value = x.value }))).1
        (meaning.number (map_number Parts meanings (seconds become meanings (claimed same)) (record { ty = o; is_negative = x.is_negative; value = x.value })))
    by_type None scope calls given bound at v k = none_some v k
    by_type (Some t) scope calls given bound at v k =
        let number : UntypedLiteral = record { is_negative = x.is_negative; value = x.value } in
        let u = from_then (t.0.1 scope) (λ t. number_value t number) v k in
        (ap (λ o. and_then o (λ t. number_value t number)) (t.2.1 scope calls given bound at u.0 u.1) ∙ u.2, number_own u.0 number v u.2)

field_means : (x : FieldValueLevel Parts) → FieldLowerPreserves (becoming.field (map_field Parts become (firsts become meanings (claimed same)) x)).1 (meaning.field (map_field Parts meanings (seconds become meanings (claimed same)) x))
field_means x = by_value x.value
  where
    by_value : (o : Option ExprPart)
        → FieldLowerPreserves (becoming.field (map_field Parts become (firsts become meanings (claimed same)) (record { name = x.name; value = o }))).1
        (meaning.field (map_field Parts meanings (seconds become meanings (claimed same)) (record { name = x.name; value = o })))
    by_value None = record { name = refl; value = λ scope calls given bound at. name_keeps scope calls given bound at x.name.name }
    by_value (Some e) = record { name = refl; value = e.2.1 }

-- ---- the whole

pub all_keep : KeepRelated become meanings (claimed same) becoming meaning
all_keep = record {
  stmt = λ x. (link_stmt same x, stmt_means x);
  node = λ x. (link_node same x, node_means x);
  shape = λ x. (link_shape same x, shape_means x);
  type_node = λ x. (link_type_node same x, type_means x);
  block = λ x. (link_block same x, block_means x);
  bind = λ x. (link_bind same x, bind_means x);
  arg = λ x. (link_arg same x, x.value.2.0);
  arm = λ x. (link_arm same x, arm_means x);
  expr = λ x. (link_expr same x, x.node.2.1);
  field = λ x. (link_field same x, field_means x);
  loop = λ x. (link_loop same x, loop_means x);
  number = λ x. (link_number same x, number_means x);
  pattern = λ x. (link_pattern same x, x.shape.2.1);
  type_expr = λ x. (link_type_expr same x, x.node.2.1);
}

-- an expression means the same as what it becomes
pub expression_means : (e : Expr) → LowerPreserves (lower_expression e) (value_of e)
expression_means e = (related_expr become meanings (claimed same) becoming meaning all_keep e).1

-- and so does a block
pub block_of_text_means : (b : Block) → LowerPreserves (lower_block_of_text b) (value_of_block b)
block_of_text_means b = (related_block become meanings (claimed same) becoming meaning all_keep b).1

-- and so does a written type
pub type_of_text_means : (t : TypeExpr) → TypeLowerPreserves (lower_type_of_text t) (written_type t)
type_of_text_means t = (related_type_expr become meanings (claimed same) becoming meaning all_keep t).1

-- and so does a pattern
pub pattern_of_text_means : (p : Pattern) → PatternLowerPreserves (lower_pattern_of_text p) (pattern_denotation p)
pattern_of_text_means p = (related_pattern become meanings (claimed same) becoming meaning all_keep p).1
