-- Written types and patterns become the same whatever calls come to, and behind a pattern what was bound before is still bound.
use Rattle.std.proofs.Common.{◌≡◌, ℕ, Bool, true, false, if◌then◌else◌, List, [], ◌∷◌, ◌++◌, map, Option, Some, refl, sym, subst, ap, ◌∙◌, None}
use Rattle.std.proofs.lemmas.List.{append_assoc}
use Rattle.dslx_tree.specs.declared.block.Stmt.TheOpen.{Shape-F, TypeNode-F}
use Rattle.dslx_tree.specs.declared.pattern.Pattern.{Pattern}
use Rattle.dslx_tree.specs.declared.type_expr.TypeExpr.{TypeExpr}
use Rattle.dslx_tree.proofs.Lemmas.Folds.Levels.{Carriers, NumberLevel, ShapeLevel, TypeNodeLevel, map_number, map_shape, map_type_node}
use Rattle.dslx_tree.proofs.Lemmas.Folds.Folds.{Steps}
use Rattle.dslx_tree.proofs.Lemmas.Folds.Related.{Relations, KeepRelated, both, firsts, related_pattern, related_type_expr}
use Rattle.dslx_meaning.specs.Lists.{all_some, and_then, where_true, with_both}
use Rattle.dslx_meaning.specs.Operators.{number_value}
use Rattle.dslx_meaning.specs.Values.{bool_value, plain_value, type_of_value}
use Rattle.dslx_meaning.specs.declared.ty.DslxType.{DslxType, out-DslxType}
use Rattle.dslx_meaning.specs.declared.ty.DslxType as ty
use Rattle.dslx_meaning.specs.declared.ty.DslxType.TheOpen.{DslxType-F}
use Rattle.dslx_meaning.specs.declared.value.DslxValue.{DslxValue}
use Rattle.dslx_core.proofs.Lemmas.Typing.Typed.{none_some, same_some}
use Rattle.dslx_core.specs.declared.expr.Shape.{Shape}
use Rattle.dslx_core.specs.declared.expr.Shape as shape
use Rattle.dslx_core.specs.Lowering.CoreScopes.{BoundSlot, CoreScope, size_at, with_local}
use Rattle.dslx_core.specs.Lowering.EqualTypes.{equal_type}
use Rattle.dslx_core.specs.Lowering.Patterns.{LoweredShape, LoweredShapes, PatternLowering, parts_shaped, shaped, tuple_shape, value_shape, alternatives_shaped}
use Rattle.dslx_core.specs.Lowering.Steps.{lower_pattern_of_text}
use Rattle.dslx_core.specs.Lowering.Trees.{TypeLowering, lower_shape, lower_type, lower_type_of_text, number_meaning}
use Rattle.dslx_core.specs.Machines.Machine.Arms.{shaped_at}
use Rattle.dslx_core.specs.Machines.Machine.Callees.{CalleesByName, moved, with_callee}
use Rattle.dslx_core.proofs.Lemmas.Machines.Machine.Options.{from_then, from_where}
use Rattle.dslx_core.proofs.Lemmas.Machines.Machine.Rebuilt.{become, becoming}

-- ---- what holds of types and patterns

abbrev pub KnowsNoCallee : {A : Type 0} → (CoreScope → Option A) → Type 0
KnowsNoCallee l = (scope : CoreScope) (c : CalleesByName) → l (with_callee c scope) ≡ l scope

-- more may be bound, the rest is as it was
pub record Grows (before after : CoreScope) : Type 0 where
  pub known : after.known ≡ before.known
  pub new : List BoundSlot
  pub locals : after.locals ≡ new ++ before.locals

pub record PatternIsSteady (l : PatternLowering) : Type 0 where
  pub grows : (outer scope : CoreScope) (t : DslxType) (s : LoweredShape) → l.lower outer scope t ≡ Some s → Grows scope s.scope
  pub moves : (outer scope : CoreScope) (t : DslxType) (c : CalleesByName) → l.lower (with_callee c outer) (with_callee c scope) t ≡ moved c (l.lower outer scope t)

-- ---- nothing holds of the other sorts

abbrev pub alone : Carriers
alone = record {
  stmt = Unit {0};
  node = Unit {0};
  shape = Unit {0};
  type_node = Unit {0};
  block = Unit {0};
  bind = Unit {0};
  arg = Unit {0};
  arm = Unit {0};
  expr = Unit {0};
  field = Unit {0};
  loop = Unit {0};
  number = Unit {0};
  pattern = Unit {0};
  type_expr = Unit {0};
}

abbrev pub nothing_more : Steps alone
nothing_more = record {
  stmt = λ x. tt;
  node = λ x. tt;
  shape = λ x. tt;
  type_node = λ x. tt;
  block = λ x. tt;
  bind = λ x. tt;
  arg = λ x. tt;
  arm = λ x. tt;
  expr = λ x. tt;
  field = λ x. tt;
  loop = λ x. tt;
  number = λ x. tt;
  pattern = λ x. tt;
  type_expr = λ x. tt;
}

abbrev pub steady : Relations become alone
steady = record {
  stmt = λ p u. Unit {0};
  node = λ p u. Unit {0};
  shape = λ p u. PatternIsSteady p.1;
  type_node = λ p u. KnowsNoCallee p.1;
  block = λ p u. Unit {0};
  bind = λ p u. Unit {0};
  arg = λ p u. Unit {0};
  arm = λ p u. Unit {0};
  expr = λ p u. Unit {0};
  field = λ p u. Unit {0};
  loop = λ p u. Unit {0};
  number = λ p u. KnowsNoCallee p.1;
  pattern = λ p u. PatternIsSteady p.1;
  type_expr = λ p u. KnowsNoCallee p.1;
}

abbrev pub Part : Carriers
Part = both become alone steady

-- ---- types

types_steady : (ts : List Part.type_expr) (scope : CoreScope) (c : CalleesByName)
    → map (λ (t : TypeExpr × TypeLowering). t.1 (with_callee c scope)) (map (λ (x : Part.type_expr). x.0) ts) ≡ map (λ (t : TypeExpr × TypeLowering). t.1 scope) (map (λ (x : Part.type_expr). x.0) ts)
types_steady [] scope c = refl
types_steady (t ∷ ts) scope c = λ i. t.2 scope c i ∷ types_steady ts scope c i

pub type_steady : (x : TypeNodeLevel Part) → KnowsNoCallee (lower_type (map_type_node Part become (firsts become alone steady) x))
type_steady (TypeNode-F.Bits s w) scope c = refl
type_steady (TypeNode-F.Wide s e) scope c = refl
type_steady TypeNode-F.TypeNode::Bool scope c = refl
type_steady (TypeNode-F.TypeNode::Name name) scope c = refl
type_steady (TypeNode-F.TypeNode::Tuple ts) scope c = ap (λ os. and_then (all_some os) (λ ts. Some (ty.Tuple ts))) (types_steady ts scope c)
type_steady (TypeNode-F.TypeNode::Array t e) scope c = λ i. with_both (t.2 scope c i) (size_at scope e.0.0) (λ t n. Some (ty.Array t n))

pub number_steady : (x : NumberLevel Part) → KnowsNoCallee (number_meaning (map_number Part become (firsts become alone steady) x))
number_steady x scope c = by x.ty
  where
    by : (o : Option Part.type_expr)
        → number_meaning (map_number Part become (firsts become alone steady) (record { ty = o; is_negative = x.is_negative; value = x.value })) (with_callee c scope)
        ≡ number_meaning (map_number Part become (firsts become alone steady) (record { ty = o; is_negative = x.is_negative; value = x.value })) scope
    by None = refl
    by (Some t) = ap (λ o. and_then o (λ t. number_value t (record { is_negative = x.is_negative; value = x.value }))) (t.2 scope c)

-- ---- patterns

abbrev not_grown : (scope : CoreScope) → Grows scope scope
not_grown scope = record { known = refl; new = []; locals = refl }

pub grows_on : (a b c : CoreScope) → Grows a b → Grows b c → Grows a c
grows_on a b c g h = record {
  known = h.known ∙ g.known;
  new = h.new ++ g.new;
  locals = h.locals ∙ ap (λ ls. h.new ++ ls) g.locals ∙ sym (append_assoc h.new g.new a.locals);
}

as_shaped : (x : Shape) (a b : CoreScope) (s : LoweredShape) → Grows a b → shaped x b ≡ Some s → Grows a s.scope
as_shaped x a b s g e = subst (λ q. Grows a q) (ap (λ (r : LoweredShape). r.scope) (same_some (record { shape = x; scope = b }) s e)) g

value_grows : (v : Option DslxValue) (scope : CoreScope) (t : DslxType) (s : LoweredShape) → value_shape v scope t ≡ Some s → Grows scope s.scope
value_grows v scope t s e =
    let a = from_then v (λ v. where_true (equal_type t (type_of_value v)) (shaped (shape.Equal (plain_value v)) scope)) s e in
    let b = from_where (equal_type t (type_of_value a.0)) (shaped (shape.Equal (plain_value a.0)) scope) s a.2 in
    as_shaped (shape.Equal (plain_value a.0)) scope scope s (not_grown scope) b.1

name_grows : (b : Bool) (name : List ℕ) (scope : CoreScope) (t : DslxType) (s : LoweredShape)
    → (if b then value_shape (scope.known.items.constant name) scope t else shaped shape.Bound (with_local name t scope)) ≡ Some s → Grows scope s.scope
name_grows true name scope t s e = value_grows (scope.known.items.constant name) scope t s e
name_grows false name scope t s e =
    as_shaped shape.Bound scope (with_local name t scope) s (record { known = refl; new = record { name = name; slot = scope.count; ty = t } ∷ []; locals = refl }) e

abbrev patterns_of : List Part.pattern → List PatternLowering
patterns_of ps = map (λ (p : Pattern × PatternLowering). p.1) (map (λ (x : Part.pattern). x.0) ps)

parts_grow : (ps : List Part.pattern) (ts : List DslxType) (outer scope : CoreScope) (r : LoweredShapes)
    → parts_shaped (patterns_of ps) ts outer scope ≡ Some r → Grows scope r.scope
parts_grow [] [] outer scope r e = subst (λ q. Grows scope q) (ap (λ (r : LoweredShapes). r.scope) (same_some (record { shapes = []; scope = scope }) r e)) (not_grown scope)
parts_grow [] (t ∷ ts) outer scope r e = none_some r e
parts_grow (p ∷ ps) [] outer scope r e = none_some r e
parts_grow (p ∷ ps) (t ∷ ts) outer scope r e =
    let rest : CoreScope → Option LoweredShapes = parts_shaped (patterns_of ps) ts outer in
    let a = from_then (p.0.1.lower outer scope t) (λ s. and_then (rest s.scope) (λ r. Some (record { shapes = s.shape ∷ r.shapes; scope = r.scope }))) r e in
    let b = from_then (rest a.0.scope) (λ r. Some (record { shapes = a.0.shape ∷ r.shapes; scope = r.scope })) r a.2 in
    subst (λ q. Grows scope q) (ap (λ (r : LoweredShapes). r.scope) (same_some (record { shapes = a.0.shape ∷ b.0.shapes; scope = b.0.scope }) r b.2))
    (grows_on scope a.0.scope b.0.scope (p.2.grows outer scope t a.0 a.1) (parts_grow ps ts outer a.0.scope b.0 b.1))

tuple_grows : (ps : List Part.pattern) (outer scope : CoreScope) (x : DslxType-F DslxType) (s : LoweredShape) → tuple_shape (patterns_of ps) outer scope x ≡ Some s → Grows scope s.scope
tuple_grows ps outer scope (DslxType-F.Tuple ts) s e =
    let a = from_then (parts_shaped (patterns_of ps) ts outer scope) (λ r. shaped (shape.Tuple r.shapes) r.scope) s e in
    as_shaped (shape.Tuple a.0.shapes) scope a.0.scope s (parts_grow ps ts outer scope a.0 a.1) a.2
tuple_grows ps outer scope (DslxType-F.Bits sign w) s e = none_some s e
tuple_grows ps outer scope (DslxType-F.Array t n) s e = none_some s e
tuple_grows ps outer scope (DslxType-F.Struct name fields ts) s e = none_some s e
tuple_grows ps outer scope (DslxType-F.Enum name sign w) s e = none_some s e
tuple_grows ps outer scope DslxType-F.Token s e = none_some s e

value_moves : (v : Option DslxValue) (scope : CoreScope) (t : DslxType) (c : CalleesByName) → value_shape v (with_callee c scope) t ≡ moved c (value_shape v scope t)
value_moves None scope t c = refl
value_moves (Some v) scope t c = by (equal_type t (type_of_value v))
  where
    by : (b : Bool) → where_true b (shaped (shape.Equal (plain_value v)) (with_callee c scope)) ≡ moved c (where_true b (shaped (shape.Equal (plain_value v)) scope))
    by true = refl
    by false = refl

name_moves : (b : Bool) (name : List ℕ) (scope : CoreScope) (t : DslxType) (c : CalleesByName)
    → (if b then value_shape (scope.known.items.constant name) (with_callee c scope) t else shaped shape.Bound (with_local name t (with_callee c scope)))
    ≡ moved c (if b then value_shape (scope.known.items.constant name) scope t else shaped shape.Bound (with_local name t scope))
name_moves true name scope t c = value_moves (scope.known.items.constant name) scope t c
name_moves false name scope t c = refl

abbrev parts_moved : CalleesByName → Option LoweredShapes → Option LoweredShapes
parts_moved c o = and_then o (λ r. Some (record { shapes = r.shapes; scope = with_callee c r.scope }))

parts_move : (ps : List Part.pattern) (ts : List DslxType) (outer scope : CoreScope) (c : CalleesByName)
    → parts_shaped (patterns_of ps) ts (with_callee c outer) (with_callee c scope) ≡ parts_moved c (parts_shaped (patterns_of ps) ts outer scope)
parts_move [] [] outer scope c = refl
parts_move [] (t ∷ ts) outer scope c = refl
parts_move (p ∷ ps) [] outer scope c = refl
parts_move (p ∷ ps) (t ∷ ts) outer scope c =
    ap (λ o. and_then o (λ s. and_then (parts_shaped (patterns_of ps) ts (with_callee c outer) s.scope) (λ r. Some (record { shapes = s.shape ∷ r.shapes; scope = r.scope })))) (p.2.moves outer scope t c)
    ∙ by (p.0.1.lower outer scope t) (λ here. parts_move ps ts outer here c)
  where
    by_rest : (s : LoweredShape) (o : Option LoweredShapes)
        → and_then (parts_moved c o) (λ r. Some (record { shapes = s.shape ∷ r.shapes; scope = r.scope })) ≡ parts_moved c (and_then o (λ r. Some (record { shapes = s.shape ∷ r.shapes; scope = r.scope })))
    by_rest s None = refl
    by_rest s (Some r) = refl

    by : (o : Option LoweredShape)
        → ((here : CoreScope) → parts_shaped (patterns_of ps) ts (with_callee c outer) (with_callee c here) ≡ parts_moved c (parts_shaped (patterns_of ps) ts outer here))
        → and_then (moved c o) (λ s. and_then (parts_shaped (patterns_of ps) ts (with_callee c outer) s.scope) (λ r. Some (record { shapes = s.shape ∷ r.shapes; scope = r.scope })))
        ≡ parts_moved c (and_then o (λ s. and_then (parts_shaped (patterns_of ps) ts outer s.scope) (λ r. Some (record { shapes = s.shape ∷ r.shapes; scope = r.scope }))))
    by None rest = refl
    by (Some s) rest =
        ap (λ o. and_then o (λ (r : LoweredShapes). Some (record { shapes = s.shape ∷ r.shapes; scope = r.scope }))) (rest s.scope) ∙ by_rest s (parts_shaped (patterns_of ps) ts outer s.scope)

tuple_moves : (ps : List Part.pattern) (outer scope : CoreScope) (x : DslxType-F DslxType) (c : CalleesByName)
    → tuple_shape (patterns_of ps) (with_callee c outer) (with_callee c scope) x ≡ moved c (tuple_shape (patterns_of ps) outer scope x)
tuple_moves ps outer scope (DslxType-F.Tuple ts) c = ap (λ o. and_then o (λ r. shaped (shape.Tuple r.shapes) r.scope)) (parts_move ps ts outer scope c) ∙ by (parts_shaped (patterns_of ps) ts outer scope)
  where
    by : (o : Option LoweredShapes) → and_then (parts_moved c o) (λ r. shaped (shape.Tuple r.shapes) r.scope) ≡ moved c (and_then o (λ r. shaped (shape.Tuple r.shapes) r.scope))
    by None = refl
    by (Some r) = refl
tuple_moves ps outer scope (DslxType-F.Bits sign w) c = refl
tuple_moves ps outer scope (DslxType-F.Array t n) c = refl
tuple_moves ps outer scope (DslxType-F.Struct name fields ts) c = refl
tuple_moves ps outer scope (DslxType-F.Enum name sign w) c = refl
tuple_moves ps outer scope DslxType-F.Token c = refl

pub shape_steady : (x : ShapeLevel Part) → PatternIsSteady (lower_shape (map_shape Part become (firsts become alone steady) x))
shape_steady Shape-F.Wild = record { grows = λ outer scope t s e. as_shaped shape.Wild scope scope s (not_grown scope) e; moves = λ outer scope t c. refl }
shape_steady (Shape-F.Shape::Bool b) = record {
  grows = λ outer scope t s e. value_grows (Some (bool_value b)) scope t s e;
  moves = λ outer scope t c. value_moves (Some (bool_value b)) scope t c;
}
shape_steady (Shape-F.Shape::Number n) = record {
  grows = λ outer scope t s e. value_grows (n.0.1 outer) scope t s e;
  moves = λ outer scope t c. ap (λ v. value_shape v (with_callee c scope) t) (n.2 outer c) ∙ value_moves (n.0.1 outer) scope t c;
}
shape_steady (Shape-F.Shape::Name name) = record {
  grows = λ outer scope t s e. name_grows (scope.known.items.is_constant name) name scope t s e;
  moves = λ outer scope t c. name_moves (scope.known.items.is_constant name) name scope t c;
}
shape_steady (Shape-F.Shape::Member e a) = record {
  grows = λ outer scope t s h. value_grows (scope.known.items.member e.name a.name) scope t s h;
  moves = λ outer scope t c. value_moves (scope.known.items.member e.name a.name) scope t c;
}
shape_steady (Shape-F.Shape::Tuple ps) = record {
  grows = λ outer scope t s e. tuple_grows ps outer scope (out-DslxType t) s e;
  moves = λ outer scope t c. tuple_moves ps outer scope (out-DslxType t) c;
}

-- ---- all trees

keep_steady : KeepRelated become alone steady becoming nothing_more
keep_steady = record {
  stmt = λ x. tt;
  node = λ x. tt;
  shape = shape_steady;
  type_node = type_steady;
  block = λ x. tt;
  bind = λ x. tt;
  arg = λ x. tt;
  arm = λ x. tt;
  expr = λ x. tt;
  field = λ x. tt;
  loop = λ x. tt;
  number = number_steady;
  pattern = λ x. x.shape.2;
  type_expr = λ x. x.node.2;
}

pub type_anywhere : (t : TypeExpr) (scope : CoreScope) (c : CalleesByName) → lower_type_of_text t (with_callee c scope) ≡ lower_type_of_text t scope
type_anywhere = related_type_expr become alone steady becoming nothing_more keep_steady

pattern_steady : (p : Pattern) → PatternIsSteady (lower_pattern_of_text p)
pattern_steady = related_pattern become alone steady becoming nothing_more keep_steady

-- ---- patterns in their scopes

pub shaped_grows : (p : Pattern) (scope : CoreScope) (t : DslxType) (s : LoweredShape) → shaped_at p scope t ≡ Some s → Grows scope s.scope
shaped_grows p scope t s e = (pattern_steady p).grows scope scope t s e

pub shaped_anywhere : (p : Pattern) (scope : CoreScope) (t : DslxType) (c : CalleesByName) → shaped_at p (with_callee c scope) t ≡ moved c (shaped_at p scope t)
shaped_anywhere p scope t c = (pattern_steady p).moves scope scope t c

pub alternatives_anywhere : (ps : List Pattern) (scope : CoreScope) (t : DslxType) (c : CalleesByName)
    → alternatives_shaped (map lower_pattern_of_text ps) (with_callee c scope) t ≡ alternatives_shaped (map lower_pattern_of_text ps) scope t
alternatives_anywhere [] scope t c = refl
alternatives_anywhere (p ∷ ps) scope t c =
    (λ i. with_both (shaped_anywhere p scope t c i) (alternatives_anywhere ps scope t c i) (λ s ss. Some (s.shape ∷ ss))) ∙ by (shaped_at p scope t) (alternatives_shaped (map lower_pattern_of_text ps) scope t)
  where
    by : (o : Option LoweredShape) (q : Option (List Shape)) → with_both (moved c o) q (λ s ss. Some (s.shape ∷ ss)) ≡ with_both o q (λ s ss. Some (s.shape ∷ ss))
    by None q = refl
    by (Some s) None = refl
    by (Some s) (Some ss) = refl
