-- What a pattern becomes, by what stands at its top.
use Rattle.std.proofs.Common.{◌≡◌, ℕ, List, Option, Some, None, map, refl, ap, ◌∙◌}
use Rattle.std.proofs.lemmas.Simd.{map-map}
use Rattle.dslx_tree.specs.declared.block.Stmt.TheFolds.{fold_out-Number, fold_out-Pattern, fold_out-Shape}
use Rattle.dslx_tree.specs.declared.block.Stmt.TheOpen.{Shape-F}
use Rattle.dslx_tree.specs.declared.expr.Number.{Number, out-Number}
use Rattle.dslx_tree.specs.declared.pattern.Pattern.{Pattern, out-Pattern}
use Rattle.dslx_tree.specs.declared.pattern.Shape.{Shape, out-Shape}
use Rattle.dslx_tree.specs.declared.type_expr.TypeExpr.{TypeExpr}
use Rattle.dslx_tree.proofs.Lemmas.Folds.Levels.{NumberLevel, map_number, map_pattern, map_shape, trees}
use Rattle.dslx_tree.proofs.Lemmas.Folds.Folds.{fold_number, fold_pattern, fold_shape}
use Rattle.dslx_meaning.specs.Lists.{and_then}
use Rattle.dslx_meaning.specs.Operators.{number_value}
use Rattle.dslx_meaning.specs.declared.ty.DslxType.{DslxType, out-DslxType}
use Rattle.dslx_meaning.specs.Names.ConstMachine.Layers.{PatternLayer, shape_of}
use Rattle.dslx_core.specs.Lowering.CoreScopes.{CoreScope}
use Rattle.dslx_core.specs.Lowering.Patterns.{PatternLowering, names_of_all, tuple_shape, value_shape}
use Rattle.dslx_core.specs.Lowering.Steps.{lower_pattern_of_text}
use Rattle.dslx_core.specs.Lowering.Trees.{number_meaning, shape_at, lower_shape, lower_shape_names, lower_type_of_text}
use Rattle.dslx_core.specs.Machines.Machine.Steps.{number_at}
use Rattle.dslx_core.proofs.Lemmas.Machines.Machine.Rebuilt.{become, becoming, each_lowers_to}
use Rattle.dslx_scope_names.specs.Patterns.Tops.{top_names, top_shape}

-- ---- what stands at the top

out_number : (x : Number) → fold_number become becoming x ≡ becoming.number (map_number trees become each_lowers_to (out-Number x))
out_number x =
    fold_out-Number become.stmt become.node become.shape become.type_node become.block become.bind become.arg become.arm become.expr become.field become.loop become.number become.pattern become.type_expr
    becoming.stmt becoming.node becoming.shape becoming.type_node becoming.block becoming.bind becoming.arg becoming.arm becoming.expr becoming.field becoming.loop becoming.number becoming.pattern becoming.type_expr x

out_shape : (x : Shape) → fold_shape become becoming x ≡ becoming.shape (map_shape trees become each_lowers_to (out-Shape x))
out_shape x =
    fold_out-Shape become.stmt become.node become.shape become.type_node become.block become.bind become.arg become.arm become.expr become.field become.loop become.number become.pattern become.type_expr
    becoming.stmt becoming.node becoming.shape becoming.type_node becoming.block becoming.bind becoming.arg becoming.arm becoming.expr becoming.field becoming.loop becoming.number becoming.pattern becoming.type_expr x

out_pattern : (x : Pattern) → fold_pattern become becoming x ≡ becoming.pattern (map_pattern trees become each_lowers_to (out-Pattern x))
out_pattern x =
    fold_out-Pattern become.stmt become.node become.shape become.type_node become.block become.bind become.arg become.arm become.expr become.field become.loop become.number become.pattern become.type_expr
    becoming.stmt becoming.node becoming.shape becoming.type_node becoming.block becoming.bind becoming.arg becoming.arm becoming.expr becoming.field becoming.loop becoming.number becoming.pattern becoming.type_expr x

opened : (p : Pattern) → lower_pattern_of_text p ≡ lower_shape (map_shape trees become each_lowers_to (shape_of p))
opened p = ap (λ q. q.1) (out_pattern p) ∙ ap (λ q. q.1) (out_shape (out-Pattern p).shape)

-- ---- shapes

number_layer : (x : NumberLevel trees) (scope : CoreScope)
    → number_meaning (map_number trees become each_lowers_to x) scope ≡ and_then (and_then x.ty (λ t. lower_type_of_text t scope)) (λ t. number_value t (record { is_negative = x.is_negative; value = x.value }))
number_layer x scope = by x.ty
  where
    by : (o : Option TypeExpr) → number_meaning (map_number trees become each_lowers_to (record { ty = o; is_negative = x.is_negative; value = x.value })) scope
        ≡ and_then (and_then o (λ t. lower_type_of_text t scope)) (λ t. number_value t (record { is_negative = x.is_negative; value = x.value }))
    by None = refl
    by (Some t) = refl

number_opened : (n : Number) (scope : CoreScope) → (fold_number become becoming n).1 scope ≡ number_at scope n
number_opened n scope = ap (λ p. p.1 scope) (out_number n) ∙ number_layer (out-Number n) scope

parts_opened : (ps : List Pattern) → map (λ p. p.1) (map (fold_pattern become becoming) ps) ≡ map lower_pattern_of_text ps
parts_opened ps = map-map (λ p. p.1) (fold_pattern become becoming) ps

shape_opened : (x : PatternLayer) (outer scope : CoreScope) (t : DslxType) → shape_at (map_shape trees become each_lowers_to x) outer scope t ≡ top_shape x outer scope t
shape_opened Shape-F.Wild outer scope t = refl
shape_opened (Shape-F.Shape::Bool b) outer scope t = refl
shape_opened (Shape-F.Shape::Number n) outer scope t = ap (λ v. value_shape v scope t) (number_opened n outer)
shape_opened (Shape-F.Shape::Name name) outer scope t = refl
shape_opened (Shape-F.Shape::Member e a) outer scope t = refl
shape_opened (Shape-F.Shape::Tuple ps) outer scope t = ap (λ (ls : List PatternLowering). tuple_shape ls outer scope (out-DslxType t)) (parts_opened ps)

pub by_top : (p : Pattern) (outer scope : CoreScope) (t : DslxType) → (lower_pattern_of_text p).lower outer scope t ≡ top_shape (shape_of p) outer scope t
by_top p outer scope t = ap (λ (l : PatternLowering). l.lower outer scope t) (opened p) ∙ shape_opened (shape_of p) outer scope t

-- ---- names

names_opened : (x : PatternLayer) → lower_shape_names (map_shape trees become each_lowers_to x) ≡ top_names x
names_opened Shape-F.Wild = refl
names_opened (Shape-F.Shape::Bool b) = refl
names_opened (Shape-F.Shape::Number n) = refl
names_opened (Shape-F.Shape::Name name) = refl
names_opened (Shape-F.Shape::Member e a) = refl
names_opened (Shape-F.Shape::Tuple ps) = ap (λ (ls : List PatternLowering). names_of_all ls) (parts_opened ps)

pub names_by_top : (p : Pattern) → (lower_pattern_of_text p).names ≡ top_names (shape_of p)
names_by_top p = ap (λ (l : PatternLowering). l.names) (opened p) ∙ names_opened (shape_of p)
