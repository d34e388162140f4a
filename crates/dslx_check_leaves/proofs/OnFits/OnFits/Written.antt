-- A written type that has a type means that, among the constants and parametrics that are in scope.
use Rattle.std.proofs.Common.{◌≡◌, ◌∙◌, ◌++◌, ℕ, Bool, true, false, List, [], ◌∷◌, map, Option, Some, None, refl, sym, ap, subst}
use Rattle.std.specs.Prelude.{if◌then◌else◌}
use Rattle.std.specs.Option.{option_map}
use Rattle.std.proofs.lemmas.Option.{none-some}
use Rattle.xb_span.specs.declared.span.Span.{Span}
use Rattle.xb_span.specs.declared.fault.Fault.{Fault}
use Rattle.dslx_tree.specs.declared.block.Stmt.TheFolds.{ind-TypeExpr}
use Rattle.dslx_tree.specs.declared.block.Stmt.TheOpen.{TypeNode-F}
use Rattle.dslx_tree.specs.declared.block.Stmt.{Stmt}
use Rattle.dslx_tree.specs.declared.expr.Node.{Node}
use Rattle.dslx_tree.specs.declared.pattern.Shape.{Shape}
use Rattle.dslx_tree.specs.declared.type_expr.TypeNode.{TypeNode, roll-TypeNode}
use Rattle.dslx_tree.specs.declared.block.Block.{Block}
use Rattle.dslx_tree.specs.declared.block.Let.{Let}
use Rattle.dslx_tree.specs.declared.expr.Arg.{Arg}
use Rattle.dslx_tree.specs.declared.expr.Arm.{Arm}
use Rattle.dslx_tree.specs.declared.expr.Expr.{Expr}
use Rattle.dslx_tree.specs.declared.expr.FieldValue.{FieldValue}
use Rattle.dslx_tree.specs.declared.expr.For.{For}
use Rattle.dslx_tree.specs.declared.expr.Number.{Number}
use Rattle.dslx_tree.specs.declared.pattern.Pattern.{Pattern}
use Rattle.dslx_tree.specs.declared.type_expr.TypeExpr.{TypeExpr, roll-TypeExpr}
use Rattle.dslx_tree.proofs.Lemmas.Folds.Levels.{Carriers, Maps, TypeExprLevel, TypeNodeLevel, map_type_expr, map_type_node, trees}
use Rattle.dslx_tree.proofs.Lemmas.Folds.Folds.{fold_type_expr-roll, fold_type_node, fold_type_node-roll}
use Rattle.dslx_meaning.specs.Lists.{all_some, and_then, with_both}
use Rattle.dslx_meaning.specs.Meaning.{TypeDen, count_in, denotation, size_of, some_count, type_den, value_of, written_type}
use Rattle.dslx_meaning.specs.declared.ty.DslxType.{DslxType}
use Rattle.dslx_meaning.specs.declared.ty.DslxType as ty
use Rattle.dslx_meaning.specs.declared.value.DslxValue.{DslxValue}
use Rattle.dslx_meaning.specs.declared.value.UntypedLiteral.{UntypedLiteral}
use Rattle.dslx_meaning.specs.Rules.ConstantRules.{ConstantSeen, constant_of, constant_typing, count_faults, count_number, count_of, is_sound_here, number_of_value, untyped_typing, value_if_whole}
use Rattle.dslx_meaning.specs.Rules.Mentions.{AsType, is_of_use}
use Rattle.dslx_meaning.specs.Rules.RuleNumbers as rule
use Rattle.dslx_meaning.specs.Items.{item_named}
use Rattle.dslx_meaning.specs.Rules.TypeEnvs.{Judgement, TypeEnv, breaks, breaks_if, constant_env, faults_of_all, has_broken, types_of, unless_broken}
use Rattle.dslx_meaning.specs.Rules.TypeRules.{inner_type, inner_types, named_type, type_expr_typing}
use Rattle.dslx_check_rules.proofs.Lemmas.Nodes.Lists.{some_before}
use Rattle.dslx_check_leaves.specs.Fits.Typed.{type_typed}
use Rattle.dslx_check_leaves.proofs.Lemmas.Fits.Levels.{own, pairs, steps, typed}
use Rattle.dslx_check_leaves.proofs.OnFits.OnFits.Meanings.{each_means, meaning_steps, meanings}

-- ---- counts

-- what has broken no rule has the type that it was given
pub type_stays : (faults : List Fault) (o : Option DslxType) (t : DslxType) → unless_broken faults o ≡ Some t → o ≡ Some t
type_stays faults o t e = by (has_broken faults) e
  where
    by : (b : Bool) → (if b then None else o) ≡ Some t → o ≡ Some t
    by true e = absurd (none-some t e)
    by false e = e

-- a value that a constant has is what it means
constant_means : (context : TypeEnv) (e : Expr) (v : DslxValue) → (constant_of context (typed.expr e)).value ≡ Some v → value_of e (constant_env context) ≡ Some v
constant_means context e v h = by (is_sound_here context.known (constant_typing context (typed.expr e))) h
  where
    j : Judgement
    j = constant_typing context (typed.expr e)

    sized : (t : DslxType) (s : Option ℕ) → and_then s (λ n. value_of e (constant_env context)) ≡ Some v → value_of e (constant_env context) ≡ Some v
    sized t None h = absurd (none-some v h)
    sized t (Some n) h = h

    whole : (o : Option DslxType) → and_then o (λ t. and_then j.size (λ n. value_of e (constant_env context))) ≡ Some v → value_of e (constant_env context) ≡ Some v
    whole None h = absurd (none-some v h)
    whole (Some t) h = sized t j.size h

    by : (b : Bool) → (if b then value_if_whole j (value_of e (constant_env context)) else None) ≡ Some v → value_of e (constant_env context) ≡ Some v
    by true h = whole j.ty h
    by false h = absurd (none-some v h)

count_from : (o o' : Option DslxValue) (n : ℕ) → ((v : DslxValue) → o ≡ Some v → o' ≡ Some v) → and_then (number_of_value o) some_count ≡ Some n → and_then (count_in None o') some_count ≡ Some n
count_from None o' n h e = absurd (none-some n e)
count_from (Some v) o' n h e = ap (λ x. and_then (count_in None x) some_count) (h v refl) ∙ e

-- a constant, by whether it is a number without a type
abbrev constant_by : TypeEnv → Expr → Option UntypedLiteral → ConstantSeen
constant_by context e None = constant_of context (typed.expr e)
constant_by context e (Some number) = record { judgement = untyped_typing; bare = Some number; value = None }

bare_count : (number : UntypedLiteral) (b : Bool) (n : ℕ) → and_then (Some (if b then 0 else number.value)) some_count ≡ Some n → and_then (if b then None else Some number.value) some_count ≡ Some n
bare_count number true n h = absurd (none-some n h)
bare_count number false n h = h

counted_by : (context : TypeEnv) (e : Expr) (n : ℕ) (o : Option UntypedLiteral) → and_then (count_number (constant_by context e o)) some_count ≡ Some n → and_then (count_in o (value_of e (constant_env context))) some_count ≡ Some n
counted_by context e n None h = count_from (constant_of context (typed.expr e)).value (value_of e (constant_env context)) n (constant_means context e) h
counted_by context e n (Some number) h = bare_count number number.is_negative n h

pub count_means : (context : TypeEnv) (e : Expr) (n : ℕ) → (count_of context (typed.expr e)).count ≡ Some n → size_of (denotation e) (constant_env context) ≡ Some n
count_means context e n h = counted_by context e n (denotation e).bare h

-- ---- types

abbrev Means : TypeExpr → Type 0
Means t = (context : TypeEnv) (u : DslxType) → ((type_typed t).1 context).ty ≡ Some u → written_type t (constant_env context) ≡ Some u

abbrev NodeMeans : TypeNode → Type 0
NodeMeans n = (span : Span) (context : TypeEnv) (u : DslxType) → ((fold_type_node pairs steps n).1 span context).ty ≡ Some u → fold_type_node meanings meaning_steps n (constant_env context) ≡ Some u

-- of other parts nothing has to be known
abbrev holding : Carriers
holding = record {
  stmt = (x : Stmt) × Unit {0};
  node = (x : Node) × Unit {0};
  shape = (x : Shape) × Unit {0};
  type_node = (x : TypeNode) × NodeMeans x;
  block = (x : Block) × Unit {0};
  bind = (x : Let) × Unit {0};
  arg = (x : Arg) × Unit {0};
  arm = (x : Arm) × Unit {0};
  expr = (x : Expr) × Unit {0};
  field = (x : FieldValue) × Unit {0};
  loop = (x : For) × Unit {0};
  number = (x : Number) × Unit {0};
  pattern = (x : Pattern) × Unit {0};
  type_expr = (x : TypeExpr) × Means x;
}

abbrev tree_of : Maps holding trees
tree_of = record {
  stmt = λ p. p.0;
  node = λ p. p.0;
  shape = λ p. p.0;
  type_node = λ p. p.0;
  block = λ p. p.0;
  bind = λ p. p.0;
  arg = λ p. p.0;
  arm = λ p. p.0;
  expr = λ p. p.0;
  field = λ p. p.0;
  loop = λ p. p.0;
  number = λ p. p.0;
  pattern = λ p. p.0;
  type_expr = λ p. p.0;
}

then_count : {A : Type 0} (o p : Option ℕ) (f : ℕ → Option A) (u : A) → ((k : ℕ) → o ≡ Some k → p ≡ Some k) → and_then o f ≡ Some u → and_then p f ≡ Some u
then_count None p f u h e = absurd (none-some u e)
then_count (Some k) p f u h e = ap (λ x. and_then x f) (h k refl) ∙ e

then_both : (a b : Option DslxType) (n m : Option ℕ) (f : DslxType → ℕ → Option DslxType) (u : DslxType) → ((t : DslxType) → a ≡ Some t → b ≡ Some t) → ((k : ℕ) → n ≡ Some k → m ≡ Some k)
    → with_both a n f ≡ Some u → with_both b m f ≡ Some u
then_both None b n m f u h k e = absurd (none-some u e)
then_both (Some t) b None m f u h k e = absurd (none-some u e)
then_both (Some t) b (Some n) m f u h k e = (λ i. with_both (h t refl i) (k n refl i) f) ∙ e

abbrev tuple_of : List DslxType → Option DslxType
tuple_of ts = Some (ty.Tuple ts)

abbrev types_held : List holding.type_expr → List TypeExpr
types_held ts = map (λ (t : (x : TypeExpr) × Means x). t.0) ts

all_cons : (o : Option DslxType) (os : List (Option DslxType)) (p : Option DslxType) (ps : List (Option DslxType)) (us : List DslxType) → ((t : DslxType) → o ≡ Some t → p ≡ Some t)
    → ((ts : List DslxType) → all_some os ≡ Some ts → all_some ps ≡ Some ts) → all_some (o ∷ os) ≡ Some us → all_some (p ∷ ps) ≡ Some us
all_cons None os p ps us h k e = absurd (none-some us e)
all_cons (Some t) os p ps us h k e = ap (λ x. all_some (x ∷ ps)) (h t refl) ∙ some_before t ps ∙ by (all_some os) refl (sym (some_before t os) ∙ e)
  where
    by : (x : Option (List DslxType)) → all_some os ≡ x → option_map (λ more. t ∷ more) x ≡ Some us → option_map (λ more. t ∷ more) (all_some ps) ≡ Some us
    by None q e = absurd (none-some us e)
    by (Some ts) q e = ap (option_map (λ more. t ∷ more)) (k ts q) ∙ e

all_mean : (context : TypeEnv) (ts : List holding.type_expr) (us : List DslxType) → all_some (types_of (inner_types context (map typed.type_expr (types_held ts)))) ≡ Some us
    → all_some (map (λ (t : TypeDen). t (constant_env context)) (map each_means.type_expr (types_held ts))) ≡ Some us
all_mean context [] us e = e
all_mean context (t ∷ ts) us e =
    all_cons (inner_type context (type_typed t.0)).ty (types_of (inner_types context (map typed.type_expr (types_held ts)))) (written_type t.0 (constant_env context))
    (map (λ (d : TypeDen). d (constant_env context)) (map each_means.type_expr (types_held ts))) us (t.1 context) (all_mean context ts) e

abbrev node_tree : TypeNodeLevel holding → TypeNodeLevel trees
node_tree y = map_type_node holding trees tree_of y

level_means : (y : TypeNodeLevel holding) (span : Span) (context : TypeEnv) (u : DslxType) → (type_expr_typing (map_type_node trees pairs typed (node_tree y)) span context).ty ≡ Some u
    → type_den (map_type_node trees meanings each_means (node_tree y)) (constant_env context) ≡ Some u
level_means (TypeNode-F.Bits s w) span context u e = type_stays (count_faults span (Some w)) (Some (ty.Bits s w)) u e
level_means (TypeNode-F.Wide s x) span context u e =
    let n = count_of context (typed.expr x.0) in
    then_count n.count (size_of (denotation x.0) (constant_env context)) (λ w. Some (ty.Bits s w)) u (count_means context x.0)
    (type_stays ([] ++ n.judgement.faults) (and_then n.count (λ w. Some (ty.Bits s w))) u e)
level_means TypeNode-F.TypeNode::Bool span context u e = type_stays [] (Some (ty.Bits false 1)) u e
level_means (TypeNode-F.TypeNode::Name name) span context u e = by (is_of_use AsType (item_named name context.known.whole.items)) e
  where
    by : (b : Bool) → (named_type span context name b).ty ≡ Some u → context.known.items.type_named name ≡ Some u
    by false e = absurd (none-some u (type_stays (breaks rule.NAME_IS_DECLARED span ∷ []) None u e))
    by true e = type_stays (breaks_if (context.known.is_cyclic context.owner name) rule.NO_ITEM_REACHES_ITSELF span) (context.known.items.type_named name) u e
level_means (TypeNode-F.TypeNode::Tuple ts) span context u e =
    let js = inner_types context (map typed.type_expr (types_held ts)) in
    all_then (all_some (types_of js)) (all_some (map (λ (t : TypeDen). t (constant_env context)) (map each_means.type_expr (types_held ts)))) (all_mean context ts)
    (type_stays (faults_of_all js) (and_then (all_some (types_of js)) tuple_of) u e)
  where
    all_then : (o p : Option (List DslxType)) → ((us : List DslxType) → o ≡ Some us → p ≡ Some us) → and_then o tuple_of ≡ Some u → and_then p tuple_of ≡ Some u
    all_then None p h e = absurd (none-some u e)
    all_then (Some us) p h e = ap (λ x. and_then x tuple_of) (h us refl) ∙ e
level_means (TypeNode-F.TypeNode::Array t x) span context u e =
    let j = inner_type context (type_typed t.0) in
    let n = count_of context (typed.expr x.0) in
    then_both j.ty (written_type t.0 (constant_env context)) n.count (size_of (denotation x.0) (constant_env context)) (λ t n. Some (ty.Array t n)) u (t.1 context) (count_means context x.0)
    (type_stays (j.faults ++ n.judgement.faults) (with_both j.ty n.count (λ t n. Some (ty.Array t n))) u e)

step_type_node : (x : TypeNodeLevel trees) (y : TypeNodeLevel holding) → node_tree y ≡ x → NodeMeans (roll-TypeNode x)
step_type_node x y is = subst (λ z. NodeMeans (roll-TypeNode z)) is (λ span context u e.
    ap (λ (d : TypeDen). d (constant_env context)) (fold_type_node-roll meanings meaning_steps (node_tree y))
    ∙ level_means y span context u (sym (ap (λ k. (k span context).ty) (ap (λ p. p.1) (fold_type_node-roll pairs steps (node_tree y)) ∙ ap (λ m. type_expr_typing (map_type_node trees pairs m (node_tree y))) own)) ∙ e))

abbrev type_tree : TypeExprLevel holding → TypeExprLevel trees
type_tree y = map_type_expr holding trees tree_of y

step_type_expr : (x : TypeExprLevel trees) (y : TypeExprLevel holding) → type_tree y ≡ x → Means (roll-TypeExpr x)
step_type_expr x y is = subst (λ z. Means (roll-TypeExpr z)) is (λ context u e.
    ap (λ (d : TypeDen). d (constant_env context)) (fold_type_expr-roll meanings meaning_steps (type_tree y))
    ∙ y.node.1 y.span context u (sym (ap (λ p. (p.1 context).ty) (fold_type_expr-roll pairs steps (type_tree y))) ∙ e))

pub type_means : (t : TypeExpr) → Means t
type_means = ind-TypeExpr (λ x. Unit {0}) (λ x. Unit {0}) (λ x. Unit {0}) NodeMeans (λ x. Unit {0}) (λ x. Unit {0}) (λ x. Unit {0}) (λ x. Unit {0}) (λ x. Unit {0}) (λ x. Unit {0}) (λ x. Unit {0}) (λ x. Unit {0}) (λ x. Unit {0}) Means
    (λ x y is. tt) (λ x y is. tt) (λ x y is. tt) step_type_node (λ x y is. tt) (λ x y is. tt) (λ x y is. tt) (λ x y is. tt) (λ x y is. tt) (λ x y is. tt) (λ x y is. tt) (λ x y is. tt) (λ x y is. tt) step_type_expr
