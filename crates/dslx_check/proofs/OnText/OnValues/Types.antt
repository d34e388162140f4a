-- A written type that is known is the one that it denotes by what is known, whatever else of the text is known.
use Rattle.std.proofs.Common.{◌≡◌, ◌++◌, ℕ, Bool, true, false, List, [], ◌∷◌, map, Option, Some, None, refl, sym, ap, ◌∙◌}
use Rattle.xb_span.specs.declared.span.Span.{Span}
use Rattle.dslx_tree.specs.declared.block.Stmt.TheOpen.{TypeNode-F}
use Rattle.dslx_tree.specs.declared.expr.Expr.{Expr}
use Rattle.dslx_tree.specs.declared.type_expr.TypeExpr.{TypeExpr, roll-TypeExpr}
use Rattle.dslx_tree.specs.declared.type_expr.TypeNode.{TypeNode, roll-TypeNode}
use Rattle.dslx_tree.proofs.Lemmas.Folds.Levels.{Carriers, trees, TypeNodeLevel, TypeExprLevel, map_type_node, map_type_expr}
use Rattle.dslx_tree.proofs.Lemmas.Folds.Folds.{Steps, folds, fold_expr, fold_type_expr, fold_type_node, fold_type_expr-roll, fold_type_node-roll}
use Rattle.dslx_meaning.specs.Environment.{Env, Given}
use Rattle.dslx_meaning.specs.Items.{item_named}
use Rattle.dslx_meaning.specs.Lists.{all_some, and_then, with_both}
use Rattle.dslx_meaning.specs.Meaning as m
use Rattle.dslx_meaning.specs.Meaning.{ArmDen, ExprDen, FieldDen, PatternDen, StmtDen, TypeDen, ValueDen, denotation, size_of, written_type}
use Rattle.dslx_meaning.specs.declared.ty.DslxType.{DslxType}
use Rattle.dslx_meaning.specs.declared.ty.DslxType as ty
use Rattle.dslx_meaning.specs.Rules.ConstantRules.{count_faults, count_of}
use Rattle.dslx_meaning.specs.Rules.Mentions.{AsType, is_of_use}
use Rattle.dslx_meaning.specs.Rules.NodeRules.{type_pair, typing_steps}
use Rattle.dslx_meaning.specs.Rules.TypeEnvs.{TypeEnv, breaks, breaks_if, faults_of_all, types_of}
use Rattle.dslx_meaning.specs.Rules.TypeRules.{inner_type, inner_types, named_type, type_expr_typing}
use Rattle.dslx_meaning.specs.Rules.Typings.{TypePair, typing_sorts}
use Rattle.dslx_core.specs.Typing.Typed.InTypeEnv.{IsInTypeEnv, env_there}
use Rattle.dslx_core.proofs.Lemmas.Typing.Sound.{HoldOn, TreeClaims, held, held_tree, holds_type_expr, own_expr, paired, pairing, some_fault}
use Rattle.dslx_core.proofs.Lemmas.Typing.Typed.{all_are, all_there, list_parts, none_some, settled_type, size_is_denoted}

-- ---- what is there in one place is there in the other

abbrev pub Keeps : {A : Type 0} → Option A → Option A → Type 0
Keeps {A} o p = (a : A) → o ≡ Some a → p ≡ Some a

pub then_kept : {A B : Type 0} (o p : Option A) (f : A → Option B) → Keeps o p → Keeps (and_then o f) (and_then p f)
then_kept None p f k b e = none_some b e
then_kept (Some a) p f k b e = ap (λ q. and_then q f) (k a refl) ∙ e

pub both_kept : {A B C : Type 0} (o p : Option A) (q r : Option B) (f : A → B → Option C) → Keeps o p → Keeps q r → Keeps (with_both o q f) (with_both p r f)
both_kept None p q r f k l c e = none_some c e
both_kept (Some a) p None r f k l c e = none_some c e
both_kept (Some a) p (Some b) r f k l c e = (λ i. with_both (k a refl i) (l b refl i) f) ∙ e

-- each of these is there in both
pub each_kept : {X A : Type 0} (f g : X → Option A) → ((x : X) → Keeps (f x) (g x)) → (xs : List X) (ts : List A) → map f xs ≡ map Some ts → map g xs ≡ map Some ts
each_kept f g k [] [] e = refl
each_kept f g k [] (t ∷ ts) e = some_fault (Some t) (map Some ts) (sym e)
each_kept f g k (x ∷ xs) [] e = some_fault (f x) (map f xs) e
each_kept f g k (x ∷ xs) (t ∷ ts) e =
    let both = list_parts (f x) (Some t) (map f xs) (map Some ts) e in
    λ i. k x t both.0 i ∷ each_kept f g k xs ts both.1 i

pub all_kept : {X A : Type 0} (f g : X → Option A) → ((x : X) → Keeps (f x) (g x)) → (xs : List X) → Keeps (all_some (map f xs)) (all_some (map g xs))
all_kept f g k xs ts e = ap all_some (each_kept f g k xs ts (all_there (map f xs) ts e)) ∙ all_are ts

-- ---- what parts come to, and what they mean

abbrev seen : Carriers
seen = paired typing_sorts

abbrev seeing : Steps seen
seeing = pairing typing_sorts typing_steps

abbrev meant : Carriers
meant = record {
  stmt = StmtDen;
  node = ExprDen;
  shape = PatternDen;
  type_node = TypeDen;
  block = ValueDen;
  bind = StmtDen;
  arg = ExprDen;
  arm = ArmDen;
  expr = ExprDen;
  field = FieldDen;
  loop = ValueDen;
  number = ExprDen;
  pattern = PatternDen;
  type_expr = TypeDen;
}

abbrev meaning : Steps meant
meaning = record {
  stmt = m.stmt_den;
  node = m.node_den;
  shape = m.shape_den;
  type_node = m.type_den;
  block = m.block_den;
  bind = m.let_den;
  arg = m.arg_den;
  arm = m.arm_den;
  expr = m.expr_den;
  field = m.field_den;
  loop = m.for_den;
  number = m.number_node;
  pattern = m.pattern_den;
  type_expr = m.type_expr_den;
}

-- ---- what is to hold of types

-- where it has a type, it denotes that at its place
abbrev pub TypeHolds : TypeExpr → Type 0
TypeHolds x = (context : TypeEnv) (bound : List Given) → IsInTypeEnv context bound → Keeps ((type_pair x).1 context).ty (written_type x (env_there context bound))

abbrev NodeHolds : TypeNode → Type 0
NodeHolds x = (span : Span) (context : TypeEnv) (bound : List Given) → IsInTypeEnv context bound
    → Keeps ((fold_type_node seen seeing x).1 span context).ty (fold_type_node meant meaning x (env_there context bound))

abbrev claims : TreeClaims
claims = record {
  stmt = λ x. Unit {0};
  node = λ x. Unit {0};
  shape = λ x. Unit {0};
  type_node = NodeHolds;
  block = λ x. Unit {0};
  bind = λ x. Unit {0};
  arg = λ x. Unit {0};
  arm = λ x. Unit {0};
  expr = λ x. Unit {0};
  field = λ x. Unit {0};
  loop = λ x. Unit {0};
  number = λ x. Unit {0};
  pattern = λ x. Unit {0};
  type_expr = TypeHolds;
}

abbrev Parts : Carriers
Parts = held claims

abbrev TypePart : Type 0
TypePart = (x : TypeExpr) × TypeHolds x

-- ---- each kind of type

-- a width or a size
count_kept : (x : Expr) (context : TypeEnv) (bound : List Given) → IsInTypeEnv context bound
    → Keeps (count_of context (fold_expr seen seeing x)).count (size_of (denotation x) (env_there context bound))
count_kept x context bound h n e =
    ap (λ z. size_of (denotation z) (env_there context bound)) (sym (own_expr typing_sorts typing_steps x)) ∙ size_is_denoted context bound (fold_expr seen seeing x) n h e

named_kept : (span : Span) (context : TypeEnv) (name : List ℕ) (b : Bool) → Keeps (named_type span context name b).ty (context.known.items.type_named name)
named_kept span context name false t e = none_some t (settled_type None (breaks 1 span ∷ []) t e).1
named_kept span context name true t e = (settled_type (context.known.items.type_named name) (breaks_if (context.known.is_cyclic context.owner name) 3 span) t e).1

abbrev seen_part : TypePart → TypePair
seen_part p = fold_type_expr seen seeing p.0

abbrev meant_part : TypePart → TypeDen
meant_part p = written_type p.0

types_twice : (context : TypeEnv) (ps : List TypePart) → types_of (inner_types context (map (fold_type_expr seen seeing) (map (λ (p : TypePart). p.0) ps))) ≡ map (λ (p : TypePart). ((seen_part p).1 context).ty) ps
types_twice context [] = refl
types_twice context (p ∷ ps) = λ i. ((seen_part p).1 context).ty ∷ types_twice context ps i

meant_twice : (env : Env) (ps : List TypePart) → map (λ (t : TypeDen). t env) (map (fold_type_expr meant meaning) (map (λ (p : TypePart). p.0) ps)) ≡ map (λ (p : TypePart). meant_part p env) ps
meant_twice env [] = refl
meant_twice env (p ∷ ps) = λ i. meant_part p env ∷ meant_twice env ps i

tuple_kept : (context : TypeEnv) (bound : List Given) → IsInTypeEnv context bound → (ps : List TypePart)
    → Keeps (all_some (types_of (inner_types context (map (fold_type_expr seen seeing) (map (λ (p : TypePart). p.0) ps)))))
    (all_some (map (λ (t : TypeDen). t (env_there context bound)) (map (fold_type_expr meant meaning) (map (λ (p : TypePart). p.0) ps))))
tuple_kept context bound h ps ts e =
    ap all_some (meant_twice (env_there context bound) ps)
    ∙ all_kept (λ (p : TypePart). ((seen_part p).1 context).ty) (λ (p : TypePart). meant_part p (env_there context bound)) (λ p. p.1 context bound h) ps ts (ap all_some (sym (types_twice context ps)) ∙ e)

-- a level of a written type
level_kept : (y : TypeNodeLevel Parts) (span : Span) (context : TypeEnv) (bound : List Given) → IsInTypeEnv context bound
    → Keeps (type_expr_typing (map_type_node trees seen (folds seen seeing) (map_type_node Parts trees (held_tree claims) y)) span context).ty
    (m.type_den (map_type_node trees meant (folds meant meaning) (map_type_node Parts trees (held_tree claims) y)) (env_there context bound))
level_kept (TypeNode-F.Bits s w) span context bound h t e = (settled_type (Some (ty.Bits s w)) (count_faults span (Some w)) t e).1
level_kept (TypeNode-F.Wide s p) span context bound h t e =
    let n = count_of context (fold_expr seen seeing p.0) in
    let own = (settled_type (and_then n.count (λ w. Some (ty.Bits s w))) ([] ++ n.judgement.faults) t e).1 in
    then_kept n.count (size_of (denotation p.0) (env_there context bound)) (λ w. Some (ty.Bits s w)) (count_kept p.0 context bound h) t own
level_kept TypeNode-F.TypeNode::Bool span context bound h t e = (settled_type (Some (ty.Bits false 1)) [] t e).1
level_kept (TypeNode-F.TypeNode::Name name) span context bound h t e = named_kept span context name (is_of_use AsType (item_named name context.known.whole.items)) t e
level_kept (TypeNode-F.TypeNode::Tuple ps) span context bound h t e =
    let js = inner_types context (map (fold_type_expr seen seeing) (map (λ (p : TypePart). p.0) ps)) in
    let own = (settled_type (and_then (all_some (types_of js)) (λ ts. Some (ty.Tuple ts))) (faults_of_all js) t e).1 in
    then_kept (all_some (types_of js)) (all_some (map (λ (t : TypeDen). t (env_there context bound)) (map (fold_type_expr meant meaning) (map (λ (p : TypePart). p.0) ps)))) (λ ts. Some (ty.Tuple ts))
    (tuple_kept context bound h ps) t own
level_kept (TypeNode-F.TypeNode::Array p q) span context bound h t e =
    let element = inner_type context (fold_type_expr seen seeing p.0) in
    let n = count_of context (fold_expr seen seeing q.0) in
    let own = (settled_type (with_both element.ty n.count (λ t n. Some (ty.Array t n))) (element.faults ++ n.judgement.faults) t e).1 in
    both_kept element.ty (written_type p.0 (env_there context bound)) n.count (size_of (denotation q.0) (env_there context bound)) (λ t n. Some (ty.Array t n))
    (p.1 context bound h) (count_kept q.0 context bound h) t own

-- ---- the induction

node_on : (y : TypeNodeLevel Parts) → NodeHolds (roll-TypeNode (map_type_node Parts trees (held_tree claims) y))
node_on y span context bound h t e =
    let x = map_type_node Parts trees (held_tree claims) y in
    let typed = ap (λ p. (p.1 span context).ty) (fold_type_node-roll seen seeing x) in
    ap (λ (f : TypeDen). f (env_there context bound)) (fold_type_node-roll meant meaning x) ∙ level_kept y span context bound h t (sym typed ∙ e)

type_on : (y : TypeExprLevel Parts) → TypeHolds (roll-TypeExpr (map_type_expr Parts trees (held_tree claims) y))
type_on y context bound h t e =
    let x = map_type_expr Parts trees (held_tree claims) y in
    let typed = ap (λ p. (p.1 context).ty) (fold_type_expr-roll seen seeing x) in
    ap (λ (f : TypeDen). f (env_there context bound)) (fold_type_expr-roll meant meaning x) ∙ y.node.1 y.span context bound h t (sym typed ∙ e)

all_on : HoldOn claims
all_on = record {
  stmt = λ y. tt;
  node = λ y. tt;
  shape = λ y. tt;
  type_node = node_on;
  block = λ y. tt;
  bind = λ y. tt;
  arg = λ y. tt;
  arm = λ y. tt;
  expr = λ y. tt;
  field = λ y. tt;
  loop = λ y. tt;
  number = λ y. tt;
  pattern = λ y. tt;
  type_expr = type_on;
}

-- a written type that is known is what it denotes
pub type_kept : (x : TypeExpr) → TypeHolds x
type_kept = holds_type_expr claims all_on
