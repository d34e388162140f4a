-- A written type that breaks a rule is none, and a constant that breaks one has no value.
use Rattle.std.proofs.Common.{◌≡◌, ◌&&◌, ◌++◌, ℕ, Bool, true, false, if◌then◌else◌, List, [], ◌∷◌, map, Option, Some, None, refl, sym, ◌∙◌}
use mathlib.Core.Bool.{true≢false}
use Rattle.std.specs.Prelude.{nat_lt}
use Rattle.std.specs.List.{list_all}
use Rattle.xb_span.specs.declared.span.Span.{Span}
use Rattle.xb_span.specs.declared.fault.Fault.{Fault}
use Rattle.xb_span.specs.declared.fault.Fault.TheVariants.{Passed}
use Rattle.xb_span.specs.declared.limit.What.{What}
use Rattle.xb_span.specs.declared.limit.What.TheVariants as what
use Rattle.dslx_tree.specs.declared.block.Stmt.TheOpen.{TypeNode-F}
use Rattle.dslx_tree.specs.declared.type_expr.TypeExpr.{TypeExpr}
use Rattle.dslx_tree.proofs.Lemmas.Folds.Levels.{Carriers, TypeNodeLevel, map_type_node}
use Rattle.dslx_tree.proofs.Lemmas.Folds.Related.{KeepRelated, Relations, both, firsts, related_type_expr}
use Rattle.dslx_meaning.specs.Items.{item_named}
use Rattle.dslx_meaning.specs.Lists.{all_some, and_then, with_both}
use Rattle.dslx_meaning.specs.Meaning.{value_of}
use Rattle.dslx_meaning.specs.Types.{leaves_of, levels_of}
use Rattle.dslx_meaning.specs.declared.ty.DslxType.{DslxType}
use Rattle.dslx_meaning.specs.declared.ty.DslxType as ty
use Rattle.dslx_meaning.specs.Rules.ConstantRules.{constant_of, constant_typing, count_faults, count_of, is_empty, value_if_whole}
use Rattle.dslx_meaning.specs.Rules.Mentions.{AsType, is_of_use}
use Rattle.dslx_meaning.specs.Rules.NodeRules.{type_pair}
use Rattle.dslx_meaning.specs.Rules.TypeEnvs.{ExprPair, Instance, TypeEnv, breaks, breaks_if, constant_env, faults_of_all, found_number, has_broken, leaf_widths, passes, passes_widths, reached_of_all, settled, type_limits, types_of, unless_broken}
use Rattle.dslx_meaning.specs.Rules.TypeRules.{inner_type, inner_types, named_type}
use Rattle.dslx_meaning.specs.Rules.Typings.{TypeExprTyping}
use Rattle.dslx_core.proofs.OnTyping.OnCycles.Parts.{both_whole}
use Rattle.dslx_core.proofs.OnTyping.OnDepends.Links.{expr_typing, mention_steps, mentions, typing}

-- ---- limits are no rules

passed_whole : (w : What) (most end n : ℕ) → has_broken (passes w most end n) ≡ false
passed_whole w most end n = by_test (nat_lt most n)
  where
    by_test : (b : Bool) → has_broken (if b then Passed end (record { what = w; found = found_number n; most = most }) ∷ [] else []) ≡ false
    by_test true = refl
    by_test false = refl

widths_whole : (end : ℕ) (ws : List ℕ) → has_broken (passes_widths end ws) ≡ false
widths_whole end [] = refl
widths_whole end (w ∷ ws) = both_whole (passes what.Width 128 end w) (passes_widths end ws) (passed_whole what.Width 128 end w) (widths_whole end ws)

limits_whole : (end : ℕ) (t : Option DslxType) → has_broken (type_limits end t) ≡ false
limits_whole end None = refl
limits_whole end (Some t) =
    both_whole (passes_widths end (leaf_widths t) ++ passes what.Leaves 256 end (leaves_of t)) (passes what.Levels 64 end (levels_of t))
    (both_whole (passes_widths end (leaf_widths t)) (passes what.Leaves 256 end (leaves_of t)) (widths_whole end (leaf_widths t)) (passed_whole what.Leaves 256 end (leaves_of t))) (passed_whole what.Levels 64 end (levels_of t))

settled_none : (span : Span) (t : Option DslxType) (faults : List Fault) (reached : List Instance) (size : Option ℕ) → has_broken (settled span t faults reached size).faults ≡ true → (settled span t faults reached size).ty ≡ None
settled_none span t faults reached size h = by_broken (has_broken faults) refl
  where
    by_broken : (b : Bool) → has_broken faults ≡ b → unless_broken faults t ≡ None
    by_broken true q = λ i. if q i then None else t
    by_broken false q = absurd (true≢false (sym h ∙ both_whole faults (type_limits span.to (unless_broken faults t)) q (limits_whole span.to (unless_broken faults t))))

-- ---- written types

abbrev NoneIfBroken : TypeExprTyping → Type 0
NoneIfBroken j = (context : TypeEnv) → has_broken (j context).faults ≡ true → (j context).ty ≡ None

abbrev untyped : Relations typing mentions
untyped = record {
  stmt = λ p x. Unit {0};
  node = λ p x. Unit {0};
  shape = λ p x. Unit {0};
  type_node = λ p x. (span : Span) → NoneIfBroken (p.1 span);
  block = λ p x. Unit {0};
  bind = λ p x. Unit {0};
  arg = λ p x. Unit {0};
  arm = λ p x. Unit {0};
  expr = λ p x. Unit {0};
  field = λ p x. Unit {0};
  loop = λ p x. Unit {0};
  number = λ p x. Unit {0};
  pattern = λ p x. Unit {0};
  type_expr = λ p x. NoneIfBroken p.1;
}

abbrev Parts : Carriers
Parts = both typing mentions untyped

named_none : (span : Span) (context : TypeEnv) (name : List ℕ) (b : Bool) → has_broken (named_type span context name b).faults ≡ true → (named_type span context name b).ty ≡ None
named_none span context name false h = settled_none span None (breaks 1 span ∷ []) [] (Some 0) h
named_none span context name true h = settled_none span (context.known.items.type_named name) (breaks_if (context.known.is_cyclic context.owner name) 3 span) [] (Some 0) h

node_none : (x : TypeNodeLevel Parts) (span : Span) → NoneIfBroken ((expr_typing.type_node (map_type_node Parts typing (firsts typing mentions untyped) x)).1 span)
node_none (TypeNode-F.Bits signed width) span context h = settled_none span (Some (ty.Bits signed width)) (count_faults span (Some width)) [] (Some 0) h
node_none (TypeNode-F.Wide signed e) span context h =
    let n = count_of context e.0 in
    settled_none span (and_then n.count (λ w. Some (ty.Bits signed w))) n.judgement.faults n.judgement.reached (Some 0) h
node_none TypeNode-F.TypeNode::Bool span context h = settled_none span (Some (ty.Bits false 1)) [] [] (Some 0) h
node_none (TypeNode-F.TypeNode::Name name) span context h = named_none span context name (is_of_use AsType (item_named name context.known.whole.items)) h
node_none (TypeNode-F.TypeNode::Tuple ts) span context h =
    let js = inner_types context (map (λ (p : Parts.type_expr). p.0) ts) in
    settled_none span (and_then (all_some (types_of js)) (λ us. Some (ty.Tuple us))) (faults_of_all js) (reached_of_all js) (Some 0) h
node_none (TypeNode-F.TypeNode::Array t e) span context h =
    let j = inner_type context t.0 in
    let n = count_of context e.0 in
    settled_none span (with_both j.ty n.count (λ u k. Some (ty.Array u k))) (j.faults ++ n.judgement.faults) n.judgement.reached (Some 0) h

all_untyped : KeepRelated typing mentions untyped expr_typing mention_steps
all_untyped = record {
  stmt = λ x. tt;
  node = λ x. tt;
  shape = λ x. tt;
  type_node = node_none;
  block = λ x. tt;
  bind = λ x. tt;
  arg = λ x. tt;
  arm = λ x. tt;
  expr = λ x. tt;
  field = λ x. tt;
  loop = λ x. tt;
  number = λ x. tt;
  pattern = λ x. tt;
  type_expr = λ x. x.node.2 x.span;
}

pub broken_type_is_none : (t : TypeExpr) (context : TypeEnv) → has_broken ((type_pair t).1 context).faults ≡ true → ((type_pair t).1 context).ty ≡ None
broken_type_is_none t = related_type_expr typing mentions untyped expr_typing mention_steps all_untyped t

-- ---- constants

broken_there : (fs : List Fault) → has_broken fs ≡ true → is_empty fs ≡ false
broken_there [] h = absurd (true≢false (sym h))
broken_there (f ∷ fs) h = refl

pub broken_constant_is_none : (context : TypeEnv) (e : ExprPair) → has_broken (constant_of context e).judgement.faults ≡ true → (constant_of context e).value ≡ None
broken_constant_is_none context e h =
    let j = constant_typing context e in
    λ i. if broken_there j.faults h i && list_all context.known.is_sound j.reached then value_if_whole j (value_of e.0 (constant_env context)) else None
