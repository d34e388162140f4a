-- Constants, aliases and parametrics with whose text nothing is wrong.
use Rattle.std.proofs.Common.{◌≡◌, ◌&&◌, ◌++◌, ℕ, true, if◌then◌else◌, List, [], Option, Some, None, refl, sym, ap, ◌∙◌}
use Rattle.dslx_tree.specs.declared.expr.Expr.{out-Expr}
use Rattle.dslx_tree.specs.declared.type_expr.TypeExpr.{TypeExpr}
use Rattle.dslx_tree.specs.declared.item.Alias.{Alias}
use Rattle.dslx_tree.specs.declared.item.Constant.{Constant}
use Rattle.dslx_tree.specs.declared.item.Parametric.{Parametric}
use Rattle.dslx_meaning.specs.Environment.{Given}
use Rattle.dslx_meaning.specs.Meaning.{denotation}
use Rattle.dslx_meaning.specs.Types.{is_unit}
use Rattle.dslx_meaning.specs.Rules.AggregateRules.{wanted_faults}
use Rattle.dslx_meaning.specs.Rules.ConstantRules.{constant_of, is_empty}
use Rattle.dslx_meaning.specs.Rules.ItemRules.{annotation_typing, alias_seen, constant_seen, is_annotated, item_type_env, typing_of_inner, typing_of_type}
use Rattle.dslx_meaning.specs.Rules.TypeEnvs.{GlobalEnv, unless_broken}
use Rattle.dslx_meaning.specs.Rules.NodeRules.{expr_pair, type_pair}
use Rattle.dslx_meaning.specs.Rules.PatternRules.{is_there}
use Rattle.dslx_meaning.specs.Rules.TypeRules.{span_of_type, unit_faults}
use Rattle.dslx_core.specs.Typing.Typed.Complete.{IsComplete, IsWellTypedPart, IsTypeKnown}
use Rattle.dslx_core.specs.Typing.Typed.Numbers.{AreOwn}
use Rattle.dslx_core.proofs.Lemmas.Typing.Typed.{constant_is_denoted, one_type, own_value}
use Rattle.dslx_core.proofs.Lemmas.Typing.Sound.{all_in, constant_has, expression_gives, none_in, none_in_three, not_broken, type_has_den}
use Rattle.dslx_core.specs.Typing.Complete.HasValue.{AliasHasType, AreTyped, ConstantHasValue, IsWellTypedFound, ParametricHasValue}
use Rattle.dslx_core.proofs.OnTyping.OnComplete.Scopes.{item_env, item_typed, none_own}

-- a written type with which nothing is wrong is one
annotation_there : (known : GlobalEnv) → IsComplete known → AreTyped known → (owner : List ℕ) (o : Option TypeExpr) → IsWellTypedPart known (annotation_typing (item_type_env known owner []) o) → is_annotated o (annotation_typing (item_type_env known owner []) o).ty ≡ true
annotation_there known complete typed owner None well_typed = refl
annotation_there known complete typed owner (Some t) well_typed =
    ap is_there ((type_has_den t).known (item_type_env known owner []) (item_env known []) (item_typed known complete typed owner [] (none_own known)) (record { faults = well_typed.faults; reached = well_typed.reached })).1

pub constant_has_value : (known : GlobalEnv) → IsComplete known → AreTyped known → (c : Constant) → IsWellTypedFound known (constant_seen known c).found → ConstantHasValue known c
constant_has_value known complete typed c well_typed =
    let context = item_type_env known c.name.name [] in
    let written = annotation_typing context c.ty in
    let seen = constant_of context (expr_pair c.value) in
    let wrong = wanted_faults (out-Expr c.value).span written.ty seen.judgement.ty in
    let f = none_in_three written.faults seen.judgement.faults wrong well_typed.faults in
    let s = all_in known.is_sound written.reached seen.judgement.reached well_typed.reached in
    let place = item_typed known complete typed c.name.name [] (none_own known) in
    let k = constant_has context (item_env known []) (expr_pair c.value) (denotation c.value) (expression_gives c.value) place (record { faults = f.1; reached = s.1 }) in
    let annotated = annotation_there known complete typed c.name.name c.ty (record { faults = f.0; reached = s.0 }) in
    record {
      value = k.gives.value;
      is = (λ i. if is_empty (f.0 i ++ f.2 i) && annotated i then seen.value else None) ∙ k.known;
      own = own_value known.items.type_named k.ty ((denotation c.value).value (item_env known [])) k.gives.value k.gives.is k.gives;
      means = k.gives.is;
    }

pub alias_has_type : (known : GlobalEnv) → IsComplete known → AreTyped known → (a : Alias) → IsWellTypedFound known (alias_seen known a).found → AliasHasType known a
alias_has_type known complete typed a well_typed =
    let context = item_type_env known a.name.name [] in
    let j = typing_of_type context a.ty in
    let place = item_typed known complete typed a.name.name [] (none_own known) in
    let k = (type_has_den a.ty).known context (item_env known []) place (record { faults = well_typed.faults; reached = well_typed.reached }) in
    let m = (type_has_den a.ty).means context (item_env known []) place k.0 k.1 in
    record { names = k.0; is = (λ i. unless_broken (well_typed.faults i) j.ty) ∙ k.1; declared = m.1; means = m.0 }

-- a type where () may not stand
pub inner_globals : (known : GlobalEnv) → IsComplete known → AreTyped known → (owner : List ℕ) (parametric_args : List Given) → AreOwn known.items.type_named parametric_args → (p : Parametric) → IsWellTypedPart known (typing_of_inner (item_type_env known owner parametric_args) p.ty)
    → IsTypeKnown (typing_of_type (item_type_env known owner parametric_args) p.ty).ty
inner_globals known complete typed owner parametric_args own p well_typed =
    let context = item_type_env known owner parametric_args in
    let j = typing_of_type context p.ty in
    let unit = unit_faults (span_of_type (type_pair p.ty)) j.ty in
    let f = none_in j.faults unit well_typed.faults in
    let k = (type_has_den p.ty).known context (item_env known parametric_args) (item_typed known complete typed owner parametric_args own) (record { faults = f.0; reached = well_typed.reached }) in
    (k.0, k.1, not_broken (is_unit k.0) 31 (span_of_type (type_pair p.ty)) (ap (unit_faults (span_of_type (type_pair p.ty))) (sym k.1) ∙ f.1))

pub parametric_has_value : (known : GlobalEnv) → IsComplete known → AreTyped known → (owner : List ℕ) (p : Parametric) → ParametricHasValue known owner p
parametric_has_value known complete typed owner p = record {
  means = λ so_far t own e. (type_has_den p.ty).means (item_type_env known owner so_far) (item_env known so_far) (item_typed known complete typed owner so_far own) t e;
  typed = λ so_far own well_typed. inner_globals known complete typed owner so_far own p well_typed;
  default_means = λ so_far e v q. ap (λ x. x.value (item_env known so_far)) (sym (expression_gives e).is) ∙ constant_is_denoted (item_type_env known owner so_far) so_far (expr_pair e) v (record { others = λ name h. refl; hides = λ name c. refl }) q;
  default = λ so_far e own well_typed.
      let context = item_type_env known owner so_far in
      let k = constant_has context (item_env known so_far) (expr_pair e) (denotation e) (expression_gives e) (item_typed known complete typed owner so_far own) (record { faults = well_typed.faults; reached = well_typed.reached }) in
      record {
        value = k.gives.value;
        is = k.known;
        typed = k.typed ∙ ap Some (sym (one_type k.ty k.gives.value k.gives.of));
        own = own_value known.items.type_named k.ty ((denotation e).value (item_env known so_far)) k.gives.value k.gives.is k.gives;
      };
}
