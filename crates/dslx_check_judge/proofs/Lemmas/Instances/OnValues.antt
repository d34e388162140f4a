-- Values of parametrics that break rule 10.
use Rattle.std.proofs.Common.{◌≡◌, ◌||◌, ℕ, Bool, true, List, [], ◌∷◌, Option, None, refl, sym, ap}
use mathlib.Core.Bool.{true≢false}
use Rattle.dslx_tree.specs.declared.item.Parametric.{Parametric}
use Rattle.dslx_meaning.specs.declared.value.DslxValue.{DslxValue}
use Rattle.dslx_meaning.specs.Inference.{Inferred}
use Rattle.dslx_meaning.specs.Rules.CallRules.{Before, Number, ParametricArgument as GivenSeen, Resolved, Unknown, Wrong, is_wrong_parametric, parametric_args_seen, value_before}
use Rattle.dslx_meaning.specs.Rules.TypeEnvs.{GlobalEnv}

no_value_before : (r : Resolved) → value_before r None ≡ None
no_value_before (Number v) = refl
no_value_before Unknown = refl
no_value_before Wrong = refl

by_rest : (r : Resolved) (is_wrong : Bool) (values : Option (List DslxValue)) → (is_wrong ≡ true → values ≡ None) → (is_wrong_parametric r || is_wrong) ≡ true → value_before r values ≡ None
by_rest (Number v) is_wrong values h e = ap (value_before (Number v)) (h e)
by_rest Unknown is_wrong values h e = refl
by_rest Wrong is_wrong values h e = refl

-- they have no values
pub wrong_has_no_values : (known : GlobalEnv) (owner : List ℕ) (numbers : List Inferred) (maybe : List (List ℕ)) (ps : List Parametric) (gs : List GivenSeen) (before : Before)
    → (parametric_args_seen known owner numbers maybe before ps gs).is_wrong ≡ true → (parametric_args_seen known owner numbers maybe before ps gs).values ≡ None
wrong_has_no_values known owner numbers maybe [] [] before e = absurd (true≢false (sym e))
wrong_has_no_values known owner numbers maybe [] (g ∷ gs) before e = refl
wrong_has_no_values known owner numbers maybe (p ∷ ps) (g ∷ gs) before e = by_rest _ _ _ (wrong_has_no_values known owner numbers maybe ps gs _) e
wrong_has_no_values known owner numbers maybe (p ∷ ps) [] before e = by_rest _ _ _ (wrong_has_no_values known owner numbers maybe ps [] _) e
