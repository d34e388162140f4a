-- The type environment behind parametrics of values, of which the last one comes first.
use Rattle.std.proofs.Common.{◌≡◌, ◌∙◌, ◌++◌, ℕ, zero, suc, List, [], ◌∷◌, Option, length, drop, reverse, arith, refl, sym, ap}
use mathlib.Core.List.{reverse-cons}
use Rattle.std.proofs.lemmas.List.{length-reverse}
use Rattle.dslx_tree.specs.declared.item.Parametric.{Parametric}
use Rattle.dslx_meaning.specs.declared.value.DslxValue.{DslxValue}
use Rattle.dslx_meaning.specs.Items.{item_named}
use Rattle.dslx_meaning.specs.Rules.ItemRules.{item_type_env}
use Rattle.dslx_meaning.specs.Rules.ModuleRules.{behind_next, behind_values, parametrics_of, with_parametric}
use Rattle.dslx_meaning.specs.Rules.TypeEnvs.{GlobalEnv, TypeEnv}
use Rattle.dslx_check_declarations.specs.Scopes.{context_behind}

none_behind : (context : TypeEnv) (ps : List Parametric) → context_behind context ps [] ≡ context
none_behind context [] = refl
none_behind context (p ∷ ps) = refl

context_next : (context : TypeEnv) (ps : List Parametric) (vs : List (Option DslxValue)) (v : Option DslxValue) → context_behind context ps (vs ++ v ∷ []) ≡ (behind_next (context_behind context ps vs) (drop (length vs) ps) v).context
context_next context [] [] v = refl
context_next context [] (u ∷ vs) v = refl
context_next context (p ∷ ps) [] v = none_behind (with_parametric context p v) ps
context_next context (p ∷ ps) (u ∷ vs) v = context_next (with_parametric context p u) ps vs v

drop_more : {A : Type 0} (xs : List A) (n : ℕ) → drop 1 (drop n xs) ≡ drop (suc n) xs
drop_more xs zero = refl
drop_more [] (suc n) = refl
drop_more (x ∷ xs) (suc n) = drop_more xs n

left_next : (context : TypeEnv) (ps : List Parametric) (v : Option DslxValue) → (behind_next context ps v).left ≡ drop 1 ps
left_next context [] v = refl
left_next context (p ∷ ps) v = refl

-- which parametrics are left
pub left_behind : (known : GlobalEnv) (owner : List ℕ) (before : List (Option DslxValue)) → (behind_values known owner before).left ≡ drop (length before) (parametrics_of (item_named owner known.whole.items))
left_behind known owner [] = refl
left_behind known owner (v ∷ vs) =
    let b = behind_values known owner vs in
    left_next b.context b.left v ∙ ap (drop 1) (left_behind known owner vs) ∙ drop_more (parametrics_of (item_named owner known.whole.items)) (length vs)

-- and what is in scope
pub context_is : (known : GlobalEnv) (owner : List ℕ) (before : List (Option DslxValue))
    → context_behind (item_type_env known owner []) (parametrics_of (item_named owner known.whole.items)) (reverse before) ≡ (behind_values known owner before).context
context_is known owner [] = none_behind (item_type_env known owner []) (parametrics_of (item_named owner known.whole.items))
context_is known owner (v ∷ vs) =
    let ps = parametrics_of (item_named owner known.whole.items) in
    let E = item_type_env known owner [] in
    ap (context_behind E ps) (reverse-cons v vs)
    ∙ context_next E ps (reverse vs) v
    ∙ (λ i. (behind_next (context_is known owner vs i) (drop (length-reverse vs i) ps) v).context)
    ∙ ap (λ l. (behind_next (behind_values known owner vs).context l v).context) (sym (left_behind known owner vs))
