-- What builtins become.
use Rattle.std.proofs.Common.{◌≡◌, ◌≢◌, Bool, true, false, ℕ, List, [], ◌∷◌, length, map, Option, Some, None, refl, sym, ap, ◌∙◌}
use Rattle.dslx_meaning.specs.Callees.{Joins}
use Rattle.dslx_meaning.specs.Lists.{all_some, and_then, where_true}
use Rattle.dslx_meaning.specs.Types.{bool_type}
use Rattle.dslx_meaning.specs.declared.ty.DslxType.{DslxType}
use Rattle.dslx_meaning.specs.declared.ty.DslxType as ty
use Rattle.dslx_core.proofs.Lemmas.Typing.Typed.OfLists.{all_are}
use Rattle.dslx_meaning.specs.Rules.AggregateRules.{array_in}
use Rattle.dslx_core.specs.declared.expr.CoreUnary.{CoreUnary}
use Rattle.dslx_core.specs.declared.expr.CoreExpr as core
use Rattle.dslx_core.specs.Lowering.EqualTypes.{equal_type}
use Rattle.dslx_core.specs.Lowering.Lowering.{LoweredExpr, lowered, lower_counted, lower_reduced, lower_updated}
use Rattle.dslx_core_exprs.specs.Calls.Builtins.{builtin_of}
use Rattle.dslx_core_exprs.specs.Calls.Inner.Parts.{is_of_elements}

pub join_is : (es : List LoweredExpr) (e : LoweredExpr) → Some e ≡ lowered (core.Tuple []) ty.Token → Some e ≡ builtin_of Joins es
join_is es e h = h ∙ ap (λ o. and_then o (λ es. lowered (core.Tuple []) ty.Token)) (sym (all_are es))

pub counted_none : (op : CoreUnary) (es : List LoweredExpr) → length es ≢ 1 → None ≡ lower_counted op (map Some es)
counted_none op [] other = refl
counted_none op (e ∷ []) other = absurd (other refl)
counted_none op (e ∷ e' ∷ es) other = refl

pub counted_some : (op : CoreUnary) (es : List LoweredExpr) (e made : LoweredExpr) → es ≡ e ∷ [] → Some made ≡ lowered (core.Unary op e.core) e.ty → Some made ≡ lower_counted op (map Some es)
counted_some op es e made h m = m ∙ sym (ap (λ es. lower_counted op (map Some es)) h)

pub reduced_none : (op : CoreUnary) (es : List LoweredExpr) → length es ≢ 1 → None ≡ lower_reduced op (map Some es)
reduced_none op [] other = refl
reduced_none op (e ∷ []) other = absurd (other refl)
reduced_none op (e ∷ e' ∷ es) other = refl

pub reduced_some : (op : CoreUnary) (es : List LoweredExpr) (e made : LoweredExpr) → es ≡ e ∷ [] → Some made ≡ lowered (core.Unary op e.core) bool_type → Some made ≡ lower_reduced op (map Some es)
reduced_some op es e made h m = m ∙ sym (ap (λ es. lower_reduced op (map Some es)) h)

pub updated_none : (es : List LoweredExpr) → length es ≢ 3 → None ≡ lower_updated (map Some es)
updated_none [] other = refl
updated_none (a ∷ []) other = refl
updated_none (a ∷ b ∷ []) other = refl
updated_none (a ∷ b ∷ c ∷ []) other = absurd (other refl)
updated_none (a ∷ b ∷ c ∷ d ∷ es) other = refl

pub updated_some : (es : List LoweredExpr) (a b c : LoweredExpr) (o : Option LoweredExpr) → es ≡ a ∷ b ∷ c ∷ [] → o ≡ lower_updated (Some a ∷ Some b ∷ Some c ∷ []) → o ≡ lower_updated (map Some es)
updated_some es a b c o h e = e ∙ sym (ap (λ es. lower_updated (map Some es)) h)

abbrev update : LoweredExpr → LoweredExpr → LoweredExpr → Option LoweredExpr
update a i new = lowered (core.Update a.core i.core new.core) a.ty

update_is : (a i new : LoweredExpr) → lower_updated (Some a ∷ Some i ∷ Some new ∷ []) ≡ where_true (is_of_elements (array_in a.ty) new.ty) (update a i new)
update_is a i new = by (array_in a.ty)
  where
    by : (o : Option (DslxType × ℕ)) → and_then o (λ parts. where_true (equal_type parts.0 new.ty) (update a i new)) ≡ where_true (is_of_elements o new.ty) (update a i new)
    by None = refl
    by (Some parts) = refl

pub update_refused : (fits : Bool) (a i new : LoweredExpr) → fits ≡ is_of_elements (array_in a.ty) new.ty → fits ≡ false → None ≡ lower_updated (Some a ∷ Some i ∷ Some new ∷ [])
update_refused fits a i new h b = ap (λ b. where_true b (update a i new)) (sym b ∙ h) ∙ sym (update_is a i new)

pub update_made : (fits : Bool) (a i new : LoweredExpr) → fits ≡ is_of_elements (array_in a.ty) new.ty → fits ≡ true
    → Some (record { core = core.Update a.core i.core new.core; ty = a.ty }) ≡ lower_updated (Some a ∷ Some i ∷ Some new ∷ [])
update_made fits a i new h b = ap (λ b. where_true b (update a i new)) (sym b ∙ h) ∙ sym (update_is a i new)
