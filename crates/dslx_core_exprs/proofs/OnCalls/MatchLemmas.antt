-- What matches become.
use Rattle.std.proofs.Common.{◌≡◌, Bool, true, false, List, [], ◌∷◌, map, Option, Some, None, refl, sym, ap, ◌∙◌}
use Rattle.std.specs.List.{list_all}
use Rattle.dslx_meaning.specs.Lists.{and_then, where_true}
use Rattle.dslx_meaning.specs.declared.ty.DslxType.{DslxType}
use Rattle.dslx_core.specs.declared.expr.CoreExpr as core
use Rattle.dslx_core.specs.Lowering.EqualTypes.{equal_type}
use Rattle.dslx_core.specs.Lowering.Lowering.{LoweredExpr, lowered}
use Rattle.dslx_core.specs.Lowering.Patterns.{LoweredArm, arms_of}
use Rattle.dslx_core_exprs.specs.Calls.Inner.Parts.{type_of_all, type_of_first}

pub all_alike : (all : Bool) (a : LoweredArm) (as' : List LoweredArm) (t : DslxType) → all ≡ list_all (λ (c : LoweredArm). equal_type a.ty c.ty) as' → all ≡ true → t ≡ a.ty → Some t ≡ type_of_first a as'
all_alike all a as' t h b same = ap Some same ∙ ap (λ b. where_true b (Some a.ty)) (sym b ∙ h)

pub not_alike : (all : Bool) (a : LoweredArm) (as' : List LoweredArm) → all ≡ list_all (λ (c : LoweredArm). equal_type a.ty c.ty) as' → all ≡ false → None ≡ type_of_first a as'
not_alike all a as' h b = ap (λ b. where_true b (Some a.ty)) (sym b ∙ h)

abbrev select : LoweredExpr → List LoweredArm → DslxType → Option LoweredExpr
select e as' t = lowered (core.Select e.core (map (λ (a : LoweredArm). a.arm) as')) t

select_is : (e : LoweredExpr) (as' : List LoweredArm) → arms_of e as' ≡ and_then (type_of_all as') (select e as')
select_is e [] = refl
select_is e (a ∷ as') = by (list_all (λ (c : LoweredArm). equal_type a.ty c.ty) as')
  where
    by : (b : Bool) → where_true b (select e (a ∷ as') a.ty) ≡ and_then (where_true b (Some a.ty)) (select e (a ∷ as'))
    by true = refl
    by false = refl

pub select_none : (e : LoweredExpr) (as' : List LoweredArm) → None ≡ type_of_all as' → None ≡ arms_of e as'
select_none e as' h = ap (λ o. and_then o (select e as')) h ∙ sym (select_is e as')

pub select_some : (e : LoweredExpr) (as' : List LoweredArm) (t : DslxType) → Some t ≡ type_of_all as' → select e as' t ≡ arms_of e as'
select_some e as' t h = ap (λ o. and_then o (select e as')) h ∙ sym (select_is e as')
