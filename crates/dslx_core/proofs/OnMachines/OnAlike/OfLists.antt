-- Tuples and arrays: where their parts are alike, so are they.
use Rattle.std.proofs.Common.{◌≡◌, ◌&&◌, ◌==◌, ℕ, suc, Bool, true, false, List, [], ◌∷◌, map, length, Option, Some, None, refl, ap, subst}
use Rattle.std.specs.Prelude.{nat_le}
use Rattle.std.specs.List.{list_all}
use Rattle.dslx_meaning.specs.Lists.{all_some, and_then}
use Rattle.dslx_meaning.specs.declared.ty.DslxType.{DslxType}
use Rattle.dslx_meaning.specs.declared.ty.DslxType as ty
use Rattle.dslx_meaning.specs.declared.value.UntypedLiteral.{UntypedLiteral}
use Rattle.dslx_meaning.specs.Rules.AggregateRules.{array_in}
use Rattle.dslx_core.specs.Lowering.EqualTypes.{equal_type}
use Rattle.dslx_core.specs.Lowering.Lowering.{LoweredExpr, lower_number, lower_tuple, types_of_lowered}
use Rattle.dslx_core.specs.Lowering.Trees.{lower_array, element_or_number, lower_array_elements, lower_filled, of_type}
use Rattle.dslx_core.proofs.OnMachines.OnAlike.OfOperators.{ExprsAlike, OneType}
use Rattle.dslx_core.proofs.OnMachines.OnAlike.Relation.{Alike, Each, EachAlike, alike_itself, all_alike, both_there, none_alike, then_alike, then_same, there_under}

-- ---- lists of expressions of the same types

abbrev pub OneTypes : List LoweredExpr → List LoweredExpr → Type 0
OneTypes es fs = Each OneType es fs

pub types_one : (es fs : List LoweredExpr) → OneTypes es fs → types_of_lowered es ≡ types_of_lowered fs
types_one [] [] h = refl
types_one [] (f ∷ fs) h = absurd h
types_one (e ∷ es) [] h = absurd h
types_one (e ∷ es) (f ∷ fs) h = λ i. h.0 i ∷ types_one es fs h.1 i

-- as many, of one type
counts_one : (es fs : List LoweredExpr) → OneTypes es fs → length es ≡ length fs
counts_one [] [] h = refl
counts_one [] (f ∷ fs) h = absurd h
counts_one (e ∷ es) [] h = absurd h
counts_one (e ∷ es) (f ∷ fs) h = ap suc (counts_one es fs h.1)

-- all are of a type
all_of_type : (t u : DslxType) (es fs : List LoweredExpr) → t ≡ u → OneTypes es fs → list_all (λ (c : LoweredExpr). equal_type t c.ty) es ≡ list_all (λ (c : LoweredExpr). equal_type u c.ty) fs
all_of_type t u [] [] q h = refl
all_of_type t u [] (f ∷ fs) q h = absurd h
all_of_type t u (e ∷ es) [] q h = absurd h
all_of_type t u (e ∷ es) (f ∷ fs) q h = λ i. equal_type (q i) (h.0 i) && all_of_type t u es fs q h.1 i

-- ---- elements, which may be numbers without a type

abbrev pub Element : Type 0
Element = Option UntypedLiteral × Option LoweredExpr

abbrev pub ElementsAlike : Bool → List Element → List Element → Type 0
ElementsAlike more [] [] = Unit {0}
ElementsAlike more (e ∷ es) (f ∷ fs) = (e.0 ≡ f.0) × ExprsAlike more e.1 f.1 × ElementsAlike more es fs
ElementsAlike more [] (f ∷ fs) = ⊥
ElementsAlike more (e ∷ es) [] = ⊥

module _ (more : Bool) where
  abbrev ExprListsAlike : Option (List LoweredExpr) → Option (List LoweredExpr) → Type 0
  ExprListsAlike o q = Alike more (Each OneType) o q

  pub tuple_alike : (os qs : List (Option LoweredExpr)) → EachAlike more OneType os qs → ExprsAlike more (lower_tuple os) (lower_tuple qs)
  tuple_alike os qs h = then_alike more (Each OneType) OneType (all_some os) (all_some qs) _ _ (all_alike more OneType os qs h) (λ es fs k. both_there more OneType _ _ (ap ty.Tuple (types_one es fs k)))

  pub of_type_alike : (t : DslxType) (o q : Option LoweredExpr) → ExprsAlike more o q → ExprsAlike more (of_type t o) (of_type t q)
  of_type_alike t o q h = then_alike more OneType OneType o q _ _ h (λ e f k. there_under more OneType _ _ e f (ap (equal_type t) k) k)

  element_alike : (t : DslxType) (e f : Element) → e.0 ≡ f.0 → ExprsAlike more e.1 f.1 → ExprsAlike more (element_or_number t e.0 e.1) (element_or_number t f.0 f.1)
  element_alike t e f same h = subst (λ b. ExprsAlike more (element_or_number t e.0 e.1) (element_or_number t b f.1)) same (by e.0)
    where
      by : (b : Option UntypedLiteral) → ExprsAlike more (element_or_number t b e.1) (element_or_number t b f.1)
      by None = of_type_alike t e.1 f.1 h
      by (Some number) = alike_itself more OneType (of_type t (lower_number (Some t) number)) (λ e. refl)

  each_element : (t : DslxType) (es fs : List Element) → ElementsAlike more es fs
      → EachAlike more OneType (map (λ (e : Element). element_or_number t e.0 e.1) es) (map (λ (e : Element). element_or_number t e.0 e.1) fs)
  each_element t [] [] h = tt
  each_element t [] (f ∷ fs) h = absurd h
  each_element t (e ∷ es) [] h = absurd h
  each_element t (e ∷ es) (f ∷ fs) h = (element_alike t e f h.0 h.1, each_element t es fs h.2)

  each_expr : (es fs : List Element) → ElementsAlike more es fs → EachAlike more OneType (map (λ (e : Element). e.1) es) (map (λ (e : Element). e.1) fs)
  each_expr [] [] h = tt
  each_expr [] (f ∷ fs) h = absurd h
  each_expr (e ∷ es) [] h = absurd h
  each_expr (e ∷ es) (f ∷ fs) h = (h.1, each_expr es fs h.2)

  -- ---- arrays

  elements_alike : (es fs : List LoweredExpr) → OneTypes es fs → ExprsAlike more (lower_array_elements es) (lower_array_elements fs)
  elements_alike [] fs h = none_alike more OneType _
  elements_alike (e ∷ es) [] h = absurd h
  elements_alike (e ∷ es) (f ∷ fs) h = there_under more OneType _ _ _ _ (all_of_type e.ty f.ty es fs h.0 h.1) (λ i. ty.Array (h.0 i) (suc (counts_one es fs h.1 i)))

  filled_alike : (count : ℕ) (t : DslxType) (dots : Bool) (n : ℕ) (es fs : List LoweredExpr) → OneTypes es fs → ExprsAlike more (lower_filled count t dots n es) (lower_filled count t dots n fs)
  filled_alike count t dots n [] fs h = none_alike more OneType _
  filled_alike count t dots n (e ∷ es) [] h = absurd h
  filled_alike count t false n (e ∷ es) (f ∷ fs) h = there_under more OneType _ _ _ _ (ap (λ k. suc k == n) (counts_one es fs h.1)) refl
  filled_alike count t true n (e ∷ es) (f ∷ fs) h = there_under more OneType _ _ _ _ (ap (λ k. nat_le (suc k) n) (counts_one es fs h.1)) refl

  pub array_alike : (count : ℕ) (t : Option (Option DslxType)) (es fs : List Element) (dots : Bool) → ElementsAlike more es fs → ExprsAlike more (lower_array count t es dots) (lower_array count t fs dots)
  array_alike count None es fs true h = none_alike more OneType _
  array_alike count None es fs false h =
      then_alike more (Each OneType) OneType _ _ _ _ (all_alike more OneType _ _ (each_expr es fs h)) (λ as' bs k. elements_alike as' bs k)
  array_alike count (Some t) es fs dots h =
      then_same more OneType (and_then t array_in) _ _ (λ parts. then_alike more (Each OneType) OneType _ _ _ _ (all_alike more OneType _ _ (each_element parts.0 es fs h))
      (λ as' bs k. filled_alike count parts.0 dots parts.1 as' bs k))
