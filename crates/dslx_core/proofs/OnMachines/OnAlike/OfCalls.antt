-- Builtins and calls: where their operands are alike, so is what they give.
use Rattle.std.proofs.Common.{◌≡◌, ℕ, Bool, true, false, List, [], ◌∷◌, Option, refl, ap, subst}
use Rattle.dslx_meaning.specs.Callees as k
use Rattle.dslx_meaning.specs.Callees.{CallKind}
use Rattle.dslx_meaning.specs.Lists.{all_some, and_then}
use Rattle.dslx_meaning.specs.declared.ty.DslxType.{DslxType}
use Rattle.dslx_meaning.specs.declared.value.DslxValue.{DslxValue}
use Rattle.dslx_meaning.specs.Rules.AggregateRules.{array_in}
use Rattle.dslx_core.specs.declared.expr.CoreExpr as core
use Rattle.dslx_core.specs.declared.expr.CoreUnary.{CoreUnary}
use Rattle.dslx_core.specs.declared.expr.CoreUnary.TheVariants as u
use Rattle.dslx_core.specs.Lowering.CoreScopes.{CoreCallee, CoreScope}
use Rattle.dslx_core.specs.Lowering.EqualTypes.{equal_type}
use Rattle.dslx_core.specs.Lowering.Lowering.{LoweredExpr, lower_call, cores_of, lower_counted, lower_function, lowered, lower_reduced, types_of_lowered, lower_updated}
use Rattle.dslx_core.specs.Machines.Machine.Callees.{CalleesByName, with_callee}
use Rattle.dslx_core.specs.Machines.Alike.Alike.{Agree, KnowsMore}
use Rattle.dslx_core.proofs.OnMachines.OnAlike.OfLists.{types_one}
use Rattle.dslx_core.proofs.OnMachines.OnAlike.OfOperators.{ExprsAlike, OneType, then_of_type}
use Rattle.dslx_core.proofs.OnMachines.OnAlike.Relation.{Alike, Each, EachAlike, all_alike, alike_itself, both_alike, both_there, from_agreeing, from_more, none_alike, then_alike, there_under}

-- ---- what calls come to

abbrev pub OneResult : CoreCallee → CoreCallee → Type 0
OneResult a b = a.result ≡ b.result

-- either claim of what calls come to
abbrev pub CallsAlike : Bool → CalleesByName → CalleesByName → Type 0
CallsAlike more c d = (name : List ℕ) (given : List DslxValue) (types : List DslxType) → Alike more OneResult (c name given types) (d name given types)

pub calls_known : (c d : CalleesByName) → KnowsMore c d → CallsAlike true c d
calls_known c d h name given types = from_more OneResult (c name given types) (d name given types) (h name given types)

pub calls_agree : (c d : CalleesByName) → Agree c d → CallsAlike false c d
calls_agree c d h name given types = from_agreeing OneResult (c name given types) (d name given types) (h name given types)

module _ (more : Bool) where
  -- ---- builtins

  counted_alike : (op : CoreUnary) (os qs : List (Option LoweredExpr)) → EachAlike more OneType os qs → ExprsAlike more (lower_counted op os) (lower_counted op qs)
  counted_alike op [] qs h = none_alike more OneType _
  counted_alike op (o ∷ []) [] h = absurd h
  counted_alike op (o ∷ []) (q ∷ []) h = then_alike more OneType OneType o q _ _ h.0 (λ a b k. both_there more OneType _ _ k)
  counted_alike op (o ∷ []) (q ∷ r ∷ qs) h = absurd h.1
  counted_alike op (o ∷ p ∷ os) qs h = none_alike more OneType _

  reduced_alike : (op : CoreUnary) (os qs : List (Option LoweredExpr)) → EachAlike more OneType os qs → ExprsAlike more (lower_reduced op os) (lower_reduced op qs)
  reduced_alike op [] qs h = none_alike more OneType _
  reduced_alike op (o ∷ []) [] h = absurd h
  reduced_alike op (o ∷ []) (q ∷ []) h = then_alike more OneType OneType o q _ _ h.0 (λ a b k. both_there more OneType _ _ refl)
  reduced_alike op (o ∷ []) (q ∷ r ∷ qs) h = absurd h.1
  reduced_alike op (o ∷ p ∷ os) qs h = none_alike more OneType _

  -- one element of an array is replaced
  update_alike : (e f i j new other : Option LoweredExpr) → ExprsAlike more e f → ExprsAlike more i j → ExprsAlike more new other
      → ExprsAlike more (lower_updated (e ∷ i ∷ new ∷ [])) (lower_updated (f ∷ j ∷ other ∷ []))
  update_alike e f i j new other h k m =
      then_alike more OneType OneType new other _ _ m
      (λ x y r. both_alike more OneType OneType OneType e f i j _ _ h k
      (λ a b c d p q. then_of_type more OneType array_in a.ty b.ty _ _ p (λ parts. there_under more OneType _ _ _ _ (ap (equal_type parts.0) r) p)))

  updated_alike : (os qs : List (Option LoweredExpr)) → EachAlike more OneType os qs → ExprsAlike more (lower_updated os) (lower_updated qs)
  updated_alike [] qs h = none_alike more OneType _
  updated_alike (e ∷ []) qs h = none_alike more OneType _
  updated_alike (e ∷ i ∷ []) qs h = none_alike more OneType _
  updated_alike (e ∷ i ∷ new ∷ []) [] h = absurd h
  updated_alike (e ∷ i ∷ new ∷ []) (f ∷ []) h = absurd h.1
  updated_alike (e ∷ i ∷ new ∷ []) (f ∷ j ∷ []) h = absurd h.1.1
  updated_alike (e ∷ i ∷ new ∷ []) (f ∷ j ∷ other ∷ []) h = update_alike e f i j new other h.0 h.1.0 h.1.1.0
  updated_alike (e ∷ i ∷ new ∷ []) (f ∷ j ∷ other ∷ x ∷ qs) h = absurd h.1.1.1
  updated_alike (e ∷ i ∷ new ∷ x ∷ os) qs h = none_alike more OneType _

  -- ---- calls

  module _ (c d : CalleesByName) (calls : CallsAlike more c d) where
    -- the types of the operands are the same in both scopes
    callee_alike : (name : List ℕ) (given : List DslxValue) (es fs : List LoweredExpr) → Each OneType es fs
        → Alike more OneResult (c name given (types_of_lowered es)) (d name given (types_of_lowered fs))
    callee_alike name given es fs h = subst (λ types. Alike more OneResult (c name given (types_of_lowered es)) (d name given types)) (types_one es fs h) (calls name given (types_of_lowered es))

    function_alike : (scope : CoreScope) (name : List ℕ) (parametric_args : List (Option DslxValue)) (os qs : List (Option LoweredExpr)) → EachAlike more OneType os qs
        → ExprsAlike more (lower_function (with_callee c scope) name parametric_args os) (lower_function (with_callee d scope) name parametric_args qs)
    function_alike scope name parametric_args os qs h =
        both_alike more (λ (a b : List DslxValue). a ≡ b) (Each OneType) OneType (all_some parametric_args) (all_some parametric_args) (all_some os) (all_some qs) _ _
        (alike_itself more _ (all_some parametric_args) (λ a. refl)) (all_alike more OneType os qs h) (λ a b es fs is k. by a b es fs is k)
      where
        call : CalleesByName → List DslxValue → List LoweredExpr → Option LoweredExpr
        call e given es = and_then (e name given (types_of_lowered es)) (λ callee. lowered (core.Call callee.number (cores_of es)) callee.result)

        by : (a b : List DslxValue) (es fs : List LoweredExpr) → a ≡ b → Each OneType es fs → ExprsAlike more (call c a es) (call d b fs)
        by a b es fs is k =
            subst (λ x. ExprsAlike more (call c a es) (call d x fs)) is
            (then_alike more OneResult OneType _ _ _ _ (callee_alike name a es fs k) (λ x y r. both_there more OneType _ _ r))

    pub call_alike : (kind : CallKind) (name : List ℕ) (scope : CoreScope) (parametric_args : List (Option DslxValue)) (os qs : List (Option LoweredExpr)) → EachAlike more OneType os qs
        → ExprsAlike more (lower_call kind name (with_callee c scope) parametric_args os) (lower_call kind name (with_callee d scope) parametric_args qs)
    call_alike k.Joins name scope parametric_args os qs h = then_alike more (Each OneType) OneType _ _ _ _ (all_alike more OneType os qs h) (λ es fs r. both_there more OneType _ _ refl)
    call_alike k.Receives name scope parametric_args os qs h = none_alike more OneType _
    call_alike k.ReceivesIf name scope parametric_args os qs h = none_alike more OneType _
    call_alike k.Sends name scope parametric_args os qs h = none_alike more OneType _
    call_alike k.SendsIf name scope parametric_args os qs h = none_alike more OneType _
    call_alike k.CountsLeading name scope parametric_args os qs h = counted_alike u.Clz os qs h
    call_alike k.CountsTrailing name scope parametric_args os qs h = counted_alike u.Ctz os qs h
    call_alike k.Reverses name scope parametric_args os qs h = counted_alike u.Rev os qs h
    call_alike k.AllOnes name scope parametric_args os qs h = reduced_alike u.AndReduce os qs h
    call_alike k.SomeOne name scope parametric_args os qs h = reduced_alike u.OrReduce os qs h
    call_alike k.Parity name scope parametric_args os qs h = reduced_alike u.XorReduce os qs h
    call_alike k.Updates name scope parametric_args os qs h = updated_alike os qs h
    call_alike k.Calls name scope parametric_args os qs h = function_alike scope name parametric_args os qs h
