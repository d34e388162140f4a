-- Written types mean in their scope what they become.
use Rattle.std.proofs.Common.{◌≡◌, Bool, List, [], ◌∷◌, map, Some, sym, ap, ◌∙◌}
use Rattle.dslx_tree.specs.declared.expr.Expr.{Expr}
use Rattle.dslx_meaning.specs.Lists.{all_some, and_then, with_both}
use Rattle.dslx_meaning.specs.Environment.{Given}
use Rattle.dslx_meaning.specs.Meaning.{ExprDen, TypeDen, denotation, size_of}
use Rattle.dslx_meaning.specs.declared.ty.DslxType.{DslxType}
use Rattle.dslx_meaning.specs.declared.ty.DslxType as ty
use Rattle.dslx_core.specs.CoreValues.{Bindings, Functions}
use Rattle.dslx_core.specs.Lowering.CoreScopes.{CoreScope, size_at}
use Rattle.dslx_core.specs.Lowering.Trees.{TypeLowering}
use Rattle.dslx_core.specs.Lowering.Correspondence.{SimulatesInScope, TypeLowerPreserves, env_at}
use Rattle.dslx_core.proofs.OnLowering.Kept.{both_there, from_both, from_then}
use Rattle.dslx_core.proofs.OnLowering.Lists.{EachGivesSame, all_same}
use Rattle.dslx_core.proofs.OnLowering.Slots.{size_means}

pub wide_means : (s : Bool) (e : Expr) (m : ExprDen) → denotation e ≡ m → TypeLowerPreserves (λ scope. and_then (size_at scope e) (λ w. Some (ty.Bits s w))) (λ env. and_then (size_of m env) (λ w. Some (ty.Bits s w)))
wide_means s e m is scope calls given bound h t k =
    let n = from_then (size_at scope e) (λ w. Some (ty.Bits s w)) t k in
    ap (λ o. and_then o (λ w. Some (ty.Bits s w))) (ap (λ x. size_of x (env_at scope given)) (sym is) ∙ size_means scope calls given bound h e n.0 n.1) ∙ n.2

pub array_means : (l : TypeLowering) (f : TypeDen) (e : Expr) (m : ExprDen) → TypeLowerPreserves l f → denotation e ≡ m
    → TypeLowerPreserves (λ scope. with_both (l scope) (size_at scope e) (λ t n. Some (ty.Array t n))) (λ env. with_both (f env) (size_of m env) (λ t n. Some (ty.Array t n)))
array_means l f e m means is scope calls given bound h t k =
    let q = from_both (l scope) (size_at scope e) (λ t n. Some (ty.Array t n)) t k in
    both_there (f (env_at scope given)) (size_of m (env_at scope given)) (λ t n. Some (ty.Array t n)) q.0 q.1 (means scope calls given bound h q.0 q.2)
    (ap (λ x. size_of x (env_at scope given)) (sym is) ∙ size_means scope calls given bound h e q.1 q.3) ∙ q.4

abbrev pub EachTypeLowerPreserves : List TypeLowering → List TypeDen → Type 0
EachTypeLowerPreserves [] [] = Unit {0}
EachTypeLowerPreserves (l ∷ ls) (f ∷ fs) = TypeLowerPreserves l f × EachTypeLowerPreserves ls fs
EachTypeLowerPreserves [] (f ∷ fs) = ⊥
EachTypeLowerPreserves (l ∷ ls) [] = ⊥

each_same : (ls : List TypeLowering) (fs : List TypeDen) → EachTypeLowerPreserves ls fs → (scope : CoreScope) (calls : Functions) (given : List Given) (bound : Bindings) → SimulatesInScope scope calls given bound
    → EachGivesSame (map (λ (l : TypeLowering). l scope) ls) (map (λ (f : TypeDen). f (env_at scope given)) fs)
each_same [] [] h scope calls given bound at = tt
each_same [] (f ∷ fs) h scope calls given bound at = absurd h
each_same (l ∷ ls) [] h scope calls given bound at = absurd h
each_same (l ∷ ls) (f ∷ fs) h scope calls given bound at = (λ t e. h.0 scope calls given bound at t e, each_same ls fs h.1 scope calls given bound at)

pub tuple_means : (ls : List TypeLowering) (fs : List TypeDen) → EachTypeLowerPreserves ls fs
    → TypeLowerPreserves (λ scope. and_then (all_some (map (λ (l : TypeLowering). l scope) ls)) (λ ts. Some (ty.Tuple ts))) (λ env. and_then (all_some (map (λ (f : TypeDen). f env) fs)) (λ ts. Some (ty.Tuple ts)))
tuple_means ls fs means scope calls given bound h t k =
    let ts = from_then (all_some (map (λ (l : TypeLowering). l scope) ls)) (λ ts. Some (ty.Tuple ts)) t k in
    ap (λ o. and_then o (λ ts. Some (ty.Tuple ts)))
    (all_same (map (λ (l : TypeLowering). l scope) ls) (map (λ (f : TypeDen). f (env_at scope given)) fs) ts.0 (each_same ls fs means scope calls given bound h) ts.1)
    ∙ ts.2
