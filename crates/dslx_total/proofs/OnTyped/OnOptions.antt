-- What is lowered where its parts are there.
use Rattle.std.proofs.Common.{◌≡◌, Bool, true, false, List, [], ◌∷◌, map, Option, Some, None, refl, sym, subst}
use Rattle.xb_value.specs.declared.ty.Ty.{Ty}
use Rattle.dslx_meaning.specs.Lists.{all_some, and_then, where_true, with_both}
use Rattle.dslx_core.proofs.Lemmas.Typing.Typed.{all_there}
use Rattle.dslx_core.specs.Lowering.Lowering.{LoweredExpr}
use Rattle.dslx_core.specs.Types.Typing.{FunctionTypes}
use Rattle.dslx_total.specs.Typed.Scopes.{IsTypedExpr, TypedIfThere}

pub then_typed : (fs : FunctionTypes) (ts : List Ty) {A : Type 0} (o : Option A) (f : A → Option LoweredExpr) → ((a : A) → o ≡ Some a → TypedIfThere fs ts (f a)) → TypedIfThere fs ts (and_then o f)
then_typed fs ts None f h = tt
then_typed fs ts (Some a) f h = h a refl

pub both_typed : (fs : FunctionTypes) (ts : List Ty) {A B : Type 0} (o : Option A) (p : Option B) (f : A → B → Option LoweredExpr) → ((a : A) (b : B) → o ≡ Some a → p ≡ Some b → TypedIfThere fs ts (f a b)) → TypedIfThere fs ts (with_both o p f)
both_typed fs ts None p f h = tt
both_typed fs ts (Some a) None f h = tt
both_typed fs ts (Some a) (Some b) f h = h a b refl refl

pub where_typed : (fs : FunctionTypes) (ts : List Ty) (b : Bool) (o : Option LoweredExpr) → (b ≡ true → TypedIfThere fs ts o) → TypedIfThere fs ts (where_true b o)
where_typed fs ts true o h = h refl
where_typed fs ts false o h = tt

-- an expression that is there
pub typed_there : (fs : FunctionTypes) (ts : List Ty) (o : Option LoweredExpr) (e : LoweredExpr) → TypedIfThere fs ts o → o ≡ Some e → IsTypedExpr fs ts e
typed_there fs ts o e h is = subst (TypedIfThere fs ts) is h

-- what an equal option is lowered to
pub typed_as : (fs : FunctionTypes) (ts : List Ty) (o p : Option LoweredExpr) → o ≡ p → TypedIfThere fs ts p → TypedIfThere fs ts o
typed_as fs ts o p is h = subst (TypedIfThere fs ts) (sym is) h

-- ---- lists

abbrev pub EachTypedIfThere : FunctionTypes → List Ty → List (Option LoweredExpr) → Type 0
EachTypedIfThere fs ts [] = Unit {0}
EachTypedIfThere fs ts (o ∷ os) = TypedIfThere fs ts o × EachTypedIfThere fs ts os

abbrev pub AllTyped : FunctionTypes → List Ty → List LoweredExpr → Type 0
AllTyped fs ts [] = Unit {0}
AllTyped fs ts (e ∷ es) = IsTypedExpr fs ts e × AllTyped fs ts es

each_there : (fs : FunctionTypes) (ts : List Ty) (es : List LoweredExpr) → EachTypedIfThere fs ts (map Some es) → AllTyped fs ts es
each_there fs ts [] h = tt
each_there fs ts (e ∷ es) h = (h.0, each_there fs ts es h.1)

pub all_typed : (fs : FunctionTypes) (ts : List Ty) (os : List (Option LoweredExpr)) (es : List LoweredExpr) → EachTypedIfThere fs ts os → all_some os ≡ Some es → AllTyped fs ts es
all_typed fs ts os es h is = each_there fs ts es (subst (EachTypedIfThere fs ts) (all_there os es is) h)
