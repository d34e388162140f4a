-- Lists of what is lowered, beside lists of what has values.
use Rattle.std.proofs.Common.{◌≡◌, ◌&&◌, Bool, true, false, List, [], ◌∷◌, map, Option, Some, refl, sym, ap, ◌∙◌}
use mathlib.Core.Bool.{true≢false}
use Rattle.dslx_meaning.specs.Lists.{all_some}
use Rattle.dslx_meaning.specs.Values.{plain_value}
use Rattle.dslx_meaning.specs.declared.value.DslxValue.{DslxValue}
use Rattle.dslx_core.specs.Typing.Typed.Kinds.{is_of, each_of}
use Rattle.dslx_core.proofs.Lemmas.Typing.Typed.{all_are, all_there, list_parts}
use Rattle.dslx_core.specs.CoreValues.{Bindings, CoreDen, Functions, core_value, values_in}
use Rattle.dslx_core.specs.Lowering.Lowering.{LoweredExpr, cores_of, types_of_lowered}
use Rattle.dslx_core.specs.Lowering.Correspondence.{HasPlainValue, KeepsValue}

-- each gives its own
abbrev pub EachThere : {A : Type 0} → List (Option A) → List A → Type 0
EachThere [] [] = Unit {0}
EachThere (o ∷ os) (a ∷ as') = (o ≡ Some a) × EachThere os as'
EachThere [] (a ∷ as') = ⊥
EachThere (o ∷ os) [] = ⊥

abbrev has_some : {A : Type 0} → List A → Bool
has_some [] = false
has_some (a ∷ as') = true

in_order : {A : Type 0} (os : List (Option A)) (as' : List A) → os ≡ map Some as' → EachThere os as'
in_order [] [] e = tt
in_order [] (a ∷ as') e = absurd (true≢false (sym (ap has_some e)))
in_order (o ∷ os) [] e = absurd (true≢false (ap has_some e))
in_order (o ∷ os) (a ∷ as') e = let q = list_parts o (Some a) os (map Some as') e in (q.0, in_order os as' q.1)

pub each_there : {A : Type 0} (os : List (Option A)) (as' : List A) → all_some os ≡ Some as' → EachThere os as'
each_there os as' e = in_order os as' (all_there os as' e)

-- ---- values of several expressions

-- each keeps its value
abbrev pub EachKeeps : Functions → Bindings → List (Option LoweredExpr) → List (Option DslxValue) → Type 0
EachKeeps calls bound [] [] = Unit {0}
EachKeeps calls bound (l ∷ ls) (o ∷ os) = KeepsValue calls bound l o × EachKeeps calls bound ls os
EachKeeps calls bound [] (o ∷ os) = ⊥
EachKeeps calls bound (l ∷ ls) [] = ⊥

abbrev pub AllHave : Functions → Bindings → List LoweredExpr → List DslxValue → Type 0
AllHave calls bound [] [] = Unit {0}
AllHave calls bound (e ∷ es) (v ∷ vs) = HasPlainValue e calls bound v × AllHave calls bound es vs
AllHave calls bound [] (v ∷ vs) = ⊥
AllHave calls bound (e ∷ es) [] = ⊥

each_has : (calls : Functions) (bound : Bindings) (ls : List (Option LoweredExpr)) (os : List (Option DslxValue)) (es : List LoweredExpr) (vs : List DslxValue)
    → EachKeeps calls bound ls os → EachThere ls es → EachThere os vs → AllHave calls bound es vs
each_has calls bound [] [] [] [] h p q = tt
each_has calls bound [] [] [] (v ∷ vs) h p q = absurd q
each_has calls bound [] [] (e ∷ es) vs h p q = absurd p
each_has calls bound [] (o ∷ os) es vs h p q = absurd h
each_has calls bound (l ∷ ls) [] es vs h p q = absurd h
each_has calls bound (l ∷ ls) (o ∷ os) [] vs h p q = absurd p
each_has calls bound (l ∷ ls) (o ∷ os) (e ∷ es) [] h p q = absurd q
each_has calls bound (l ∷ ls) (o ∷ os) (e ∷ es) (v ∷ vs) h p q = (h.0 e p.0 v q.0, each_has calls bound ls os es vs h.1 p.1 q.1)

pub all_have : (calls : Functions) (bound : Bindings) (ls : List (Option LoweredExpr)) (os : List (Option DslxValue)) (es : List LoweredExpr) (vs : List DslxValue)
    → EachKeeps calls bound ls os → all_some ls ≡ Some es → all_some os ≡ Some vs → AllHave calls bound es vs
all_have calls bound ls os es vs h p q = each_has calls bound ls os es vs h (each_there ls es p) (each_there os vs q)

-- they are of their types
pub all_of : (calls : Functions) (bound : Bindings) (es : List LoweredExpr) (vs : List DslxValue) → AllHave calls bound es vs → each_of (map is_of (types_of_lowered es)) vs ≡ true
all_of calls bound [] [] h = refl
all_of calls bound [] (v ∷ vs) h = absurd h
all_of calls bound (e ∷ es) [] h = absurd h
all_of calls bound (e ∷ es) (v ∷ vs) h = ap (λ b. b && each_of (map is_of (types_of_lowered es)) vs) h.0.of ∙ all_of calls bound es vs h.1

some_values : (calls : Functions) (bound : Bindings) (es : List LoweredExpr) (vs : List DslxValue) → AllHave calls bound es vs
    → map (λ (e : CoreDen). e calls bound) (map core_value (cores_of es)) ≡ map Some (map plain_value vs)
some_values calls bound [] [] h = refl
some_values calls bound [] (v ∷ vs) h = absurd h
some_values calls bound (e ∷ es) [] h = absurd h
some_values calls bound (e ∷ es) (v ∷ vs) h = λ i. h.0.core i ∷ some_values calls bound es vs h.1 i

-- what stands for them gives their values
pub all_values : (calls : Functions) (bound : Bindings) (es : List LoweredExpr) (vs : List DslxValue) → AllHave calls bound es vs
    → values_in (map core_value (cores_of es)) calls bound ≡ Some (map plain_value vs)
all_values calls bound es vs h = ap all_some (some_values calls bound es vs h) ∙ all_are (map plain_value vs)

-- ---- what is the same at its place

-- what the first give, the second give too
abbrev pub EachGivesSame : {A : Type 0} → List (Option A) → List (Option A) → Type 0
EachGivesSame [] [] = Unit {0}
EachGivesSame {A = A} (l ∷ ls) (o ∷ os) = ((a : A) → l ≡ Some a → o ≡ Some a) × EachGivesSame ls os
EachGivesSame [] (o ∷ os) = ⊥
EachGivesSame (l ∷ ls) [] = ⊥

in_step : {A : Type 0} (ls os : List (Option A)) (as' : List A) → EachGivesSame ls os → EachThere ls as' → os ≡ map Some as'
in_step [] [] [] h p = refl
in_step [] [] (a ∷ as') h p = absurd p
in_step [] (o ∷ os) as' h p = absurd h
in_step (l ∷ ls) [] as' h p = absurd h
in_step (l ∷ ls) (o ∷ os) [] h p = absurd p
in_step (l ∷ ls) (o ∷ os) (a ∷ as') h p = λ i. h.0 a p.0 i ∷ in_step ls os as' h.1 p.1 i

pub all_same : {A : Type 0} (ls os : List (Option A)) (as' : List A) → EachGivesSame ls os → all_some ls ≡ Some as' → all_some os ≡ Some as'
all_same ls os as' h e = ap all_some (in_step ls os as' h (each_there ls as' e)) ∙ all_are as'
