-- Lists of parts that each give a value of their type.
use Rattle.std.proofs.Common.{◌≡◌, ◌&&◌, Bool, true, false, List, [], ◌∷◌, map, Option, Some, None, refl, sym, ap, ◌∙◌}
use mathlib.Core.Bool.{true≢false}
use Rattle.dslx_meaning.specs.Lists.{all_some, and_then}
use Rattle.dslx_meaning.specs.declared.ty.DslxType.{DslxType}
use Rattle.dslx_meaning.specs.declared.value.DslxValue.{DslxValue}
use Rattle.dslx_meaning.specs.Rules.TypeEnvs.{TypeEnv, ExprPair, alone, types_of}
use Rattle.dslx_meaning.specs.Rules.AggregateRules.{element_alone, when_all}
use Rattle.dslx_core.specs.Typing.Typed.Kinds.{each_of, is_of}
use Rattle.dslx_core.specs.Typing.Typed.Declared.{Declarations, AllDeclared}
use Rattle.dslx_core.specs.Typing.Typed.Given.{GivesOf, EachGives}
use Rattle.dslx_core.proofs.OnTyping.OnTyped.TypingRelations.{none_some, same_some}
use Rattle.dslx_core.proofs.OnTyping.OnTyped.OneName.{list_parts}

-- ---- lists of options

abbrev pub behind_first : {A : Type 0} → A → Option (List A) → Option (List A)
behind_first a None = None
behind_first a (Some as') = Some (a ∷ as')

pub all_with_first : {A : Type 0} (a : A) (os : List (Option A)) → all_some (Some a ∷ os) ≡ behind_first a (all_some os)
all_with_first a os = refl

-- what all are, they are each
pub all_there : {A : Type 0} (os : List (Option A)) (as' : List A) → all_some os ≡ Some as' → os ≡ map Some as'
all_there [] as' e = ap (map Some) (same_some [] as' e)
all_there (None ∷ os) as' e = none_some as' e
all_there {A = A} (Some a ∷ os) as' e = by_rest (all_some os) refl (sym (all_with_first a os) ∙ e) (all_there os)
  where
    by_rest : (o : Option (List A)) → all_some os ≡ o → behind_first a o ≡ Some as' → ((bs : List A) → all_some os ≡ Some bs → os ≡ map Some bs) → (Some a ∷ os) ≡ map Some as'
    by_rest None q h there = none_some as' h
    by_rest (Some bs) q h there = (λ i. Some a ∷ there bs q i) ∙ ap (map Some) (same_some (a ∷ bs) as' h)

pub all_are : {A : Type 0} (as' : List A) → all_some (map Some as') ≡ Some as'
all_are [] = refl
all_are (a ∷ as') = all_with_first a (map Some as') ∙ ap (behind_first a) (all_are as')

pub when_all_type : (types : List (Option DslxType)) (u : Option DslxType) (t : DslxType) → when_all types u ≡ Some t → (ts : List DslxType) × (types ≡ map Some ts) × (u ≡ Some t)
when_all_type types u t e = by_all (all_some types) refl e
  where
    by_all : (o : Option (List DslxType)) → all_some types ≡ o → and_then o (λ ts. u) ≡ Some t → (ts : List DslxType) × (types ≡ map Some ts) × (u ≡ Some t)
    by_all None q h = none_some t h
    by_all (Some ts) q h = (ts, all_there types ts q, h)

-- ---- values of types, one by one

-- all are given, each of its type
pub record AllGiven (types : Declarations) (ts : List DslxType) (os : List (Option DslxValue)) : Type 0 where
  pub values : List DslxValue
  pub are : all_some os ≡ Some values
  pub of : each_of (map is_of ts) values ≡ true
  pub declared : AllDeclared types ts

-- one more in front
pub one_more_given : (types : Declarations) (t : DslxType) (ts : List DslxType) (o : Option DslxValue) (os : List (Option DslxValue)) → GivesOf types t o → AllGiven types ts os → AllGiven types (t ∷ ts) (o ∷ os)
one_more_given types t ts o os first rest = record {
  values = first.value ∷ rest.values;
  are = ap (λ x. all_some (x ∷ os)) first.is ∙ all_with_first first.value os ∙ ap (behind_first first.value) rest.are;
  of = (λ i. first.of i && rest.of i);
  declared = (first.declared, rest.declared);
}

pub none_given : (types : Declarations) → AllGiven types [] []
none_given types = record { values = []; are = refl; of = refl; declared = tt }

-- parts that stand alone
pub all_alone_given : (types : Declarations) (context : TypeEnv) (es : List ExprPair) (os : List (Option DslxValue)) (ts : List DslxType) → EachGives types context es os
    → types_of (map (alone context) es) ≡ map Some ts → AllGiven types ts os
all_alone_given types context [] [] [] h e = none_given types
all_alone_given types context [] [] (t ∷ ts) h e = no_list (Some t) (map Some ts) e
  where
    no_list : {R : Type 0} (x : Option DslxType) (xs : List (Option DslxType)) → [] ≡ (x ∷ xs) → R
    no_list x xs e = absurd (true≢false (ap is_none e))
      where
        is_none : List (Option DslxType) → Bool
        is_none [] = true
        is_none (y ∷ ys) = false
all_alone_given types context [] (o ∷ os) ts h e = absurd h
all_alone_given types context (x ∷ es) [] ts h e = absurd h
all_alone_given types context (x ∷ es) (o ∷ os) [] h e = absurd (true≢false (ap is_some e))
  where
    is_some : List (Option DslxType) → Bool
    is_some [] = false
    is_some (y ∷ ys) = true
all_alone_given types context (x ∷ es) (o ∷ os) (t ∷ ts) h e =
    let q = list_parts (alone context x).ty (Some t) (types_of (map (alone context) es)) (map Some ts) e in
    one_more_given types t ts o os (h.0 t q.0) (all_alone_given types context es os ts h.1 q.1)

-- what an element adds to what stands alone is no type
pub element_types : (context : TypeEnv) (es : List ExprPair) → types_of (map (element_alone context) es) ≡ types_of (map (alone context) es)
element_types context [] = refl
element_types context (e ∷ es) = λ i. (alone context e).ty ∷ element_types context es i
