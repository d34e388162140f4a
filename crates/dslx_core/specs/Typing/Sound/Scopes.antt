-- Two environments in which all but locals are bound alike: what types and patterns denote there.
use Rattle.std.specs.Prelude.{◌≡◌, ℕ, List, [], ◌∷◌, Bool, true, false, Option, Some, None}
use Rattle.std.specs.List.{list_all}
use Rattle.dslx_meaning.specs.Lists.{is_in}
use Rattle.dslx_meaning.specs.Environment.{Env, given_in}
use Rattle.dslx_meaning.specs.Meaning.{PatternDen, TypeDen, pattern_denotation}
use Rattle.dslx_meaning.specs.declared.ty.DslxType.{DslxType}
use Rattle.dslx_meaning.specs.declared.value.DslxValue.{DslxValue}
use Rattle.dslx_meaning.specs.Rules.TypeEnvs.{TypeEnv, Typed}
use Rattle.dslx_meaning.specs.Rules.Typings.{PatternTyping, PatternPair, PatternSeen, TypeExprTyping}
use Rattle.dslx_core.specs.Typing.Laws.Agreement.{BindConstantsAlike}
use Rattle.dslx_core.specs.Typing.Typed.Complete.{IsWellTypedPart}
use Rattle.dslx_core.specs.Typing.Typed.InTypeEnv.{local_names}

-- items denote in both what the global environment has of them, and a name that is no local, or is a constant's, is bound alike
pub record SeeAlike (context : TypeEnv) (a b : Env) : Type 0 where
  pub items : a.items ≡ context.known.items
  pub others : b.items ≡ context.known.items
  pub outside : (name : List ℕ) → is_in name (local_names context) ≡ false → given_in name a.bound ≡ given_in name b.bound
  pub constants : BindConstantsAlike context.known.items a.bound b.bound

-- a type means one thing in both
abbrev pub TypeSeesAlike : TypeExprTyping → TypeDen → Type 0
TypeSeesAlike j f = (context : TypeEnv) (a b : Env) → SeeAlike context a b → IsWellTypedPart context.known (j context) → f a ≡ f b

abbrev pub FitsAlike : TypeEnv → Option Env → Option Env → Type 0
FitsAlike context None None = Unit {0}
FitsAlike context (Some a) (Some b) = SeeAlike context a b
FitsAlike context None (Some b) = ⊥
FitsAlike context (Some a) None = ⊥

-- nothing that a pattern breaks or passes, and nothing that it reaches does
pub record IsWellTypedPattern (context : TypeEnv) (seen : PatternSeen) : Type 0 where
  pub faults : seen.faults ≡ []
  pub reached : list_all context.known.is_sound seen.reached ≡ true

-- a value fits in both or in neither, and behind the pattern all but locals are bound alike again: in two environments, behind the names
-- of the whole pattern that are bound so far
abbrev pub PatternSeesAlike : PatternTyping → PatternDen → Type 0
PatternSeesAlike p meaning = (may_fail : Bool) (context : TypeEnv) (t : Option DslxType) (names : List (List ℕ)) (locals : List Typed) (scope other a b : Env) (v : DslxValue) → SeeAlike context scope other → SeeAlike context a b
    → IsWellTypedPattern context (p may_fail context t names locals) → FitsAlike context (meaning.fits scope v a) (meaning.fits other v b)

-- each pattern, beside what its tree denotes
abbrev pub EachPatternSeesAlike : List PatternPair → List PatternDen → Type 0
EachPatternSeesAlike [] [] = Unit {0}
EachPatternSeesAlike (p ∷ ps) (x ∷ xs) = ((pattern_denotation p.0 ≡ x) × PatternSeesAlike p.1 x) × EachPatternSeesAlike ps xs
EachPatternSeesAlike [] (x ∷ xs) = ⊥
EachPatternSeesAlike (p ∷ ps) [] = ⊥
