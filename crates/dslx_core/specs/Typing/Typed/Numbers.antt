-- Parametrics whose typing agrees with what they denote.
use Rattle.std.specs.Prelude.{◌≡◌, ℕ, List, [], ◌∷◌, Option, Some}
use Rattle.dslx_tree.specs.declared.expr.Expr.{Expr}
use Rattle.dslx_tree.specs.declared.item.Parametric.{Parametric}
use Rattle.dslx_meaning.specs.Environment.{Meanings, Given, given_in}
use Rattle.dslx_meaning.specs.Items.{with_number}
use Rattle.dslx_meaning.specs.Meaning.{value_of, written_type}
use Rattle.dslx_meaning.specs.Values.{type_of_value}
use Rattle.dslx_meaning.specs.declared.ty.DslxType.{DslxType}
use Rattle.dslx_meaning.specs.declared.value.DslxValue.{DslxValue}
use Rattle.dslx_meaning.specs.Rules.TypeEnvs.{GlobalEnv}
use Rattle.dslx_meaning.specs.Rules.CallRules.{ParametricArgument, parametric_type, known_before}
use Rattle.dslx_core.specs.Typing.Typed.Declared.{Declarations}
use Rattle.dslx_core.specs.Typing.Typed.Given.{GivesOf}

-- each value is of its own type, which is one of the text
abbrev pub AllOwn : Declarations → List DslxValue → Type 0
AllOwn types [] = Unit {0}
AllOwn types (v ∷ vs) = GivesOf types (type_of_value v) (Some v) × AllOwn types vs

-- so is each one that is bound
abbrev pub AreOwn : Declarations → List Given → Type 0
AreOwn types bound = (name : List ℕ) (v : DslxValue) → given_in name bound ≡ Some v → GivesOf types (type_of_value v) (Some v)

-- these values of parametrics behind those before them, the last one first
abbrev pub values_behind : List (Option DslxValue) → List DslxValue → List (Option DslxValue)
values_behind before [] = before
values_behind before (v ∷ vs) = values_behind (Some v ∷ before) vs

-- values of parametrics, each of the type that its parametric has behind those before it
abbrev pub FitParametricArgs : GlobalEnv → List ℕ → List (Option DslxValue) → List Parametric → List DslxValue → Type 0
FitParametricArgs known owner before [] [] = Unit {0}
FitParametricArgs known owner before (p ∷ ps) (v ∷ vs) =
    ((t : DslxType) × (parametric_type known owner (known_before before) ≡ Some t) × GivesOf known.items.type_named t (Some v)) × FitParametricArgs known owner (Some v ∷ before) ps vs
FitParametricArgs known owner before [] (v ∷ vs) = ⊥
FitParametricArgs known owner before (p ∷ ps) [] = ⊥

-- the type and the default that typing finds of a parametric in the text of its item, behind these values, are those that it
-- denotes where they are bound so
pub record ParametricMeans (known : GlobalEnv) (items : Meanings) (owner : List ℕ) (before : List (Option DslxValue)) (so_far : List Given) (p : Parametric) : Type 0 where
  pub types : (t : DslxType) → (known.parameter_in owner before).ty ≡ Some t → written_type p.ty (record { items = items; bound = so_far }) ≡ Some t
  pub defaults : (e : Expr) (v : DslxValue) → p.default ≡ Some e → (known.default_in owner before).value ≡ Some v → value_of e (record { items = items; bound = so_far }) ≡ Some v

-- so are those of all parameters, each behind values of the types of those before it
abbrev pub ParametricsMean : GlobalEnv → Meanings → List ℕ → List (Option DslxValue) → List Given → List Parametric → Type 0
ParametricsMean known items owner before so_far [] = Unit {0}
ParametricsMean known items owner before so_far (p ∷ ps) =
    ParametricMeans known items owner before so_far p
    × ((t : DslxType) (v : DslxValue) → parametric_type known owner (known_before before) ≡ Some t → GivesOf known.items.type_named t (Some v)
    → ParametricsMean known items owner (Some v ∷ before) (with_number so_far p v) ps)

-- parametric arguments that are written, with their values
abbrev pub GivenMean : List ParametricArgument → List DslxValue → Type 0
GivenMean [] [] = Unit {0}
GivenMean (g ∷ gs) (v ∷ vs) = ((w : DslxValue) → g.seen.value ≡ Some w → v ≡ w) × GivenMean gs vs
GivenMean [] (v ∷ vs) = ⊥
GivenMean (g ∷ gs) [] = ⊥
