-- What it means that instances of functions and of procs are lowered to what has types.
use Rattle.std.specs.Prelude.{◌≡◌, ℕ, List, [], ◌∷◌, map, true, Option, Some}
use Rattle.std.specs.List.{list_all}
use Rattle.dslx_meaning.specs.Environment.{Meanings}
use Rattle.dslx_meaning.specs.Types.{plain_type}
use Rattle.dslx_meaning.specs.declared.value.DslxValue.{DslxValue}
use Rattle.dslx_core.specs.declared.design.Function.{Function}
use Rattle.dslx_core.specs.Lowering.Functions.{CoreInstance, Instantiated, LoweredFunction, core_function}
use Rattle.dslx_core.specs.Lowering.Steps.{CoreMember, LoweredNext}
use Rattle.dslx_core.specs.Types.Typing.{FunctionTypes, core_type}
use Rattle.dslx_core.specs.Types.Designs.{FunctionSignature, WordTypes, steps_type}
use Rattle.dslx_total.specs.Typed.Scopes.{IsSoundValue, is_sound_type}

-- the signature of an instance of a function
abbrev pub signature_of_function : LoweredFunction → FunctionSignature
signature_of_function f = record { arguments = map plain_type f.arguments; result = plain_type f.result }

abbrev pub signatures_of : List CoreInstance → List FunctionSignature
signatures_of is = map (λ (i : CoreInstance). signature_of_function i.function) is

-- constants and members of a text are sound values
pub record AreSoundItems (items : Meanings) : Type 0 where
  pub constants : (name : List ℕ) (v : DslxValue) → items.constant name ≡ Some v → IsSoundValue v
  pub members : (name member : List ℕ) (v : DslxValue) → items.member name member ≡ Some v → IsSoundValue v

abbrev pub AllSound : List DslxValue → Type 0
AllSound [] = Unit {0}
AllSound (v ∷ vs) = IsSoundValue v × AllSound vs

-- so are all parametric arguments
abbrev pub EachSound : List Instantiated → Type 0
EachSound [] = Unit {0}
EachSound (i ∷ is) = AllSound i.parametric_args × EachSound is

abbrev pub functions_of : List CoreInstance → List Function
functions_of is = map core_function is

-- the body has the type of its result, over arguments of sound types
pub record FunctionIsTyped (functions : FunctionTypes) (f : LoweredFunction) : Type 0 where
  pub arguments : list_all is_sound_type f.arguments ≡ true
  pub body : core_type f.body functions (map plain_type f.arguments) ≡ Some (plain_type f.result)
  pub result : is_sound_type f.result ≡ true

-- the steps of an activation begin with a state of its type, which is sound, and end with one of it, where words of these types travel at members
pub record NextIsTyped (functions : FunctionTypes) (words : WordTypes) (l : LoweredNext) : Type 0 where
  pub state : is_sound_type l.state ≡ true
  pub steps : steps_type functions words l.steps l.next (plain_type l.state ∷ []) ≡ Some (plain_type l.state)

-- the words at each member are of the type that the member has
abbrev pub WordsOf : (List ℕ → Option CoreMember) → WordTypes → Type 0
WordsOf member words = (name : List ℕ) (m : CoreMember) → member name ≡ Some m → words m.number ≡ Some (plain_type m.word)
