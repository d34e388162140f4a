-- What two environments have in common where a text means the same in both.
use Rattle.std.specs.Prelude.{◌≡◌, ℕ, List, [], ◌∷◌, true}
use Rattle.dslx_meaning.specs.Environment.{Meanings, Env, Given, given_in, value_of_name}
use Rattle.dslx_meaning.specs.declared.value.DslxValue.{DslxValue}
use Rattle.dslx_meaning.specs.Rules.Mentions.{Use, AsValue, AsPattern, AsType, AsFunction, AsProc, AsEnum, AsStruct, Mention}

-- a name in a pattern is a constant's in both, of one value, or in neither
pub record NamesOneConstant (a b : Env) (name : List ℕ) : Type 0 where
  pub kind : a.items.is_constant name ≡ b.items.is_constant name
  pub constant : a.items.is_constant name ≡ true → a.items.constant name ≡ b.items.constant name
  pub value : a.items.is_constant name ≡ true → value_of_name name a ≡ value_of_name name b

-- a name means the same in both where it is used so
abbrev pub MeansOne : Env → Env → Use → List ℕ → Type 0
MeansOne a b AsValue name = value_of_name name a ≡ value_of_name name b
MeansOne a b AsPattern name = NamesOneConstant a b name
MeansOne a b AsType name = a.items.type_named name ≡ b.items.type_named name
MeansOne a b AsFunction name = (parametric_args operands : List DslxValue) → a.items.call name parametric_args operands ≡ b.items.call name parametric_args operands
MeansOne a b AsProc name = Unit {0}
MeansOne a b AsEnum name = (member : List ℕ) → a.items.member name member ≡ b.items.member name member
MeansOne a b AsStruct name = a.items.struct_named name ≡ b.items.struct_named name

-- each of these mentions means the same in both
abbrev pub AgreeOn : List Mention → Env → Env → Type 0
AgreeOn [] a b = Unit {0}
AgreeOn (m ∷ ms) a b = MeansOne a b m.use_as m.name × AgreeOn ms a b

-- these names are bound to one value in both lists, or in neither
abbrev pub AreBoundAlike : List (List ℕ) → List Given → List Given → Type 0
AreBoundAlike [] bound others = Unit {0}
AreBoundAlike (n ∷ ns) bound others = (given_in n bound ≡ given_in n others) × AreBoundAlike ns bound others

-- what has the name of a constant is bound alike in both
abbrev pub BindConstantsAlike : Meanings → List Given → List Given → Type 0
BindConstantsAlike items bound others = (name : List ℕ) → items.is_constant name ≡ true → given_in name bound ≡ given_in name others

-- an item means one thing in both, whatever it is
pub record ItemMeansOne (x y : Meanings) (name : List ℕ) : Type 0 where
  pub types : x.type_named name ≡ y.type_named name
  pub structs : x.struct_named name ≡ y.struct_named name
  pub kind : x.is_constant name ≡ y.is_constant name
  pub constants : x.constant name ≡ y.constant name
  pub members : (member : List ℕ) → x.member name member ≡ y.member name member
  pub calls : (parametric_args operands : List DslxValue) → x.call name parametric_args operands ≡ y.call name parametric_args operands
