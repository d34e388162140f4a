-- Types that a text can have: each struct and each enum in them is the one that the text declares by its name, and each array
-- has an element.
use Rattle.std.specs.Prelude.{◌≡◌, ℕ, zero, suc, List, [], ◌∷◌, Option, Some, unwrap_or}
use Rattle.dslx_meaning.specs.Types.{unit_type}
use Rattle.dslx_meaning.specs.declared.ty.DslxType.{DslxType, Bits, Tuple, Array, Struct, Token, fold-DslxType}
use Rattle.dslx_meaning.specs.declared.ty.DslxType.TheOpen.{DslxType-F}

-- the types that names denote
abbrev pub Declarations : Type 0
Declarations = List ℕ → Option DslxType

abbrev pub sized_array : DslxType → ℕ → DslxType
sized_array t zero = unit_type
sized_array t (suc n) = Array t (suc n)

abbrev pub declared_step : Declarations → DslxType-F DslxType → DslxType
declared_step types (DslxType-F.Bits s w) = Bits s w
declared_step types (DslxType-F.Tuple ts) = Tuple ts
declared_step types (DslxType-F.Array t n) = sized_array t n
declared_step types (DslxType-F.Struct name fields ts) = unwrap_or (types name) unit_type
declared_step types (DslxType-F.Enum name s w) = unwrap_or (types name) unit_type
declared_step types DslxType-F.Token = Token

-- the type with each struct and enum replaced by what its name denotes, and () in the place of arrays without an element
abbrev pub as_declared : Declarations → DslxType → DslxType
as_declared types = fold-DslxType DslxType (declared_step types)

-- nothing in it was to be replaced
abbrev pub IsDeclared : Declarations → DslxType → Type 0
IsDeclared types t = as_declared types t ≡ t

abbrev pub AllDeclared : Declarations → List DslxType → Type 0
AllDeclared types [] = Unit {0}
AllDeclared types (t ∷ ts) = IsDeclared types t × AllDeclared types ts

-- the parts of a declared struct are declared themselves
pub record DeclaresParts (types : Declarations) : Type 0 where
  pub fields : (name own : List ℕ) (fields : List (List ℕ)) (ts : List DslxType) → types name ≡ Some (Struct own fields ts) → AllDeclared types ts
