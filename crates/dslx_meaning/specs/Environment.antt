-- What names stand for in a scope of a text.
use Rattle.std.specs.Prelude.{ℕ, List, [], ◌∷◌, Bool, Option, Some, None, if◌then◌else◌}
use Rattle.std.specs.Str.{bytes_eq}
use Rattle.dslx_meaning.specs.Lists.{or_else}
use Rattle.dslx_meaning.specs.declared.ty.DslxType.{DslxType}
use Rattle.dslx_meaning.specs.declared.value.DslxValue.{DslxValue}

-- what the items of a module mean, by their names. An item that has no meaning has none here
pub record Meanings : Type 0 where
  -- the type that an alias, a struct or an enum names
  pub type_named : List ℕ → Option DslxType
  -- the type of a struct
  pub struct_named : List ℕ → Option DslxType
  -- whether it is a constant, and its value
  pub is_constant : List ℕ → Bool
  pub constant : List ℕ → Option DslxValue
  -- the member of an enum
  pub member : List ℕ → List ℕ → Option DslxValue
  -- a function at its parametric arguments and its operands
  pub call : List ℕ → List DslxValue → List DslxValue → Option DslxValue

-- a name with the value that it stands for
pub record Given : Type 0 where
  pub name : List ℕ
  pub value : DslxValue

-- the items, and the names that are bound, the last one first: parametrics, arguments, the state, what patterns bind
pub record Env : Type 0 where
  pub items : Meanings
  pub bound : List Given

abbrev pub given_in : List ℕ → List Given → Option DslxValue
given_in name [] = None
given_in name (g ∷ gs) = if bytes_eq name g.name then Some g.value else given_in name gs

-- the value of a name: a bound one's, the last of its name, or else a constant's
abbrev pub value_of_name : List ℕ → Env → Option DslxValue
value_of_name name env = or_else (given_in name env.bound) (env.items.constant name)

abbrev pub with_bound : Env → List Given → Env
with_bound env bound = record { items = env.items; bound = bound }

abbrev pub bind : List ℕ → DslxValue → Env → Env
bind name v env = with_bound env (record { name = name; value = v } ∷ env.bound)

-- where items alone are in scope
abbrev pub outside : Meanings → Env
outside items = record { items = items; bound = [] }
