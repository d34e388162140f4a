-- Where an expression is lowered: what is in scope there, and which of the bound values each name stands for.
use Rattle.std.specs.Prelude.{ℕ, suc, List, [], ◌∷◌, map, Bool, true, false, Option, Some, None, if◌then◌else◌}
use Rattle.std.specs.Str.{bytes_eq}
use Rattle.std.specs.List.{list_any}
use Rattle.dslx_tree.specs.declared.expr.Expr.{Expr}
use Rattle.dslx_meaning.specs.Lists.{is_in}
use Rattle.dslx_meaning.specs.Environment.{Meanings, Given, Env}
use Rattle.dslx_meaning.specs.Meaning.{denotation, value_of, size_of, bound_of}
use Rattle.dslx_meaning.specs.declared.ty.DslxType.{DslxType}
use Rattle.dslx_meaning.specs.declared.value.DslxValue.{DslxValue}
use Rattle.dslx_meaning.specs.Rules.Mentions.{free_names}
use Rattle.dslx_core.specs.declared.lowering.instance.CoreCallee as callee_data
use Rattle.dslx_core.specs.declared.lowering.expr.BoundSlot as slot_data

-- the instance that a call resolves to: its number, and the type of its result
abbrev pub CoreCallee : Type 0
CoreCallee = callee_data.CoreCallee

-- the environment of a body: what is visible in all of it
pub record BodyEnv : Type 0 where
  -- what the items mean
  pub items : Meanings
  -- parametrics, the last one first
  pub parametric_args : List Given
  -- what a call resolves to, by the function's name, the parametric arguments that are written, and the types of the operands
  pub callee : List ℕ → List DslxValue → List DslxType → Option CoreCallee

-- a name that is bound: the index of its value among those that are bound, and its type
abbrev pub BoundSlot : Type 0
BoundSlot = slot_data.BoundSlot

-- a scope in a body: the names that are bound there, the last one first, and how many values are bound
pub record CoreScope : Type 0 where
  pub known : BodyEnv
  pub locals : List BoundSlot
  pub count : ℕ

abbrev pub local_in : List ℕ → List BoundSlot → Option BoundSlot
local_in name [] = None
local_in name (l ∷ ls) = if bytes_eq name l.name then Some l else local_in name ls

-- one more value is bound, to this name
abbrev pub with_local : List ℕ → DslxType → CoreScope → CoreScope
with_local name t scope = record { known = scope.known; locals = record { name = name; slot = scope.count; ty = t } ∷ scope.locals; count = suc scope.count }

-- one more value is bound, to no name
abbrev pub with_unnamed : CoreScope → CoreScope
with_unnamed scope = record { known = scope.known; locals = scope.locals; count = suc scope.count }

abbrev pub slot_names : List BoundSlot → List (List ℕ)
slot_names locals = map (λ (l : BoundSlot). l.name) locals

-- ---- constants

-- some name that is free in the expression is bound around it
abbrev pub sees_a_local : CoreScope → Expr → Bool
sees_a_local scope e = list_any (λ name. is_in name (slot_names scope.locals)) (free_names e)

-- what constants see: the items and the parametrics
abbrev pub globals_env : BodyEnv → Env
globals_env known = record { items = known.items; bound = known.parametric_args }

abbrev pub unless_local : {A : Type 0} → Bool → Option A → Option A
unless_local true o = None
unless_local false o = o

-- the value of a constant, a size, and a bound of a slice
abbrev pub constant_at : CoreScope → Expr → Option DslxValue
constant_at scope e = unless_local (sees_a_local scope e) (value_of e (globals_env scope.known))

abbrev pub size_at : CoreScope → Expr → Option ℕ
size_at scope e = unless_local (sees_a_local scope e) (size_of (denotation e) (globals_env scope.known))

abbrev pub bound_at : CoreScope → Expr → Option ℕ
bound_at scope e = unless_local (sees_a_local scope e) (bound_of (denotation e) (globals_env scope.known))
