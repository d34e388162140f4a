-- Elements of arrays: the type of all, and how many there are.
use Rattle.std.specs.Prelude.{ℕ, suc, List, [], ◌∷◌, ◌++◌, ◌+◌, ◌-◌, ◌==◌, nat_le, length, map, Bool, true, false, Option, Some, None}
use Rattle.std.specs.List.{list_all}
use Rattle.dslx_meaning.specs.Lists.{repeated, where_true}
use Rattle.dslx_meaning.specs.declared.ty.DslxType.{DslxType}
use Rattle.dslx_meaning.specs.declared.ty.DslxType as ty
use Rattle.dslx_core.specs.declared.expr.CoreExpr.{CoreExpr}
use Rattle.dslx_core.specs.declared.expr.CoreExpr as core
use Rattle.dslx_core.specs.declared.expr.Shape as shape
use Rattle.dslx_core.specs.Lowering.EqualTypes.{equal_type}
use Rattle.dslx_core.specs.Lowering.Lowering.{LoweredExpr, cores_of, lowered}
use Rattle.dslx_core.specs.Lowering.Trees.{slots_from}

-- the type of the first, where all are of it
abbrev pub type_of_first : LoweredExpr → List LoweredExpr → Option DslxType
type_of_first e es = where_true (list_all (λ (c : LoweredExpr). equal_type e.ty c.ty) es) (Some e.ty)

abbrev pub type_of_all : List LoweredExpr → Option DslxType
type_of_all [] = None
type_of_all (e ∷ es) = type_of_first e es

-- as many as are wanted, or with dots no more
abbrev pub is_size : Bool → ℕ → ℕ → Bool
is_size true size written = nat_le written size
is_size false size written = written == size

abbrev pub fits_size : Bool → ℕ → List LoweredExpr → Bool
fits_size dots size [] = false
fits_size dots size (e ∷ es) = is_size dots size (suc (length es))

-- the values that are bound from this number on, the last of them repeated
abbrev pub filled_slots : ℕ → ℕ → List LoweredExpr → List CoreExpr
filled_slots count size es = slots_from count es ++ repeated (size - length es) (core.Slot (count + (length es - 1)))

-- the array, once so many elements are written
abbrev pub fitting : ℕ → DslxType → Bool → ℕ → List LoweredExpr → Option LoweredExpr
fitting count t true size es =
    lowered (core.Bind (core.Tuple (cores_of es)) (shape.Tuple (map (λ (e : LoweredExpr). shape.Bound) es)) (core.Array (filled_slots count size es))) (ty.Array t size)
fitting count t false size es = lowered (core.Array (cores_of es)) (ty.Array t size)
