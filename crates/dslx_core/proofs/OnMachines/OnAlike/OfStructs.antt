-- Names and values of structs: where their parts are alike, so are they.
use Rattle.std.proofs.Common.{ℕ, Bool, true, false, if◌then◌else◌, List, [], ◌∷◌, Option, Some, None, refl}
use Rattle.std.specs.List.{list_all}
use Rattle.dslx_meaning.specs.Environment.{given_in}
use Rattle.dslx_meaning.specs.Lists.{and_then, is_in, or_else}
use Rattle.dslx_meaning.specs.declared.ty.DslxType.{DslxType}
use Rattle.dslx_meaning.specs.declared.ty.DslxType as ty
use Rattle.dslx_meaning.specs.declared.ty.DslxType.TheOpen.{DslxType-F}
use Rattle.dslx_core.specs.declared.expr.CoreExpr as core
use Rattle.dslx_core.specs.Lowering.CoreScopes.{BoundSlot, CoreScope, local_in, with_unnamed}
use Rattle.dslx_core.specs.Lowering.Lowering.{LoweredExpr, literal, lowered, lower_name, slot_or_literal}
use Rattle.dslx_core.specs.Lowering.Patterns.{ExprLowering}
use Rattle.dslx_core.specs.Lowering.Trees.{FieldLowering, field_or_other, lower_fields, names_written, struct_fields, lower_struct_in, value_written, with_others, without_others}
use Rattle.dslx_core.specs.Machines.Machine.Callees.{CalleesByName, with_callee}
use Rattle.dslx_core.proofs.OnMachines.OnAlike.OfLists.{OneTypes, of_type_alike}
use Rattle.dslx_core.proofs.OnMachines.OnAlike.OfOperators.{ExprsAlike, OneType, field_alike}
use Rattle.dslx_core.proofs.OnMachines.OnAlike.OfPatterns.{IsAlike}
use Rattle.dslx_core.proofs.OnMachines.OnAlike.Relation.{Alike, alike_itself, both_alike, both_there, none_alike, then_alike}

module _ (more : Bool) (c d : CalleesByName) where
  -- ---- names

  pub name_alike : (name : List ℕ) → IsAlike more c d (lower_name name)
  name_alike name scope = by (local_in name scope.locals)
    where
      by : (o : Option BoundSlot) → ExprsAlike more (slot_or_literal (with_callee c scope) name o) (slot_or_literal (with_callee d scope) name o)
      by None = alike_itself more OneType (and_then (or_else (given_in name scope.known.parametric_args) (scope.known.items.constant name)) literal) (λ e. refl)
      by (Some l) = both_there more OneType _ _ refl

  -- ---- fields

  abbrev pub EachFieldIsAlike : List FieldLowering → Type 0
  EachFieldIsAlike [] = Unit {0}
  EachFieldIsAlike (f ∷ fs) = IsAlike more c d f.value × EachFieldIsAlike fs

  -- what may be written, or what may give the other fields
  abbrev pub MayBeAlike : Option ExprLowering → Type 0
  MayBeAlike None = Unit {0}
  MayBeAlike (Some l) = IsAlike more c d l

  written_alike : (fs : List FieldLowering) → EachFieldIsAlike fs → (name : List ℕ) → MayBeAlike (value_written name fs)
  written_alike [] h name = tt
  written_alike (f ∷ fs) h name = by (is_in name (f.name ∷ [])) (written_alike fs h.1 name)
    where
      by : (b : Bool) → MayBeAlike (value_written name fs) → MayBeAlike (if b then Some f.value else value_written name fs)
      by true rest = h.0
      by false rest = rest

  field_or_other_alike : (scope : CoreScope) (o q : Option LoweredExpr) (name : List ℕ) (l : Option ExprLowering) → ExprsAlike more o q → MayBeAlike l
      → ExprsAlike more (field_or_other (with_callee c scope) o name l) (field_or_other (with_callee d scope) q name l)
  field_or_other_alike scope o q name None h k = field_alike more o q name h
  field_or_other_alike scope o q name (Some l) h k = k scope

  fields_alike : (fs : List FieldLowering) → EachFieldIsAlike fs → (scope : CoreScope) (o q : Option LoweredExpr) → ExprsAlike more o q → (names : List (List ℕ)) (ts : List DslxType)
      → Alike more OneTypes (lower_fields (with_callee c scope) fs o names ts) (lower_fields (with_callee d scope) fs q names ts)
  fields_alike fs h scope o q k [] [] = both_there more OneTypes _ _ tt
  fields_alike fs h scope o q k [] (t ∷ ts) = none_alike more OneTypes _
  fields_alike fs h scope o q k (name ∷ names) [] = none_alike more OneTypes _
  fields_alike fs h scope o q k (name ∷ names) (t ∷ ts) =
      both_alike more OneType OneTypes OneTypes _ _ _ _ _ _ (of_type_alike more t _ _ (field_or_other_alike scope o q name (value_written name fs) k (written_alike fs h name)))
      (fields_alike fs h scope o q k names ts) (λ e f es gs i j. both_there more OneTypes _ _ (i, j))

  -- ---- structs

  without_alike : (fs : List FieldLowering) → EachFieldIsAlike fs → (scope : CoreScope) (t : DslxType) (names : List (List ℕ)) (ts : List DslxType)
      → ExprsAlike more (without_others (with_callee c scope) fs t names ts) (without_others (with_callee d scope) fs t names ts)
  without_alike fs h scope t names ts =
      then_alike more OneTypes OneType _ _ _ _ (fields_alike fs h scope None None (none_alike more OneType None) names ts) (λ es gs i. both_there more OneType _ _ refl)

  with_alike : (fs : List FieldLowering) → EachFieldIsAlike fs → (scope : CoreScope) (e f : LoweredExpr) → OneType e f → (t : DslxType) (names : List (List ℕ)) (ts : List DslxType)
      → ExprsAlike more (with_others (with_callee c scope) e fs t names ts) (with_others (with_callee d scope) f fs t names ts)
  with_alike fs h scope e f q t names ts =
      then_alike more OneTypes OneType _ _ _ _
      (fields_alike fs h (with_unnamed scope) (lowered (core.Slot scope.count) e.ty) (lowered (core.Slot scope.count) f.ty) (both_there more OneType _ _ q) names ts) (λ es gs i. both_there more OneType _ _ refl)

  struct_fields_alike : (fs : List FieldLowering) → EachFieldIsAlike fs → (others : Option ExprLowering) → MayBeAlike others → (scope : CoreScope) (t : DslxType) (names : List (List ℕ)) (ts : List DslxType)
      → ExprsAlike more (struct_fields (with_callee c scope) fs others t names ts) (struct_fields (with_callee d scope) fs others t names ts)
  struct_fields_alike fs h None k scope t names ts = without_alike fs h scope t names ts
  struct_fields_alike fs h (Some l) k scope t names ts = by (list_all (λ name. is_in name (names_written fs)) names)
    where
      by : (b : Bool)
          → ExprsAlike more (if b then without_others (with_callee c scope) fs t names ts else and_then (l (with_callee c scope)) (λ e. with_others (with_callee c scope) e fs t names ts))
          (if b then without_others (with_callee d scope) fs t names ts else and_then (l (with_callee d scope)) (λ e. with_others (with_callee d scope) e fs t names ts))
      by true = without_alike fs h scope t names ts
      by false = then_alike more OneType OneType _ _ _ _ (k scope) (λ e f q. with_alike fs h scope e f q t names ts)

  pub struct_alike : (fs : List FieldLowering) → EachFieldIsAlike fs → (others : Option ExprLowering) → MayBeAlike others → (scope : CoreScope) (x : DslxType-F DslxType)
      → ExprsAlike more (lower_struct_in (with_callee c scope) fs others x) (lower_struct_in (with_callee d scope) fs others x)
  struct_alike fs h others k scope (DslxType-F.Struct name names ts) = struct_fields_alike fs h others k scope (ty.Struct name names ts) names ts
  struct_alike fs h others k scope (DslxType-F.Bits s w) = none_alike more OneType _
  struct_alike fs h others k scope (DslxType-F.Tuple ts) = none_alike more OneType _
  struct_alike fs h others k scope (DslxType-F.Array t n) = none_alike more OneType _
  struct_alike fs h others k scope (DslxType-F.Enum name s w) = none_alike more OneType _
  struct_alike fs h others k scope DslxType-F.Token = none_alike more OneType _
