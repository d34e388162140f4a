-- The type of an expression of a checked text, by the types of what is bound and by what the functions give.
--
-- An expression with a type has a value of it, whatever values of their types are bound: no slice leaves its number, no pattern of a
-- binding or a loop fails, some arm of a choice fits or its last one binds nothing, and each call is of a function before its caller.
use Rattle.std.specs.Prelude.{ℕ, zero, suc, ◌^◌, List, ◌∷◌, ◌++◌, ◌+◌, ◌==◌, ◌&&◌, ◌||◌, nat_lt, nat_le, map, Bool, true, false, Option, Some, None, length, slice_get, if◌then◌else◌, []}
use Rattle.xb_bits.specs.Word.{Word}
use Rattle.xb_value.specs.declared.ty.Ty.{Ty, Bits, Tuple, Array, out-Ty, fold-Ty}
use Rattle.xb_value.specs.declared.ty.Ty.TheOpen.{Ty-F}
use Rattle.xb_value.specs.declared.value.Value.{Value, fold-Value}
use Rattle.xb_value.specs.declared.value.Value.TheOpen.{Value-F}
use Rattle.xb_value.specs.Unflat.{unflat_of}
use Rattle.xb_value.specs.Width.{width_of}
use Rattle.dslx_meaning.specs.Lists.{all_some, and_then, with_both, where_true, pairwise}
use Rattle.dslx_core.specs.declared.expr.CoreUnary.{CoreUnary}
use Rattle.dslx_core.specs.declared.expr.CoreUnary.TheVariants as u
use Rattle.dslx_core.specs.declared.expr.CoreBinary.{CoreBinary}
use Rattle.dslx_core.specs.declared.expr.CoreBinary.TheVariants as b
use Rattle.dslx_core.specs.declared.expr.Shape.{Shape, fold-Shape}
use Rattle.dslx_core.specs.declared.expr.Shape.TheOpen.{Shape-F}
use Rattle.dslx_core.specs.declared.expr.CoreExpr.{CoreExpr, fold-CoreExpr}
use Rattle.dslx_core.specs.declared.expr.CoreExpr.TheOpen.{CoreExpr-F}
use Rattle.dslx_core.specs.declared.expr.Arm.{Arm-F}
use Rattle.dslx_core.specs.CoreValues.{Bindings, first_apart, is_width}

-- ---- types

abbrev pub bits_alike : ℕ → Ty-F Ty → Bool
bits_alike v (Ty-F.Bits w) = v == w
bits_alike v (Ty-F.Tuple ts) = false
bits_alike v (Ty-F.Array e m) = false

abbrev pub tuple_alike : List (Ty → Bool) → Ty-F Ty → Bool
tuple_alike ps (Ty-F.Bits w) = false
tuple_alike ps (Ty-F.Tuple ts) = pairwise (λ p u. p u) ps ts
tuple_alike ps (Ty-F.Array e m) = false

abbrev pub array_alike : (Ty → Bool) → ℕ → Ty-F Ty → Bool
array_alike p n (Ty-F.Bits w) = false
array_alike p n (Ty-F.Tuple ts) = false
array_alike p n (Ty-F.Array e m) = p e && n == m

abbrev pub same_type_step : Ty-F (Ty → Bool) → Ty → Bool
same_type_step (Ty-F.Bits v) t = bits_alike v (out-Ty t)
same_type_step (Ty-F.Tuple ps) t = tuple_alike ps (out-Ty t)
same_type_step (Ty-F.Array p n) t = array_alike p n (out-Ty t)

-- one type
abbrev pub is_type : Ty → Ty → Bool
is_type = fold-Ty (Ty → Bool) same_type_step

abbrev pub width_step : Ty-F Ty → Option ℕ
width_step (Ty-F.Bits w) = where_true (is_width w) (Some w)
width_step (Ty-F.Tuple ts) = None
width_step (Ty-F.Array e n) = None

-- the width of bits
abbrev pub bits_width : Ty → Option ℕ
bits_width t = width_step (out-Ty t)

abbrev pub parts_step : Ty-F Ty → Option (List Ty)
parts_step (Ty-F.Bits w) = None
parts_step (Ty-F.Tuple ts) = Some ts
parts_step (Ty-F.Array e n) = None

-- the parts of a tuple
abbrev pub parts_of_tuple : Ty → Option (List Ty)
parts_of_tuple t = parts_step (out-Ty t)

-- an element, and how many
pub record Elements : Type 0 where
  pub element : Ty
  pub count : ℕ

abbrev pub elements : Ty → ℕ → Elements
elements e n = record { element = e; count = n }

abbrev pub elements_step : Ty-F Ty → Option Elements
elements_step (Ty-F.Bits w) = None
elements_step (Ty-F.Tuple ts) = None
elements_step (Ty-F.Array e n) = where_true (nat_lt 0 n) (Some (elements e n))

-- the elements of an array that has some
abbrev pub elements_of : Ty → Option Elements
elements_of t = elements_step (out-Ty t)

-- types that are one, and their type
abbrev pub if_alike : Ty → Option Ty → Option Ty
if_alike t other = and_then other (λ s. where_true (is_type t s) (Some t))

abbrev pub all_alike : Ty → List (Option Ty) → Option Ty
all_alike t [] = Some t
all_alike t (o ∷ os) = and_then (if_alike t o) (λ s. all_alike s os)

-- elements of one type, one at least
abbrev pub elements_alike : List (Option Ty) → Option Ty
elements_alike [] = None
elements_alike (o ∷ os) = and_then o (λ t. and_then (all_alike t os) (λ s. Some (Array s (suc (length os)))))

-- a word has its width in its bits
abbrev pub is_sound_word : Word → Bool
is_sound_word x = is_width x.width && nat_lt x.value (2 ^ x.width)

abbrev pub value_type_step : Value-F (Option Ty) → Option Ty
value_type_step (Value-F.Bits x) = where_true (is_sound_word x) (Some (Bits x.width))
value_type_step (Value-F.Tuple ts) = and_then (all_some ts) (λ us. Some (Tuple us))
value_type_step (Value-F.Array ts) = elements_alike ts

-- the type of a value
abbrev pub value_type : Value → Option Ty
value_type = fold-Value (Option Ty) value_type_step

-- ---- operations

abbrev pub unary_type : CoreUnary → ℕ → Ty
unary_type u.AndReduce w = Bits 1
unary_type u.OrReduce w = Bits 1
unary_type u.XorReduce w = Bits 1
unary_type _ w = Bits w

abbrev pub binary_type : CoreBinary → ℕ → ℕ → Option Ty
binary_type b.Concat v w = where_true (nat_le (v + w) 128) (Some (Bits (v + w)))
binary_type b.Shl v w = Some (Bits v)
binary_type (b.Shr sign) v w = Some (Bits v)
binary_type b.Eq v w = where_true (v == w) (Some (Bits 1))
binary_type b.Ne v w = where_true (v == w) (Some (Bits 1))
binary_type (b.Lt sign) v w = where_true (v == w) (Some (Bits 1))
binary_type (b.Le sign) v w = where_true (v == w) (Some (Bits 1))
binary_type (b.Gt sign) v w = where_true (v == w) (Some (Bits 1))
binary_type (b.Ge sign) v w = where_true (v == w) (Some (Bits 1))
binary_type _ v w = where_true (v == w) (Some (Bits v))

-- ---- patterns: what is bound behind a value of a type that always fits, and what may be compared with one

-- the types of what is bound, behind those that were there
abbrev pub BindsTypes : Type 0
BindsTypes = Ty → List Ty → Option (List Ty)

abbrev pub binds_each : List BindsTypes → List Ty → List Ty → Option (List Ty)
binds_each [] [] bound = Some bound
binds_each (p ∷ ps) (t ∷ ts) bound = and_then (p t bound) (binds_each ps ts)
binds_each _ _ bound = None

-- `certain` says whether a value may be compared with another: it may in arms alone
abbrev pub binds_step : Bool → Shape-F BindsTypes → BindsTypes
binds_step certain Shape-F.Wild t bound = Some bound
binds_step certain Shape-F.Bound t bound = Some (bound ++ t ∷ [])
binds_step certain (Shape-F.Equal v) t bound = if certain then None else and_then (if_alike t (value_type v)) (λ s. Some bound)
binds_step certain (Shape-F.Tuple ps) t bound = and_then (parts_of_tuple t) (λ ts. binds_each ps ts bound)

abbrev pub binds_types : Bool → Shape → BindsTypes
binds_types certain = fold-Shape BindsTypes (binds_step certain)

abbrev pub is_some : Option (List Ty) → Bool
is_some None = false
is_some (Some ts) = true

-- it may be compared, and nothing is bound
abbrev pub none_bound : ℕ → Option (List Ty) → Bool
none_bound count None = false
none_bound count (Some ts) = length ts == count

abbrev pub each_binds_none : List Shape → Ty → List Ty → Bool
each_binds_none [] t bound = true
each_binds_none (p ∷ ps) t bound = none_bound (length bound) (binds_types false p t bound) && each_binds_none ps t bound

-- several alternatives bind nothing
abbrev pub arm_binds : List Shape → BindsTypes
arm_binds [] t bound = Some bound
arm_binds (p ∷ []) t bound = binds_types false p t bound
arm_binds (p ∷ q ∷ ps) t bound = where_true (each_binds_none (p ∷ q ∷ ps) t bound) (Some bound)

-- ---- arms that fit all values of a small type

abbrev pub is_fit : Option Bindings → Bool
is_fit None = false
is_fit (Some bound) = true

-- some arm fits the value
abbrev pub some_fits : List (List Shape) → Value → Bool
some_fits [] v = false
some_fits (ps ∷ arms) v = is_fit (first_apart ps v []) || some_fits arms v

-- each value of the type whose flat number is below this one
abbrev pub each_fits : List (List Shape) → Ty → ℕ → Bool
each_fits arms t zero = true
each_fits arms t (suc n) = some_fits arms (unflat_of t n) && each_fits arms t n

-- the type has at most 8 bits, and some arm fits each of its values
abbrev pub all_fit : List (List Shape) → Ty → Bool
all_fit arms t = nat_le (width_of t) 8 && each_fits arms t (2 ^ width_of t)

-- ---- expressions

-- what the functions of these numbers give for operands of these types
abbrev pub FunctionTypes : Type 0
FunctionTypes = ℕ → List Ty → Option Ty

abbrev pub Typing : Type 0
Typing = FunctionTypes → List Ty → Option Ty

pub record CoreArmTyping : Type 0 where
  pub shapes : List Shape
  pub value : Typing

abbrev pub types_in : List Typing → FunctionTypes → List Ty → Option (List Ty)
types_in es calls bound = all_some (map (λ (e : Typing). e calls bound) es)

abbrev pub width_in : Typing → FunctionTypes → List Ty → Option ℕ
width_in e calls bound = and_then (e calls bound) bits_width

abbrev pub array_in : Typing → FunctionTypes → List Ty → Option Elements
array_in e calls bound = and_then (e calls bound) elements_of

-- some alternative always fits
abbrev pub is_certain : List Shape → Ty → List Ty → Bool
is_certain [] t bound = false
is_certain (p ∷ ps) t bound = is_some (binds_types true p t bound) || is_certain ps t bound

-- the last arm also stands where no arm fits, and then binds nothing: so it always fits, or never binds, or each value fits some arm
abbrev pub last_binds : Bool → List Shape → BindsTypes
last_binds whole shapes t bound = and_then (arm_binds shapes t bound) (λ more. where_true (whole || (is_certain shapes t bound || length more == length bound)) (Some more))

-- `whole` says that each value fits some arm
abbrev pub arms_type : Bool → FunctionTypes → List Ty → Ty → List CoreArmTyping → Option Ty
arms_type whole calls bound t [] = None
arms_type whole calls bound t (a ∷ []) = and_then (last_binds whole a.shapes t bound) (a.value calls)
arms_type whole calls bound t (a ∷ c ∷ as') = and_then (and_then (arm_binds a.shapes t bound) (a.value calls)) (λ s. if_alike s (arms_type whole calls bound t (c ∷ as')))

abbrev pub shapes_of : List CoreArmTyping → List (List Shape)
shapes_of arms = map (λ (a : CoreArmTyping). a.shapes) arms

abbrev pub typing_step : CoreExpr-F Typing CoreArmTyping → Typing
typing_step (CoreExpr-F.Literal v) calls bound = value_type v
typing_step (CoreExpr-F.Slot k) calls bound = slice_get bound k
typing_step (CoreExpr-F.Tuple es) calls bound = and_then (types_in es calls bound) (λ ts. Some (Tuple ts))
typing_step (CoreExpr-F.Array es) calls bound = elements_alike (map (λ (e : Typing). e calls bound) es)
typing_step (CoreExpr-F.Unary o e) calls bound = and_then (width_in e calls bound) (λ w. Some (unary_type o w))
typing_step (CoreExpr-F.Binary o l r) calls bound = with_both (width_in l calls bound) (width_in r calls bound) (binary_type o)
typing_step (CoreExpr-F.Cast sign w e) calls bound = and_then (width_in e calls bound) (λ v. where_true (is_width w) (Some (Bits w)))
typing_step (CoreExpr-F.Slice e from w) calls bound = and_then (width_in e calls bound) (λ v. where_true (nat_lt 0 w && nat_le (from + w) v) (Some (Bits w)))
typing_step (CoreExpr-F.Part e i w) calls bound = with_both (width_in e calls bound) (width_in i calls bound) (λ v k. where_true (is_width w) (Some (Bits w)))
typing_step (CoreExpr-F.Element e k) calls bound = and_then (and_then (e calls bound) parts_of_tuple) (λ ts. slice_get ts k)
typing_step (CoreExpr-F.Index e i) calls bound = with_both (array_in e calls bound) (width_in i calls bound) (λ (a : Elements) w. Some a.element)
typing_step (CoreExpr-F.Update e i v) calls bound =
    with_both (array_in e calls bound) (width_in i calls bound) (λ (a : Elements) w. and_then (if_alike a.element (v calls bound)) (λ t. Some (Array a.element a.count)))
typing_step (CoreExpr-F.Bind e shape body) calls bound = and_then (e calls bound) (λ t. and_then (binds_types true shape t bound) (body calls))
typing_step (CoreExpr-F.Choose c a d) calls bound =
    and_then (width_in c calls bound) (λ w. where_true (w == 1) (and_then (a calls bound) (λ t. if_alike t (d calls bound))))
typing_step (CoreExpr-F.Select e arms) calls bound = and_then (e calls bound) (λ t. arms_type (all_fit (shapes_of arms) t) calls bound t arms)
typing_step (CoreExpr-F.Loop n from index acc body start) calls bound =
    where_true (is_sound_word from)
    (and_then (start calls bound) (λ t. and_then (binds_types true index (Bits from.width) bound) (λ inner. and_then (binds_types true acc t inner) (λ both. if_alike t (body calls both)))))
typing_step (CoreExpr-F.Call f es) calls bound = and_then (types_in es calls bound) (calls f)

abbrev pub arm_typing : Arm-F Typing CoreArmTyping → CoreArmTyping
arm_typing a = record { shapes = a.shapes; value = a.value }

-- the type of an expression, unless it has none
abbrev pub core_type : CoreExpr → Typing
core_type = fold-CoreExpr Typing CoreArmTyping typing_step arm_typing
