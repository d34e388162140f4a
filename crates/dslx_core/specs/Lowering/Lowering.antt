-- Which core expression an expression of a text is lowered to.
--
-- What is lowered carries its type, by which signs, fields and instances are found. Names are lowered to indices of bound values,
-- parametrics and constants to literals, structs to tuples, and enums to bits. Where something isn't found, or a type
-- isn't the one that is wanted, nothing is lowered.
use Rattle.std.specs.Prelude.{ℕ, List, [], ◌∷◌, ◌-◌, ◌+◌, ◌&&◌, nat_lt, nat_le, map, Bool, true, Option, Some, None, slice_get, if◌then◌else◌}
use Rattle.dslx_tree.specs.declared.operator.Prefix.{Prefix}
use Rattle.dslx_tree.specs.declared.operator.Prefix.TheVariants.{Minus, Not}
use Rattle.dslx_tree.specs.declared.operator.Binary.{Binary}
use Rattle.dslx_tree.specs.declared.operator.Binary.TheVariants as b
use Rattle.dslx_meaning.specs.Lists.{all_some, and_then, with_both, or_else, where_true, index_in}
use Rattle.dslx_meaning.specs.Callees.{CallKind, Joins, CountsLeading, CountsTrailing, Reverses, AllOnes, SomeOne, Parity, Updates, Calls}
use Rattle.dslx_meaning.specs.Types.{bits_in, bits_or_enum, bool_type, unsigned}
use Rattle.dslx_meaning.specs.Values.{plain_value, type_of_value}
use Rattle.dslx_meaning.specs.Operators.{number_value}
use Rattle.dslx_meaning.specs.Environment.{given_in}
use Rattle.dslx_meaning.specs.declared.ty.BitKind.{BitKind}
use Rattle.dslx_meaning.specs.declared.ty.DslxType.{DslxType, out-DslxType}
use Rattle.dslx_meaning.specs.declared.ty.DslxType as ty
use Rattle.dslx_meaning.specs.declared.ty.DslxType.TheOpen.{DslxType-F}
use Rattle.dslx_meaning.specs.declared.value.UntypedLiteral.{UntypedLiteral}
use Rattle.dslx_meaning.specs.declared.value.DslxValue.{DslxValue}
use Rattle.dslx_meaning.specs.Rules.AggregateRules.{array_in, part_type}
use Rattle.dslx_meaning.specs.Rules.OperatorRules.{width_of_type}
use Rattle.dslx_core.specs.CoreValues.{is_width}
use Rattle.dslx_core.specs.declared.expr.Sign.{Sign}
use Rattle.dslx_core.specs.declared.expr.Sign.TheVariants.{Unsigned, Signed}
use Rattle.dslx_core.specs.declared.expr.CoreUnary.{CoreUnary}
use Rattle.dslx_core.specs.declared.expr.CoreUnary.TheVariants as u
use Rattle.dslx_core.specs.declared.expr.CoreBinary.{CoreBinary}
use Rattle.dslx_core.specs.declared.expr.CoreBinary.TheVariants as o
use Rattle.dslx_core.specs.declared.expr.CoreExpr.{CoreExpr}
use Rattle.dslx_core.specs.declared.expr.CoreExpr as core
use Rattle.dslx_core.specs.Lowering.EqualTypes.{equal_type}
use Rattle.dslx_core.specs.Lowering.CoreScopes.{BoundSlot, CoreScope, local_in}
use Rattle.dslx_core.specs.declared.lowering.expr.LoweredExpr as expr_data

-- a core expression, and the type of its values
abbrev pub LoweredExpr : Type 0
LoweredExpr = expr_data.LoweredExpr

abbrev pub lowered : CoreExpr → DslxType → Option LoweredExpr
lowered e t = Some (record { core = e; ty = t })

-- a value, as a literal
abbrev pub literal : DslxValue → Option LoweredExpr
literal v = lowered (core.Literal (plain_value v)) (type_of_value v)

abbrev pub sign_in : Option BitKind → Sign
sign_in None = Unsigned
sign_in (Some kind) = if kind.signed then Signed else Unsigned

-- how bits of a type, or those of an enum, are read
abbrev pub sign_of : DslxType → Sign
sign_of t = sign_in (bits_or_enum t)

-- ---- names and numbers

abbrev pub slot_or_literal : CoreScope → List ℕ → Option BoundSlot → Option LoweredExpr
slot_or_literal scope name None = and_then (or_else (given_in name scope.known.parametric_args) (scope.known.items.constant name)) literal
slot_or_literal scope name (Some l) = lowered (core.Slot l.slot) l.ty

-- a bound name, a parametric or a constant
abbrev pub lower_name : List ℕ → CoreScope → Option LoweredExpr
lower_name name scope = slot_or_literal scope name (local_in name scope.locals)

abbrev pub lower_number : Option DslxType → UntypedLiteral → Option LoweredExpr
lower_number t number = and_then t (λ t. and_then (number_value t number) literal)

-- ---- operators

abbrev pub prefix_core : Prefix → CoreUnary
prefix_core Minus = u.Neg
prefix_core Not = u.Not

abbrev pub lower_prefix : Prefix → Option LoweredExpr → Option LoweredExpr
lower_prefix p e = and_then e (λ e. lowered (core.Unary (prefix_core p) e.core) e.ty)

-- the operator, where the left operand is read so
abbrev pub binary_core : Binary → Sign → CoreBinary
binary_core b.Mul sign = o.Mul
binary_core b.Div sign = o.Div
binary_core b.Rem sign = o.Rem
binary_core b.Add sign = o.Add
binary_core b.Sub sign = o.Sub
binary_core b.Concat sign = o.Concat
binary_core b.Shl sign = o.Shl
binary_core b.Shr sign = o.Shr sign
binary_core b.And sign = o.And
binary_core b.Xor sign = o.Xor
binary_core b.Or sign = o.Or
binary_core b.Eq sign = o.Eq
binary_core b.Ne sign = o.Ne
binary_core b.Lt sign = o.Lt sign
binary_core b.Le sign = o.Le sign
binary_core b.Gt sign = o.Gt sign
binary_core b.Ge sign = o.Ge sign
binary_core b.Both sign = o.And
binary_core b.Either sign = o.Or

-- the type of what it gives
abbrev pub result_of_binary : Binary → DslxType → DslxType → DslxType
result_of_binary b.Mul t u = t
result_of_binary b.Div t u = t
result_of_binary b.Rem t u = t
result_of_binary b.Add t u = t
result_of_binary b.Sub t u = t
result_of_binary b.Concat t u = unsigned (width_of_type t + width_of_type u)
result_of_binary b.Shl t u = t
result_of_binary b.Shr t u = t
result_of_binary b.And t u = t
result_of_binary b.Xor t u = t
result_of_binary b.Or t u = t
result_of_binary b.Eq t u = bool_type
result_of_binary b.Ne t u = bool_type
result_of_binary b.Lt t u = bool_type
result_of_binary b.Le t u = bool_type
result_of_binary b.Gt t u = bool_type
result_of_binary b.Ge t u = bool_type
result_of_binary b.Both t u = bool_type
result_of_binary b.Either t u = bool_type

-- words have at most 128 bits, and what is compared is of one type
abbrev pub fits_operands : Binary → DslxType → DslxType → Bool
fits_operands b.Concat t u = nat_le (width_of_type t + width_of_type u) 128
fits_operands b.Eq t u = equal_type t u
fits_operands b.Ne t u = equal_type t u
fits_operands _ t u = true

abbrev pub lower_binary : Binary → Option LoweredExpr → Option LoweredExpr → Option LoweredExpr
lower_binary op l r =
    with_both l r (λ l r. where_true (fits_operands op l.ty r.ty) (lowered (core.Binary (binary_core op (sign_of l.ty)) l.core r.core) (result_of_binary op l.ty r.ty)))

abbrev pub lower_cast : Option LoweredExpr → Option DslxType → Option LoweredExpr
lower_cast e t =
    with_both e t (λ e t. and_then (bits_in t) (λ kind. where_true (is_width kind.width) (lowered (core.Cast (sign_of e.ty) kind.width e.core) t)))

abbrev pub lower_slice : Option LoweredExpr → Option ℕ → Option ℕ → Option LoweredExpr
lower_slice e from to =
    and_then e (λ e. with_both from to (λ m n. where_true (nat_lt m n && nat_le n 128) (lowered (core.Slice e.core m (n - m)) (unsigned (n - m)))))

abbrev pub lower_part : Option LoweredExpr → Option LoweredExpr → Option DslxType → Option LoweredExpr
lower_part e i t =
    with_both e i (λ e i. and_then (and_then t bits_in) (λ kind. where_true (is_width kind.width) (lowered (core.Part e.core i.core kind.width) (unsigned kind.width))))

-- ---- tuples, arrays and structs

abbrev pub cores_of : List LoweredExpr → List CoreExpr
cores_of es = map (λ (e : LoweredExpr). e.core) es

abbrev pub types_of_lowered : List LoweredExpr → List DslxType
types_of_lowered es = map (λ (e : LoweredExpr). e.ty) es

abbrev pub lower_tuple : List (Option LoweredExpr) → Option LoweredExpr
lower_tuple es = and_then (all_some es) (λ es. lowered (core.Tuple (cores_of es)) (ty.Tuple (types_of_lowered es)))

abbrev pub lower_element : Option LoweredExpr → ℕ → Option LoweredExpr
lower_element e k = and_then e (λ e. and_then (part_type e.ty k) (λ t. lowered (core.Element e.core k) t))

-- the index of a field, and its type
abbrev pub field_index : List ℕ → DslxType-F DslxType → Option (ℕ × DslxType)
field_index field (DslxType-F.Struct name fields ts) = and_then (index_in field fields) (λ k. and_then (slice_get ts k) (λ t. Some (k, t)))
field_index field _ = None

abbrev pub lower_field : Option LoweredExpr → List ℕ → Option LoweredExpr
lower_field e field = and_then e (λ e. and_then (field_index field (out-DslxType e.ty)) (λ p. lowered (core.Element e.core p.0) p.1))

abbrev pub lower_index : Option LoweredExpr → Option LoweredExpr → Option LoweredExpr
lower_index e i = with_both e i (λ e i. and_then (array_in e.ty) (λ parts. lowered (core.Index e.core i.core) parts.0))

-- ---- control

abbrev pub lower_choice : Option LoweredExpr → Option LoweredExpr → Option LoweredExpr → Option LoweredExpr
lower_choice c a b =
    and_then c (λ c. with_both a b (λ a b. where_true (equal_type a.ty b.ty) (lowered (core.Choose c.core a.core b.core) a.ty)))

-- ---- builtins and calls

abbrev pub lower_counted : CoreUnary → List (Option LoweredExpr) → Option LoweredExpr
lower_counted op (e ∷ []) = and_then e (λ e. lowered (core.Unary op e.core) e.ty)
lower_counted op _ = None

abbrev pub lower_reduced : CoreUnary → List (Option LoweredExpr) → Option LoweredExpr
lower_reduced op (e ∷ []) = and_then e (λ e. lowered (core.Unary op e.core) bool_type)
lower_reduced op _ = None

abbrev pub lower_updated : List (Option LoweredExpr) → Option LoweredExpr
lower_updated (e ∷ i ∷ new ∷ []) =
    and_then new (λ new. with_both e i (λ e i. and_then (array_in e.ty) (λ parts. where_true (equal_type parts.0 new.ty) (lowered (core.Update e.core i.core new.core) e.ty))))
lower_updated _ = None

abbrev pub lower_function : CoreScope → List ℕ → List (Option DslxValue) → List (Option LoweredExpr) → Option LoweredExpr
lower_function scope name parametric_args es =
    with_both (all_some parametric_args) (all_some es)
    (λ parametric_args es. and_then (scope.known.callee name parametric_args (types_of_lowered es)) (λ callee. lowered (core.Call callee.number (cores_of es)) callee.result))

-- effects are no expressions: an activation has them
abbrev pub lower_call : CallKind → List ℕ → CoreScope → List (Option DslxValue) → List (Option LoweredExpr) → Option LoweredExpr
lower_call Joins name scope parametric_args es = and_then (all_some es) (λ es. lowered (core.Tuple []) ty.Token)
lower_call CountsLeading name scope parametric_args es = lower_counted u.Clz es
lower_call CountsTrailing name scope parametric_args es = lower_counted u.Ctz es
lower_call Reverses name scope parametric_args es = lower_counted u.Rev es
lower_call AllOnes name scope parametric_args es = lower_reduced u.AndReduce es
lower_call SomeOne name scope parametric_args es = lower_reduced u.OrReduce es
lower_call Parity name scope parametric_args es = lower_reduced u.XorReduce es
lower_call Updates name scope parametric_args es = lower_updated es
lower_call Calls name scope parametric_args es = lower_function scope name parametric_args es
lower_call _ name scope parametric_args es = None
