-- What steps do with several expressions, one after another.
use Rattle.std.specs.Prelude.{ℕ, List, [], ◌∷◌, ◌++◌, length, slice_get, Bool, Option, Some, None}
use Rattle.xb_bits.specs.Operations as op
use Rattle.dslx_tree.specs.declared.expr.Arg.{Arg, out-Arg}
use Rattle.dslx_tree.specs.declared.expr.Expr.{Expr}
use Rattle.dslx_tree.specs.declared.expr.FieldValue.{FieldValue, out-FieldValue}
use Rattle.dslx_meaning.specs.Callees.{CallKind, kind_of_call, Joins, CountsLeading, CountsTrailing, Reverses, AllOnes, SomeOne, Parity, Updates, Calls}
use Rattle.dslx_meaning.specs.Meaning.{filled, field_from}
use Rattle.dslx_meaning.specs.Operators.{number_value, counted, reduced, updated}
use Rattle.dslx_meaning.specs.declared.ty.DslxType.{DslxType, out-DslxType}
use Rattle.dslx_meaning.specs.declared.ty.DslxType.TheOpen.{DslxType-F}
use Rattle.dslx_meaning.specs.declared.value.UntypedLiteral.{UntypedLiteral}
use Rattle.dslx_meaning.specs.declared.value.DslxValue.{DslxValue, Tuple, Array, Struct, Token}
use Rattle.dslx_meaning.specs.Names.ConstMachine.Tasks.{ConstState, ListMaker, MakesTuple, MakesArray, Fills, CallsWith, ValueDen, Gathers, GathersParametricArgs, TakesRest, GathersFields}
use Rattle.dslx_meaning.specs.Names.ConstMachine.Layers.{untyped_of, field_among}
use Rattle.dslx_meaning.specs.Names.ConstMachine.States.{finds_value, doing}
use Rattle.dslx_meaning.specs.Names.ConstMachine.Items.{uses_name, uses_function}

-- ---- calls

-- what a builtin gives
abbrev pub builtin_value : CallKind → List DslxValue → Option DslxValue
builtin_value Joins vs = Some Token
builtin_value CountsLeading vs = counted op.clz vs
builtin_value CountsTrailing vs = counted op.ctz vs
builtin_value Reverses vs = counted op.rev vs
builtin_value AllOnes vs = reduced op.and_reduce vs
builtin_value SomeOne vs = reduced op.or_reduce vs
builtin_value Parity vs = reduced op.xor_reduce vs
builtin_value Updates vs = updated vs
builtin_value _ vs = None

abbrev pub calls : CallKind → List ℕ → List DslxValue → List DslxValue → ConstState → ConstState
calls Calls name parametric_args vs run = uses_function name parametric_args vs run
calls kind name parametric_args vs run = finds_value (builtin_value kind vs) run

-- ---- values in order

abbrev pub made_of : ListMaker → List DslxValue → ConstState → ConstState
made_of MakesTuple vs run = finds_value (Some (Tuple vs)) run
made_of MakesArray vs run = finds_value (Some (Array vs)) run
made_of (Fills t n dots) vs run = finds_value (filled dots n vs) run
made_of (CallsWith name parametric_args) vs run = calls (kind_of_call name) name parametric_args vs run

-- an element of a type, which may be a number without one
abbrev pub element_begins : DslxType → Option UntypedLiteral → Expr → ConstState → ConstState
element_begins t None e run = doing (ValueDen e ∷ []) run
element_begins t (Some b) e run = finds_value (number_value t b) run

abbrev pub next_begins : ListMaker → Expr → ConstState → ConstState
next_begins (Fills t n dots) e run = element_begins t (untyped_of e) e run
next_begins maker e run = doing (ValueDen e ∷ []) run

-- the expressions that are left, behind these values
abbrev pub gathers : List DslxValue → List Expr → ListMaker → ConstState → ConstState
gathers vs [] maker run = made_of maker vs run
gathers vs (e ∷ es) maker run = next_begins maker e (doing (Gathers vs es maker ∷ []) run)

abbrev pub gathered : List DslxValue → List Expr → ListMaker → Option DslxValue → ConstState → ConstState
gathered vs es maker None run = finds_value None run
gathered vs es maker (Some v) run = gathers (vs ++ v ∷ []) es maker run

-- the parametric arguments that are left of a call, behind these
abbrev pub gathers_parametric_args : List DslxValue → List Arg → List ℕ → List Expr → ConstState → ConstState
gathers_parametric_args vs [] name es run = gathers [] es (CallsWith name vs) run
gathers_parametric_args vs (a ∷ parametric_args) name es run = doing (ValueDen (out-Arg a).value ∷ GathersParametricArgs vs parametric_args name es ∷ []) run

abbrev pub number_gathered : List DslxValue → List Arg → List ℕ → List Expr → Option DslxValue → ConstState → ConstState
number_gathered vs parametric_args name es None run = finds_value None run
number_gathered vs parametric_args name es (Some v) run = gathers_parametric_args (vs ++ v ∷ []) parametric_args name es run

abbrev pub fills : DslxType-F DslxType → List Expr → Bool → ConstState → ConstState
fills (DslxType-F.Array t n) es dots run = gathers [] es (Fills t n dots) run
fills _ es dots run = finds_value None run

abbrev pub elements_begin : Option DslxType → List Expr → Bool → ConstState → ConstState
elements_begin None es dots run = finds_value None run
elements_begin (Some t) es dots run = fills (out-DslxType t) es dots run

-- ---- fields

-- a field given by its name alone has the value of that name
abbrev pub field_value_begins : List ℕ → Option Expr → ConstState → ConstState
field_value_begins name None run = uses_name name run
field_value_begins name (Some e) run = doing (ValueDen e ∷ []) run

abbrev pub field_begins : Option FieldValue → List ℕ → Option DslxValue → ConstState → ConstState
field_begins None field rest run = finds_value (field_from field rest) run
field_begins (Some f) field rest run = field_value_begins (out-FieldValue f).name.name (out-FieldValue f).value run

-- the field behind these values, if there is one
abbrev pub fields_on : Option (List ℕ) → List ℕ → List (List ℕ) → List DslxValue → List FieldValue → Option DslxValue → ConstState → ConstState
fields_on None name names vs fields rest run = finds_value (Some (Struct name names vs)) run
fields_on (Some field) name names vs fields rest run = field_begins (field_among field fields) field rest (doing (GathersFields name names vs fields rest ∷ []) run)

abbrev pub gathers_fields : List ℕ → List (List ℕ) → List DslxValue → List FieldValue → Option DslxValue → ConstState → ConstState
gathers_fields name names vs fields rest run = fields_on (slice_get names (length vs)) name names vs fields rest run

abbrev pub field_gathered : List ℕ → List (List ℕ) → List DslxValue → List FieldValue → Option DslxValue → Option DslxValue → ConstState → ConstState
field_gathered name names vs fields rest None run = finds_value None run
field_gathered name names vs fields rest (Some v) run = gathers_fields name names (vs ++ v ∷ []) fields rest run

-- what gives the other fields is found first
abbrev pub rest_begins : Option Expr → List ℕ → List (List ℕ) → List FieldValue → ConstState → ConstState
rest_begins None name names fields run = gathers_fields name names [] fields None run
rest_begins (Some e) name names fields run = doing (ValueDen e ∷ TakesRest name names fields ∷ []) run

abbrev pub fields_of_type : DslxType-F DslxType → List FieldValue → Option Expr → ConstState → ConstState
fields_of_type (DslxType-F.Struct name names ts) fields rest run = rest_begins rest name names fields run
fields_of_type _ fields rest run = finds_value None run

abbrev pub fields_begin : Option DslxType → List FieldValue → Option Expr → ConstState → ConstState
fields_begin None fields rest run = finds_value None run
fields_begin (Some t) fields rest run = fields_of_type (out-DslxType t) fields rest run
