-- The rules of numbers, arrays, tuples and structs, and of what takes them apart.
use Rattle.std.specs.Prelude.{ℕ, zero, suc, List, [], ◌∷◌, ◌++◌, ◌==◌, ◌||◌, nat_lt, nat_le, map, Bool, true, false, not, Option, Some, None, length, slice_get, if◌then◌else◌}
use Rattle.std.specs.List.{list_any}
use Rattle.xb_span.specs.declared.span.Span.{Span}
use Rattle.xb_span.specs.declared.fault.Fault.{Fault}
use Rattle.dslx_tree.specs.declared.ident.Ident.{Ident}
use Rattle.dslx_tree.specs.declared.item.Struct.{Struct}
use Rattle.dslx_meaning.specs.Lists.{all_some, and_then, beside, is_in, where_true}
use Rattle.dslx_meaning.specs.Types.{bits_in, same_type}
use Rattle.dslx_meaning.specs.Operators.{number_value}
use Rattle.dslx_meaning.specs.Items.{item_named, name_of_field, as_struct}
use Rattle.dslx_meaning.specs.declared.ty.BitKind.{BitKind}
use Rattle.dslx_meaning.specs.declared.ty.DslxType.{DslxType, out-DslxType}
use Rattle.dslx_meaning.specs.declared.ty.DslxType as ty
use Rattle.dslx_meaning.specs.declared.ty.DslxType.TheOpen.{DslxType-F}
use Rattle.dslx_meaning.specs.Rules.TypeEnvs.{TypeEnv, Judgement, ExprPair, breaks, breaks_if, unlimited, settled, span_of, untyped_of, alone, within, no_token, faults_of_all, reached_of_all, size_of_all, types_of, plus_size, one_and}
use Rattle.dslx_meaning.specs.Rules.Typings.{FieldSeen}
use Rattle.dslx_meaning.specs.Rules.ConstantRules.{untyped_typing, is_empty, is_unsigned}
use Rattle.dslx_meaning.specs.Rules.NameRules.{name_typing}
use Rattle.dslx_meaning.specs.Rules.PatternRules.{is_there}
use Rattle.dslx_meaning.specs.Rules.OperatorRules.{unless_type}
use Rattle.dslx_meaning.specs.Rules.TypeRules.{unit_faults}
use Rattle.dslx_meaning.specs.declared.value.DslxValue.{DslxValue}
use Rattle.dslx_meaning.specs.declared.value.UntypedLiteral.{UntypedLiteral}
use Rattle.dslx_meaning.specs.Rules.RuleNumbers as rule

-- ---- numbers

-- rule 6: the number doesn't lie in the range of the type, or the type isn't bits
abbrev pub range_faults : Span → Option DslxType → UntypedLiteral → List Fault
range_faults span None number = []
range_faults span (Some t) number = breaks_if (not (is_there (number_value t number))) rule.NUMBER_FITS_TYPE span

-- bits within the limit on their width
abbrev pub is_narrow : Option BitKind → Bool
is_narrow None = false
is_narrow (Some kind) = nat_le kind.width 128

-- the value of a number whose type stands elsewhere, if it lies in its range. Where that type is past the limit on widths no number
-- has one, as no constant of such a type has
abbrev pub untyped_value : DslxType → UntypedLiteral → Option DslxValue
untyped_value t number = where_true (is_narrow (bits_in t)) (number_value t number)

-- rule 7: an untyped literal without an expected type may stand in few positions, which type it themselves
abbrev pub number_typing : Span → Option Judgement → UntypedLiteral → Judgement
number_typing span None number = unlimited None (breaks rule.NUMBER_HAS_TYPE span ∷ []) [] (Some 1)
number_typing span (Some t) number = unlimited t.ty (t.faults ++ range_faults span t.ty number) t.reached (Some 1)

-- ---- arrays

abbrev pub array_parts : DslxType-F DslxType → Option (DslxType × ℕ)
array_parts (DslxType-F.Array t n) = Some (t, n)
array_parts _ = None

abbrev pub array_in : DslxType → Option (DslxType × ℕ)
array_in t = array_parts (out-DslxType t)

-- rule 9: a value that has a type hasn't the one that is wanted, where that is known
abbrev pub wanted_faults : Span → Option DslxType → Option DslxType → List Fault
wanted_faults span (Some wanted) (Some t) = breaks_if (not (same_type wanted t)) rule.VALUE_HAS_ITS_TYPE span
wanted_faults span _ _ = []

-- an element of an array literal that has a type, which may be a number without one
abbrev pub element_in : TypeEnv → Option DslxType → ExprPair → Judgement
element_in context wanted e = by_untyped (untyped_of e)
  where
    by_untyped : Option UntypedLiteral → Judgement
    by_untyped None = let j = alone context e in record j { faults = j.faults ++ wanted_faults (span_of e) wanted j.ty }
    by_untyped (Some number) = record untyped_typing { ty = wanted; faults = range_faults (span_of e) wanted number }

-- rule 21: more elements than the size, or fewer without three dots, which repeat the last one
abbrev pub count_wrong : Bool → ℕ → ℕ → Bool
count_wrong true n zero = true
count_wrong true n (suc count) = nat_lt n (suc count)
count_wrong false n count = not (n == count)

abbrev pub array_faults : Span → Option DslxType → Option (DslxType × ℕ) → ℕ → Bool → List Fault
array_faults span None parts count dots = []
array_faults span (Some t) None count dots = breaks rule.VALUE_HAS_ITS_TYPE span ∷ []
array_faults span (Some t) (Some parts) count dots = breaks_if (count_wrong dots parts.1 count) rule.ARRAY_ELEMENT_COUNT span

abbrev pub element_type : Option (DslxType × ℕ) → Option DslxType
element_type None = None
element_type (Some parts) = Some parts.0

-- the type, where each element has one
abbrev pub when_all : List (Option DslxType) → Option DslxType → Option DslxType
when_all types t = and_then (all_some types) (λ ts. t)

abbrev pub typed_array : Span → TypeEnv → Judgement → List ExprPair → Bool → Judgement
typed_array span context t es dots =
    let parts = and_then t.ty array_in in
    let js = map (element_in context (element_type parts)) es in
    settled span (when_all (types_of js) t.ty) (t.faults ++ faults_of_all js ++ array_faults span t.ty parts (length es) dots)
    (t.reached ++ reached_of_all js) (one_and (size_of_all js))

-- rule 31: an element is ()
abbrev pub element_alone : TypeEnv → ExprPair → Judgement
element_alone context e = let j = alone context e in record j { faults = j.faults ++ unit_faults (span_of e) j.ty }

-- without a type the first element decides
abbrev pub like_first : Option DslxType → List ExprPair → List (Option DslxType) → List Fault
like_first first [] types = []
like_first first (e ∷ es) [] = []
like_first first (e ∷ es) (t ∷ ts) = wanted_faults (span_of e) first t ++ like_first first es ts

abbrev pub first_type_of : List (Option DslxType) → Option DslxType
first_type_of [] = None
first_type_of (t ∷ ts) = t

abbrev pub untyped_array : Span → TypeEnv → List ExprPair → Bool → Judgement
untyped_array span context es dots =
    let js = map (element_alone context) es in
    let first = first_type_of (types_of js) in
    settled span (when_all (types_of js) (and_then first (λ t. Some (ty.Array t (length es)))))
    (faults_of_all js ++ like_first first es (types_of js) ++ breaks_if (dots || is_empty es) rule.ARRAY_ELEMENT_COUNT span) (reached_of_all js) (one_and (size_of_all js))

abbrev pub array_typing : Span → TypeEnv → Option Judgement → List ExprPair → Bool → Judgement
array_typing span context None es dots = untyped_array span context es dots
array_typing span context (Some t) es dots = typed_array span context t es dots

-- rule 19: not an array, or not an unsigned index
abbrev pub is_array : DslxType → Bool
is_array t = is_there (array_in t)

abbrev pub index_typing : Span → TypeEnv → ExprPair → ExprPair → Judgement
index_typing span context e i =
    let whole = alone context e in
    let index = alone context i in
    settled span (and_then index.ty (λ k. element_type (and_then whole.ty array_in)))
    (whole.faults ++ index.faults ++ unless_type is_array rule.PART_IS_THERE span whole.ty ++ unless_type is_unsigned rule.PART_IS_THERE span index.ty)
    (whole.reached ++ index.reached) (one_and (plus_size whole.size index.size))

-- ---- tuples

abbrev pub tuple_typing : Span → TypeEnv → List ExprPair → Judgement
tuple_typing span context es =
    let js = map (element_alone context) es in
    settled span (and_then (all_some (types_of js)) (λ ts. Some (ty.Tuple ts))) (faults_of_all js) (reached_of_all js) (one_and (size_of_all js))

abbrev pub tuple_parts : DslxType-F DslxType → List DslxType
tuple_parts (DslxType-F.Tuple ts) = ts
tuple_parts _ = []

abbrev pub part_type : DslxType → ℕ → Option DslxType
part_type t k = slice_get (tuple_parts (out-DslxType t)) k

abbrev pub is_some_tuple : DslxType-F DslxType → Bool
is_some_tuple (DslxType-F.Tuple ts) = true
is_some_tuple _ = false

-- a receive's pair may stand here, but no token
abbrev pub pair_alone : TypeEnv → ExprPair → Judgement
pair_alone context e = let j = within context e in if_pair j j.ty
  where
    if_pair : Judgement → Option DslxType → Judgement
    if_pair j None = j
    if_pair j (Some t) = if is_some_tuple (out-DslxType t) then j else no_token (span_of e) j

-- what is taken apart by a number: a receive's pair by 0 and 1 alone
abbrev pub pair_or_alone : ℕ → TypeEnv → ExprPair → Judgement
pair_or_alone zero context e = pair_alone context e
pair_or_alone (suc zero) context e = pair_alone context e
pair_or_alone (suc (suc k)) context e = alone context e

-- rule 19: no such part
abbrev pub tuple_element_typing : Span → TypeEnv → ExprPair → ℕ → Judgement
tuple_element_typing span context e k =
    let whole = pair_or_alone k context e in
    settled span (and_then whole.ty (λ t. part_type t k)) (whole.faults ++ unless_type (λ t. is_there (part_type t k)) rule.PART_IS_THERE span whole.ty)
    whole.reached (one_and whole.size)

-- ---- structs

abbrev pub struct_field_type : DslxType-F DslxType → List ℕ → Option DslxType
struct_field_type (DslxType-F.Struct name fields ts) field = beside field fields ts
struct_field_type _ field = None

abbrev pub field_type : Option DslxType → List ℕ → Option DslxType
field_type None field = None
field_type (Some t) field = struct_field_type (out-DslxType t) field

-- a field of a struct value: given by its name alone it has the value of that name
abbrev pub field_typing : TypeEnv → Option DslxType → FieldSeen → Judgement
field_typing context struct f = by_value f.value
  where
    wanted : Option DslxType
    wanted = field_type struct f.name.name

    by_value : Option ExprPair → Judgement
    by_value None = let j = no_token f.name.span (name_typing f.name.span context f.name.name) in record j { faults = j.faults ++ wanted_faults f.name.span wanted j.ty }
    by_value (Some e) = let j = alone context e in record j { faults = j.faults ++ wanted_faults (span_of e) wanted j.ty }

-- rule 1: a field that the struct hasn't
abbrev pub unknown_fields : List (List ℕ) → List FieldSeen → List Fault
unknown_fields declared [] = []
unknown_fields declared (f ∷ fs) = breaks_if (not (is_in f.name.name declared)) rule.NAME_IS_DECLARED f.name.span ++ unknown_fields declared fs

abbrev pub written_fields : List FieldSeen → List (List ℕ)
written_fields fs = map (λ (f : FieldSeen). f.name.name) fs

-- rule 22: a field twice, or one that lacks where nothing gives the others
abbrev pub has_twice : List (List ℕ) → Bool
has_twice [] = false
has_twice (n ∷ ns) = is_in n ns || has_twice ns

abbrev pub lacks_one : List (List ℕ) → List (List ℕ) → Bool → Bool
lacks_one declared written true = false
lacks_one declared written false = list_any (λ name. not (is_in name written)) declared

-- what gives the other fields is of the struct
abbrev pub others_typing : TypeEnv → Option DslxType → Option ExprPair → Judgement
others_typing context struct None = record { ty = struct; faults = []; reached = []; size = Some 0 }
others_typing context struct (Some e) = let j = alone context e in record j { faults = j.faults ++ wanted_faults (span_of e) struct j.ty }

abbrev pub struct_with : Span → TypeEnv → Ident → List FieldSeen → Option ExprPair → Option DslxType → Struct → Judgement
struct_with span context name fields others struct declared =
    let js = map (field_typing context struct) fields in
    let rest = others_typing context struct others in
    let names = map name_of_field declared.fields in
    settled span (when_all (rest.ty ∷ types_of js) struct)
    (breaks_if (context.known.is_cyclic context.owner name.name) rule.NO_ITEM_REACHES_ITSELF name.span ++ faults_of_all js ++ rest.faults ++ unknown_fields names fields
    ++ breaks_if (has_twice (written_fields fields) || lacks_one names (written_fields fields) (is_there others)) rule.STRUCT_FIELDS span)
    (reached_of_all js ++ rest.reached) (one_and (plus_size (size_of_all js) rest.size))

abbrev pub struct_if : Span → TypeEnv → Ident → List FieldSeen → Option ExprPair → Option Struct → Judgement
struct_if span context name fields others None =
    let js = map (field_typing context None) fields in
    let rest = others_typing context None others in
    settled span None (breaks rule.NAME_IS_DECLARED name.span ∷ faults_of_all js ++ rest.faults) (reached_of_all js ++ rest.reached) (one_and (plus_size (size_of_all js) rest.size))
struct_if span context name fields others (Some declared) = struct_with span context name fields others (context.known.items.struct_named name.name) declared

abbrev pub struct_typing : Span → TypeEnv → Ident → List FieldSeen → Option ExprPair → Judgement
struct_typing span context name fields others = struct_if span context name fields others (as_struct (item_named name.name context.known.whole.items))

-- rule 19: no such field
abbrev pub field_part_typing : Span → TypeEnv → ExprPair → Ident → Judgement
field_part_typing span context e name =
    let whole = alone context e in
    settled span (field_type whole.ty name.name) (whole.faults ++ unless_type (λ t. is_there (field_type (Some t) name.name)) rule.PART_IS_THERE span whole.ty)
    whole.reached (one_and whole.size)
