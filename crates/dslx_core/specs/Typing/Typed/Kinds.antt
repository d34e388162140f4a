-- Which values are of a type.
use Rattle.std.specs.Prelude.{ℕ, List, ◌^◌, ◌==◌, ◌&&◌, nat_lt, Bool, true, false, not, length}
use Rattle.std.specs.Str.{bytes_eq}
use Rattle.std.specs.List.{list_all}
use Rattle.xb_bits.specs.Word.{Word}
use Rattle.dslx_meaning.specs.Lists.{pairwise}
use Rattle.dslx_meaning.specs.Types.{same_bool}
use Rattle.dslx_meaning.specs.Rules.ConstantRules.{is_zero}
use Rattle.dslx_meaning.specs.declared.ty.DslxType.{DslxType, fold-DslxType}
use Rattle.dslx_meaning.specs.declared.ty.DslxType.TheOpen.{DslxType-F}
use Rattle.dslx_meaning.specs.declared.value.DslxValue.{DslxValue, out-DslxValue}
use Rattle.dslx_meaning.specs.declared.value.DslxValue.TheOpen.{DslxValue-F}

-- each test passes its own value, and there are as many
abbrev pub each_of : List (DslxValue → Bool) → List DslxValue → Bool
each_of tests vs = pairwise (λ p v. p v) tests vs

-- the number lies in the width
abbrev pub lies_in : Word → Bool
lies_in x = nat_lt x.value (2 ^ x.width)

abbrev pub bits_of_kind : Bool → ℕ → DslxValue-F DslxValue → Bool
bits_of_kind s w (DslxValue-F.Bits s' x) = (same_bool s s' && w == x.width) && lies_in x
bits_of_kind s w _ = false

abbrev pub tuple_of : List (DslxValue → Bool) → DslxValue-F DslxValue → Bool
tuple_of tests (DslxValue-F.Tuple vs) = each_of tests vs
tuple_of tests _ = false

-- some elements, all of one type
abbrev pub elements_all_of : (DslxValue → Bool) → ℕ → DslxValue-F DslxValue → Bool
elements_all_of test n (DslxValue-F.Array vs) = (not (is_zero n) && n == length vs) && list_all test vs
elements_all_of test n _ = false

abbrev pub same_names : List (List ℕ) → List (List ℕ) → Bool
same_names ns ms = pairwise bytes_eq ns ms

abbrev pub struct_of : List ℕ → List (List ℕ) → List (DslxValue → Bool) → DslxValue-F DslxValue → Bool
struct_of name fields tests (DslxValue-F.Struct name' fields' vs) = (bytes_eq name name' && same_names fields fields') && each_of tests vs
struct_of name fields tests _ = false

abbrev pub enum_of_kind : List ℕ → Bool → ℕ → DslxValue-F DslxValue → Bool
enum_of_kind name s w (DslxValue-F.Enum name' s' x) = bytes_eq name name' && ((same_bool s s' && w == x.width) && lies_in x)
enum_of_kind name s w _ = false

abbrev pub is_some_token : DslxValue-F DslxValue → Bool
is_some_token DslxValue-F.Token = true
is_some_token _ = false

abbrev pub is_of_step : DslxType-F (DslxValue → Bool) → DslxValue → Bool
is_of_step (DslxType-F.Bits s w) v = bits_of_kind s w (out-DslxValue v)
is_of_step (DslxType-F.Tuple tests) v = tuple_of tests (out-DslxValue v)
is_of_step (DslxType-F.Array test n) v = elements_all_of test n (out-DslxValue v)
is_of_step (DslxType-F.Struct name fields tests) v = struct_of name fields tests (out-DslxValue v)
is_of_step (DslxType-F.Enum name s w) v = enum_of_kind name s w (out-DslxValue v)
is_of_step DslxType-F.Token v = is_some_token (out-DslxValue v)

-- the value is of this type: bits of its sign and width whose number lies in it, a tuple, an array or a struct of as many parts, each of the type that
-- stands for it, a value of the enum, or a token
abbrev pub is_of : DslxType → DslxValue → Bool
is_of = fold-DslxType (DslxValue → Bool) is_of_step
