-- Values that are equal in all their parts, names of fields and signs of enums as well, which `==` doesn't see. Instances are told
-- apart by them.
use Rattle.std.specs.Prelude.{ℕ, List, ◌&&◌, Bool, false}
use Rattle.std.specs.Str.{bytes_eq}
use Rattle.xb_bits.specs.Word.{Word}
use Rattle.dslx_meaning.specs.Lists.{pairwise}
use Rattle.dslx_meaning.specs.Types.{same_bool}
use Rattle.dslx_meaning.specs.Values.{array_same, bits_same, same_word, token_same, tuple_same}
use Rattle.dslx_meaning.specs.declared.value.DslxValue.{DslxValue, out-DslxValue, fold-DslxValue}
use Rattle.dslx_meaning.specs.declared.value.DslxValue.TheOpen.{DslxValue-F}

abbrev pub struct_value_equal : List ℕ → List (List ℕ) → List (DslxValue → Bool) → DslxValue-F DslxValue → Bool
struct_value_equal name fields ps (DslxValue-F.Struct name' fields' vs) = (bytes_eq name name' && pairwise bytes_eq fields fields') && pairwise (λ p v. p v) ps vs
struct_value_equal name fields ps _ = false

abbrev pub enum_value_equal : List ℕ → Bool → Word → DslxValue-F DslxValue → Bool
enum_value_equal name s w (DslxValue-F.Enum name' s' w') = bytes_eq name name' && (same_bool s s' && same_word w w')
enum_value_equal name s w _ = false

abbrev pub equal_value_step : DslxValue-F (DslxValue → Bool) → DslxValue → Bool
equal_value_step (DslxValue-F.Bits s w) u = bits_same s w (out-DslxValue u)
equal_value_step (DslxValue-F.Tuple ps) u = tuple_same ps (out-DslxValue u)
equal_value_step (DslxValue-F.Array ps) u = array_same ps (out-DslxValue u)
equal_value_step (DslxValue-F.Struct name fields ps) u = struct_value_equal name fields ps (out-DslxValue u)
equal_value_step (DslxValue-F.Enum name s w) u = enum_value_equal name s w (out-DslxValue u)
equal_value_step DslxValue-F.Token u = token_same (out-DslxValue u)

-- the two are one value in all their parts
abbrev pub equal_value : DslxValue → DslxValue → Bool
equal_value = fold-DslxValue (DslxValue → Bool) equal_value_step
