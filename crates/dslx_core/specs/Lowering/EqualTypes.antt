-- Types that are equal in all their parts.
use Rattle.std.specs.Prelude.{ℕ, List, ◌==◌, ◌&&◌, Bool, false}
use Rattle.std.specs.Str.{bytes_eq}
use Rattle.dslx_meaning.specs.Types.{same_bool, each_is, bits_are, tuple_is, array_is, token_is}
use Rattle.dslx_meaning.specs.declared.ty.DslxType.{DslxType, out-DslxType, fold-DslxType}
use Rattle.dslx_meaning.specs.declared.ty.DslxType.TheOpen.{DslxType-F}
use Rattle.dslx_core.specs.Typing.Typed.Kinds.{same_names}

abbrev pub struct_equal : List ℕ → List (List ℕ) → List (DslxType → Bool) → DslxType-F DslxType → Bool
struct_equal name fields ps (DslxType-F.Struct name' fields' ts) = (bytes_eq name name' && same_names fields fields') && each_is ps ts
struct_equal name fields ps _ = false

abbrev pub enum_equal : List ℕ → Bool → ℕ → DslxType-F DslxType → Bool
enum_equal name s w (DslxType-F.Enum name' s' w') = bytes_eq name name' && (same_bool s s' && w == w')
enum_equal name s w _ = false

abbrev pub equal_type_step : DslxType-F (DslxType → Bool) → DslxType → Bool
equal_type_step (DslxType-F.Bits s w) u = bits_are s w (out-DslxType u)
equal_type_step (DslxType-F.Tuple ps) u = tuple_is ps (out-DslxType u)
equal_type_step (DslxType-F.Array p n) u = array_is p n (out-DslxType u)
equal_type_step (DslxType-F.Struct name fields ps) u = struct_equal name fields ps (out-DslxType u)
equal_type_step (DslxType-F.Enum name s w) u = enum_equal name s w (out-DslxType u)
equal_type_step DslxType-F.Token u = token_is (out-DslxType u)

-- the two are one type in all their parts
abbrev pub equal_type : DslxType → DslxType → Bool
equal_type = fold-DslxType (DslxType → Bool) equal_type_step
