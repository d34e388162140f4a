-- The types of expressions: which are equal, how large they are, and what they are without signs and names.
use Rattle.std.specs.Prelude.{ℕ, List, [], ◌∷◌, ◌+◌, ◌*◌, ◌==◌, ◌&&◌, max, map, sum, Bool, true, false, not, Option, Some, None, if◌then◌else◌}
use Rattle.std.specs.Str.{bytes_eq}
use Rattle.xb_value.specs.declared.ty.Ty.{Ty}
use Rattle.xb_value.specs.declared.ty.Ty as plain
use Rattle.dslx_meaning.specs.Lists.{pairwise}
use Rattle.dslx_meaning.specs.declared.ty.DslxType.{DslxType, Bits, Tuple, Token, fold-DslxType, out-DslxType}
use Rattle.dslx_meaning.specs.declared.ty.DslxType.TheOpen.{DslxType-F}
use Rattle.dslx_meaning.specs.declared.ty.BitKind.{BitKind}

abbrev pub same_bool : Bool → Bool → Bool
same_bool true b = b
same_bool false b = not b

-- each test passes its own
abbrev pub each_is : List (DslxType → Bool) → List DslxType → Bool
each_is ps ts = pairwise (λ p t. p t) ps ts

-- ---- equal types: structs and enums by their names, all others by their parts

abbrev pub bits_are : Bool → ℕ → DslxType-F DslxType → Bool
bits_are s w (DslxType-F.Bits s' w') = same_bool s s' && w == w'
bits_are s w _ = false

abbrev pub tuple_is : List (DslxType → Bool) → DslxType-F DslxType → Bool
tuple_is ps (DslxType-F.Tuple ts) = each_is ps ts
tuple_is ps _ = false

abbrev pub array_is : (DslxType → Bool) → ℕ → DslxType-F DslxType → Bool
array_is p n (DslxType-F.Array t n') = p t && n == n'
array_is p n _ = false

abbrev pub struct_is : List ℕ → DslxType-F DslxType → Bool
struct_is name (DslxType-F.Struct name' fields ts) = bytes_eq name name'
struct_is name _ = false

abbrev pub enum_is : List ℕ → DslxType-F DslxType → Bool
enum_is name (DslxType-F.Enum name' s w) = bytes_eq name name'
enum_is name _ = false

abbrev pub token_is : DslxType-F DslxType → Bool
token_is DslxType-F.Token = true
token_is _ = false

abbrev pub same_type_step : DslxType-F (DslxType → Bool) → DslxType → Bool
same_type_step (DslxType-F.Bits s w) u = bits_are s w (out-DslxType u)
same_type_step (DslxType-F.Tuple ps) u = tuple_is ps (out-DslxType u)
same_type_step (DslxType-F.Array p n) u = array_is p n (out-DslxType u)
same_type_step (DslxType-F.Struct name fields ps) u = struct_is name (out-DslxType u)
same_type_step (DslxType-F.Enum name s w) u = enum_is name (out-DslxType u)
same_type_step DslxType-F.Token u = token_is (out-DslxType u)

-- the two are one type
abbrev pub same_type : DslxType → DslxType → Bool
same_type = fold-DslxType (DslxType → Bool) same_type_step

-- ---- what kind of type it is

abbrev pub bits_step : DslxType-F DslxType → Option BitKind
bits_step (DslxType-F.Bits s w) = Some (record { signed = s; width = w })
bits_step _ = None

-- bits, which an enum is not
abbrev pub bits_in : DslxType → Option BitKind
bits_in t = bits_step (out-DslxType t)

abbrev pub bits_or_enum_step : DslxType-F DslxType → Option BitKind
bits_or_enum_step (DslxType-F.Bits s w) = Some (record { signed = s; width = w })
bits_or_enum_step (DslxType-F.Enum name s w) = Some (record { signed = s; width = w })
bits_or_enum_step _ = None

-- bits, or the base of an enum
abbrev pub bits_or_enum : DslxType → Option BitKind
bits_or_enum t = bits_or_enum_step (out-DslxType t)

abbrev pub bit_type : BitKind → DslxType
bit_type k = Bits k.signed k.width

abbrev pub unsigned : ℕ → DslxType
unsigned w = Bits false w

-- the type of conditions
abbrev pub bool_type : DslxType
bool_type = Bits false 1

-- the type of blocks that end in a statement
abbrev pub unit_type : DslxType
unit_type = Tuple []

abbrev pub is_unit_step : DslxType-F DslxType → Bool
is_unit_step (DslxType-F.Tuple []) = true
is_unit_step _ = false

abbrev pub is_unit : DslxType → Bool
is_unit t = is_unit_step (out-DslxType t)

abbrev pub is_token_type : DslxType → Bool
is_token_type t = token_is (out-DslxType t)

-- what a receive gives: a token and a word
abbrev pub received : DslxType → DslxType
received t = Tuple (Token ∷ t ∷ [])

abbrev pub holds_token_step : DslxType-F DslxType → Bool
holds_token_step DslxType-F.Token = true
holds_token_step (DslxType-F.Tuple (t ∷ ts)) = is_token_type t
holds_token_step _ = false

-- a token, or a receive's pair
abbrev pub holds_token : DslxType → Bool
holds_token t = holds_token_step (out-DslxType t)

-- ---- how large it is

abbrev pub leaves_in : DslxType-F ℕ → ℕ
leaves_in (DslxType-F.Bits s w) = 1
leaves_in (DslxType-F.Tuple ns) = sum ns
leaves_in (DslxType-F.Array n k) = k * n
leaves_in (DslxType-F.Struct name fields ns) = sum ns
leaves_in (DslxType-F.Enum name s w) = 1
leaves_in DslxType-F.Token = 0

-- how many leaves it has, arrays multiplied out
abbrev pub leaves_of : DslxType → ℕ
leaves_of = fold-DslxType ℕ leaves_in

abbrev pub most_of : List ℕ → ℕ
most_of [] = 0
most_of (n ∷ ns) = max n (most_of ns)

abbrev pub widest_in : DslxType-F ℕ → ℕ
widest_in (DslxType-F.Bits s w) = w
widest_in (DslxType-F.Tuple ns) = most_of ns
widest_in (DslxType-F.Array n k) = n
widest_in (DslxType-F.Struct name fields ns) = most_of ns
widest_in (DslxType-F.Enum name s w) = w
widest_in DslxType-F.Token = 0

-- how wide its widest leaf is
abbrev pub widest_leaf : DslxType → ℕ
widest_leaf = fold-DslxType ℕ widest_in

abbrev pub flat_bits_in : DslxType-F ℕ → ℕ
flat_bits_in (DslxType-F.Bits s w) = w
flat_bits_in (DslxType-F.Tuple ns) = sum ns
flat_bits_in (DslxType-F.Array n k) = k * n
flat_bits_in (DslxType-F.Struct name fields ns) = sum ns
flat_bits_in (DslxType-F.Enum name s w) = w
flat_bits_in DslxType-F.Token = 0

-- how many bits its flat words have
abbrev pub flat_bits : DslxType → ℕ
flat_bits = fold-DslxType ℕ flat_bits_in

-- its levels, and whether it is a token
pub record TypeDepth : Type 0 where
  pub levels : ℕ
  pub is_token : Bool

abbrev pub levels_among : List TypeDepth → List ℕ
levels_among hs = map (λ (h : TypeDepth). h.levels) hs

abbrev pub high : ℕ → TypeDepth
high n = record { levels = n; is_token = false }

-- a receive's pair adds no level
abbrev pub tuple_type_depth : List TypeDepth → TypeDepth
tuple_type_depth [] = high 1
tuple_type_depth (h ∷ hs) = high (if h.is_token then most_of (levels_among hs) else (1 + most_of (h.levels ∷ levels_among hs)))

abbrev pub type_depth_in : DslxType-F TypeDepth → TypeDepth
type_depth_in (DslxType-F.Bits s w) = high 0
type_depth_in (DslxType-F.Tuple hs) = tuple_type_depth hs
type_depth_in (DslxType-F.Array h k) = high (1 + h.levels)
type_depth_in (DslxType-F.Struct name fields hs) = high (1 + most_of (levels_among hs))
type_depth_in (DslxType-F.Enum name s w) = high 0
type_depth_in DslxType-F.Token = record { levels = 0; is_token = true }

-- how many tuples, structs and arrays stand one in another
abbrev pub levels_of : DslxType → ℕ
levels_of t = (fold-DslxType TypeDepth type_depth_in t).levels

-- ---- without signs and names

abbrev pub plain_step : DslxType-F Ty → Ty
plain_step (DslxType-F.Bits s w) = plain.Bits w
plain_step (DslxType-F.Tuple ts) = plain.Tuple ts
plain_step (DslxType-F.Array t n) = plain.Array t n
plain_step (DslxType-F.Struct name fields ts) = plain.Tuple ts
plain_step (DslxType-F.Enum name s w) = plain.Bits w
plain_step DslxType-F.Token = plain.Tuple []

-- a struct is a tuple and an enum bits
abbrev pub plain_type : DslxType → Ty
plain_type = fold-DslxType Ty plain_step
