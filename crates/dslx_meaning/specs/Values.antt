-- The values of expressions: their types, which are equal, and what they are without signs and names.
use Rattle.std.specs.Prelude.{ℕ, suc, List, [], ◌∷◌, ◌==◌, ◌&&◌, map, Bool, true, false, Option, Some, None, length, if◌then◌else◌}
use Rattle.std.specs.Str.{bytes_eq}
use Rattle.xb_bits.specs.Word.{Word, word}
use Rattle.xb_value.specs.declared.value.Value.{Value, out-Value}
use Rattle.xb_value.specs.declared.value.Value as plain
use Rattle.xb_value.specs.declared.value.Value.TheOpen.{Value-F}
use Rattle.xb_value.specs.Flat.{flat_of}
use Rattle.xb_value.specs.Unflat.{unflat_of}
use Rattle.dslx_meaning.specs.Lists.{pairwise, apply_each}
use Rattle.dslx_meaning.specs.Types.{same_bool, plain_type}
use Rattle.dslx_meaning.specs.declared.ty.DslxType.{DslxType, fold-DslxType}
use Rattle.dslx_meaning.specs.declared.ty.DslxType as ty
use Rattle.dslx_meaning.specs.declared.ty.DslxType.TheOpen.{DslxType-F}
use Rattle.dslx_meaning.specs.declared.value.DslxValue.{DslxValue, Bits, Tuple, Array, Struct, Enum, Token, fold-DslxValue, out-DslxValue}
use Rattle.dslx_meaning.specs.declared.value.DslxValue.TheOpen.{DslxValue-F}
use Rattle.dslx_meaning.specs.declared.value.SignedWord.{SignedWord}

-- ---- the type of a value

abbrev pub array_type : List DslxType → DslxType
array_type [] = ty.Tuple []
array_type (t ∷ ts) = ty.Array t (suc (length ts))

abbrev pub type_step : DslxValue-F DslxType → DslxType
type_step (DslxValue-F.Bits s w) = ty.Bits s w.width
type_step (DslxValue-F.Tuple ts) = ty.Tuple ts
type_step (DslxValue-F.Array ts) = array_type ts
type_step (DslxValue-F.Struct name fields ts) = ty.Struct name fields ts
type_step (DslxValue-F.Enum name s w) = ty.Enum name s w.width
type_step DslxValue-F.Token = ty.Token

-- the one type that a value has
abbrev pub type_of_value : DslxValue → DslxType
type_of_value = fold-DslxValue DslxType type_step

-- ---- equal values

abbrev pub same_word : Word → Word → Bool
same_word a b = a.width == b.width && a.value == b.value

abbrev pub bits_same : Bool → Word → DslxValue-F DslxValue → Bool
bits_same s w (DslxValue-F.Bits s' w') = same_bool s s' && same_word w w'
bits_same s w _ = false

abbrev pub tuple_same : List (DslxValue → Bool) → DslxValue-F DslxValue → Bool
tuple_same ps (DslxValue-F.Tuple vs) = pairwise (λ p v. p v) ps vs
tuple_same ps _ = false

abbrev pub array_same : List (DslxValue → Bool) → DslxValue-F DslxValue → Bool
array_same ps (DslxValue-F.Array vs) = pairwise (λ p v. p v) ps vs
array_same ps _ = false

abbrev pub struct_same : List ℕ → List (DslxValue → Bool) → DslxValue-F DslxValue → Bool
struct_same name ps (DslxValue-F.Struct name' fields vs) = bytes_eq name name' && pairwise (λ p v. p v) ps vs
struct_same name ps _ = false

abbrev pub enum_same : List ℕ → Word → DslxValue-F DslxValue → Bool
enum_same name w (DslxValue-F.Enum name' s' w') = bytes_eq name name' && same_word w w'
enum_same name w _ = false

abbrev pub token_same : DslxValue-F DslxValue → Bool
token_same DslxValue-F.Token = true
token_same _ = false

abbrev pub same_value_step : DslxValue-F (DslxValue → Bool) → DslxValue → Bool
same_value_step (DslxValue-F.Bits s w) u = bits_same s w (out-DslxValue u)
same_value_step (DslxValue-F.Tuple ps) u = tuple_same ps (out-DslxValue u)
same_value_step (DslxValue-F.Array ps) u = array_same ps (out-DslxValue u)
same_value_step (DslxValue-F.Struct name fields ps) u = struct_same name ps (out-DslxValue u)
same_value_step (DslxValue-F.Enum name s w) u = enum_same name w (out-DslxValue u)
same_value_step DslxValue-F.Token u = token_same (out-DslxValue u)

-- the two are one value
abbrev pub same_value : DslxValue → DslxValue → Bool
same_value = fold-DslxValue (DslxValue → Bool) same_value_step

-- ---- the parts of a value

abbrev pub signed_step : DslxValue-F DslxValue → Option SignedWord
signed_step (DslxValue-F.Bits s w) = Some (record { signed = s; word = w })
signed_step _ = None

-- the bits that a value is
abbrev pub bits_of : DslxValue → Option SignedWord
bits_of v = signed_step (out-DslxValue v)

abbrev pub based_step : DslxValue-F DslxValue → Option SignedWord
based_step (DslxValue-F.Bits s w) = Some (record { signed = s; word = w })
based_step (DslxValue-F.Enum name s w) = Some (record { signed = s; word = w })
based_step _ = None

-- the bits that a value is, or those of an enum's value
abbrev pub based_bits : DslxValue → Option SignedWord
based_bits v = based_step (out-DslxValue v)

abbrev pub amount_in : Option SignedWord → Option Word
amount_in None = None
amount_in (Some b) = if b.signed then None else Some b.word

-- the unsigned word that a value is
abbrev pub unsigned_of : DslxValue → Option Word
unsigned_of v = amount_in (bits_of v)

abbrev pub tuple_step : DslxValue-F DslxValue → Option (List DslxValue)
tuple_step (DslxValue-F.Tuple vs) = Some vs
tuple_step _ = None

abbrev pub elements_of : DslxValue → Option (List DslxValue)
elements_of v = tuple_step (out-DslxValue v)

abbrev pub array_step : DslxValue-F DslxValue → Option (List DslxValue)
array_step (DslxValue-F.Array vs) = Some vs
array_step _ = None

abbrev pub items_of : DslxValue → Option (List DslxValue)
items_of v = array_step (out-DslxValue v)

-- a struct's name, and the names and values of its fields
pub record Fields : Type 0 where
  pub name : List ℕ
  pub names : List (List ℕ)
  pub values : List DslxValue

abbrev pub fields_step : DslxValue-F DslxValue → Option Fields
fields_step (DslxValue-F.Struct name fields vs) = Some (record { name = name; names = fields; values = vs })
fields_step _ = None

abbrev pub fields_of : DslxValue → Option Fields
fields_of v = fields_step (out-DslxValue v)

-- ---- without signs and names, and back

abbrev pub forget_step : DslxValue-F Value → Value
forget_step (DslxValue-F.Bits s w) = plain.Bits w
forget_step (DslxValue-F.Tuple vs) = plain.Tuple vs
forget_step (DslxValue-F.Array vs) = plain.Array vs
forget_step (DslxValue-F.Struct name fields vs) = plain.Tuple vs
forget_step (DslxValue-F.Enum name s w) = plain.Bits w
forget_step DslxValue-F.Token = plain.Tuple []

-- a struct is a tuple and an enum bits
abbrev pub plain_value : DslxValue → Value
plain_value = fold-DslxValue Value forget_step

abbrev pub word_in_step : Value-F Value → Word
word_in_step (Value-F.Bits w) = w
word_in_step _ = word 0 0

abbrev pub parts_in_step : Value-F Value → List Value
parts_in_step (Value-F.Bits w) = []
parts_in_step (Value-F.Tuple vs) = vs
parts_in_step (Value-F.Array vs) = vs

abbrev pub plain_word : Value → Word
plain_word v = word_in_step (out-Value v)

abbrev pub plain_parts : Value → List Value
plain_parts v = parts_in_step (out-Value v)

abbrev pub at_type_step : DslxType-F (Value → DslxValue) → Value → DslxValue
at_type_step (DslxType-F.Bits s w) v = Bits s (plain_word v)
at_type_step (DslxType-F.Tuple fs) v = Tuple (apply_each fs (plain_parts v))
at_type_step (DslxType-F.Array f n) v = Array (map f (plain_parts v))
at_type_step (DslxType-F.Struct name fields fs) v = Struct name fields (apply_each fs (plain_parts v))
at_type_step (DslxType-F.Enum name s w) v = Enum name s (plain_word v)
at_type_step DslxType-F.Token v = Token

-- the value of a type that a plain value is
abbrev pub at_type : DslxType → Value → DslxValue
at_type = fold-DslxType (Value → DslxValue) at_type_step

-- the word that travels through a channel
abbrev pub flat_word : DslxValue → Word
flat_word v = flat_of (plain_value v)

-- the value of a type that a word holds
abbrev pub from_word : DslxType → Word → DslxValue
from_word t w = at_type t (unflat_of (plain_type t) w.value)

-- ---- values of their own

abbrev pub bool_value : Bool → DslxValue
bool_value true = Bits false (word 1 1)
bool_value false = Bits false (word 1 0)

abbrev pub unit_value : DslxValue
unit_value = Tuple []
