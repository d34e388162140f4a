-- The numbers of the rules, by name: what each asks. docs/LANGUAGE.md says what breaks it, and at which span.
use Rattle.std.specs.Prelude.{ℕ}

-- a name is declared where it is used, as what it is used for
abbrev pub NAME_IS_DECLARED : ℕ
NAME_IS_DECLARED = 1

-- a name stands once in its list
abbrev pub NAME_STANDS_ONCE : ℕ
NAME_STANDS_ONCE = 2

-- no item is used in the text of an item that it reaches
abbrev pub NO_ITEM_REACHES_ITSELF : ℕ
NO_ITEM_REACHES_ITSELF = 3

-- a width, a size, a depth is unsigned and above 0
abbrev pub COUNT_IS_POSITIVE : ℕ
COUNT_IS_POSITIVE = 4

-- what has to be constant names nothing that is bound around it
abbrev pub CONSTANT_HAS_NO_LOCALS : ℕ
CONSTANT_HAS_NO_LOCALS = 5

-- a number lies in its type
abbrev pub NUMBER_FITS_TYPE : ℕ
NUMBER_FITS_TYPE = 6

-- a number has a type
abbrev pub NUMBER_HAS_TYPE : ℕ
NUMBER_HAS_TYPE = 7

-- a pattern has the type of its value, and fails nowhere but in a `match`
abbrev pub PATTERN_FITS_TYPE : ℕ
PATTERN_FITS_TYPE = 8

-- a value has the type that is written or wanted
abbrev pub VALUE_HAS_ITS_TYPE : ℕ
VALUE_HAS_ITS_TYPE = 9

-- a call or a spawn has as many arguments as are declared, and each parametric one value of its type
abbrev pub ARGUMENTS_FIT : ℕ
ARGUMENTS_FIT = 10

-- the operand of `-` and `!` is bits
abbrev pub PREFIX_OPERAND_IS_BITS : ℕ
PREFIX_OPERAND_IS_BITS = 11

-- both operands of `+ - * & | ^` have one bit type
abbrev pub OPERANDS_OF_ONE_TYPE : ℕ
OPERANDS_OF_ONE_TYPE = 12

-- those of `/ %` have one unsigned type
abbrev pub DIVISION_OF_ONE_UNSIGNED_TYPE : ℕ
DIVISION_OF_ONE_UNSIGNED_TYPE = 13

-- those of a comparison have one bit type, of `== !=` also one enum
abbrev pub COMPARISON_OF_ONE_TYPE : ℕ
COMPARISON_OF_ONE_TYPE = 14

-- a condition, and an operand of `&& ||`, is `bool`
abbrev pub CONDITION_IS_BOOL : ℕ
CONDITION_IS_BOOL = 15

-- bits are shifted, by an unsigned amount
abbrev pub SHIFT_BY_UNSIGNED : ℕ
SHIFT_BY_UNSIGNED = 16

-- what is joined by `++` is unsigned
abbrev pub CONCAT_OF_UNSIGNED : ℕ
CONCAT_OF_UNSIGNED = 17

-- bits are sliced, between bounds that lie in them
abbrev pub SLICE_OF_BITS : ℕ
SLICE_OF_BITS = 18

-- an index is unsigned and of an array, and a part is one that its value has
abbrev pub PART_IS_THERE : ℕ
PART_IS_THERE = 19

-- `as` is from bits or an enum to bits
abbrev pub CAST_TO_BITS : ℕ
CAST_TO_BITS = 20

-- an array literal has as many elements as its type
abbrev pub ARRAY_ELEMENT_COUNT : ℕ
ARRAY_ELEMENT_COUNT = 21

-- a struct value has each field, once
abbrev pub STRUCT_FIELDS : ℕ
STRUCT_FIELDS = 22

-- an enum has bits and members, each of another value
abbrev pub ENUM_MEMBERS : ℕ
ENUM_MEMBERS = 23

-- the arms of a `match` have one type, and match each value
abbrev pub MATCH_IS_EXHAUSTIVE : ℕ
MATCH_IS_EXHAUSTIVE = 24

-- the parts of an `if` have one type
abbrev pub BRANCHES_OF_ONE_TYPE : ℕ
BRANCHES_OF_ONE_TYPE = 25

-- the ends of a range have one bit type
abbrev pub RANGE_OF_ONE_TYPE : ℕ
RANGE_OF_ONE_TYPE = 26

-- an operand of a builtin is of its kind
abbrev pub BUILTIN_OPERANDS : ℕ
BUILTIN_OPERANDS = 27

-- an effect, and a token, stands where one may
abbrev pub EFFECT_STANDS_ALONE : ℕ
EFFECT_STANDS_ALONE = 28

-- an effect's channel is a member of its direction, without a site so far
abbrev pub EFFECT_ON_FREE_MEMBER : ℕ
EFFECT_ON_FREE_MEMBER = 29

-- each end of a `config` is used once, and its tuple has the members
abbrev pub CONFIG_USES_EACH_END : ℕ
CONFIG_USES_EACH_END = 30

-- `()` is no part of a type, and a struct has a field
abbrev pub NO_UNIT_INSIDE : ℕ
NO_UNIT_INSIDE = 31

-- the top is a proc of the text, and its parametrics have defaults
abbrev pub TOP_IS_A_PROC : ℕ
TOP_IS_A_PROC = 32
