-- What numbers and `OP.ID` say. No number of a text is of 2^128 or more; one would count as 2^128 - 1, and in the same way where
-- numbers are below 2^32.
use Rattle.std.specs.Prelude.{ℕ, ◌^◌, ◌-◌, min, List}
use Rattle.std.specs.Str.Parse.{digits_value}
use Rattle.ir_builder.specs.Token.TokenPrefixes.{value_of_number}
use Rattle.ir_builder.specs.Token.Kinds.{id_part}

abbrev pub number_said : List ℕ → ℕ
number_said bytes = min (value_of_number bytes) (2 ^ 128 - 1)

abbrev pub small_said : List ℕ → ℕ
small_said bytes = min (number_said bytes) (2 ^ 32 - 1)

-- the id of an `OP.ID`
abbrev pub id_said : List ℕ → ℕ
id_said bytes = min (min (digits_value 10 (id_part bytes)) (2 ^ 128 - 1)) (2 ^ 32 - 1)
