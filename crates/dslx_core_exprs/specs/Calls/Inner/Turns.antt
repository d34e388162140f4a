-- How many turns a loop has.
use Rattle.std.specs.Prelude.{ℕ, suc, ℤ, pos, negsuc, ◌+◌, ◌-◌, ◌^◌, nat_lt, Option, Some}
use Rattle.dslx_meaning.specs.Lists.{where_true}
use Rattle.dslx_meaning.specs.Meaning.{turn_count}
use Rattle.dslx_meaning.specs.declared.value.SignedWord.{SignedWord}
use Rattle.dslx_core.specs.Lowering.EqualTypes.{equal_type}
use Rattle.dslx_core.specs.Lowering.Lowering.{LoweredExpr}
use Rattle.dslx_core_exprs.specs.declared.calls.turns.Whole.{Whole}
use Rattle.dslx_core_exprs.specs.declared.calls.turns.Whole.TheVariants.{Natural, Below}

abbrev pub integer_of : Whole → ℤ
integer_of (Natural n) = pos n
integer_of (Below n) = negsuc n

-- a number that is less than 2^64
abbrev pub few : ℕ → Option ℕ
few n = where_true (nat_lt n (2 ^ 64)) (Some n)

-- how far the second is above the first, or 0
abbrev pub turns_between : ℤ → ℤ → ℕ
turns_between (pos a) (pos b) = b - a
turns_between (pos a) (negsuc b) = 0
turns_between (negsuc a) (pos b) = suc (a + b)
turns_between (negsuc a) (negsuc b) = a - b

abbrev pub few_turns : SignedWord → SignedWord → Option ℕ
few_turns a b = few (turn_count a b)

-- the turns of a loop whose body gives its type again
abbrev pub turns_of : LoweredExpr → SignedWord → SignedWord → LoweredExpr → Option ℕ
turns_of start a b body = where_true (equal_type start.ty body.ty) (few_turns a b)
