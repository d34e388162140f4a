-- Widths that words have, and what is made where they have so many bits.
use Rattle.std.proofs.Common.{◌≡◌, ℕ, ◌+◌, ◌-◌, ◌^◌, ◌≤◌, ◌<◌, min, nat_le, Bool, true, false, Option, Some, None, refl, sym, ap, ◌∙◌, arith}
use Rattle.std.proofs.lemmas.Bool.{leb-true, leb-false, le-leb, lt-leb}
use Rattle.dslx_meaning.specs.Lists.{and_then, where_true}
use Rattle.dslx_meaning.specs.Types.{bits_in, unsigned}
use Rattle.dslx_meaning.specs.declared.ty.BitKind.{BitKind}
use Rattle.dslx_meaning.specs.declared.ty.DslxType.{DslxType}
use Rattle.dslx_core.specs.CoreValues.{is_width}
use Rattle.dslx_core.specs.declared.expr.CoreExpr as core
use Rattle.dslx_core.specs.Lowering.Lowering.{LoweredExpr, lowered, lower_part}

-- the width of bits, where words have so many
abbrev pub word_width : DslxType → Option ℕ
word_width t = and_then (bits_in t) (λ kind. where_true (is_width kind.width) (Some kind.width))

abbrev part : LoweredExpr → LoweredExpr → ℕ → Option LoweredExpr
part e i w = lowered (core.Part e.core i.core w) (unsigned w)

part_is : (e i : LoweredExpr) (t : DslxType) → lower_part (Some e) (Some i) (Some t) ≡ and_then (word_width t) (part e i)
part_is e i t = by_kind (bits_in t)
  where
    by_width : (b : Bool) (w : ℕ) → where_true b (part e i w) ≡ and_then (where_true b (Some w)) (part e i)
    by_width true w = refl
    by_width false w = refl

    by_kind : (o : Option BitKind)
        → and_then o (λ kind. where_true (is_width kind.width) (part e i kind.width)) ≡ and_then (and_then o (λ kind. where_true (is_width kind.width) (Some kind.width))) (part e i)
    by_kind None = refl
    by_kind (Some kind) = by_width (is_width kind.width) kind.width

pub part_none : (e i : LoweredExpr) (t : DslxType) → None ≡ word_width t → None ≡ lower_part (Some e) (Some i) (Some t)
part_none e i t h = ap (λ o. and_then o (part e i)) h ∙ sym (part_is e i t)

pub part_some : (e i : LoweredExpr) (t : DslxType) (w : ℕ) → Some w ≡ word_width t → Some (record { core = core.Part e.core i.core w; ty = unsigned w }) ≡ lower_part (Some e) (Some i) (Some t)
part_some e i t w h = ap (λ o. and_then o (part e i)) h ∙ sym (part_is e i t)

within_word : (n : ℕ) → nat_le (min n (2 ^ 128 - 1)) 128 ≡ nat_le n 128
within_word n = by (nat_le n 128) refl
  where
    by : (b : Bool) → nat_le n 128 ≡ b → nat_le (min n (2 ^ 128 - 1)) 128 ≡ b
    by true e = let few : n ≤ 128 = leb-true n 128 e in let fewer : min n (2 ^ 128 - 1) ≤ 128 = omega arith in le-leb (min n (2 ^ 128 - 1)) 128 fewer
    by false e = let more : 128 < n = leb-false n 128 e in let still : 128 < min n (2 ^ 128 - 1) = omega arith in lt-leb (min n (2 ^ 128 - 1)) 128 still

-- a sum that is cut off at the largest number is past 128 still
pub fits_together : (m n sum : ℕ) → sum ≡ min (m + n) (2 ^ 128 - 1) → nat_le sum 128 ≡ nat_le (m + n) 128
fits_together m n sum h = ap (λ k. nat_le k 128) h ∙ within_word (m + n)
