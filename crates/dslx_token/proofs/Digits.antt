-- What digits stand for, digit by digit.
use Rattle.std.proofs.Common.{◌≡◌, ◌≢◌, ◌≤◌, ◌<◌, ◌+◌, ◌*◌, ◌^◌, ◌&&◌, Option, Some, None, ℕ, suc, Bool, true, false, List, [], ◌∷◌, drop, length, get_or, refl, ap, sym, ◌∙◌, arith}
use Rattle.std.proofs.Math.Nat.{mul-le-mul_left}
use Rattle.std.proofs.Math.Seq.{drop-cons}
use Rattle.std.proofs.Math.ListN.{drop_of_length-le}
use Rattle.std.proofs.lemmas.Bool.{and_parts, cond-true, false≢true, leb-true}
use Rattle.std.proofs.lemmas.Bool.Decides.{nat_tests}
use Rattle.std.specs.Option.{SomeIff}
use Rattle.std.specs.Prelude.{◌==◌, filter, nat_le, not, unwrap_or}
use Rattle.std.specs.List.{list_all}
use Rattle.std.specs.Char.{digit_value, is_ascii_digit}
use Rattle.std.specs.Str.Parse.{digits_value_after, digits_value}
use Rattle.dslx_token.specs.Lexical.{grouped_value, is_width}

-- no underscore
abbrev pub counts : ℕ → Bool
counts d = not (d == 95)

-- more digits don't make a number smaller
pub value_grows : (radix n : ℕ) (ds : List ℕ) → 1 ≤ radix → n ≤ digits_value_after radix n ds
value_grows radix n [] h = omega arith
value_grows radix n (d ∷ ds) h =
    let more : n * 1 ≤ n * radix = mul-le-mul_left n h in
    omega (arith, more, value_grows radix (n * radix + digit_value d) ds h)

counted : (d : ℕ) → d ≢ 95 → counts d ≡ true
counted d other = grind (arith)

-- a digit more
pub one_more : (radix value i : ℕ) (ds : List ℕ) → i < length ds → get_or ds i 0 ≢ 95 → digits_value_after radix value (filter counts (drop i ds)) ≡ digits_value_after radix (value * radix + digit_value (get_or ds i 0)) (filter counts (drop (suc i) ds))
one_more radix value i ds within other =
    ap (λ t. digits_value_after radix value (filter counts t)) (drop-cons ds i 0 within)
    ∙ ap (digits_value_after radix value) (cond-true (counts (get_or ds i 0)) (get_or ds i 0 ∷ filter counts (drop (suc i) ds)) (filter counts (drop (suc i) ds)) (counted (get_or ds i 0) other))

-- what is read so far is no more than the whole
pub so_far_le : (radix value i whole : ℕ) (ds : List ℕ) → 1 ≤ radix → i < length ds → get_or ds i 0 ≢ 95 → digits_value_after radix value (filter counts (drop i ds)) ≡ whole → value * radix + digit_value (get_or ds i 0) ≤ whole
so_far_le radix value i whole ds h within other e =
    omega (arith, value_grows radix (value * radix + digit_value (get_or ds i 0)) (filter counts (drop (suc i) ds)) h, sym (one_more radix value i ds within other) ∙ e)

-- all of them are read
pub all_read : (radix value i whole : ℕ) (ds : List ℕ) → length ds ≤ i → digits_value_after radix value (filter counts (drop i ds)) ≡ whole → value ≡ whole
all_read radix value i whole ds past e =
    ap (λ t. digits_value_after radix value (filter counts t)) (sym (drop_of_length-le ds past)) ∙ e

-- a decimal digit is no underscore
digit_counts : (d : ℕ) → is_ascii_digit d ≡ true → counts d ≡ true
digit_counts d h = grind (arith)

-- digits alone stand for what they stand for between underscores
pub all_count : (ds : List ℕ) → list_all is_ascii_digit ds ≡ true → filter counts ds ≡ ds
all_count [] h = refl
all_count (d ∷ ds) h =
    let parts = and_parts (is_ascii_digit d) (list_all is_ascii_digit ds) h in
    cond-true (counts d) (d ∷ filter counts ds) (filter counts ds) (digit_counts d parts.0) ∙ ap (λ t. d ∷ t) (all_count ds parts.1)

pub plain_value : (ds : List ℕ) → list_all is_ascii_digit ds ≡ true → grouped_value 10 ds ≡ digits_value 10 ds
plain_value ds h = ap (digits_value 10) (all_count ds h)

-- what a width's digits stand for
pub record IsWidthValue (digits : List ℕ) : Type 0 where
  pub all : list_all is_ascii_digit digits ≡ true
  pub least : 1 ≤ digits_value 10 digits
  pub most : digits_value 10 digits ≤ 128

pub width_value : (digits : List ℕ) → is_width digits ≡ true → IsWidthValue digits
width_value [] h = absurd (false≢true h)
width_value (c ∷ cs) h =
    let parts = and_parts (not (c == 48) && list_all is_ascii_digit (c ∷ cs)) (nat_le 1 (digits_value 10 (c ∷ cs)) && nat_le (digits_value 10 (c ∷ cs)) 128) h in
    let bounds = and_parts (nat_le 1 (digits_value 10 (c ∷ cs))) (nat_le (digits_value 10 (c ∷ cs)) 128) parts.1 in
    record {
      all = (and_parts (not (c == 48)) (list_all is_ascii_digit (c ∷ cs)) parts.0).1;
      least = leb-true 1 (digits_value 10 (c ∷ cs)) bounds.0;
      most = leb-true (digits_value 10 (c ∷ cs)) 128 bounds.1;
    }

pub stated : (digits : List ℕ) (r : Option ℕ) (out : ℕ) → is_width digits ≡ true → SomeIff r (grouped_value 10 digits < 2 ^ 128) (grouped_value 10 digits) → out ≡ unwrap_or r 1 → (out ≡ digits_value 10 digits) × (1 ≤ out) × (out ≤ 128)
stated digits None out width none e =
    let w = width_value digits width in
    absurd (none (omega (arith, w.most, plain_value digits w.all)))
stated digits (Some v) out width some e =
    let w = width_value digits width in
    let same : out ≡ digits_value 10 digits = e ∙ some.1 ∙ plain_value digits w.all in
    (same, omega (arith, same, w.least), omega (arith, same, w.most))

pub small_yes : (value dv : ℕ) → value ≡ dv → 1 ≤ value → nat_le value 128 ≡ (nat_le 1 dv && nat_le dv 128)
small_yes value dv e h = rw (← e) (grind (arith, nat_tests))

pub small_no : (value dv : ℕ) → value ≡ dv → value < 1 → nat_le 1 value ≡ (nat_le 1 dv && nat_le dv 128)
small_no value dv e h = rw (← e) (grind (arith, nat_tests))

pub small_none : (dv : ℕ) → (dv < 2 ^ 128 → ⊥) → false ≡ (nat_le 1 dv && nat_le dv 128)
small_none dv h = let large : 128 < dv = omega (arith, h) in grind (arith, nat_tests)
