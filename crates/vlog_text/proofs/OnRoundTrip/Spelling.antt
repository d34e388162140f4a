-- Names, numbers and literals as they are spelled: their kinds, their values, and how far they go.
use Rattle.std.proofs.Common.{◌≡◌, ◌+◌, ◌<◌, ◌≤◌, ◌^◌, ◌==◌, ◌&&◌, ◌∙◌, ℕ, zero, suc, Bool, true, false, List, [], ◌∷◌, ◌++◌, drop, take, length, Some, None, refl, sym, ap, ap₂, subst, append_assoc, append-nil, nat_lt, arith}
use Rattle.std.specs.Prelude.{decimal, max, min, nat_le, not, slice_index, if◌then◌else◌}
use Rattle.std.specs.Char.{digit_value, is_ascii_digit}
use Rattle.std.specs.List.{list_all, prefix_len}
use Rattle.std.specs.Str.{IsAscii, is_utf8}
use Rattle.std.specs.Str.Parse.{AllDigits, digits_value}
use Rattle.std.proofs.lemmas.Bool.Decides.{nat_tests}
use Rattle.std.proofs.lemmas.Fmt.{decimal_is_IsNumeral_wide}
use Rattle.std.proofs.lemmas.Str.{IsUtf8-from_ascii, is_utf8-from_IsUtf8}
use Rattle.std.proofs.Math.Pow.{pow_mono}
use Rattle.std.proofs.Props.{props}
use mathlib.Core.HLevel.{is_prop→PathP}
use Rattle.base.specs.Texts.Words.{begins_word, is_word, is_word_byte}
use Rattle.vlog_text.specs.declared.token.rules.generated.kind.TheConstants.{LITERAL, NUMBER, ZERO}
use Rattle.vlog_tree.specs.declared.expression.Literal.{Literal}
use Rattle.vlog_text.specs.Token.TokenPrefixes.{begins_literal, begins_value, digit_run, prefix_digits, token_prefix_len, is_in_range, number_len, value_digits, value_said, width_said, word_run}
use Rattle.vlog_text.specs.Token.Kinds.{digits_kind, verilog_kind}
use Rattle.vlog_text.specs.Builder.Building.{is_number}
use Rattle.vlog_text.specs.Builder.Parts.{literal_of, most, name_text}
use Rattle.vlog_text.specs.Printer.Parts.{literal_text}
use Rattle.vlog_text.proofs.OnRoundTrip.Words.{said_number}

-- ---- choices

pub if_true : {A : Type 0} (b : Bool) (x y : A) → b ≡ true → (if b then x else y) ≡ x
if_true true x y e = refl
if_true false x y e = absurd (cc)

pub if_false : {A : Type 0} (b : Bool) (x y : A) → b ≡ false → (if b then x else y) ≡ y
if_false true x y e = absurd (cc)
if_false false x y e = refl

pub and_first : (a b : Bool) → (a && b) ≡ true → a ≡ true
and_first true b h = refl
and_first false b h = absurd (cc)

pub and_second : (a b : Bool) → (a && b) ≡ true → b ≡ true
and_second true b h = h
and_second false b h = absurd (cc)

not_true : (b : Bool) → not b ≡ true → b ≡ false
not_true true h = absurd (cc)
not_true false h = refl

-- ---- lists

pub take_prefix : {A : Type 0} (xs ys : List A) → take (length xs) (xs ++ ys) ≡ xs
take_prefix [] ys = refl
take_prefix (x ∷ xs) ys = ap (λ r. x ∷ r) (take_prefix xs ys)

pub drop_prefix : {A : Type 0} (xs ys : List A) → drop (length xs) (xs ++ ys) ≡ ys
drop_prefix [] ys = refl
drop_prefix (x ∷ xs) ys = drop_prefix xs ys

-- how far a run goes, where what stands behind it doesn't go on
run_stops : (p : ℕ → Bool) (rest : List ℕ) → p (slice_index rest 0) ≡ false → prefix_len p rest ≡ 0
run_stops p [] h = refl
run_stops p (c ∷ cs) h = if_false (p c) (1 + prefix_len p cs) 0 h

pub run_over : (p : ℕ → Bool) (xs rest : List ℕ) → list_all p xs ≡ true → p (slice_index rest 0) ≡ false → prefix_len p (xs ++ rest) ≡ length xs
run_over p [] rest all h = run_stops p rest h
run_over p (x ∷ xs) rest all h =
    let more = run_over p xs rest (and_second (p x) (list_all p xs) all) h in
    if_true (p x) (1 + prefix_len p (xs ++ rest)) 0 (and_first (p x) (list_all p xs) all) ∙ next (prefix_len p (xs ++ rest)) (length xs) more
  where
    next : (a b : ℕ) → a ≡ b → 1 + a ≡ suc b
    next a b e = omega (arith, e)

-- ---- what ends a word or a number

-- no letter, digit, `_` or `'`
abbrev pub ends_here : ℕ → Bool
ends_here c = not (is_word_byte c) && not (c == 39)

abbrev pub stops : List ℕ → Bool
stops rest = ends_here (slice_index rest 0)

no_word : (c : ℕ) → ends_here c ≡ true → is_word_byte c ≡ false
no_word c h = not_true (is_word_byte c) (and_first (not (is_word_byte c)) (not (c == 39)) h)

no_quote : (c : ℕ) → ends_here c ≡ true → (c == 39) ≡ false
no_quote c h = not_true (c == 39) (and_second (not (is_word_byte c)) (not (c == 39)) h)

no_word_no_digit : (c : ℕ) → is_word_byte c ≡ false → is_ascii_digit c ≡ false
no_word_no_digit c h = grind (arith, nat_tests)

no_digit : (c : ℕ) → ends_here c ≡ true → is_ascii_digit c ≡ false
no_digit c h = no_word_no_digit c (no_word c h)

-- ---- digits

digit_of : (c : ℕ) → digit_value c < 10 → is_ascii_digit c ≡ true
digit_of c h = grind (arith, nat_tests)

digit_begins_no_word : (c : ℕ) → is_ascii_digit c ≡ true → begins_word c ≡ false
digit_begins_no_word c h = grind (arith, nat_tests)

pub record AreDigits (ds : List ℕ) : Type 0 where
  pub some : 0 < length ds
  pub all : list_all is_ascii_digit ds ≡ true

all_digits : (ds : List ℕ) → AllDigits 10 ds → list_all is_ascii_digit ds ≡ true
all_digits [] h = refl
all_digits (c ∷ cs) h = ap₂ (λ a b. a && b) (digit_of c h.0) (all_digits cs h.1)

pub decimal_digits : (n : ℕ) → n < 10 ^ 64 → AreDigits (decimal n)
decimal_digits n h = let numeral = (decimal_is_IsNumeral_wide n h).0 in record { some = numeral.0; all = all_digits (decimal n) numeral.1 }

decimal_value : (n : ℕ) → n < 10 ^ 64 → digits_value 10 (decimal n) ≡ n
decimal_value n h = (decimal_is_IsNumeral_wide n h).1

run_of : (ds rest : List ℕ) → AreDigits ds → is_ascii_digit (slice_index rest 0) ≡ false → digit_run (ds ++ rest) ≡ length ds
run_of ds rest d h = run_over is_ascii_digit ds rest d.all h

prefix_of : (ds rest : List ℕ) → AreDigits ds → is_ascii_digit (slice_index rest 0) ≡ false → prefix_digits (ds ++ rest) ≡ ds
prefix_of ds rest d h = ap (λ n. take n (ds ++ rest)) (run_of ds rest d h) ∙ take_prefix ds rest

behind_of : (ds rest : List ℕ) → AreDigits ds → is_ascii_digit (slice_index rest 0) ≡ false → drop (digit_run (ds ++ rest)) (ds ++ rest) ≡ rest
behind_of ds rest d h = ap (λ n. drop n (ds ++ rest)) (run_of ds rest d h) ∙ drop_prefix ds rest

no_value : (rest : List ℕ) → (slice_index rest 0 == 39) ≡ false → begins_value rest ≡ false
no_value rest h = ap (λ b. b && ((slice_index rest 1 == 100) && is_ascii_digit (slice_index rest 2))) h

no_literal : (ds rest : List ℕ) → AreDigits ds → is_ascii_digit (slice_index rest 0) ≡ false → (slice_index rest 0 == 39) ≡ false → begins_literal (ds ++ rest) ≡ false
no_literal ds rest d h q = ap begins_value (behind_of ds rest d h) ∙ no_value rest q

-- ---- numbers

kind_of_digits : (ds : List ℕ) → AreDigits ds → verilog_kind ds ≡ digits_kind ds
kind_of_digits [] d = absurd (omega (arith, d.some))
kind_of_digits (c ∷ cs) d =
    let digit = and_first (is_ascii_digit c) (list_all is_ascii_digit cs) d.all in
    if_false (begins_word c) _ _ (digit_begins_no_word c digit) ∙ if_true (is_ascii_digit c) _ _ digit

either_number : (b : Bool) → is_number (if b then ZERO else NUMBER) ≡ true
either_number true = refl
either_number false = refl

digits_are_number : (ds : List ℕ) → AreDigits ds → is_number (verilog_kind ds) ≡ true
unfolding digits_kind
digits_are_number ds d =
    let none : begins_literal ds ≡ false = subst (λ t. begins_literal t ≡ false) (append-nil ds) (no_literal ds [] d refl refl) in
    ap is_number (kind_of_digits ds d ∙ if_false (begins_literal ds) LITERAL (if width_said ds == 0 then ZERO else NUMBER) none) ∙ either_number (width_said ds == 0)

pub number-is_number : (n : ℕ) → n ≤ 128 → is_number (verilog_kind (decimal n)) ≡ true
number-is_number n h = digits_are_number (decimal n) (decimal_digits n (omega (arith, h)))

pub number-said : (n : ℕ) → n ≤ 128 → said_number n ≡ n
number-said n h =
    let big : n < 10 ^ 64 = omega (arith, h) in
    let front : prefix_digits (decimal n) ≡ decimal n = subst (λ t. prefix_digits t ≡ decimal n) (append-nil (decimal n)) (prefix_of (decimal n) [] (decimal_digits n big) refl) in
    let value : width_said (decimal n) ≡ n = ap (digits_value 10) front ∙ decimal_value n big in
    omega (arith, value, h)

len_of_digits : (c : ℕ) (cs : List ℕ) → is_ascii_digit c ≡ true → token_prefix_len (c ∷ cs) ≡ number_len (c ∷ cs)
unfolding token_prefix_len
len_of_digits c cs digit = if_false (begins_word c) _ _ (digit_begins_no_word c digit) ∙ if_true (is_ascii_digit c) _ _ digit

short_len : (text : List ℕ) (k : ℕ) → begins_literal text ≡ false → digit_run text ≡ k → number_len text ≡ Some k
unfolding number_len
short_len text k none run = if_false (begins_literal text) _ (Some (digit_run text)) none ∙ ap Some run

digits_len : (ds rest : List ℕ) → AreDigits ds → is_ascii_digit (slice_index rest 0) ≡ false → (slice_index rest 0 == 39) ≡ false → token_prefix_len (ds ++ rest) ≡ Some (length ds)
digits_len [] rest d h q = absurd (omega (arith, d.some))
digits_len (c ∷ cs) rest d h q =
    len_of_digits c (cs ++ rest) (and_first (is_ascii_digit c) (list_all is_ascii_digit cs) d.all)
    ∙ short_len ((c ∷ cs) ++ rest) (length (c ∷ cs)) (no_literal (c ∷ cs) rest d h q) (run_of (c ∷ cs) rest d h)

pub number-len : (n : ℕ) (rest : List ℕ) → n ≤ 128 → stops rest ≡ true → token_prefix_len (decimal n ++ rest) ≡ Some (length (decimal n))
number-len n rest h e = digits_len (decimal n) rest (decimal_digits n (omega (arith, h))) (no_digit (slice_index rest 0) e) (no_quote (slice_index rest 0) e)

-- ---- literals

-- a literal, and what stands behind it
pub record IsSpelled (ds vs rest text : List ℕ) : Type 0 where
  pub widths : AreDigits ds
  pub values : AreDigits vs
  pub is : text ≡ ds ++ (39 ∷ 100 ∷ (vs ++ rest))
  pub ends : is_ascii_digit (slice_index rest 0) ≡ false

module _ (ds vs rest text : List ℕ) (s : IsSpelled ds vs rest text) where
  quoted : List ℕ
  quoted = 39 ∷ 100 ∷ (vs ++ rest)

  run_is : digit_run text ≡ length ds
  unfolding quoted
  run_is = ap digit_run s.is ∙ run_of ds quoted s.widths refl

  prefix_is : prefix_digits text ≡ ds
  unfolding quoted
  prefix_is = ap prefix_digits s.is ∙ prefix_of ds quoted s.widths refl

  first_digit : (xs : List ℕ) → AreDigits xs → is_ascii_digit (slice_index (39 ∷ 100 ∷ (xs ++ rest)) 2) ≡ true
  first_digit [] d = absurd (omega (arith, d.some))
  first_digit (x ∷ xs) d = and_first (is_ascii_digit x) (list_all is_ascii_digit xs) d.all

  begins : begins_literal text ≡ true
  unfolding quoted
  begins = ap begins_literal s.is ∙ ap begins_value (behind_of ds quoted s.widths refl) ∙ first_digit vs s.values

  past : (xs : List ℕ) → drop (length xs + 2) (xs ++ quoted) ≡ vs ++ rest
  unfolding quoted
  past [] = refl
  past (x ∷ xs) = ap (λ n. drop n (x ∷ (xs ++ quoted))) (shift (length xs)) ∙ past xs
    where
      shift : (n : ℕ) → suc n + 2 ≡ suc (n + 2)
      shift n = omega arith

  behind_is : drop (digit_run text + 2) text ≡ vs ++ rest
  unfolding quoted
  behind_is = ap₂ (λ n t. drop (n + 2) t) run_is s.is ∙ past ds

  value_prefix : value_digits text ≡ vs
  value_prefix = ap prefix_digits behind_is ∙ prefix_of vs rest s.values s.ends

  value_run : digit_run (drop (digit_run text + 2) text) ≡ length vs
  value_run = ap digit_run behind_is ∙ run_of vs rest s.values s.ends

literal_value_small : (l : Literal) → l.width ≤ 128 → l.value < 10 ^ 64
literal_value_small l h =
    let fits : l.value < 2 ^ l.width = l.in_range h in
    let wide : 2 ^ l.width ≤ 2 ^ 128 = pow_mono {i = l.width} {j = 128} h in
    omega (arith, fits, wide)

spelled : (l : Literal) (rest : List ℕ) → l.width ≤ 128 → is_ascii_digit (slice_index rest 0) ≡ false → IsSpelled (decimal l.width) (decimal l.value) rest (literal_text l ++ rest)
unfolding literal_text
spelled l rest h e =
    record {
      widths = decimal_digits l.width (omega (arith, h));
      values = decimal_digits l.value (literal_value_small l h);
      is = append_assoc (decimal l.width) (39 ∷ 100 ∷ decimal l.value) rest;
      ends = e;
    }

alone : (l : Literal) → l.width ≤ 128 → IsSpelled (decimal l.width) (decimal l.value) [] (literal_text l)
alone l h = subst (IsSpelled (decimal l.width) (decimal l.value) []) (append-nil (literal_text l)) (spelled l [] h refl)

literal_digits : (l : Literal) → l.width ≤ 128 → verilog_kind (literal_text l) ≡ digits_kind (literal_text l)
literal_digits l h = by_prefix (literal_text l) (decimal l.width) (39 ∷ 100 ∷ (decimal l.value ++ [])) (alone l h).widths (alone l h).is
  where
    by_prefix : (text ds behind : List ℕ) → AreDigits ds → text ≡ ds ++ behind → verilog_kind text ≡ digits_kind text
    by_prefix text [] behind d e = absurd (omega (arith, d.some))
    by_prefix text (c ∷ cs) behind d e =
        let digit = and_first (is_ascii_digit c) (list_all is_ascii_digit cs) d.all in
        subst (λ t. verilog_kind t ≡ digits_kind t) (sym e) (if_false (begins_word c) _ _ (digit_begins_no_word c digit) ∙ if_true (is_ascii_digit c) _ _ digit)

pub literal-is_literal : (l : Literal) → l.width ≤ 128 → verilog_kind (literal_text l) ≡ LITERAL
unfolding digits_kind
literal-is_literal l h = literal_digits l h ∙ if_true (begins_literal (literal_text l)) LITERAL _ (begins (decimal l.width) (decimal l.value) [] (literal_text l) (alone l h))

said_width : (l : Literal) (rest : List ℕ) → l.width ≤ 128 → is_ascii_digit (slice_index rest 0) ≡ false → width_said (literal_text l ++ rest) ≡ l.width
said_width l rest h e = ap (digits_value 10) (prefix_is (decimal l.width) (decimal l.value) rest (literal_text l ++ rest) (spelled l rest h e)) ∙ decimal_value l.width (omega (arith, h))

said_value : (l : Literal) (rest : List ℕ) → l.width ≤ 128 → is_ascii_digit (slice_index rest 0) ≡ false → value_said (literal_text l ++ rest) ≡ l.value
said_value l rest h e = ap (digits_value 10) (value_prefix (decimal l.width) (decimal l.value) rest (literal_text l ++ rest) (spelled l rest h e)) ∙ decimal_value l.value (literal_value_small l h)

same_literal : (a b : Literal) → a.width ≡ b.width → a.value ≡ b.value → a ≡ b
same_literal a b w v = λ i. record {
  width = w i;
  value = v i;
  some_width = is_prop→PathP (λ j. 1 ≤ w j) (λ j. hlevel props) a.some_width b.some_width i;
  in_range = is_prop→PathP (λ j. w j ≤ 128 → v j < 2 ^ w j) (λ j. hlevel props) a.in_range b.in_range i;
}

pub literal-said : (l : Literal) → l.width ≤ 128 → literal_of (literal_text l) ≡ l
literal-said l h = same_literal (literal_of (literal_text l)) l width value
  where
    some : 1 ≤ l.width
    some = l.some_width

    said : width_said (literal_text l) ≡ l.width
    said = subst (λ t. width_said t ≡ l.width) (append-nil (literal_text l)) (said_width l [] h refl)

    valued : value_said (literal_text l) ≡ l.value
    valued = subst (λ t. value_said t ≡ l.value) (append-nil (literal_text l)) (said_value l [] h refl)

    least : min (width_said (literal_text l)) most ≡ l.width
    least = omega (arith, said, h)

    width : max 1 (min (width_said (literal_text l)) most) ≡ l.width
    width = omega (arith, least, some)

    fits : nat_lt l.value (2 ^ l.width) ≡ true
    fits = let below : l.value < 2 ^ l.width = l.in_range h in grind (arith, nat_tests)

    narrow : nat_le l.width 128 ≡ true
    narrow = grind (arith, nat_tests)

    value : (literal_of (literal_text l)).value ≡ l.value
    value =
        ap₂ (λ (w v : ℕ). if nat_le w 128 && nat_lt v (2 ^ w) then v else 0) least valued
        ∙ if_true (nat_le l.width 128 && nat_lt l.value (2 ^ l.width)) l.value 0 (ap₂ (λ a b. a && b) narrow fits)

len_by_prefix : (t ds behind : List ℕ) → AreDigits ds → t ≡ ds ++ behind → token_prefix_len t ≡ number_len t
len_by_prefix t [] behind d q = absurd (omega (arith, d.some))
len_by_prefix t (c ∷ cs) behind d q = subst (λ u. token_prefix_len u ≡ number_len u) (sym q) (len_of_digits c (cs ++ behind) (and_first (is_ascii_digit c) (list_all is_ascii_digit cs) d.all))

long_len : (t : List ℕ) → begins_literal t ≡ true → is_in_range t ≡ true → number_len t ≡ Some (digit_run t + 2 + digit_run (drop (digit_run t + 2) t))
unfolding number_len
long_len t b r = if_true (begins_literal t) _ _ b ∙ if_true (is_in_range t) _ None r

two_lengths : (ds vs : List ℕ) → length (ds ++ (39 ∷ 100 ∷ vs)) ≡ length ds + 2 + length vs
two_lengths [] vs = omega arith
two_lengths (d ∷ ds) vs = let more = two_lengths ds vs in omega (arith, more)

literal_length : (l : Literal) → length (literal_text l) ≡ length (decimal l.width) + 2 + length (decimal l.value)
unfolding literal_text
literal_length l = two_lengths (decimal l.width) (decimal l.value)

positive : (l : Literal) → nat_lt 0 l.width ≡ true
positive l = let some : 1 ≤ l.width = l.some_width in grind (arith, nat_tests)

value_fits : (l : Literal) → l.width ≤ 128 → nat_lt l.value (2 ^ l.width) ≡ true
value_fits l h = let below : l.value < 2 ^ l.width = l.in_range h in grind (arith, nat_tests)

pub literal-len : (l : Literal) (rest : List ℕ) → l.width ≤ 128 → stops rest ≡ true → token_prefix_len (literal_text l ++ rest) ≡ Some (length (literal_text l))
literal-len l rest h e =
    let no = no_digit (slice_index rest 0) e in
    let text = literal_text l ++ rest in
    let s = spelled l rest h no in
    let ranged : is_in_range (literal_text l ++ rest) ≡ true =
    ap₂ (λ (w v : ℕ). nat_lt 0 w && nat_lt v (2 ^ w)) (said_width l rest h no) (said_value l rest h no) ∙ ap₂ (λ a b. a && b) (positive l) (value_fits l h) in
    len_by_prefix text (decimal l.width) (39 ∷ 100 ∷ (decimal l.value ++ rest)) s.widths s.is
    ∙ long_len text (begins (decimal l.width) (decimal l.value) rest text s) ranged
    ∙ ap Some
    (ap₂ (λ (a b : ℕ). a + 2 + b) (run_is (decimal l.width) (decimal l.value) rest text s) (value_run (decimal l.width) (decimal l.value) rest text s)
    ∙ sym (literal_length l))

-- a literal begins with digits
pub record StartsWithDigits (text : List ℕ) : Type 0 where
  pub some : 0 < length text
  pub digits : List ℕ
  pub behind : List ℕ
  pub are : AreDigits digits
  pub is : text ≡ digits ++ behind

begins_so : (text ds behind : List ℕ) → AreDigits ds → text ≡ ds ++ behind → StartsWithDigits text
begins_so text ds behind d e = record { some = subst (λ t. 0 < length t) (sym e) (long ds behind d); digits = ds; behind = behind; are = d; is = e }
  where
    long : (ds behind : List ℕ) → AreDigits ds → 0 < length (ds ++ behind)
    long [] behind d = absurd (omega (arith, d.some))
    long (c ∷ cs) behind d = omega arith

pub literal_prefix : (l : Literal) → l.width ≤ 128 → StartsWithDigits (literal_text l)
literal_prefix l h = begins_so (literal_text l) (decimal l.width) (39 ∷ 100 ∷ (decimal l.value ++ [])) (alone l h).widths (alone l h).is

-- ---- names

small_byte : (c : ℕ) → is_word_byte c ≡ true → c < 128
small_byte c h = grind (arith, nat_tests)

ascii_step : (c : ℕ) (cs : List ℕ) → c < 128 → IsAscii cs → (i : ℕ) → slice_index (c ∷ cs) i < 128
ascii_step c cs small more zero = small
ascii_step c cs small more (suc i) = more i

word_is_ascii : (w : List ℕ) → list_all is_word_byte w ≡ true → IsAscii w
word_is_ascii [] h = λ i. omega arith
word_is_ascii (c ∷ cs) h = ascii_step c cs (small_byte c (and_first (is_word_byte c) (list_all is_word_byte cs) h)) (word_is_ascii cs (and_second (is_word_byte c) (list_all is_word_byte cs) h))

begins_goes : (c : ℕ) → begins_word c ≡ true → is_word_byte c ≡ true
begins_goes c h = grind (arith, nat_tests)

pub word_bytes : (w : List ℕ) → is_word w ≡ true → list_all is_word_byte w ≡ true
word_bytes [] h = refl
word_bytes (c ∷ cs) h = ap₂ (λ a b. a && b) (begins_goes c (and_first (begins_word c) (list_all is_word_byte cs) h)) (and_second (begins_word c) (list_all is_word_byte cs) h)

pub name-said : (w : List ℕ) → is_word w ≡ true → name_text w ≡ w
name-said w h = if_true (is_utf8 w) w [] (is_utf8-from_IsUtf8 w (IsUtf8-from_ascii w (word_is_ascii w (word_bytes w h))))

pub word-len : (w rest : List ℕ) → is_word w ≡ true → stops rest ≡ true → token_prefix_len (w ++ rest) ≡ Some (length w)
unfolding token_prefix_len
word-len [] rest h e = let no : false ≡ true = h in absurd (cc)
word-len (c ∷ cs) rest h e =
    if_true (begins_word c) (Some (word_run ((c ∷ cs) ++ rest))) _ (and_first (begins_word c) (list_all is_word_byte cs) h)
    ∙ ap Some (run_over is_word_byte (c ∷ cs) rest (word_bytes (c ∷ cs) h) (no_word (slice_index rest 0) e))
