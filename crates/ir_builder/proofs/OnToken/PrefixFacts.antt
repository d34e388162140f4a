-- A token at the front of a text has a length.
use Rattle.std.proofs.Common.{◌≡◌, ℕ, suc, ◌+◌, ◌<◌, ◌≤◌, ◌^◌, ◌==◌, ◌&&◌, nat_lt, Bool, true, false, List, [], ◌∷◌, take, drop, length, Option, Some, None, refl, sym, subst, arith}
use Rattle.std.specs.Prelude.{if◌then◌else◌, slice_index, IfSome, MatchOption}
use Rattle.std.specs.List.{prefix_len}
use Rattle.std.specs.Char.{is_ascii_digit, is_ascii_hexdigit}
use Rattle.std.specs.Str.{IsAscii}
use Rattle.std.proofs.lemmas.Str.Ascii.{IsAscii-nil, IsAscii-cons}
use Rattle.std.proofs.lemmas.Bool.{and_parts}
use Rattle.std.proofs.lemmas.Bool.Decides.{nat_tests}
use Rattle.base.specs.Texts.Words.{begins_word}
use Rattle.ir_builder.specs.declared.token.rules.generated.kind.TheConstants.{END}
use Rattle.ir_builder.specs.Token.TokenPrefixes.{word_goes_on, name_len, begins_hexadecimal, digits_len, value_of_number, mark_kind, number_prefix, token_prefix}
use Rattle.ir_builder.specs.Token.Inner.Entries.{HasTokenPrefix}

begins_goes : (c d : ℕ) → begins_word c ≡ true → word_goes_on c d ≡ true
begins_goes c d h = grind (arith, nat_tests)

if_true : (b : Bool) (m : ℕ) → b ≡ true → 0 < (if b then suc m else 0)
if_true true m h = omega arith
if_true false m h = absurd (cc)

if_one : (b : Bool) (m : ℕ) → b ≡ true → 0 < (if b then (1 + m) else 0)
if_one true m h = omega arith
if_one false m h = absurd (cc)

if_long : (b : Bool) (m n : ℕ) → (b ≡ false → 0 < n) → 0 < (if b then (2 + m) else n)
if_long true m n h = omega arith
if_long false m n h = h refl

-- a choice of two that gives a number
either_some : (b : Bool) (x y : Option ℕ) (P : ℕ → Type 0) → (b ≡ true → (n : ℕ) → x ≡ Some n → P n) → (b ≡ false → (n : ℕ) → y ≡ Some n → P n) → (n : ℕ) → (if b then x else y) ≡ Some n → P n
either_some true x y P f g n e = f refl n e
either_some false x y P f g n e = g refl n e

is_some : (m n : ℕ) → Some m ≡ Some n → 0 < m → 0 < n
is_some m n e h = let same : m ≡ n = cc in omega arith

digit_prefix : (c : ℕ) (cs : List ℕ) → is_ascii_digit c ≡ true → 0 < prefix_len is_ascii_digit (c ∷ cs)
digit_prefix c cs h = if_one (is_ascii_digit c) (prefix_len is_ascii_digit cs) h

none_gives : (n : ℕ) → None ≡ Some n → 0 < n
none_gives n e = absurd (cc)

pub prefix_some : (c : ℕ) (cs : List ℕ) (len : ℕ) → token_prefix (c ∷ cs) ≡ Some len → 0 < len
prefix_some c cs =
    either_some (begins_word c) (Some (name_len (c ∷ cs))) _ (λ n. 0 < n)
    (λ h n e. is_some (name_len (c ∷ cs)) n e (if_true (word_goes_on c (slice_index cs 0)) (name_len cs) (begins_goes c (slice_index cs 0) h)))
    (λ other.
    either_some (is_ascii_digit c) (number_prefix (c ∷ cs)) _ (λ n. 0 < n)
    (λ h.
    either_some (nat_lt (value_of_number (take (digits_len (c ∷ cs)) (c ∷ cs))) (2 ^ 128)) (Some (digits_len (c ∷ cs))) None (λ n. 0 < n)
    (λ small n e. is_some (digits_len (c ∷ cs)) n e (if_long (begins_hexadecimal (c ∷ cs)) (prefix_len is_ascii_hexdigit (drop 2 (c ∷ cs))) (prefix_len is_ascii_digit (c ∷ cs)) (λ decimal. digit_prefix c cs h)))
    (λ large n e. none_gives n e))
    (λ no_digit.
    either_some (mark_kind c == END) None (Some 1) (λ n. 0 < n)
    (λ none n e. none_gives n e)
    (λ mark n e. is_some 1 n e (omega arith))))

-- ---- its bytes are ASCII

goes_below : (c d : ℕ) → word_goes_on c d ≡ true → c < 128
goes_below c d h = grind (arith, nat_tests)

digit_below : (c : ℕ) → is_ascii_digit c ≡ true → c < 128
digit_below c h = grind (arith, nat_tests)

hexadecimal_below : (c : ℕ) → is_ascii_hexdigit c ≡ true → c < 128
hexadecimal_below c h = grind (arith, nat_tests)

mark_below : (c : ℕ) → (mark_kind c == END) ≡ false → c < 128
mark_below c h = grind (arith, nat_tests)

word_step : (b : Bool) (c : ℕ) (cs : List ℕ) (n : ℕ) → (b ≡ true → c < 128) → IsAscii (take n cs) → IsAscii (take (if b then suc n else 0) (c ∷ cs))
word_step true c cs n below rest = IsAscii-cons c (take n cs) (below refl) rest
word_step false c cs n below rest = IsAscii-nil

word_ascii : (text : List ℕ) → IsAscii (take (name_len text) text)
word_ascii [] = IsAscii-nil
word_ascii (c ∷ cs) = word_step (word_goes_on c (slice_index cs 0)) c cs (name_len cs) (goes_below c (slice_index cs 0)) (word_ascii cs)

digits_step : (b : Bool) (c : ℕ) (cs : List ℕ) (n : ℕ) → (b ≡ true → c < 128) → IsAscii (take n cs) → IsAscii (take (if b then (1 + n) else 0) (c ∷ cs))
digits_step true c cs n below rest = let e : 1 + n ≡ suc n = omega arith in rw e (IsAscii-cons c (take n cs) (below refl) rest)
digits_step false c cs n below rest = IsAscii-nil

digits_ascii : (p : ℕ → Bool) → ((c : ℕ) → p c ≡ true → c < 128) → (text : List ℕ) → IsAscii (take (prefix_len p text) text)
digits_ascii p below [] = IsAscii-nil
digits_ascii p below (c ∷ cs) = digits_step (p c) c cs (prefix_len p cs) (below c) (digits_ascii p below cs)

prefixed_ascii : (text : List ℕ) (n : ℕ) → begins_hexadecimal text ≡ true → IsAscii (take n (drop 2 text)) → IsAscii (take (2 + n) text)
prefixed_ascii [] n h rest = absurd (cc)
prefixed_ascii (c ∷ []) n h rest = absurd (grind (arith, nat_tests))
prefixed_ascii (c ∷ d ∷ cs) n h rest =
    let both = and_parts (c == 48) ((d == 120) && is_ascii_hexdigit (slice_index cs 0)) h in
    let second = and_parts (d == 120) (is_ascii_hexdigit (slice_index cs 0)) both.1 in
    let first_below : c < 128 = grind (arith, nat_tests) in
    let second_below : d < 128 = grind (arith, nat_tests) in
    let e : 2 + n ≡ suc (suc n) = omega arith in
    rw e (IsAscii-cons c (d ∷ take n cs) first_below (IsAscii-cons d (take n cs) second_below rest))

number_step : (b : Bool) (text : List ℕ) → begins_hexadecimal text ≡ b → IsAscii (take (if b then (2 + prefix_len is_ascii_hexdigit (drop 2 text)) else prefix_len is_ascii_digit text) text)
number_step true text h = prefixed_ascii text (prefix_len is_ascii_hexdigit (drop 2 text)) h (digits_ascii is_ascii_hexdigit hexadecimal_below (drop 2 text))
number_step false text h = digits_ascii is_ascii_digit digit_below text

number_ascii : (text : List ℕ) → IsAscii (take (digits_len text) text)
number_ascii text = number_step (begins_hexadecimal text) text refl

of_len : (text : List ℕ) (m n : ℕ) → Some m ≡ Some n → IsAscii (take m text) → IsAscii (take n text)
of_len text m n e h = let same : m ≡ n = cc in subst (λ k. IsAscii (take k text)) same h

none_ascii : (text : List ℕ) (n : ℕ) → None ≡ Some n → IsAscii (take n text)
none_ascii text n e = absurd (cc)

pub prefix_ascii : (c : ℕ) (cs : List ℕ) (len : ℕ) → token_prefix (c ∷ cs) ≡ Some len → IsAscii (take len (c ∷ cs))
prefix_ascii c cs =
    either_some (begins_word c) (Some (name_len (c ∷ cs))) _ (λ n. IsAscii (take n (c ∷ cs)))
    (λ h n e. of_len (c ∷ cs) (name_len (c ∷ cs)) n e (word_ascii (c ∷ cs)))
    (λ other.
    either_some (is_ascii_digit c) (number_prefix (c ∷ cs)) _ (λ n. IsAscii (take n (c ∷ cs)))
    (λ h.
    either_some (nat_lt (value_of_number (take (digits_len (c ∷ cs)) (c ∷ cs))) (2 ^ 128)) (Some (digits_len (c ∷ cs))) None (λ n. IsAscii (take n (c ∷ cs)))
    (λ small n e. of_len (c ∷ cs) (digits_len (c ∷ cs)) n e (number_ascii (c ∷ cs)))
    (λ large n e. none_ascii (c ∷ cs) n e))
    (λ no_digit.
    either_some (mark_kind c == END) None (Some 1) (λ n. IsAscii (take n (c ∷ cs)))
    (λ none n e. none_ascii (c ∷ cs) n e)
    (λ mark n e. of_len (c ∷ cs) 1 n e (IsAscii-cons c [] (mark_below c mark) IsAscii-nil))))

pub prefix_found : (text : List ℕ) (o : Option ℕ) → o ≡ token_prefix text → IfSome o (λ len. len ≤ length text) → MatchOption o (token_prefix text ≡ None) (λ len. HasTokenPrefix text len)
prefix_found text None e h = sym e
prefix_found [] (Some len) e h = absurd (cc)
prefix_found (c ∷ cs) (Some len) e h = record { front = sym e; some = prefix_some c cs len (sym e); within = h; ascii = prefix_ascii c cs len (sym e) }
