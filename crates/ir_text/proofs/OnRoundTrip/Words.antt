-- The tokens at the fronts of printed texts: words, and decimal numbers.
use Rattle.std.proofs.Common.{◌≡◌, ◌≢◌, ◌<◌, ◌≤◌, ℕ, zero, suc, ◌+◌, ◌^◌, ◌/◌, ◌%◌, Bool, true, false, ◌&&◌, ◌||◌, not, List, [], ◌∷◌, ◌++◌, take, length, decimal, Some, None, refl, sym, ap, subst, ◌∙◌, arith, append-nil}
use Rattle.std.specs.Prelude.{◌==◌, nat_lt, slice_index, if◌then◌else◌}
use Rattle.std.specs.List.{list_all, prefix_len}
use Rattle.std.specs.Char.{is_ascii_digit}
use Rattle.std.specs.Str.Parse.{digits_value}
use Rattle.std.proofs.lemmas.Bool.{and_parts, and_from, and_left, cond-true, cond-false, eqb-true, not-true, or_parts}
use Rattle.std.proofs.lemmas.Bool.Decides.{nat_tests}
use Rattle.std.proofs.lemmas.Fmt.{decimal_by_steps_wide, decimal_is_IsNumeral_wide}
use Rattle.std.proofs.lemmas.List.Folds.{list_all-append}
use Rattle.base.specs.Texts.Words.{begins_word, is_word_byte}
use Rattle.dslx_token.specs.Blank.{after_blank}
use Rattle.dslx_token.specs.Characters.{is_white}
use Rattle.ir_builder.specs.declared.token.rules.generated.kind.TheConstants as kinds
use Rattle.ir_builder.specs.Token.TokenPrefixes.{begins_hexadecimal, digits_len, name_len, number_prefix, token_prefix, value_of_number, word_goes_on}
use Rattle.ir_builder.specs.Token.Kinds.{ir_number_kind, ir_plain_kind, is_id}
use Rattle.ir_text.proofs.OnRoundTrip.Writable.{is_one_word}
use Rattle.ir_text.proofs.OnRoundTrip.Walks.{IsPrefix}

-- ---- where words and numbers end

-- a word or a number ends before such a text
abbrev pub ends_words : List ℕ → Bool
ends_words [] = true
ends_words (c ∷ cs) = not ((is_word_byte c || (c == 46)) || (c == 47))

goes_off : (w d s b : Bool) → not ((w || d) || s) ≡ true → ((w || d) || (s && b)) ≡ false
goes_off true d s b h = absurd (cc)
goes_off false true s b h = absurd (cc)
goes_off false false true b h = absurd (cc)
goes_off false false false b h = refl

none_goes : (c d : ℕ) → not ((is_word_byte c || (c == 46)) || (c == 47)) ≡ true → word_goes_on c d ≡ false
none_goes c d h = goes_off (is_word_byte c) (c == 46) (c == 47) (not (d == 47)) h

-- ---- words

on_parts : (b : Bool) (m n : ℕ) → (if b then suc m else 0) ≡ suc n → (b ≡ true) × (m ≡ n)
on_parts true m n e = (refl, omega arith)
on_parts false m n e = absurd (omega arith)

still_on : (x y z : Bool) → (x || (y && true)) ≡ true → z ≡ false → (x || (y && not z)) ≡ true
still_on true y z h e = refl
still_on false true true h e = absurd (cc)
still_on false true false h e = refl
still_on false false z h e = absurd (cc)

no_slash : (c : ℕ) → not ((is_word_byte c || (c == 46)) || (c == 47)) ≡ true → (c == 47) ≡ false
no_slash c h = (or_parts (is_word_byte c || (c == 46)) (c == 47) (not-true _ h)).1

goes_still : (c : ℕ) (cs rest : List ℕ) → word_goes_on c (slice_index cs 0) ≡ true → ends_words rest ≡ true → word_goes_on c (slice_index (cs ++ rest) 0) ≡ true
goes_still c (d ∷ ds) rest h stop = h
goes_still c [] [] h stop = h
goes_still c [] (r ∷ rs) h stop = still_on (is_word_byte c || (c == 46)) (c == 47) (r == 47) h (no_slash r stop)

behind_word : (rest : List ℕ) → ends_words rest ≡ true → name_len rest ≡ 0
behind_word [] stop = refl
behind_word (c ∷ cs) stop = cond-false (word_goes_on c (slice_index cs 0)) (suc (name_len cs)) 0 (none_goes c (slice_index cs 0) stop)

name_before : (word rest : List ℕ) → name_len word ≡ length word → ends_words rest ≡ true → name_len (word ++ rest) ≡ length word
name_before [] rest h stop = behind_word rest stop
name_before (c ∷ cs) rest h stop =
    let parts = on_parts (word_goes_on c (slice_index cs 0)) (name_len cs) (length cs) h in
    cond-true (word_goes_on c (slice_index (cs ++ rest) 0)) (suc (name_len (cs ++ rest))) 0 (goes_still c cs rest parts.0 stop)
    ∙ ap suc (name_before cs rest parts.1 stop)

not_white : (c : ℕ) → begins_word c ≡ true → is_white c ≡ false
not_white c h = grind (arith, nat_tests)

not_slash : (c : ℕ) → begins_word c ≡ true → (c == 47) ≡ false
not_slash c h = grind (arith, nat_tests)

shown_after : (c : ℕ) (cs : List ℕ) → is_white c ≡ false → (c == 47) ≡ false → after_blank (c ∷ cs) ≡ c ∷ cs
shown_after c cs white slash =
    cond-false (is_white c) _ _ white ∙ cond-false ((c == 47) && (slice_index cs 0 == 47)) _ _ (and_left (c == 47) (slice_index cs 0 == 47) slash)

-- a word is not blank
pub word_shown : (word rest : List ℕ) → is_one_word word ≡ true → after_blank (word ++ rest) ≡ word ++ rest
word_shown [] rest h = absurd (cc)
word_shown (c ∷ cs) rest h =
    let parts = and_parts (begins_word c) (name_len (c ∷ cs) == suc (length cs)) h in
    shown_after c (cs ++ rest) (not_white c parts.0) (not_slash c parts.0)

-- a word is the token before what ends words
pub word_prefix : (word rest : List ℕ) → is_one_word word ≡ true → ends_words rest ≡ true → IsPrefix word rest
word_prefix [] rest h stop = absurd (cc)
word_prefix (c ∷ cs) rest h stop =
    let parts = and_parts (begins_word c) (name_len (c ∷ cs) == suc (length cs)) h in
    let len = eqb-true (name_len (c ∷ cs)) (suc (length cs)) parts.1 in
    record {
      some = λ e. cc;
      front = cond-true (begins_word c) _ _ parts.0 ∙ ap Some (name_before (c ∷ cs) rest len stop);
    }

-- ---- digits

-- the digits of a number, without leading zeros
pub record AreDigits (n : ℕ) (digits : List ℕ) : Type 0 where
  pub first : ℕ
  pub others : List ℕ
  pub is : digits ≡ first ∷ others
  pub digit : is_ascii_digit first ≡ true
  pub all : list_all is_ascii_digit others ≡ true
  pub leads : 1 ≤ n → first ≢ 48
  pub alone : n ≡ 0 → others ≡ []

digit_of : (n : ℕ) → n < 10 → is_ascii_digit (48 + n) ≡ true
digit_of n h = grind (arith, nat_tests)

one_digit : (n : ℕ) → n < 10 → AreDigits n ((48 + n) ∷ [])
one_digit n h = record {
  first = 48 + n;
  others = [];
  is = refl;
  digit = digit_of n h;
  all = refl;
  leads = λ some e. omega (arith, some, e);
  alone = λ none. refl;
}

last_digit : (n : ℕ) → n % 10 < 10
last_digit n = omega arith

more_digits : (n : ℕ) (digits : List ℕ) → 10 ≤ n → AreDigits (n / 10) digits → AreDigits n (digits ++ ((48 + n % 10) ∷ []))
more_digits n digits h are = record {
  first = are.first;
  others = are.others ++ ((48 + n % 10) ∷ []);
  is = ap (λ ds. ds ++ ((48 + n % 10) ∷ [])) are.is;
  digit = are.digit;
  all = list_all-append is_ascii_digit are.others ((48 + n % 10) ∷ []) ∙ and_from _ _ are.all (and_from _ true (digit_of (n % 10) (last_digit n)) refl);
  leads = λ some. are.leads (omega arith);
  alone = λ none. absurd (omega arith);
}

wide : (n : ℕ) → n < 2 ^ 128 → n < 10 ^ 64
wide n h = omega arith

pub digits_of_decimal : (n : ℕ) → n < 2 ^ 128 → AreDigits n (decimal n)
digits_of_decimal n h = decimal_by_steps_wide AreDigits one_digit more_digits n (wide n h)

pub value_of_decimal : (n : ℕ) → n < 2 ^ 128 → digits_value 10 (decimal n) ≡ n
value_of_decimal n h = (decimal_is_IsNumeral_wide n (wide n h)).1

-- ---- decimal numbers as tokens

ends_digits : (c : ℕ) → not ((is_word_byte c || (c == 46)) || (c == 47)) ≡ true → is_ascii_digit c ≡ false
ends_digits c h = grind (arith, nat_tests)

no_x : (c : ℕ) → not ((is_word_byte c || (c == 46)) || (c == 47)) ≡ true → (c == 120) ≡ false
no_x c h = grind (arith, nat_tests)

digit_no_x : (c : ℕ) → is_ascii_digit c ≡ true → (c == 120) ≡ false
digit_no_x c h = grind (arith, nat_tests)

digit_no_word : (c : ℕ) → is_ascii_digit c ≡ true → begins_word c ≡ false
digit_no_word c h = grind (arith, nat_tests)

digit_not_white : (c : ℕ) → is_ascii_digit c ≡ true → is_white c ≡ false
digit_not_white c h = grind (arith, nat_tests)

digit_no_slash : (c : ℕ) → is_ascii_digit c ≡ true → (c == 47) ≡ false
digit_no_slash c h = grind (arith, nat_tests)

second_no_x : (others rest : List ℕ) → list_all is_ascii_digit others ≡ true → ends_words rest ≡ true → (slice_index (others ++ rest) 0 == 120) ≡ false
second_no_x [] [] all stop = refl
second_no_x [] (r ∷ rs) all stop = no_x r stop
second_no_x (d ∷ ds) rest all stop = digit_no_x d (and_parts (is_ascii_digit d) (list_all is_ascii_digit ds) all).0

middle_false : (a b c : Bool) → b ≡ false → (a && (b && c)) ≡ false
middle_false true true c h = absurd (cc)
middle_false true false c h = refl
middle_false false b c h = refl

not_hexadecimal : (first : ℕ) (others rest : List ℕ) → list_all is_ascii_digit others ≡ true → ends_words rest ≡ true → begins_hexadecimal (first ∷ (others ++ rest)) ≡ false
not_hexadecimal first others rest all stop = middle_false (first == 48) (slice_index (others ++ rest) 0 == 120) _ (second_no_x others rest all stop)

digits_before : (digits rest : List ℕ) → list_all is_ascii_digit digits ≡ true → ends_words rest ≡ true → prefix_len is_ascii_digit (digits ++ rest) ≡ length digits
digits_before [] [] all stop = refl
digits_before [] (r ∷ rs) all stop = cond-false (is_ascii_digit r) _ 0 (ends_digits r stop)
digits_before (d ∷ ds) rest all stop =
    let parts = and_parts (is_ascii_digit d) (list_all is_ascii_digit ds) all in
    let more = digits_before ds rest parts.1 stop in
    cond-true (is_ascii_digit d) (1 + prefix_len is_ascii_digit (ds ++ rest)) 0 parts.0 ∙ omega (arith, more)

take_all_prefix : (a b : List ℕ) → take (length a) (a ++ b) ≡ a
take_all_prefix [] b = refl
take_all_prefix (x ∷ xs) b = ap (λ t. x ∷ t) (take_all_prefix xs b)

-- a number is not blank
pub number_shown : (n : ℕ) (rest : List ℕ) → n < 2 ^ 128 → after_blank (decimal n ++ rest) ≡ decimal n ++ rest
number_shown n rest h =
    let are = digits_of_decimal n h in
    subst (λ ds. after_blank (ds ++ rest) ≡ ds ++ rest) (sym are.is)
    (shown_after are.first (are.others ++ rest) (digit_not_white are.first are.digit) (digit_no_slash are.first are.digit))

plain_value : (n : ℕ) (digits : List ℕ) → AreDigits n digits → value_of_number digits ≡ digits_value 10 digits
plain_value n digits are =
    cond-false (begins_hexadecimal digits) _ _
    (subst (λ ds. begins_hexadecimal ds ≡ false) (sym (are.is ∙ ap (λ ds. are.first ∷ ds) (sym (append-nil are.others)))) (not_hexadecimal are.first are.others [] are.all refl))

pub number_value : (n : ℕ) → n < 2 ^ 128 → value_of_number (decimal n) ≡ n
number_value n h = plain_value n (decimal n) (digits_of_decimal n h) ∙ value_of_decimal n h

plain_len : (n : ℕ) (digits rest : List ℕ) → AreDigits n digits → ends_words rest ≡ true → digits_len (digits ++ rest) ≡ length digits
plain_len n digits rest are stop =
    cond-false (begins_hexadecimal (digits ++ rest)) _ _
    (subst (λ ds. begins_hexadecimal (ds ++ rest) ≡ false) (sym are.is) (not_hexadecimal are.first are.others rest are.all stop))
    ∙ digits_before digits rest (subst (λ ds. list_all is_ascii_digit ds ≡ true) (sym are.is) (and_from _ _ are.digit are.all)) stop

below_prefix : (n : ℕ) (text : List ℕ) (len : ℕ) → digits_len text ≡ len → value_of_number (take len text) ≡ n → n < 2 ^ 128 → number_prefix text ≡ Some len
below_prefix n text len e v h =
    let value : value_of_number (take (digits_len text) text) ≡ n = ap (λ k. value_of_number (take k text)) e ∙ v in
    let below : nat_lt (value_of_number (take (digits_len text) text)) (2 ^ 128) ≡ true = grind (arith, nat_tests) in
    cond-true _ (Some (digits_len text)) None below ∙ ap Some e

digit_prefix : (first : ℕ) (cs : List ℕ) (len : ℕ) → is_ascii_digit first ≡ true → number_prefix (first ∷ cs) ≡ Some len → token_prefix (first ∷ cs) ≡ Some len
digit_prefix first cs len digit e = cond-false (begins_word first) _ _ (digit_no_word first digit) ∙ (cond-true (is_ascii_digit first) _ _ digit ∙ e)

-- a number is the token before what ends numbers
pub number_prefix_is : (n : ℕ) (rest : List ℕ) → n < 2 ^ 128 → ends_words rest ≡ true → IsPrefix (decimal n) rest
number_prefix_is n rest h stop =
    let are = digits_of_decimal n h in
    let len = plain_len n (decimal n) rest are stop in
    let value : value_of_number (take (length (decimal n)) (decimal n ++ rest)) ≡ n = ap value_of_number (take_all_prefix (decimal n) rest) ∙ number_value n h in
    let found : number_prefix (decimal n ++ rest) ≡ Some (length (decimal n)) = below_prefix n (decimal n ++ rest) (length (decimal n)) len value h in
    record {
      some = λ none. (let e : are.first ∷ are.others ≡ [] = sym are.is ∙ none in cc);
      front = subst (λ ds. number_prefix (ds ++ rest) ≡ Some (length (decimal n)) → token_prefix (ds ++ rest) ≡ Some (length (decimal n))) (sym are.is)
          (λ e. digit_prefix are.first (are.others ++ rest) (length (decimal n)) are.digit e) found;
    }

-- its kind by itself
pub number_kind : (n : ℕ) → n < 2 ^ 128 → ir_plain_kind (decimal n) ≡ (if nat_lt n (2 ^ 32) then kinds.SMALL else kinds.LARGE)
number_kind n h =
    let are = digits_of_decimal n h in
    kind_by are.first are.others are.digit (decimal n) are.is ∙ ap (λ v. if nat_lt v (2 ^ 32) then kinds.SMALL else kinds.LARGE) (number_value n h)
  where
    kind_by : (first : ℕ) (others : List ℕ) → is_ascii_digit first ≡ true → (digits : List ℕ) → digits ≡ first ∷ others → ir_plain_kind digits ≡ ir_number_kind digits
    kind_by first others digit digits e =
        subst (λ ds. ir_plain_kind ds ≡ ir_number_kind ds) (sym e) (cond-false (begins_word first) _ _ (digit_no_word first digit) ∙ cond-true (is_ascii_digit first) _ _ digit)

-- ---- ids

no_leading : (n first : ℕ) (others : List ℕ) → (1 ≤ n → first ≢ 48) → (n ≡ 0 → others ≡ []) → (not (first == 48) || (length others == 0)) ≡ true
no_leading zero first others leads alone = or_second _ _ (ap (λ ds. length ds == 0) (alone refl))
  where
    or_second : (a b : Bool) → b ≡ true → (a || b) ≡ true
    or_second true b h = refl
    or_second false b h = h
no_leading (suc n) first others leads alone = or_first _ _ (not_same first (leads (omega arith)))
  where
    or_first : (a b : Bool) → a ≡ true → (a || b) ≡ true
    or_first true b h = refl
    or_first false b h = absurd (cc)

    not_same : (c : ℕ) → c ≢ 48 → not (c == 48) ≡ true
    not_same c h = grind (arith, nat_tests)

id_by : (n first : ℕ) (others : List ℕ) → is_ascii_digit first ≡ true → list_all is_ascii_digit others ≡ true → (not (first == 48) || (length others == 0)) ≡ true → digits_value 10 (first ∷ others) ≡ n → n < 2 ^ 32 → is_id (first ∷ others) ≡ true
id_by n first others digit all leads value h =
    let below : nat_lt (digits_value 10 (first ∷ others)) (2 ^ 32) ≡ true = grind (arith, nat_tests) in
    and_from _ _ (and_from _ _ digit all) (and_from _ _ leads below)

-- the digits of an id
pub id_is : (n : ℕ) → n < 2 ^ 32 → is_id (decimal n) ≡ true
id_is n h =
    let wide_enough : n < 2 ^ 128 = omega arith in
    let are = digits_of_decimal n wide_enough in
    subst (λ ds. is_id ds ≡ true) (sym are.is)
    (id_by n are.first are.others are.digit are.all (no_leading n are.first are.others are.leads are.alone) (ap (digits_value 10) (sym are.is) ∙ value_of_decimal n wide_enough) h)

-- the digits of a number end no word but go on with it
pub digits_go_on : (digits : List ℕ) → list_all is_ascii_digit digits ≡ true → name_len digits ≡ length digits
digits_go_on [] all = refl
digits_go_on (d ∷ ds) all =
    let parts = and_parts (is_ascii_digit d) (list_all is_ascii_digit ds) all in
    cond-true (word_goes_on d (slice_index ds 0)) (suc (name_len ds)) 0 (digit_goes d (slice_index ds 0) parts.0) ∙ ap suc (digits_go_on ds parts.1)
  where
    digit_goes : (c d : ℕ) → is_ascii_digit c ≡ true → word_goes_on c d ≡ true
    digit_goes c d h = grind (arith, nat_tests)
