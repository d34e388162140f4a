-- The longest token at the front of a text.
use Rattle.std.proofs.Common.{◌≡◌, ◌≢◌, ◌⊎◌, ◌+◌, ◌<◌, ◌≤◌, ◌^◌, ◌-◌, ℕ, zero, suc, Bool, true, false, ◌||◌, ◌&&◌, inl, inr, List, [], ◌∷◌, ◌++◌, take, drop, length, eqb, refl, ap, sym, ◌∙◌, subst, arith, None, Some, Option}
use Rattle.std.proofs.lemmas.Bool.{false≢true, and_parts, and_from, or_cases, or_left, or_right, both_ways, cases_Bool, cond-true, cond-false, leb-true}
use Rattle.std.proofs.lemmas.Bool.Decides.{nat_tests}
use Rattle.std.proofs.lemmas.Slice.Eq.{bytes_eq-Decides}
use Rattle.std.proofs.lemmas.List.Folds.{list_all-append, length-prefix_len}
use Rattle.std.proofs.lemmas.List.{append-nil, append_assoc, take-append-drop, length-append, length-drop, length-take-le, nil_from_length}
use Rattle.std.proofs.lemmas.List.Sums.{prefix_len-le-length}
use Rattle.std.proofs.Math.Seq.{drop-cons}
use Rattle.std.specs.Prelude.{bytes_eq, slice_index, nat_le, MatchOption, if◌then◌else◌}
use Rattle.std.specs.List.{list_all, list_any, prefix_len, starts_with}
use Rattle.std.specs.Bool.{nat_eq}
use Rattle.std.specs.Option.{SomeIff, is_some}
use Rattle.std.specs.Char.{is_ascii_alphabetic, is_ascii_digit, is_ascii_hexdigit}
use Rattle.base.specs.Texts.Words.{begins_word, is_word_byte, is_word}
use Rattle.dslx_token.specs.Characters.{is_binary_digit}
use Rattle.dslx_token.specs.Inner.TokenPrefixes.{goes_on_decimal, goes_on_hexadecimal, goes_on_binary, HasPrefix, IsTokenPrefixLen, IsTokenLen, HasNoTokenPrefix, first_prefix}
use Rattle.dslx_token.specs.Lexical.{is_decimal, is_hexadecimal, is_binary, is_number, number_value, is_mark, IsToken}
use Rattle.dslx_token.specs.Spelling.{Spelling, marks}
use Rattle.dslx_token.specs.Tokens.{IsLongestToken, BeginsNoToken}
use Rattle.dslx_token.proofs.TokenBytes.{word_begins, number_begins, number_cases, word_from, number_from, string_from, mark_from, passes_among, some_token, word_parts, prefixed}

-- of two fronts of one list, one goes on as the other does
prefixes : (a b x y : List ℕ) → a ++ x ≡ b ++ y → ((more : List ℕ) × (b ≡ a ++ more) × (x ≡ more ++ y)) ⊎ ((more : List ℕ) × (a ≡ b ++ more) × (y ≡ more ++ x))
prefixes [] b x y e = inl (b, refl, e)
prefixes (c ∷ cs) [] x y e = inr (c ∷ cs, refl, sym e)
prefixes (c ∷ cs) (d ∷ ds) x y e =
    let head : c ≡ d = cc in
    let tail : cs ++ x ≡ ds ++ y = cc in
    elim (prefixes cs ds x y tail) [
      | inl longer ↦ inl (longer.0, (let rest : ds ≡ cs ++ longer.0 = longer.1 in cc), longer.2)
      | inr longer ↦ inr (longer.0, (let rest : cs ≡ ds ++ longer.0 = longer.1 in cc), longer.2)
    ]

cons_is_some : (c : ℕ) (cs : List ℕ) → (c ∷ cs) ≢ []
cons_is_some c cs e = cc

-- the longest token has no longer token behind it
only_nothing : (a x more y : List ℕ) → IsLongestToken a x → x ≡ more ++ y → IsToken (a ++ more) → more ≡ []
only_nothing a x [] y la e token = refl
only_nothing a x (c ∷ cs) y la e token = absurd (la.longest (c ∷ cs) y (cons_is_some c cs) e token)

-- two longest tokens at one place are one
pub longest_is_one : (a b x y : List ℕ) → IsLongestToken a x → IsLongestToken b y → a ++ x ≡ b ++ y → (a ≡ b) × (x ≡ y)
longest_is_one a b x y la lb e = elim (prefixes a b x y e) [
  | inl longer ↦
      let none : longer.0 ≡ [] = only_nothing a x longer.0 y la longer.2 (subst IsToken longer.1 lb.is_token) in
      (sym (append-nil a) ∙ ap (λ m. a ++ m) (sym none) ∙ sym longer.1, longer.2 ∙ ap (λ m. m ++ y) none)
  | inr longer ↦
      let none : longer.0 ≡ [] = only_nothing b y longer.0 x lb longer.2 (subst IsToken longer.1 la.is_token) in
      (longer.1 ∙ ap (λ m. b ++ m) none ∙ append-nil b, sym (longer.2 ∙ ap (λ m. m ++ x) none))
]

take_all : (t r : List ℕ) → take (length t) (t ++ r) ≡ t
take_all [] r = refl
take_all (c ∷ cs) r = ap (λ s. c ∷ s) (take_all cs r)

drop_all : (t r : List ℕ) → drop (length t) (t ++ r) ≡ r
drop_all [] r = refl
drop_all (c ∷ cs) r = drop_all cs r

some_length : (t : List ℕ) → IsToken t → 0 < length t
some_length [] token = absurd (some_token token)
some_length (c ∷ cs) token = omega arith

-- the longest token, by its length
pub token_prefix_len : (text t r : List ℕ) (len : ℕ) → text ≡ t ++ r → len ≡ length t → IsLongestToken t r → IsTokenPrefixLen text len
token_prefix_len text t r len e same longest = record {
  some = omega (arith, some_length t longest.is_token, same);
  within = omega (arith, ap length e, length-append t r, same);
  longest = subst (λ k. IsLongestToken (take k text) (drop k text)) (sym same)
      (subst (λ s. IsLongestToken (take (length t) s) (drop (length t) s)) (sym e)
      (subst (λ a. IsLongestToken a (drop (length t) (t ++ r))) (sym (take_all t r)) (subst (λ b. IsLongestToken t b) (sym (drop_all t r)) longest)));
}

-- a run from the front on passes the test, and what follows it doesn't
pub run_facts : (p : ℕ → Bool) → p 0 ≡ false → (text : List ℕ) → (list_all p (take (prefix_len p text) text) ≡ true) × (p (slice_index (drop (prefix_len p text) text) 0) ≡ false)
run_facts p zero_fails [] = (refl, zero_fails)
run_facts p zero_fails (c ∷ cs) = elim (cases_Bool (p c)) [
  | inl passes ↦
      let count : prefix_len p (c ∷ cs) ≡ 1 + prefix_len p cs = cond-true (p c) (1 + prefix_len p cs) 0 passes in
      let more : prefix_len p (c ∷ cs) ≡ suc (prefix_len p cs) = omega arith in
      let facts = run_facts p zero_fails cs in
      rw more (and_from (p c) (list_all p (take (prefix_len p cs) cs)) passes facts.0, facts.1)
  | inr fails ↦
      let none : prefix_len p (c ∷ cs) ≡ 0 = cond-false (p c) (1 + prefix_len p cs) 0 fails in
      rw none (refl, fails)
]

pub run_of_cons : (p : ℕ → Bool) (c : ℕ) (cs : List ℕ) → p c ≡ true → prefix_len p (c ∷ cs) ≡ suc (prefix_len p cs)
run_of_cons p c cs passes =
    let count : prefix_len p (c ∷ cs) ≡ 1 + prefix_len p cs = cond-true (p c) (1 + prefix_len p cs) 0 passes in omega arith

-- no byte that fails stands among bytes that pass
no_more : (p : ℕ → Bool) (t : List ℕ) (d : ℕ) (ds : List ℕ) → list_all p (t ++ d ∷ ds) ≡ true → p d ≡ false → ⊥
no_more p t d ds all fails =
    let parts = and_parts (list_all p t) (list_all p (d ∷ ds)) (sym (list_all-append p t (d ∷ ds)) ∙ all) in
    both_ways _ fails (and_parts (p d) (list_all p ds) parts.1).0

next_fails : (p : ℕ → Bool) (rest : List ℕ) (d : ℕ) (ds after : List ℕ) → p (slice_index rest 0) ≡ false → rest ≡ (d ∷ ds) ++ after → p d ≡ false
next_fails p rest d ds after fails e = subst (λ r. p (slice_index r 0) ≡ false) e fails

-- ---- words

word_longest : (c : ℕ) (run rest : List ℕ) → begins_word c ≡ true → list_all is_word_byte run ≡ true → is_word_byte (slice_index rest 0) ≡ false → IsLongestToken (c ∷ run) rest
word_longest c run rest begins all stop = record {
  is_token = inl (and_from (begins_word c) (list_all is_word_byte run) begins all);
  longest = λ more after some e token. no_longer more after some e token;
} where
  no_longer : (more after : List ℕ) → more ≢ [] → rest ≡ more ++ after → IsToken ((c ∷ run) ++ more) → ⊥
  no_longer [] after some e token = some refl
  no_longer (d ∷ ds) after some e token =
      no_more is_word_byte run d ds (and_parts (begins_word c) (list_all is_word_byte (run ++ d ∷ ds)) (word_from ((c ∷ run) ++ d ∷ ds) token begins)).1 (next_fails is_word_byte rest d ds after stop e)

pub word_prefix : (text : List ℕ) (len : ℕ) → begins_word (slice_index text 0) ≡ true → len ≡ prefix_len is_word_byte text → IsTokenPrefixLen text len
word_prefix [] len begins e = absurd (false≢true begins)
word_prefix (c ∷ cs) len begins e =
    let facts = run_facts is_word_byte refl cs in
    token_prefix_len (c ∷ cs) (c ∷ take (prefix_len is_word_byte cs) cs) (drop (prefix_len is_word_byte cs) cs) len
    (ap (λ t. c ∷ t) (sym (take-append-drop (prefix_len is_word_byte cs) cs)))
    (e ∙ run_of_cons is_word_byte c cs (word_parts c begins) ∙ ap suc (sym (length-prefix_len is_word_byte cs)))
    (word_longest c (take (prefix_len is_word_byte cs) cs) (drop (prefix_len is_word_byte cs) cs) begins facts.0 facts.1)

-- ---- numbers

decimal_longest : (c : ℕ) (run rest : List ℕ) → is_ascii_digit c ≡ true → list_all goes_on_decimal run ≡ true → goes_on_decimal (slice_index rest 0) ≡ false → ¬ HasPrefix 120 is_ascii_hexdigit ((c ∷ run) ++ rest) → ¬ HasPrefix 98 is_binary_digit ((c ∷ run) ++ rest) → IsLongestToken (c ∷ run) rest
decimal_longest c run rest digit all stop no_hexadecimal no_binary = record {
  is_token = inr (inl (or_left (is_decimal (c ∷ run) || is_hexadecimal (c ∷ run)) (is_binary (c ∷ run)) (or_left (is_decimal (c ∷ run)) (is_hexadecimal (c ∷ run)) (and_from (is_ascii_digit c) (list_all goes_on_decimal run) digit all))));
  longest = λ more after some e token. no_longer more after some e token;
} where
  whole : (more after : List ℕ) → rest ≡ more ++ after → (c ∷ run) ++ rest ≡ ((c ∷ run) ++ more) ++ after
  whole more after e = ap (λ t. (c ∷ run) ++ t) e ∙ sym (append_assoc (c ∷ run) more after)

  by_form : (d : ℕ) (ds after : List ℕ) → rest ≡ (d ∷ ds) ++ after → (is_decimal ((c ∷ run) ++ d ∷ ds) ≡ true) ⊎ (is_hexadecimal ((c ∷ run) ++ d ∷ ds) ≡ true) ⊎ (is_binary ((c ∷ run) ++ d ∷ ds) ≡ true) → ⊥
  by_form d ds after e (inl decimal) = no_more goes_on_decimal run d ds (and_parts (is_ascii_digit c) (list_all goes_on_decimal (run ++ d ∷ ds)) decimal).1 (next_fails goes_on_decimal rest d ds after stop e)
  by_form d ds after e (inr (inl hexadecimal)) = no_hexadecimal (subst (λ t. HasPrefix 120 is_ascii_hexdigit t) (sym (whole (d ∷ ds) after e)) (prefixed 120 is_ascii_hexdigit ((c ∷ run) ++ d ∷ ds) after hexadecimal))
  by_form d ds after e (inr (inr binary)) = no_binary (subst (λ t. HasPrefix 98 is_binary_digit t) (sym (whole (d ∷ ds) after e)) (prefixed 98 is_binary_digit ((c ∷ run) ++ d ∷ ds) after binary))

  no_longer : (more after : List ℕ) → more ≢ [] → rest ≡ more ++ after → IsToken ((c ∷ run) ++ more) → ⊥
  no_longer [] after some e token = some refl
  no_longer (d ∷ ds) after some e token = by_form d ds after e (number_cases ((c ∷ run) ++ d ∷ ds) (number_from ((c ∷ run) ++ d ∷ ds) token digit))

digit_goes_on : (c : ℕ) → is_ascii_digit c ≡ true → goes_on_decimal c ≡ true
digit_goes_on c h = or_left (is_ascii_digit c) (eqb c 95) h

pub decimal_prefix : (text : List ℕ) (len : ℕ) → is_ascii_digit (slice_index text 0) ≡ true → ¬ HasPrefix 120 is_ascii_hexdigit text → ¬ HasPrefix 98 is_binary_digit text → len ≡ prefix_len goes_on_decimal text → IsTokenPrefixLen text len
decimal_prefix [] len digit no_hexadecimal no_binary e = absurd (false≢true digit)
decimal_prefix (c ∷ cs) len digit no_hexadecimal no_binary e =
    let n = prefix_len goes_on_decimal cs in
    let facts = run_facts goes_on_decimal refl cs in
    let split : c ∷ cs ≡ (c ∷ take n cs) ++ drop n cs = ap (λ t. c ∷ t) (sym (take-append-drop n cs)) in
    token_prefix_len (c ∷ cs) (c ∷ take n cs) (drop n cs) len split
    (e ∙ run_of_cons goes_on_decimal c cs (digit_goes_on c digit) ∙ ap suc (sym (length-prefix_len goes_on_decimal cs)))
    (decimal_longest c (take n cs) (drop n cs) digit facts.0 facts.1
    (λ h. no_hexadecimal (subst (λ t. HasPrefix 120 is_ascii_hexdigit t) (sym split) h))
    (λ h. no_binary (subst (λ t. HasPrefix 98 is_binary_digit t) (sym split) h)))

hexadecimal_longest : (h : ℕ) (run rest : List ℕ) → is_ascii_hexdigit h ≡ true → list_all goes_on_hexadecimal run ≡ true → goes_on_hexadecimal (slice_index rest 0) ≡ false → IsLongestToken (48 ∷ 120 ∷ h ∷ run) rest
hexadecimal_longest h run rest digit all stop = record {
  is_token = inr (inl (or_left (is_decimal (48 ∷ 120 ∷ h ∷ run) || is_hexadecimal (48 ∷ 120 ∷ h ∷ run)) (is_binary (48 ∷ 120 ∷ h ∷ run)) (and_from (is_ascii_hexdigit h) (list_all goes_on_hexadecimal run) digit all)));
  longest = λ more after some e token. no_longer more after some e token;
} where
  by_form : (d : ℕ) (ds after : List ℕ) → rest ≡ (d ∷ ds) ++ after → (is_decimal ((48 ∷ 120 ∷ h ∷ run) ++ d ∷ ds) ≡ true) ⊎ (is_hexadecimal ((48 ∷ 120 ∷ h ∷ run) ++ d ∷ ds) ≡ true) ⊎ (is_binary ((48 ∷ 120 ∷ h ∷ run) ++ d ∷ ds) ≡ true) → ⊥
  by_form d ds after e (inl decimal) = false≢true decimal
  by_form d ds after e (inr (inl hexadecimal)) = no_more goes_on_hexadecimal run d ds (and_parts (is_ascii_hexdigit h) (list_all goes_on_hexadecimal (run ++ d ∷ ds)) hexadecimal).1 (next_fails goes_on_hexadecimal rest d ds after stop e)
  by_form d ds after e (inr (inr binary)) = false≢true binary

  no_longer : (more after : List ℕ) → more ≢ [] → rest ≡ more ++ after → IsToken ((48 ∷ 120 ∷ h ∷ run) ++ more) → ⊥
  no_longer [] after some e token = some refl
  no_longer (d ∷ ds) after some e token = by_form d ds after e (number_cases ((48 ∷ 120 ∷ h ∷ run) ++ d ∷ ds) (number_from ((48 ∷ 120 ∷ h ∷ run) ++ d ∷ ds) token refl))

binary_longest : (h : ℕ) (run rest : List ℕ) → is_binary_digit h ≡ true → list_all goes_on_binary run ≡ true → goes_on_binary (slice_index rest 0) ≡ false → IsLongestToken (48 ∷ 98 ∷ h ∷ run) rest
binary_longest h run rest digit all stop = record {
  is_token = inr (inl (and_from (is_binary_digit h) (list_all goes_on_binary run) digit all));
  longest = λ more after some e token. no_longer more after some e token;
} where
  by_form : (d : ℕ) (ds after : List ℕ) → rest ≡ (d ∷ ds) ++ after → (is_decimal ((48 ∷ 98 ∷ h ∷ run) ++ d ∷ ds) ≡ true) ⊎ (is_hexadecimal ((48 ∷ 98 ∷ h ∷ run) ++ d ∷ ds) ≡ true) ⊎ (is_binary ((48 ∷ 98 ∷ h ∷ run) ++ d ∷ ds) ≡ true) → ⊥
  by_form d ds after e (inl decimal) = false≢true decimal
  by_form d ds after e (inr (inl hexadecimal)) = false≢true hexadecimal
  by_form d ds after e (inr (inr binary)) = no_more goes_on_binary run d ds (and_parts (is_binary_digit h) (list_all goes_on_binary (run ++ d ∷ ds)) binary).1 (next_fails goes_on_binary rest d ds after stop e)

  no_longer : (more after : List ℕ) → more ≢ [] → rest ≡ more ++ after → IsToken ((48 ∷ 98 ∷ h ∷ run) ++ more) → ⊥
  no_longer [] after some e token = some refl
  no_longer (d ∷ ds) after some e token =
      by_form d ds after e (number_cases ((48 ∷ 98 ∷ h ∷ run) ++ d ∷ ds) (number_from ((48 ∷ 98 ∷ h ∷ run) ++ d ∷ ds) token refl))

prefix_length : (p : ℕ → Bool) (second h len : ℕ) (cs : List ℕ) → p h ≡ true → len ≡ prefix_len p (h ∷ cs) → 2 + len ≡ length (48 ∷ second ∷ h ∷ take (prefix_len p cs) cs)
prefix_length p second h len cs digit e =
    omega (arith, e ∙ run_of_cons p h cs digit, length-prefix_len p cs)

pub hexadecimal_prefix : (text : List ℕ) (len : ℕ) → HasPrefix 120 is_ascii_hexdigit text → len ≡ prefix_len goes_on_hexadecimal (drop 2 text) → IsTokenPrefixLen text (2 + len)
hexadecimal_prefix [] len begins e = absurd (false≢true begins.2)
hexadecimal_prefix (a ∷ []) len begins e = absurd (false≢true begins.2)
hexadecimal_prefix (a ∷ b ∷ []) len begins e = absurd (false≢true begins.2)
hexadecimal_prefix (a ∷ b ∷ h ∷ cs) len begins e =
    let n = prefix_len goes_on_hexadecimal cs in
    let facts = run_facts goes_on_hexadecimal refl cs in
    let zero_first : a ≡ 48 = begins.0 in
    let then_x : b ≡ 120 = begins.1 in
    let split : a ∷ b ∷ h ∷ cs ≡ (48 ∷ 120 ∷ h ∷ take n cs) ++ drop n cs = (let tail : cs ≡ take n cs ++ drop n cs = sym (take-append-drop n cs) in cc) in
    token_prefix_len (a ∷ b ∷ h ∷ cs) (48 ∷ 120 ∷ h ∷ take n cs) (drop n cs) (2 + len) split
    (prefix_length goes_on_hexadecimal 120 h len cs (or_left (is_ascii_hexdigit h) (eqb h 95) begins.2) e)
    (hexadecimal_longest h (take n cs) (drop n cs) begins.2 facts.0 facts.1)

pub binary_prefix : (text : List ℕ) (len : ℕ) → HasPrefix 98 is_binary_digit text → len ≡ prefix_len goes_on_binary (drop 2 text) → IsTokenPrefixLen text (2 + len)
binary_prefix [] len begins e = absurd (false≢true begins.2)
binary_prefix (a ∷ []) len begins e = absurd (false≢true begins.2)
binary_prefix (a ∷ b ∷ []) len begins e = absurd (false≢true begins.2)
binary_prefix (a ∷ b ∷ h ∷ cs) len begins e =
    let n = prefix_len goes_on_binary cs in
    let facts = run_facts goes_on_binary refl cs in
    let zero_first : a ≡ 48 = begins.0 in
    let then_b : b ≡ 98 = begins.1 in
    let split : a ∷ b ∷ h ∷ cs ≡ (48 ∷ 98 ∷ h ∷ take n cs) ++ drop n cs = (let tail : cs ≡ take n cs ++ drop n cs = sym (take-append-drop n cs) in cc) in
    token_prefix_len (a ∷ b ∷ h ∷ cs) (48 ∷ 98 ∷ h ∷ take n cs) (drop n cs) (2 + len) split
    (prefix_length goes_on_binary 98 h len cs (or_left (is_binary_digit h) (eqb h 95) begins.2) e)
    (binary_longest h (take n cs) (drop n cs) begins.2 facts.0 facts.1)

pub prefixed_fits : (p : ℕ → Bool) (text : List ℕ) (len : ℕ) → 2 ≤ length text → length text < 2 ^ 64 → len ≡ prefix_len p (drop 2 text) → 2 + len < 2 ^ 64
prefixed_fits p text len room small e = omega (arith, e, prefix_len-le-length p (drop 2 text), length-drop 2 text)

-- ---- strings

-- two words that end at the first quote of a text are one
quotes_meet : (a b x y : List ℕ) → list_all is_word_byte a ≡ true → list_all is_word_byte b ≡ true → a ++ 34 ∷ x ≡ b ++ 34 ∷ y → x ≡ y
quotes_meet [] [] x y p q e = cc
quotes_meet [] (b ∷ bs) x y p q e = let same : 34 ≡ b = cc in absurd (false≢true (rw (← same) at (and_parts (is_word_byte b) (list_all is_word_byte bs) q).0))
quotes_meet (a ∷ xs) [] x y p q e = let same : 34 ≡ a = cc in absurd (false≢true (rw (← same) at (and_parts (is_word_byte a) (list_all is_word_byte xs) p).0))
quotes_meet (a ∷ xs) (b ∷ ys) x y p q e =
    quotes_meet xs ys x y (and_parts (is_word_byte a) (list_all is_word_byte xs) p).1 (and_parts (is_word_byte b) (list_all is_word_byte ys) q).1 (let tail : xs ++ 34 ∷ x ≡ ys ++ 34 ∷ y = cc in tail)

pub word_bytes : (bytes : List ℕ) → is_word bytes ≡ true → list_all is_word_byte bytes ≡ true
word_bytes [] h = refl
word_bytes (c ∷ cs) h =
    let parts = and_parts (begins_word c) (list_all is_word_byte cs) h in
    and_from (is_word_byte c) (list_all is_word_byte cs) (word_parts c parts.0) parts.1

string_longest : (name rest : List ℕ) → is_word name ≡ true → IsLongestToken (34 ∷ (name ++ 34 ∷ [])) rest
string_longest name rest word = record {
  is_token = inr (inr (inl (name, word, refl)));
  longest = λ more after some e token. some (no_more_quoted more token);
} where
  no_more_quoted : (more : List ℕ) → IsToken ((34 ∷ (name ++ 34 ∷ [])) ++ more) → more ≡ []
  no_more_quoted more token =
      let other = string_from ((34 ∷ (name ++ 34 ∷ [])) ++ more) token refl in
      let tails : (name ++ 34 ∷ []) ++ more ≡ other.0 ++ 34 ∷ [] = (let whole : 34 ∷ ((name ++ 34 ∷ []) ++ more) ≡ 34 ∷ (other.0 ++ 34 ∷ []) = other.2 in cc) in
      quotes_meet name other.0 more [] (word_bytes name word) (word_bytes other.0 other.1) (sym (append_assoc name (34 ∷ []) more) ∙ tails)

-- a run up to a byte that fails
run_up_to : (p : ℕ → Bool) (a : List ℕ) (d : ℕ) (x : List ℕ) → list_all p a ≡ true → p d ≡ false → prefix_len p (a ++ d ∷ x) ≡ length a
run_up_to p [] d x all fails = cond-false (p d) (1 + prefix_len p x) 0 fails
run_up_to p (c ∷ cs) d x all fails =
    let parts = and_parts (p c) (list_all p cs) all in
    run_of_cons p c (cs ++ d ∷ x) parts.0 ∙ ap suc (run_up_to p cs d x parts.1 fails)

byte_behind : (a x : List ℕ) (d : ℕ) → slice_index (a ++ d ∷ x) (length a) ≡ d
byte_behind [] x d = refl
byte_behind (c ∷ cs) x d = byte_behind cs x d

byte_within : (cs : List ℕ) (n d : ℕ) → slice_index cs n ≡ suc d → n < length cs
byte_within [] n d e = let zero : 0 ≡ suc d = e in absurd (omega arith)
byte_within (c ∷ cs) zero d e = omega arith
byte_within (c ∷ cs) (suc n) d e = omega (arith, byte_within cs n d e)

is_word_run : (cs : List ℕ) → begins_word (slice_index cs 0) ≡ true → is_word (take (prefix_len is_word_byte cs) cs) ≡ true
is_word_run [] h = absurd (false≢true h)
is_word_run (c ∷ cs) h =
    rw (run_of_cons is_word_byte c cs (word_parts c h)) (and_from (begins_word c) (list_all is_word_byte (take (prefix_len is_word_byte cs) cs)) h (run_facts is_word_byte refl cs).0)

pub string_prefix : (text name : List ℕ) (len : ℕ) → slice_index text 0 ≡ 34 → name ≡ drop 1 text → len ≡ prefix_len is_word_byte name → begins_word (slice_index name 0) ≡ true → slice_index name len ≡ 34 → IsTokenPrefixLen text (len + 2)
string_prefix [] name len quote from e begins closes = absurd (false≢true (let zero : 0 ≡ 34 = quote in cc))
string_prefix (c ∷ cs) name len quote from e begins closes =
    let same : name ≡ cs = from in
    let word : is_word (take len cs) ≡ true = rw e (rw same (is_word_run cs (subst (λ s. begins_word (slice_index s 0) ≡ true) same begins))) in
    let within : len < length cs = byte_within cs len 33 (subst (λ s. slice_index s len ≡ 34) same closes) in
    let split : cs ≡ (take len cs ++ 34 ∷ []) ++ drop (suc len) cs =
    sym (take-append-drop len cs) ∙ ap (λ t. take len cs ++ t) (drop-cons cs len 0 within ∙ ap (λ d. d ∷ drop (suc len) cs) (subst (λ s. slice_index s len ≡ 34) same closes)) ∙ sym (append_assoc (take len cs) (34 ∷ []) (drop (suc len) cs)) in
    token_prefix_len (c ∷ cs) (34 ∷ (take len cs ++ 34 ∷ [])) (drop (suc len) cs) (len + 2)
    (let first : c ≡ 34 = quote in cc)
    (omega (arith, length-append (take len cs) (34 ∷ []), length-take-le len cs (omega (arith, within))))
    (string_longest (take len cs) (drop (suc len) cs) word)

string_name_begins : (word rest name : List ℕ) → name ≡ word ++ 34 ∷ rest → is_word word ≡ true → begins_word (slice_index name 0) ≡ true
string_name_begins [] rest name e word = absurd (false≢true word)
string_name_begins (c ∷ cs) rest name e word = rw e (word_begins (c ∷ cs) word)

pub no_string : (text name : List ℕ) (len : ℕ) → slice_index text 0 ≡ 34 → name ≡ drop 1 text → len ≡ prefix_len is_word_byte name → (begins_word (slice_index name 0) ≡ true → slice_index name len ≡ 34 → ⊥) → HasNoTokenPrefix text
no_string text name len quote from e none [] rest split token = some_token token
no_string text name len quote from e none (t ∷ ts) rest split token =
    let first : t ≡ 34 = ap (λ s. slice_index s 0) (sym split) ∙ quote in
    let string = string_from (t ∷ ts) token first in
    let tail : ts ≡ string.0 ++ 34 ∷ [] = (let whole : t ∷ ts ≡ 34 ∷ (string.0 ++ 34 ∷ []) = string.2 in cc) in
    let there : name ≡ string.0 ++ 34 ∷ rest = from ∙ ap (drop 1) split ∙ ap (λ s. s ++ rest) tail ∙ append_assoc string.0 (34 ∷ []) rest in
    none (string_name_begins string.0 rest name there string.1)
    (ap (slice_index name) (e ∙ ap (prefix_len is_word_byte) there ∙ run_up_to is_word_byte string.0 34 rest (word_bytes string.0 string.1) refl) ∙ ap (λ s. slice_index s (length string.0)) there ∙ byte_behind string.0 rest 34)

-- ---- marks

-- no later spelling is longer than an earlier one
is_descending : List Spelling → Bool
is_descending [] = true
is_descending (s ∷ ss) = list_all (λ o. nat_le (length o.0) (length s.0)) ss && is_descending ss

begins_with : (text m : List ℕ) → starts_with nat_eq text m ≡ true → m ≡ take (length m) text
begins_with text m h = (bytes_eq-Decides m (take (length m) text)).0 h

begins_prefix : (text m r : List ℕ) → text ≡ m ++ r → starts_with nat_eq text m ≡ true
begins_prefix text m r e = rw e ((bytes_eq-Decides m (take (length m) (m ++ r))).1 (sym (take_all m r)))

-- a shorter one at most
not_longer : (ss : List Spelling) (m : List ℕ) (most : ℕ) → list_all (λ o. nat_le (length o.0) most) ss ≡ true → list_any (λ s. bytes_eq s.0 m) ss ≡ true → length m ≤ most
not_longer ss m most all among = leb-true (length m) most (passes_among (λ b. nat_le (length b) most) m ss all among)

-- the first that begins the text is among them and the longest of those that do
pub record IsFirstTokenPrefix (ss : List Spelling) (text : List ℕ) (len : ℕ) : Type 0 where
  pub mark : List ℕ
  pub rest : List ℕ
  pub among : list_any (λ s. bytes_eq s.0 mark) ss ≡ true
  pub split : text ≡ mark ++ rest
  pub length_is : len ≡ length mark
  pub most : (m r : List ℕ) → list_any (λ s. bytes_eq s.0 m) ss ≡ true → text ≡ m ++ r → length m ≤ len

first_is : (ss : List Spelling) (text : List ℕ) (len : ℕ) → is_descending ss ≡ true → first_prefix ss text ≡ Some len → IsFirstTokenPrefix ss text len
unfolding is_descending
first_is [] text len ordered e = cc
first_is (s ∷ ss) text len ordered e =
    let parts = and_parts (list_all (λ o. nat_le (length o.0) (length s.0)) ss) (is_descending ss) ordered in
    go (starts_with nat_eq text s.0) refl parts.0 (λ found. first_is ss text len parts.1 found) e where
      go : (b : Bool) → starts_with nat_eq text s.0 ≡ b → list_all (λ o. nat_le (length o.0) (length s.0)) ss ≡ true → (first_prefix ss text ≡ Some len → IsFirstTokenPrefix ss text len) → (if b then Some (length s.0) else first_prefix ss text) ≡ Some len → IsFirstTokenPrefix (s ∷ ss) text len
      go true is all later e =
          let len_is : len ≡ length s.0 = cc in
          let front : s.0 ≡ take (length s.0) text = begins_with text s.0 is in
          record {
            mark = s.0;
            rest = drop (length s.0) text;
            among = or_left (bytes_eq s.0 s.0) (list_any (λ o. bytes_eq o.0 s.0) ss) ((bytes_eq-Decides s.0 s.0).1 refl);
            split = sym (take-append-drop (length s.0) text) ∙ ap (λ t. t ++ drop (length s.0) text) (sym front);
            length_is = len_is;
            most = λ m r among split. elim (or_cases (bytes_eq s.0 m) (list_any (λ o. bytes_eq o.0 m) ss) among) [
              | inl here ↦ omega (arith, len_is, ap length ((bytes_eq-Decides s.0 m).0 here))
              | inr there ↦ omega (arith, len_is, not_longer ss m (length s.0) all there)
            ];
          }
      go false is all later e =
          let tail = later e in
          record {
            mark = tail.mark;
            rest = tail.rest;
            among = or_right (bytes_eq s.0 tail.mark) (list_any (λ o. bytes_eq o.0 tail.mark) ss) tail.among;
            split = tail.split;
            length_is = tail.length_is;
            most = λ m r among split. elim (or_cases (bytes_eq s.0 m) (list_any (λ o. bytes_eq o.0 m) ss) among) [
              | inl here ↦ absurd (both_ways (starts_with nat_eq text s.0) is (begins_prefix text s.0 r (split ∙ ap (λ x. x ++ r) (sym ((bytes_eq-Decides s.0 m).0 here)))))
              | inr there ↦ tail.most m r there split
            ];
          }

none_begins : (ss : List Spelling) (text m r : List ℕ) → first_prefix ss text ≡ None → list_any (λ s. bytes_eq s.0 m) ss ≡ true → text ≡ m ++ r → ⊥
none_begins [] text m r e among split = false≢true among
none_begins (s ∷ ss) text m r e among split = go (starts_with nat_eq text s.0) refl (λ found there. none_begins ss text m r found there split) e where
  go : (b : Bool) → starts_with nat_eq text s.0 ≡ b → (first_prefix ss text ≡ None → list_any (λ o. bytes_eq o.0 m) ss ≡ true → ⊥) → (if b then Some (length s.0) else first_prefix ss text) ≡ None → ⊥
  go true is later e = cc
  go false is later e = elim (or_cases (bytes_eq s.0 m) (list_any (λ o. bytes_eq o.0 m) ss) among) [
    | inl here ↦ both_ways (starts_with nat_eq text s.0) is (begins_prefix text s.0 r (split ∙ ap (λ x. x ++ r) (sym ((bytes_eq-Decides s.0 m).0 here))))
    | inr there ↦ later e there
  ]

-- no word, number or string begins the text
pub record BeginsOtherwise (text : List ℕ) : Type 0 where
  pub no_word : begins_word (slice_index text 0) ≡ false
  pub no_digit : is_ascii_digit (slice_index text 0) ≡ false
  pub no_quote : slice_index text 0 ≢ 34

prefix_mark : (text token rest : List ℕ) → BeginsOtherwise text → text ≡ token ++ rest → IsToken token → is_mark token ≡ true
prefix_mark text [] rest o split token = absurd (some_token token)
prefix_mark text (c ∷ cs) rest o split token =
    let same : slice_index text 0 ≡ c = ap (λ s. slice_index s 0) split in
    mark_from (c ∷ cs) token (rw (← same) o.no_word) (rw (← same) o.no_digit) (rw (← same) o.no_quote)

pub mark_prefix : (text : List ℕ) (len : ℕ) → BeginsOtherwise text → first_prefix marks text ≡ Some len → IsTokenPrefixLen text len
unfolding is_descending
mark_prefix text len o e =
    let first = first_is marks text len refl e in
    token_prefix_len text first.mark first.rest len first.split first.length_is (record {
      is_token = inr (inr (inr first.among));
      longest = λ more after some behind token.
          let split : text ≡ (first.mark ++ more) ++ after = first.split ∙ ap (λ r. first.mark ++ r) behind ∙ sym (append_assoc first.mark more after) in
          some (nil_from_length more (omega (arith, first.most (first.mark ++ more) after (prefix_mark text (first.mark ++ more) after o split token) split, first.length_is, length-append first.mark more)));
    })

pub no_mark : (text : List ℕ) → BeginsOtherwise text → first_prefix marks text ≡ None → HasNoTokenPrefix text
no_mark text o e token rest split is_token = none_begins marks text token rest e (prefix_mark text token rest o split is_token) split

-- ---- all of them

-- what no token begins has no token to stand there
pub nothing_stands : (text : List ℕ) → HasNoTokenPrefix text → BeginsNoToken text
nothing_stands text none token rest split stands = none token rest split stands.longest.is_token

first_kept : (text : List ℕ) (len : ℕ) → 0 < len → len ≤ length text → slice_index (take len text) 0 ≡ slice_index text 0
first_kept [] len some within = absurd (omega arith)
first_kept (c ∷ cs) len some within = let more : len ≡ suc (len - 1) = omega arith in rw more refl

-- the longest one stands there, where it is no number
pub prefix_stands : (text : List ℕ) (len : ℕ) → is_ascii_digit (slice_index text 0) ≡ false → IsTokenPrefixLen text len → IsTokenLen text len
prefix_stands text len no_digit front =
    let no_number : is_number (take len text) ≡ true → ⊥ = λ h. both_ways (is_ascii_digit (slice_index text 0)) no_digit (subst (λ c. is_ascii_digit c ≡ true) (first_kept text len front.some front.within) (number_begins (take len text) h)) in
    record {
      some = front.some;
      within = front.within;
      stands = record { longest = front.longest; no_letter = λ h. absurd (no_number h); in_range = λ h. absurd (no_number h) };
    }

-- what was found there, or nothing
pub found_stands : (text : List ℕ) (found : Option ℕ) → is_ascii_digit (slice_index text 0) ≡ false → MatchOption found (HasNoTokenPrefix text) (λ len. IsTokenPrefixLen text len) → MatchOption found (BeginsNoToken text) (λ len. IsTokenLen text len)
found_stands text None no_digit none = nothing_stands text none
found_stands text (Some len) no_digit front = prefix_stands text len no_digit front

pub mark_stands : (text : List ℕ) (found : Option ℕ) → BeginsOtherwise text → found ≡ first_prefix marks text → MatchOption found (BeginsNoToken text) (λ len. IsTokenLen text len)
mark_stands text None o e = nothing_stands text (no_mark text o (sym e))
mark_stands text (Some len) o e = prefix_stands text len o.no_digit (mark_prefix text len o (sym e))

-- where the longest token is a number that has a letter behind it or is too large, none stands there
pub bad_number : (text : List ℕ) (len : ℕ) → is_ascii_digit (slice_index text 0) ≡ true → IsTokenPrefixLen text len → (is_ascii_alphabetic (slice_index (drop len text) 0) ≡ false → number_value (take len text) < 2 ^ 128 → ⊥) → BeginsNoToken text
bad_number text len digit front bad token rest split stands =
    let one = longest_is_one (take len text) token (drop len text) rest front.longest stands.longest (take-append-drop len text ∙ split) in
    let number : is_number token ≡ true = number_from token stands.longest.is_token (subst (λ t. is_ascii_digit (slice_index t 0) ≡ true) one.0 (subst (λ c. is_ascii_digit c ≡ true) (sym (first_kept text len front.some front.within)) digit)) in
    bad (subst (λ r. is_ascii_alphabetic (slice_index r 0) ≡ false) (sym one.1) (stands.no_letter number)) (subst (λ t. number_value t < 2 ^ 128) (sym one.0) (stands.in_range number))

pub word_no_digit : (c : ℕ) → begins_word c ≡ true → is_ascii_digit c ≡ false
word_no_digit c h = grind (arith, nat_tests)

pub quote_no_digit : (c : ℕ) → c ≡ 34 → is_ascii_digit c ≡ false
quote_no_digit c e = rw e refl

pub none_means : {T : Type 0} (r : Option T) (P : Type 0) (v : T) → SomeIff r P v → is_some r ≡ false → ¬ P
none_means None P v none h = none
none_means (Some x) P v some h = absurd (false≢true (sym h))
