-- A token at the front of a text has a length.
use Rattle.std.proofs.Common.{◌≡◌, ℕ, suc, ◌+◌, ◌<◌, ◌≤◌, ◌^◌, ◌==◌, nat_lt, Bool, true, false, List, [], ◌∷◌, take, drop, length, Option, Some, None, refl, sym, subst, ap, ◌∙◌, arith}
use Rattle.std.specs.Prelude.{if◌then◌else◌, ◌&&◌, bytes_eq, codes, slice_index, IfSome, IfOk, MatchOption, Result, Ok, Err}
use Rattle.std.specs.List.{prefix_len}
use Rattle.std.specs.Char.{is_ascii_digit, digit_value}
use Rattle.std.specs.Str.Parse.{AllDigits}
use Rattle.std.proofs.lemmas.Bool.Decides.{nat_tests}
use Rattle.base.specs.Texts.Words.{begins_word, is_word_byte}
use Rattle.vlog_text.specs.declared.token.rules.generated.kind.TheConstants.{END}
use Rattle.vlog_text.specs.Token.TokenPrefixes.{digit_run, begins_literal, is_in_range, number_len, mark_len, is_triple, single_kind, double_kind, word_run, signed_len, token_prefix_len}
use Rattle.vlog_text.specs.Token.Inner.Entries.{HasTokenOf}

is_digit : (c : ℕ) → is_ascii_digit c ≡ true → digit_value c < 10
is_digit c h = grind (arith, nat_tests)

digits_if : (b : Bool) (c : ℕ) (cs : List ℕ) (n : ℕ) → (b ≡ true → digit_value c < 10) → AllDigits 10 (take n cs) → AllDigits 10 (take (if b then (1 + n) else 0) (c ∷ cs))
digits_if true c cs n h rest = let e : suc n ≡ 1 + n = omega arith in subst (λ k. AllDigits 10 (take k (c ∷ cs))) e (h refl, rest)
digits_if false c cs n h rest = tt

run_step : (c : ℕ) (cs : List ℕ) → AllDigits 10 (take (digit_run cs) cs) → AllDigits 10 (take (digit_run (c ∷ cs)) (c ∷ cs))
run_step c cs rest = digits_if (is_ascii_digit c) c cs (prefix_len is_ascii_digit cs) (is_digit c) rest

pub run_digits : (text : List ℕ) → AllDigits 10 (take (digit_run text) text)
run_digits [] = tt
run_digits (c ∷ cs) = run_step c cs (run_digits cs)

-- a choice of two that gives a number
pub either_some : (b : Bool) (x y : Option ℕ) (P : ℕ → Type 0) → (b ≡ true → (n : ℕ) → x ≡ Some n → P n) → (b ≡ false → (n : ℕ) → y ≡ Some n → P n) → (n : ℕ) → (if b then x else y) ≡ Some n → P n
either_some true x y P f g n e = f refl n e
either_some false x y P f g n e = g refl n e

is_some : (m n : ℕ) (P : ℕ → Type 0) → Some m ≡ Some n → P m → P n
is_some m n P e h = let same : m ≡ n = cc in subst (λ k. P k) same h

none_gives : (n : ℕ) (P : ℕ → Type 0) → None ≡ Some n → P n
none_gives n P e = let no : ⊥ = cc in absurd no

-- marks: a text that shows so many characters that aren't 0 has so many
seen_one : (c : ℕ) (cs : List ℕ) → 1 ≤ length (c ∷ cs)
seen_one c cs = omega arith

triple_long : (c : ℕ) (cs : List ℕ) → is_triple c (slice_index (c ∷ cs) 1) (slice_index (c ∷ cs) 2) ≡ true → 3 ≤ length (c ∷ cs)
triple_long c [] h = absurd (grind (arith, nat_tests))
triple_long c (d ∷ []) h = absurd (grind (arith, nat_tests))
triple_long c (d ∷ e ∷ cs) h = omega arith

double_long : (c : ℕ) (cs : List ℕ) → nat_lt (double_kind c (slice_index (c ∷ cs) 1)) END ≡ true → 2 ≤ length (c ∷ cs)
double_long c [] h = let no : nat_lt END END ≡ true = h in absurd (cc)
double_long c (d ∷ cs) h = omega arith

pub mark_within : (c : ℕ) (cs : List ℕ) (len : ℕ) → mark_len c (slice_index (c ∷ cs) 1) (slice_index (c ∷ cs) 2) ≡ Some len → len ≤ length (c ∷ cs)
unfolding mark_len
mark_within c cs =
    either_some (is_triple c (slice_index (c ∷ cs) 1) (slice_index (c ∷ cs) 2)) (Some 3) _ (λ n. n ≤ length (c ∷ cs))
    (λ h n e. is_some 3 n (λ m. m ≤ length (c ∷ cs)) e (triple_long c cs h))
    (λ other.
    either_some (nat_lt (double_kind c (slice_index (c ∷ cs) 1)) END) (Some 2) _ (λ n. n ≤ length (c ∷ cs))
    (λ h n e. is_some 2 n (λ m. m ≤ length (c ∷ cs)) e (double_long c cs h))
    (λ single.
    either_some (nat_lt (single_kind c) END) (Some 1) None (λ n. n ≤ length (c ∷ cs))
    (λ h n e. is_some 1 n (λ m. m ≤ length (c ∷ cs)) e (seen_one c cs))
    (λ none n e. none_gives n (λ m. m ≤ length (c ∷ cs)) e)))

within_some : (text : List ℕ) (o : Option ℕ) (len : Option ℕ) → o ≡ len → ((n : ℕ) → len ≡ Some n → n ≤ length text) → IfSome o (λ n. n ≤ length text)
within_some text None len e h = tt
within_some text (Some n) len e h = h n (sym e)

pub mark_fits : (text : List ℕ) (o : Option ℕ) → o ≡ mark_len (slice_index text 0) (slice_index text 1) (slice_index text 2) → IfSome o (λ n. n ≤ length text)
unfolding mark_len
mark_fits [] o e = within_some [] o None (e) (λ n h. none_gives n (λ m. m ≤ 0) h)
mark_fits (c ∷ cs) o e = within_some (c ∷ cs) o (mark_len c (slice_index (c ∷ cs) 1) (slice_index (c ∷ cs) 2)) e (mark_within c cs)

-- ---- some length

if_some : (b : Bool) (m : ℕ) → b ≡ true → 0 < (if b then (1 + m) else 0)
if_some true m h = omega arith
if_some false m h = absurd (cc)

begins_goes : (c : ℕ) → begins_word c ≡ true → is_word_byte c ≡ true
begins_goes c h = grind (arith, nat_tests)

word_some : (c : ℕ) (cs : List ℕ) → begins_word c ≡ true → 0 < prefix_len is_word_byte (c ∷ cs)
word_some c cs h = if_some (is_word_byte c) (prefix_len is_word_byte cs) (begins_goes c h)

digit_some : (c : ℕ) (cs : List ℕ) → is_ascii_digit c ≡ true → 0 < prefix_len is_ascii_digit (c ∷ cs)
digit_some c cs h = if_some (is_ascii_digit c) (prefix_len is_ascii_digit cs) h

number_some : (c : ℕ) (cs : List ℕ) → is_ascii_digit c ≡ true → (n : ℕ) → number_len (c ∷ cs) ≡ Some n → 0 < n
unfolding number_len
number_some c cs h =
    let some : 0 < digit_run (c ∷ cs) = digit_some c cs h in
    either_some (begins_literal (c ∷ cs)) _ (Some (digit_run (c ∷ cs))) (λ n. 0 < n)
    (λ literal.
    either_some (is_in_range (c ∷ cs)) (Some (digit_run (c ∷ cs) + 2 + digit_run (drop (digit_run (c ∷ cs) + 2) (c ∷ cs)))) None (λ n. 0 < n)
    (λ fits n e. is_some _ n (λ m. 0 < m) e (omega (arith, some)))
    (λ out n e. none_gives n (λ m. 0 < m) e))
    (λ number n e. is_some _ n (λ m. 0 < m) e some)

signed_some : (c : ℕ) (cs : List ℕ) (n : ℕ) → signed_len (c ∷ cs) ≡ Some n → 0 < n
signed_some c cs =
    either_some (bytes_eq (take 7 (c ∷ cs)) (codes "$signed")) (Some 7) None (λ n. 0 < n)
    (λ is n e. is_some 7 n (λ m. 0 < m) e (omega arith)) (λ other n e. none_gives n (λ m. 0 < m) e)

mark_some : (c d e n : ℕ) → mark_len c d e ≡ Some n → 0 < n
unfolding mark_len
mark_some c d e =
    either_some (is_triple c d e) (Some 3) _ (λ n. 0 < n) (λ h n e. is_some 3 n (λ m. 0 < m) e (omega arith))
    (λ other. either_some (nat_lt (double_kind c d) END) (Some 2) _ (λ n. 0 < n) (λ h n e. is_some 2 n (λ m. 0 < m) e (omega arith))
    (λ single. either_some (nat_lt (single_kind c) END) (Some 1) None (λ n. 0 < n) (λ h n e. is_some 1 n (λ m. 0 < m) e (omega arith))
    (λ none n e. none_gives n (λ m. 0 < m) e)))

pub prefix_some : (c : ℕ) (cs : List ℕ) (len : ℕ) → token_prefix_len (c ∷ cs) ≡ Some len → 0 < len
unfolding token_prefix_len
prefix_some c cs =
    either_some (begins_word c) (Some (word_run (c ∷ cs))) _ (λ n. 0 < n)
    (λ h n e. is_some (word_run (c ∷ cs)) n (λ m. 0 < m) e (word_some c cs h))
    (λ other.
    either_some (is_ascii_digit c) (number_len (c ∷ cs)) _ (λ n. 0 < n) (number_some c cs)
    (λ no_digit.
    either_some (c == 36) (signed_len (c ∷ cs)) _ (λ n. 0 < n) (λ is. signed_some c cs)
    (λ mark. mark_some c (slice_index (c ∷ cs) 1) (slice_index (c ∷ cs) 2))))

found_so : (text : List ℕ) (o : Option ℕ) → o ≡ token_prefix_len text → IfSome o (λ len. len ≤ length text) → MatchOption o (token_prefix_len text ≡ None) (λ len. HasTokenOf text len)
unfolding token_prefix_len mark_len
found_so text None e h = sym e
found_so [] (Some len) e h = let no : ⊥ = cc in absurd no
found_so (c ∷ cs) (Some len) e h = record { front = sym e; some = prefix_some c cs len (sym e); within = h }

pub prefix_found : {E : Type 0} (text : List ℕ) (r : Result (Option ℕ) E) → IfOk r (λ o. o ≡ token_prefix_len text) → IfOk r (λ o. IfSome o (λ len. len ≤ length text)) → IfOk r (λ o. MatchOption o (token_prefix_len text ≡ None) (λ len. HasTokenOf text len))
prefix_found text (Ok o) e h = found_so text o e h
prefix_found text (Err x) e h = tt

-- what was found, as a choice of two
pub none_of : (text : List ℕ) (o : Option ℕ) → MatchOption o (token_prefix_len text ≡ None) (λ len. HasTokenOf text len) → o ≡ None → token_prefix_len text ≡ None
none_of text None m e = m
none_of text (Some x) m e = let no : ⊥ = cc in absurd no

pub some_of : (text : List ℕ) (o : Option ℕ) (len : ℕ) → MatchOption o (token_prefix_len text ≡ None) (λ len. HasTokenOf text len) → o ≡ Some len → HasTokenOf text len
some_of text None len m e = let no : ⊥ = cc in absurd no
some_of text (Some x) len m e = let same : x ≡ len = cc in subst (λ n. HasTokenOf text n) same m
