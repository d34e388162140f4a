-- What the kind of a token says of its bytes.
use Rattle.std.proofs.Common.{◌≡◌, ◌⊎◌, ◌<◌, ◌^◌, ◌&&◌, ◌||◌, ◌++◌, ℕ, Bool, true, false, inl, inr, List, [], ◌∷◌, drop, eqb, ltb, refl, sym, subst, arith, bytes_eq}
use Rattle.std.proofs.lemmas.Bool.{false≢true, and_parts, or_left, ltb-true, cases_Bool, cond-true, cond-false}
use Rattle.std.specs.Prelude.{not, if◌then◌else◌}
use Rattle.std.specs.Char.{is_ascii_digit, is_ascii_hexdigit}
use Rattle.std.specs.List.{list_all}
use Rattle.std.specs.Str.{IsAscii}
use Rattle.std.proofs.lemmas.Slice.Eq.{bytes_eq-Decides}
use Rattle.std.proofs.lemmas.Bool.Decides.{nat_tests}
use Rattle.std.proofs.lemmas.Str.{IsAscii-append}
use Rattle.std.proofs.lemmas.Str.Ascii.{IsAscii-cons}
use Rattle.dslx_token.specs.declared.rules.generated.kind.TheConstants.{END, NAME, NUMBER, SIGNED, STRING, UNSIGNED}
use Rattle.base.specs.Texts.Words.{begins_word, is_word_byte}
use Rattle.dslx_token.specs.Characters.{is_binary_digit}
use Rattle.dslx_token.specs.Kinds.{Fits, plain_kind, word_kind}
use Rattle.dslx_token.specs.Lexical.{has_prefix, is_binary, is_decimal, is_grouped, is_hexadecimal, is_mark, is_number, is_sized, is_width, number_value, IsToken}
use Rattle.dslx_token.specs.Spelling.{keywords, marks, kind_among}
use Rattle.dslx_token.proofs.LongestTokens.{word_bytes}
use Rattle.dslx_token.proofs.TokenBytes.{kind_passes, number_cases, number_from, passes_among}

-- bytes that all pass are ASCII, where what passes is
all_ascii : (p : ℕ → Bool) → ((c : ℕ) → p c ≡ true → c < 128) → (bytes : List ℕ) → list_all p bytes ≡ true → IsAscii bytes
all_ascii p below [] h = λ i. omega arith
all_ascii p below (c ∷ cs) h =
    let parts = and_parts (p c) (list_all p cs) h in
    IsAscii-cons c cs (below c parts.0) (all_ascii p below cs parts.1)

word_byte_below : (c : ℕ) → is_word_byte c ≡ true → c < 128
word_byte_below c h = grind (arith, nat_tests)

grouped_ascii : (p : ℕ → Bool) → ((c : ℕ) → (p c || eqb c 95) ≡ true → c < 128) → (bytes : List ℕ) → is_grouped p bytes ≡ true → IsAscii bytes
grouped_ascii p below [] h = λ i. omega arith
grouped_ascii p below (c ∷ cs) h =
    let parts = and_parts (p c) (list_all (λ d. p d || eqb d 95) cs) h in
    IsAscii-cons c cs (below c (or_left (p c) (eqb c 95) parts.0)) (all_ascii (λ d. p d || eqb d 95) below cs parts.1)

decimal_below : (c : ℕ) → (is_ascii_digit c || eqb c 95) ≡ true → c < 128
decimal_below c h = grind (arith, nat_tests)

hexadecimal_below : (c : ℕ) → (is_ascii_hexdigit c || eqb c 95) ≡ true → c < 128
hexadecimal_below c h = grind (arith, nat_tests)

binary_below : (c : ℕ) → (is_binary_digit c || eqb c 95) ≡ true → c < 128
binary_below c h = grind (arith, nat_tests)

prefixed_ascii : (second : ℕ) → second < 128 → (p : ℕ → Bool) → ((c : ℕ) → (p c || eqb c 95) ≡ true → c < 128) → (bytes : List ℕ) → (has_prefix (48 ∷ second ∷ []) bytes && is_grouped p (drop 2 bytes)) ≡ true → IsAscii bytes
prefixed_ascii second small p below [] h = λ i. omega arith
prefixed_ascii second small p below (a ∷ []) h = absurd (false≢true (and_parts (has_prefix (48 ∷ second ∷ []) (a ∷ [])) false h).1)
prefixed_ascii second small p below (a ∷ b ∷ cs) h =
    let parts = and_parts (bytes_eq (a ∷ b ∷ []) (48 ∷ second ∷ [])) (is_grouped p cs) h in
    let same : a ∷ b ∷ [] ≡ 48 ∷ second ∷ [] = (bytes_eq-Decides (a ∷ b ∷ []) (48 ∷ second ∷ [])).0 parts.0 in
    let first : a ≡ 48 = cc in
    let behind : b ≡ second = cc in
    IsAscii-cons a (b ∷ cs) (omega (arith, first)) (IsAscii-cons b cs (omega (arith, behind, small)) (grouped_ascii p below cs parts.1))

number_ascii : (bytes : List ℕ) → (is_decimal bytes ≡ true) ⊎ (is_hexadecimal bytes ≡ true) ⊎ (is_binary bytes ≡ true) → IsAscii bytes
number_ascii bytes (inl h) = grouped_ascii is_ascii_digit decimal_below bytes h
number_ascii bytes (inr (inl h)) = prefixed_ascii 120 (omega arith) is_ascii_hexdigit hexadecimal_below bytes h
number_ascii bytes (inr (inr h)) = prefixed_ascii 98 (omega arith) is_binary_digit binary_below bytes h

-- a mark's bytes are ASCII
is_ascii_mark : List ℕ → Bool
is_ascii_mark bytes = list_all (λ c. ltb c 128) bytes

mark_ascii : (bytes : List ℕ) → is_mark bytes ≡ true → IsAscii bytes
unfolding is_ascii_mark
mark_ascii bytes h = all_ascii (λ c. ltb c 128) (λ c. ltb-true c 128) bytes (passes_among is_ascii_mark bytes marks refl h)

token_ascii : (bytes : List ℕ) → IsToken bytes → IsAscii bytes
token_ascii bytes (inl word) = all_ascii is_word_byte word_byte_below bytes (word_bytes bytes word)
token_ascii bytes (inr (inl number)) = number_ascii bytes (number_cases bytes number)
token_ascii bytes (inr (inr (inl string))) =
    rw string.2 (IsAscii-cons 34 (string.0 ++ 34 ∷ []) (omega arith) (IsAscii-append string.0 (34 ∷ []) (all_ascii is_word_byte word_byte_below string.0 (word_bytes string.0 string.1)) (IsAscii-cons 34 [] (omega arith) (λ i. omega arith))))
token_ascii bytes (inr (inr (inr mark))) = mark_ascii bytes mark

-- a kind that says nothing of the bytes
pub says_nothing : ℕ → Bool
says_nothing kind = not (eqb kind NUMBER || (eqb kind UNSIGNED || eqb kind SIGNED))

pub fits_freely : (kind : ℕ) (bytes : List ℕ) → says_nothing kind ≡ true → IsAscii bytes → Fits kind bytes
unfolding says_nothing
fits_freely kind bytes h ascii = record {
  ascii = ascii;
  value = λ e. absurd (false≢true (rw e at h));
  unsigned = λ e. absurd (false≢true (rw e at h));
  signed = λ e. absurd (false≢true (rw e at h));
}

sized_width : (letter : ℕ) (bytes : List ℕ) → is_sized letter bytes ≡ true → is_width (drop 1 bytes) ≡ true
sized_width letter [] h = absurd (false≢true h)
sized_width letter (c ∷ cs) h = (and_parts (eqb c letter) (is_width cs) h).1

fits_unsigned : (bytes : List ℕ) → is_width (drop 1 bytes) ≡ true → IsAscii bytes → Fits UNSIGNED bytes
fits_unsigned bytes h ascii = record {
  ascii = ascii;
  value = λ e. absurd (omega (arith, e));
  unsigned = λ e. h;
  signed = λ e. absurd (omega (arith, e));
}

fits_signed : (bytes : List ℕ) → is_width (drop 1 bytes) ≡ true → IsAscii bytes → Fits SIGNED bytes
fits_signed bytes h ascii = record {
  ascii = ascii;
  value = λ e. absurd (omega (arith, e));
  unsigned = λ e. absurd (omega (arith, e));
  signed = λ e. h;
}

fits_number : (bytes : List ℕ) → number_value bytes < 2 ^ 128 → IsAscii bytes → Fits NUMBER bytes
fits_number bytes h ascii = record {
  ascii = ascii;
  value = λ e. h;
  unsigned = λ e. absurd (omega (arith, e));
  signed = λ e. absurd (omega (arith, e));
}

word_fits : (bytes : List ℕ) → IsAscii bytes → Fits (word_kind bytes) bytes
unfolding says_nothing
word_fits bytes ascii = elim (cases_Bool (is_sized 117 bytes)) [
  | inl unsigned ↦ subst (λ k. Fits k bytes) (sym (cond-true (is_sized 117 bytes) UNSIGNED (if is_sized 115 bytes then SIGNED else kind_among keywords bytes NAME) unsigned)) (fits_unsigned bytes (sized_width 117 bytes unsigned) ascii)
  | inr other ↦ subst (λ k. Fits k bytes) (sym (cond-false (is_sized 117 bytes) UNSIGNED (if is_sized 115 bytes then SIGNED else kind_among keywords bytes NAME) other))
      (elim (cases_Bool (is_sized 115 bytes)) [
        | inl signed ↦ subst (λ k. Fits k bytes) (sym (cond-true (is_sized 115 bytes) SIGNED (kind_among keywords bytes NAME) signed)) (fits_signed bytes (sized_width 115 bytes signed) ascii)
        | inr keyword ↦ subst (λ k. Fits k bytes) (sym (cond-false (is_sized 115 bytes) SIGNED (kind_among keywords bytes NAME) keyword)) (fits_freely (kind_among keywords bytes NAME) bytes (kind_passes says_nothing bytes NAME keywords refl refl) ascii)
      ])
]

-- a token that stands in a text fits its kind
pub token_fits : (bytes : List ℕ) → IsToken bytes → (is_number bytes ≡ true → number_value bytes < 2 ^ 128) → Fits (plain_kind bytes) bytes
unfolding says_nothing
token_fits [] token in_range = fits_freely END [] refl (token_ascii [] token)
token_fits (c ∷ cs) token in_range = elim (cases_Bool (begins_word c)) [
  | inl word ↦ subst (λ k. Fits k (c ∷ cs)) (sym (cond-true (begins_word c) (word_kind (c ∷ cs)) _ word)) (word_fits (c ∷ cs) (token_ascii (c ∷ cs) token))
  | inr no_word ↦ subst (λ k. Fits k (c ∷ cs)) (sym (cond-false (begins_word c) (word_kind (c ∷ cs)) _ no_word))
      (elim (cases_Bool (is_ascii_digit c)) [
        | inl digit ↦ subst (λ k. Fits k (c ∷ cs)) (sym (cond-true (is_ascii_digit c) NUMBER _ digit)) (fits_number (c ∷ cs) (in_range (number_from (c ∷ cs) token digit)) (token_ascii (c ∷ cs) token))
        | inr no_digit ↦ subst (λ k. Fits k (c ∷ cs)) (sym (cond-false (is_ascii_digit c) NUMBER _ no_digit))
            (elim (cases_Bool (eqb c 34)) [
              | inl quote ↦ subst (λ k. Fits k (c ∷ cs)) (sym (cond-true (eqb c 34) STRING _ quote)) (fits_freely STRING (c ∷ cs) refl (token_ascii (c ∷ cs) token))
              | inr mark ↦ subst (λ k. Fits k (c ∷ cs)) (sym (cond-false (eqb c 34) STRING _ mark)) (fits_freely (kind_among marks (c ∷ cs) END) (c ∷ cs) (kind_passes says_nothing (c ∷ cs) END marks refl refl) (token_ascii (c ∷ cs) token))
            ])
      ])
]
