-- Which characters the tokens of each kind begin with and are made of.
use Rattle.std.proofs.Common.{◌≡◌, ◌≢◌, ◌⊎◌, ℕ, Bool, true, false, ◌||◌, ◌&&◌, inl, inr, List, [], ◌∷◌, ◌++◌, drop, eqb, refl, ap, subst, arith}
use Rattle.std.proofs.lemmas.Bool.{false≢true, and_parts, or_cases, both_ways, not-true}
use Rattle.std.proofs.lemmas.Bool.Decides.{nat_tests}
use Rattle.std.proofs.lemmas.Slice.Eq.{bytes_eq-Decides}
use Rattle.std.specs.Prelude.{codes, bytes_eq, slice_index, not, if◌then◌else◌}
use Rattle.std.specs.List.{list_all, list_any}
use Rattle.std.specs.Char.{is_ascii_digit, is_ascii_hexdigit}
use Rattle.base.specs.Texts.Words.{begins_word, is_word_byte, is_word}
use Rattle.dslx_token.specs.Characters.{is_binary_digit}
use Rattle.dslx_token.specs.Lexical.{is_grouped, has_prefix, is_decimal, is_hexadecimal, is_binary, is_number, is_mark, IsString, IsToken}
use Rattle.dslx_token.specs.Spelling.{Spelling, marks, kind_among}

-- what a test says of each of some spellings, it says of one that is among them
pub passes_among : (p : List ℕ → Bool) (bytes : List ℕ) (ms : List Spelling) → list_all (λ s. p s.0) ms ≡ true → list_any (λ s. bytes_eq s.0 bytes) ms ≡ true → p bytes ≡ true
passes_among p bytes [] all any = absurd (false≢true any)
passes_among p bytes (m ∷ ms) all any =
    let parts = and_parts (p m.0) (list_all (λ s. p s.0) ms) all in
    elim (or_cases (bytes_eq m.0 bytes) (list_any (λ s. bytes_eq s.0 bytes) ms) any) [
      | inl e ↦ let same : m.0 ≡ bytes = (bytes_eq-Decides m.0 bytes).0 e in subst (λ b. p b ≡ true) same parts.0
      | inr later ↦ passes_among p bytes ms parts.1 later
    ]

-- what a test says of the kinds of some spellings, and of another one, it says of the kind that is found
pub kind_passes : (q : ℕ → Bool) (bytes : List ℕ) (other : ℕ) (ms : List Spelling) → list_all (λ s. q s.1) ms ≡ true → q other ≡ true → q (kind_among ms bytes other) ≡ true
kind_passes q bytes other [] all last = last
kind_passes q bytes other (m ∷ ms) all last =
    let parts = and_parts (q m.1) (list_all (λ s. q s.1) ms) all in
    elim (bytes_eq m.0 bytes) as (λ b. q (if b then m.1 else kind_among ms bytes other) ≡ true) [
      | true ↦ parts.0
      | false ↦ kind_passes q bytes other ms parts.1 last
    ]

-- a mark begins with no letter, digit, `_` or quote
begins_mark : List ℕ → Bool
begins_mark bytes = not (is_word_byte (slice_index bytes 0) || eqb (slice_index bytes 0) 34)

mark_begins : (bytes : List ℕ) → is_mark bytes ≡ true → (is_word_byte (slice_index bytes 0) || eqb (slice_index bytes 0) 34) ≡ false
unfolding begins_mark
mark_begins bytes h = not-true _ (passes_among begins_mark bytes marks refl h)

word_byte_is_none : (c : ℕ) → (is_word_byte c || eqb c 34) ≡ false → (begins_word c ≡ false) × (is_ascii_digit c ≡ false) × (c ≢ 34)
word_byte_is_none c h = (grind (arith, nat_tests), grind (arith, nat_tests), λ e. grind (arith, nat_tests))

pub word_begins : (bytes : List ℕ) → is_word bytes ≡ true → begins_word (slice_index bytes 0) ≡ true
word_begins [] h = absurd (false≢true h)
word_begins (c ∷ cs) h = (and_parts (begins_word c) (list_all is_word_byte cs) h).0

-- a number with a prefix has it, and then a digit
pub prefixed : (second : ℕ) (p : ℕ → Bool) (bytes after : List ℕ) → (has_prefix (48 ∷ second ∷ []) bytes && is_grouped p (drop 2 bytes)) ≡ true → (slice_index (bytes ++ after) 0 ≡ 48) × (slice_index (bytes ++ after) 1 ≡ second) × (p (slice_index (bytes ++ after) 2) ≡ true)
prefixed second p [] after h = absurd (false≢true h)
prefixed second p (a ∷ []) after h = let e : a ∷ [] ≡ 48 ∷ second ∷ [] = (bytes_eq-Decides (a ∷ []) (48 ∷ second ∷ [])).0 (and_parts (bytes_eq (a ∷ []) (48 ∷ second ∷ [])) false h).0 in absurd (cc)
prefixed second p (a ∷ b ∷ []) after h = absurd (false≢true (and_parts (bytes_eq (a ∷ b ∷ []) (48 ∷ second ∷ [])) false h).1)
prefixed second p (a ∷ b ∷ c ∷ cs) after h =
    let parts = and_parts (bytes_eq (a ∷ b ∷ []) (48 ∷ second ∷ [])) (is_grouped p (c ∷ cs)) h in
    let same : a ∷ b ∷ [] ≡ 48 ∷ second ∷ [] = (bytes_eq-Decides (a ∷ b ∷ []) (48 ∷ second ∷ [])).0 parts.0 in
    (cc, cc, (and_parts (p c) (list_all (λ d. p d || eqb d 95) cs) parts.1).0)

pub word_parts : (c : ℕ) → begins_word c ≡ true → is_word_byte c ≡ true
word_parts c h = grind (arith, nat_tests)

-- numbers begin with a digit
grouped_begins : (p : ℕ → Bool) (bytes : List ℕ) → is_grouped p bytes ≡ true → p (slice_index bytes 0) ≡ true
grouped_begins p [] h = absurd (false≢true h)
grouped_begins p (c ∷ cs) h = (and_parts (p c) (list_all (λ d. p d || eqb d 95) cs) h).0

zero_begins : (second : ℕ) (bytes : List ℕ) → has_prefix (48 ∷ second ∷ []) bytes ≡ true → is_ascii_digit (slice_index bytes 0) ≡ true
zero_begins second [] h = absurd (false≢true h)
zero_begins second (a ∷ []) h = let e : a ∷ [] ≡ 48 ∷ second ∷ [] = (bytes_eq-Decides (a ∷ []) (48 ∷ second ∷ [])).0 h in cc
zero_begins second (a ∷ b ∷ cs) h = let e : a ∷ b ∷ [] ≡ 48 ∷ second ∷ [] = (bytes_eq-Decides (a ∷ b ∷ []) (48 ∷ second ∷ [])).0 h in let first : a ≡ 48 = cc in rw first refl

pub number_cases : (bytes : List ℕ) → is_number bytes ≡ true → (is_decimal bytes ≡ true) ⊎ (is_hexadecimal bytes ≡ true) ⊎ (is_binary bytes ≡ true)
number_cases bytes h = elim (or_cases (is_decimal bytes || is_hexadecimal bytes) (is_binary bytes) h) [
  | inl e ↦ elim (or_cases (is_decimal bytes) (is_hexadecimal bytes) e) [ inl decimal ↦ inl decimal | inr hexadecimal ↦ inr (inl hexadecimal) ]
  | inr binary ↦ inr (inr binary)
]

number_begins_by : (bytes : List ℕ) → (is_decimal bytes ≡ true) ⊎ (is_hexadecimal bytes ≡ true) ⊎ (is_binary bytes ≡ true) → is_ascii_digit (slice_index bytes 0) ≡ true
number_begins_by bytes (inl h) = grouped_begins is_ascii_digit bytes h
number_begins_by bytes (inr (inl h)) = zero_begins 120 bytes (and_parts (has_prefix (codes "0x") bytes) (is_grouped is_ascii_hexdigit (drop 2 bytes)) h).0
number_begins_by bytes (inr (inr h)) = zero_begins 98 bytes (and_parts (has_prefix (codes "0b") bytes) (is_grouped is_binary_digit (drop 2 bytes)) h).0

pub number_begins : (bytes : List ℕ) → is_number bytes ≡ true → is_ascii_digit (slice_index bytes 0) ≡ true
number_begins bytes h = number_begins_by bytes (number_cases bytes h)

pub string_begins : (bytes : List ℕ) → IsString bytes → slice_index bytes 0 ≡ 34
string_begins bytes string = ap (λ s. slice_index s 0) string.2

no_word_digit : (c : ℕ) → begins_word c ≡ true → is_ascii_digit c ≡ true → ⊥
no_word_digit c word digit = grind (arith, nat_tests)

no_word_quote : (c : ℕ) → begins_word c ≡ true → c ≡ 34 → ⊥
no_word_quote c word e = false≢true (rw e at word)

no_digit_quote : (c : ℕ) → is_ascii_digit c ≡ true → c ≡ 34 → ⊥
no_digit_quote c digit e = false≢true (rw e at digit)

-- the kind of a token by its first character
pub word_from : (bytes : List ℕ) → IsToken bytes → begins_word (slice_index bytes 0) ≡ true → is_word bytes ≡ true
word_from bytes (inl word) h = word
word_from bytes (inr (inl number)) h = absurd (no_word_digit (slice_index bytes 0) h (number_begins bytes number))
word_from bytes (inr (inr (inl string))) h = absurd (no_word_quote (slice_index bytes 0) h (string_begins bytes string))
word_from bytes (inr (inr (inr mark))) h = absurd (both_ways (begins_word (slice_index bytes 0)) (word_byte_is_none (slice_index bytes 0) (mark_begins bytes mark)).0 h)

pub number_from : (bytes : List ℕ) → IsToken bytes → is_ascii_digit (slice_index bytes 0) ≡ true → is_number bytes ≡ true
number_from bytes (inl word) h = absurd (no_word_digit (slice_index bytes 0) (word_begins bytes word) h)
number_from bytes (inr (inl number)) h = number
number_from bytes (inr (inr (inl string))) h = absurd (no_digit_quote (slice_index bytes 0) h (string_begins bytes string))
number_from bytes (inr (inr (inr mark))) h = absurd (both_ways (is_ascii_digit (slice_index bytes 0)) (word_byte_is_none (slice_index bytes 0) (mark_begins bytes mark)).1 h)

pub string_from : (bytes : List ℕ) → IsToken bytes → slice_index bytes 0 ≡ 34 → IsString bytes
string_from bytes (inl word) h = absurd (no_word_quote (slice_index bytes 0) (word_begins bytes word) h)
string_from bytes (inr (inl number)) h = absurd (no_digit_quote (slice_index bytes 0) (number_begins bytes number) h)
string_from bytes (inr (inr (inl string))) h = string
string_from bytes (inr (inr (inr mark))) h = absurd ((word_byte_is_none (slice_index bytes 0) (mark_begins bytes mark)).2 h)

pub mark_from : (bytes : List ℕ) → IsToken bytes → begins_word (slice_index bytes 0) ≡ false → is_ascii_digit (slice_index bytes 0) ≡ false → slice_index bytes 0 ≢ 34 → is_mark bytes ≡ true
mark_from bytes (inl word) no_word no_digit no_quote = absurd (both_ways (begins_word (slice_index bytes 0)) no_word (word_begins bytes word))
mark_from bytes (inr (inl number)) no_word no_digit no_quote = absurd (both_ways (is_ascii_digit (slice_index bytes 0)) no_digit (number_begins bytes number))
mark_from bytes (inr (inr (inl string))) no_word no_digit no_quote = absurd (no_quote (string_begins bytes string))
mark_from bytes (inr (inr (inr mark))) no_word no_digit no_quote = mark

-- a token has a character
pub some_token : IsToken [] → ⊥
some_token token = false≢true (mark_from [] token refl refl (λ e. cc))
