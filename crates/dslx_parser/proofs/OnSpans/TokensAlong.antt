-- The tokens of a text stand one behind the other.
use Rattle.std.proofs.Common.{◌≡◌, ◌≤◌, ◌+◌, ℕ, Bool, true, false, List, [], ◌∷◌, ◌++◌, length, sym, subst, arith}
use Rattle.std.specs.Prelude.{◌≢◌, ◌==◌, ◌&&◌, not, if◌then◌else◌, slice_index}
use Rattle.std.proofs.lemmas.List.{length-append}
use Rattle.dslx_token.specs.declared.rules.generated.kind.TheConstants.{END}
use Rattle.dslx_actions.specs.Tokens.{is_name}
use Rattle.dslx_token.specs.Blank.{after_blank, behind_blank}
use Rattle.dslx_token.specs.Characters.{is_white}
use Rattle.dslx_token.specs.Kinds.{kind_behind, name_kind, plain_kind, settled}
use Rattle.dslx_token.specs.Lexeme.{Lexeme}
use Rattle.dslx_token.specs.Tokens.{PlainTokens, Tokens, at_end, next, offset_of}
use Rattle.dslx_parser.specs.Spans.Along.{AreAlong}

-- ---- white space and comments are not longer than what they stand before

shorter_if : (test : Bool) (xs ys : List ℕ) (n : ℕ) → length xs ≤ n → length ys ≤ n → length (if test then xs else ys) ≤ n
shorter_if true xs ys n a b = a
shorter_if false xs ys n a b = b

one_more : (xs : List ℕ) (n : ℕ) (c : ℕ) (cs : List ℕ) → length xs ≤ length cs → length xs ≤ length (c ∷ cs)
one_more xs n c cs le = omega (arith, le)

blank_shorter : (in_comment : Bool) (cs : List ℕ) → length (behind_blank in_comment cs) ≤ length cs
blank_shorter in_comment [] = omega arith
blank_shorter true (c ∷ cs) = one_more (behind_blank (not (c == 10)) cs) 0 c cs (blank_shorter (not (c == 10)) cs)
blank_shorter false (c ∷ cs) =
    shorter_if (is_white c) (behind_blank false cs) (if (c == 47) && (slice_index cs 0 == 47) then behind_blank true cs else (c ∷ cs)) (length (c ∷ cs))
    (one_more (behind_blank false cs) 0 c cs (blank_shorter false cs))
    (shorter_if ((c == 47) && (slice_index cs 0 == 47)) (behind_blank true cs) (c ∷ cs) (length (c ∷ cs)) (one_more (behind_blank true cs) 0 c cs (blank_shorter true cs)) (omega arith))

-- ---- a token without bytes says no name

says : (named : List ℕ → ℕ) (before : ℕ) (bytes : List ℕ) → is_name (kind_behind named before (plain_kind bytes) bytes) ≡ true → bytes ≢ []
says named before [] is = absurd (cc)
says named before (c ∷ cs) is = λ e. absurd (cc)

-- ---- one behind the other

first_before : (text rest token behind : List ℕ) → after_blank rest ≡ token ++ behind → offset_of text rest ≤ offset_of text (token ++ behind)
first_before text rest token behind split =
    let shorter : length (after_blank rest) ≤ length rest = blank_shorter false rest in
    let here : length (token ++ behind) ≤ length rest = subst (λ (xs : List ℕ). length xs ≤ length rest) split shorter in
    omega (arith, here)

all_of : (token behind : List ℕ) (rest text : List ℕ) → after_blank rest ≡ token ++ behind → length rest ≤ length text → length token + length behind ≤ length text
all_of token behind rest text split within =
    let shorter : length (after_blank rest) ≤ length rest = blank_shorter false rest in
    let here : length (token ++ behind) ≤ length rest = subst (λ (xs : List ℕ). length xs ≤ length rest) split shorter in
    let both = length-append token behind in
    omega (arith, here, both, within)

last_before : (text token behind : List ℕ) → length token + length behind ≤ length text → offset_of text (token ++ behind) + length token ≤ offset_of text behind
last_before text token behind all =
    let both = length-append token behind in
    omega (arith, all, both)

first_by : (ls : List Lexeme) (a b to : ℕ) → a ≤ b → AreAlong ls b to → AreAlong ls a to
first_by [] a b to le k = omega (arith, le, k)
first_by (l ∷ ls) a b to le k = let first = k.0 in (omega (arith, le, first), k.1, k.2, k.3)

plain_along : (named : List ℕ → ℕ) (text : List ℕ) {rest : List ℕ} {ls : List Lexeme} → PlainTokens text rest ls → (before : ℕ) → length rest ≤ length text → AreAlong (settled named before ls) (offset_of text rest) (length text)
plain_along named text (at_end rest blank) before within = (omega arith, omega arith, says named before [], omega arith)
plain_along named text (next rest token behind more split is tokens) before within =
    let all = all_of token behind rest text split within in
    let kind = kind_behind named before (plain_kind token) token in (
      first_before text rest token behind split,
      omega arith,
      says named before token,
      first_by (settled named kind more) (offset_of text (token ++ behind) + length token) (offset_of text behind) (length text) (last_before text token behind all)
          (plain_along named text tokens kind (omega (arith, all))),
    )

pub tokens_along : (text : List ℕ) (ls : List Lexeme) → Tokens text ls → AreAlong ls 0 (length text)
tokens_along text ls tokens =
    let start : offset_of text text ≡ 0 = omega arith in
    subst (λ (xs : List Lexeme). AreAlong xs 0 (length text)) (sym tokens.settled_so)
    (subst (λ (n : ℕ). AreAlong (settled (name_kind tokens.plain) END tokens.plain) n (length text)) start
    (plain_along (name_kind tokens.plain) text tokens.plainly END (omega arith)))
