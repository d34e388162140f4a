-- The tokens of a text stand one behind the other.
use Rattle.std.proofs.Common.{◌≡◌, ◌≤◌, ◌+◌, ℕ, Bool, true, false, List, [], ◌∷◌, length, take, drop, subst, arith}
use Rattle.std.specs.Prelude.{◌==◌, ◌&&◌, not, if◌then◌else◌, slice_index}
use Rattle.std.proofs.lemmas.List.{length-drop, length-take}
use Rattle.dslx_token.specs.Blank.{after_blank, behind_blank}
use Rattle.dslx_token.specs.Characters.{is_white}
use Rattle.dslx_token.specs.Lexeme.{Lexeme}
use Rattle.dslx_token.specs.Tokens.{offset_of}
use Rattle.vlog_text.specs.Token.Tokens.{HasTokens, ends, goes}
use Rattle.vlog_text.specs.Parser.Spans.{LexemesAlong}

-- ---- white space and comments are not longer than what they stand before

shorter_if : (test : Bool) (xs ys : List ℕ) (n : ℕ) → length xs ≤ n → length ys ≤ n → length (if test then xs else ys) ≤ n
shorter_if true xs ys n a b = a
shorter_if false xs ys n a b = b

one_more : (xs : List ℕ) (c : ℕ) (cs : List ℕ) → length xs ≤ length cs → length xs ≤ length (c ∷ cs)
one_more xs c cs le = omega (arith, le)

blank_shorter : (in_comment : Bool) (cs : List ℕ) → length (behind_blank in_comment cs) ≤ length cs
blank_shorter in_comment [] = omega arith
blank_shorter true (c ∷ cs) = one_more (behind_blank (not (c == 10)) cs) c cs (blank_shorter (not (c == 10)) cs)
blank_shorter false (c ∷ cs) =
    shorter_if (is_white c) (behind_blank false cs) (if (c == 47) && (slice_index cs 0 == 47) then behind_blank true cs else (c ∷ cs)) (length (c ∷ cs))
    (one_more (behind_blank false cs) c cs (blank_shorter false cs))
    (shorter_if ((c == 47) && (slice_index cs 0 == 47)) (behind_blank true cs) (c ∷ cs) (length (c ∷ cs)) (one_more (behind_blank true cs) c cs (blank_shorter true cs)) (omega arith))

-- ---- one behind the other

first_by : (ls : List Lexeme) (a b to : ℕ) → a ≤ b → LexemesAlong ls b to → LexemesAlong ls a to
first_by [] a b to le k = omega (arith, le, k)
first_by (l ∷ ls) a b to le k = let first = k.0 in (omega (arith, le, first), k.1, k.2)

parts_long : (len : ℕ) (xs : List ℕ) → length (take len xs) + length (drop len xs) ≡ length xs
parts_long len xs = let a = length-take len xs in let b = length-drop len xs in omega (arith, a, b)

last_before : (text ab token behind : List ℕ) → length token + length behind ≡ length ab → length ab ≤ length text → offset_of text ab + length token ≤ offset_of text behind
last_before text ab token behind both within = omega (arith, both, within)

rest_along : (text rest : List ℕ) (ls : List Lexeme) → HasTokens text rest ls → length rest ≤ length text → LexemesAlong ls (offset_of text rest) (length text)
rest_along text rest _ (ends r blank) within = (omega arith, omega arith, omega arith)
rest_along text rest _ (goes r len more some front tokens) within =
    let ab = after_blank r in
    let shorter : length ab ≤ length r = blank_shorter false r in
    let both = parts_long len ab in (
      omega (arith, shorter),
      omega arith,
      first_by more (offset_of text ab + length (take len ab)) (offset_of text (drop len ab)) (length text)
          (last_before text ab (take len ab) (drop len ab) both (omega (arith, shorter, within)))
          (rest_along text (drop len ab) more tokens (omega (arith, shorter, within, both))),
    )

pub tokens_along : (text : List ℕ) (ls : List Lexeme) → HasTokens text text ls → LexemesAlong ls 0 (length text)
tokens_along text ls tokens =
    let start : offset_of text text ≡ 0 = omega arith in
    subst (λ (n : ℕ). LexemesAlong ls n (length text)) start (rest_along text text ls tokens (omega arith))
