-- A text of which some tokens have been read.
use Rattle.std.proofs.Common.{◌≡◌, ◌≢◌, ◌≤◌, ◌<◌, ℕ, Bool, true, false, eqb, ◌&&◌, List, [], ◌∷◌, ◌++◌, drop, length, ap, sym, ◌∙◌, subst, arith}
use Rattle.std.specs.Prelude.{not, slice_index}
use Rattle.std.proofs.lemmas.List.{append_assoc, length-drop, length-append}
use Rattle.std.proofs.lemmas.Bool.{cond_both}
use Rattle.dslx_token.specs.Blank.{after_blank, behind_blank}
use Rattle.dslx_token.specs.Characters.{is_white}
use Rattle.dslx_token.specs.Inner.TokenPrefixes.{IsTokenLen}
use Rattle.dslx_token.specs.Lexeme.{Lexeme}
use Rattle.dslx_token.specs.Tokens.{at_end, next, here, later, lexeme_at, offset_of, BeginsNoToken, IsFirstOdd, OddAt, PlainTokens, IsNextToken}

-- the tokens of the text are these, and then those of some text whose front is blank up to the rest
pub record AreTokensSoFar (text : List ℕ) (done : List Lexeme) (rest : List ℕ) : Type 0 where
  pub unread : List ℕ
  pub rest_is : rest ≡ after_blank unread
  pub found : (more : List Lexeme) → PlainTokens text unread more → PlainTokens text text (done ++ more)
  pub odd : (at : ℕ) → OddAt text unread at → OddAt text text at
  pub within : length rest ≤ length text

-- the part of a text behind white space and comments is no longer than the text
pub behind_blank_le : (in_comment : Bool) (text : List ℕ) → length (behind_blank in_comment text) ≤ length text
behind_blank_le in_comment [] = omega arith
behind_blank_le true (c ∷ cs) = omega (arith, behind_blank_le (not (eqb c 10)) cs)
behind_blank_le false (c ∷ cs) =
    let here : length (c ∷ cs) ≤ length (c ∷ cs) = omega arith in
    let white : length (behind_blank false cs) ≤ length (c ∷ cs) = omega (arith, behind_blank_le false cs) in
    let comment : length (behind_blank true cs) ≤ length (c ∷ cs) = omega (arith, behind_blank_le true cs) in
    cond_both (is_white c) (behind_blank false cs) _ (λ t. length t ≤ length (c ∷ cs)) (λ e. white)
    (λ e. cond_both (eqb c 47 && eqb (slice_index cs 0) 47) (behind_blank true cs) (c ∷ cs) (λ t. length t ≤ length (c ∷ cs)) (λ e. comment) (λ e. here))

-- none so far
pub none_so_far : (text rest : List ℕ) → rest ≡ after_blank text → AreTokensSoFar text [] rest
none_so_far text rest e = record {
  unread = text;
  rest_is = e;
  found = λ more tokens. tokens;
  odd = λ at odd. odd;
  within = omega (arith, ap length e, behind_blank_le false text);
}

-- one more
pub one_more_so_far : (text : List ℕ) (done : List Lexeme) (rest token after behind : List ℕ) → AreTokensSoFar text done rest → rest ≡ token ++ after → IsNextToken token after → behind ≡ after_blank after → AreTokensSoFar text (done ++ lexeme_at (offset_of text rest) token ∷ []) behind
one_more_so_far text done rest token after behind so_far e stands blank = record {
  unread = after;
  rest_is = blank;
  found = λ more tail. subst (λ tokens. PlainTokens text text tokens) (sym (append_assoc done (lexeme_at (offset_of text rest) token ∷ []) more))
      (so_far.found (lexeme_at (offset_of text rest) token ∷ more) (subst (λ r. PlainTokens text so_far.unread (lexeme_at (offset_of text r) token ∷ more)) (sym e) (next so_far.unread token after more (sym so_far.rest_is ∙ e) stands tail)));
  odd = λ at odd. so_far.odd at (later so_far.unread token after at (sym so_far.rest_is ∙ e) stands odd);
  within = omega (arith, so_far.within, ap length e, length-append token after, ap length blank, behind_blank_le false after);
}

-- all of them, where nothing is left
pub all_so_far : (text : List ℕ) (done : List Lexeme) (rest : List ℕ) → AreTokensSoFar text done rest → rest ≡ [] → PlainTokens text text (done ++ lexeme_at (length text) [] ∷ [])
all_so_far text done rest so_far e = so_far.found (lexeme_at (length text) [] ∷ []) (at_end so_far.unread (sym so_far.rest_is ∙ e))

-- no token stands at the rest
pub odd_so_far : (text : List ℕ) (done : List Lexeme) (rest : List ℕ) → AreTokensSoFar text done rest → rest ≢ [] → BeginsNoToken rest → IsFirstOdd text (offset_of text rest)
odd_so_far text done rest so_far some none =
    so_far.odd (offset_of text rest) (subst (λ r. OddAt text so_far.unread (offset_of text r)) (sym so_far.rest_is)
    (here so_far.unread (λ e. some (so_far.rest_is ∙ e)) (subst (λ r. BeginsNoToken r) so_far.rest_is none)))

-- the text gets shorter behind a token
pub behind_token_lt : (n : ℕ) (rest after behind : List ℕ) → IsTokenLen rest n → after ≡ drop n rest → behind ≡ after_blank after → length behind < length rest
behind_token_lt n rest after behind len is e =
    omega (arith, len.some, len.within, ap length e, behind_blank_le false after, ap length is, length-drop n rest)
