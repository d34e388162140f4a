-- A text of which some tokens have been read.
use Rattle.std.proofs.Common.{◌≡◌, ◌≢◌, ◌≤◌, ◌<◌, ℕ, Bool, true, false, eqb, ◌&&◌, List, [], ◌∷◌, ◌++◌, drop, take, length, Some, None, ap, sym, ◌∙◌, subst, arith}
use Rattle.std.specs.Prelude.{not, slice_index}
use Rattle.std.proofs.lemmas.List.{append_assoc, length-drop}
use Rattle.std.proofs.lemmas.Bool.{cond_both}
use Rattle.dslx_token.specs.Blank.{after_blank, behind_blank}
use Rattle.dslx_token.specs.Characters.{is_white}
use Rattle.dslx_token.specs.Lexeme.{Lexeme}
use Rattle.dslx_token.specs.Tokens.{offset_of}
use Rattle.vlog_text.specs.Token.TokenPrefixes.{token_prefix_len}
use Rattle.vlog_text.specs.Token.Tokens.{ends, goes, here, later, verilog_lexeme_at, HasTokens, BreaksAt}

-- the tokens of the text are these, and then those of some text whose front is blank up to the rest
pub record AreTaken (text : List ℕ) (done : List Lexeme) (rest : List ℕ) : Type 0 where
  pub unread : List ℕ
  pub rest_is : rest ≡ after_blank unread
  pub found : (more : List Lexeme) → HasTokens text unread more → HasTokens text text (done ++ more)
  pub odd : (at : ℕ) → BreaksAt text unread at → BreaksAt text text at
  pub within : length rest ≤ length text

-- the part of a text behind white space and comments is no longer than the text
pub behind_blank_le : (in_comment : Bool) (text : List ℕ) → length (behind_blank in_comment text) ≤ length text
behind_blank_le in_comment [] = omega arith
behind_blank_le true (c ∷ cs) = omega (arith, behind_blank_le (not (eqb c 10)) cs)
behind_blank_le false (c ∷ cs) =
    let here : length (c ∷ cs) ≤ length (c ∷ cs) = omega arith in
    let white : length (behind_blank false cs) ≤ length (c ∷ cs) = omega (arith, behind_blank_le false cs) in
    let comment : length (behind_blank true cs) ≤ length (c ∷ cs) = omega (arith, behind_blank_le true cs) in
    cond_both (is_white c) (behind_blank false cs) _ (λ t. length t ≤ length (c ∷ cs)) (λ e. white)
    (λ e. cond_both (eqb c 47 && eqb (slice_index cs 0) 47) (behind_blank true cs) (c ∷ cs) (λ t. length t ≤ length (c ∷ cs)) (λ e. comment) (λ e. here))

pub none_so_far : (text rest : List ℕ) → rest ≡ after_blank text → AreTaken text [] rest
none_so_far text rest e = record {
  unread = text;
  rest_is = e;
  found = λ more tokens. tokens;
  odd = λ at odd. odd;
  within = omega (arith, ap length e, behind_blank_le false text);
}

pub one_more_so_far : (text : List ℕ) (done : List Lexeme) (rest behind : List ℕ) (len : ℕ) → AreTaken text done rest → rest ≢ [] → token_prefix_len rest ≡ Some len → behind ≡ after_blank (drop len rest) → AreTaken text (done ++ verilog_lexeme_at (offset_of text rest) (take len rest) ∷ []) behind
one_more_so_far text done rest behind len so_far some front blank = record {
  unread = drop len rest;
  rest_is = blank;
  found = λ more tail. subst (λ tokens. HasTokens text text tokens) (sym (append_assoc done (verilog_lexeme_at (offset_of text rest) (take len rest) ∷ []) more))
      (so_far.found (verilog_lexeme_at (offset_of text rest) (take len rest) ∷ more)
      (subst (λ r. HasTokens text so_far.unread (verilog_lexeme_at (offset_of text r) (take len r) ∷ more)) (sym so_far.rest_is)
      (goes so_far.unread len more (λ e. some (so_far.rest_is ∙ e)) (ap token_prefix_len (sym so_far.rest_is) ∙ front) (subst (λ r. HasTokens text (drop len r) more) so_far.rest_is tail))));
  odd = λ at odd. so_far.odd at (later so_far.unread len at (λ e. some (so_far.rest_is ∙ e)) (ap token_prefix_len (sym so_far.rest_is) ∙ front) (subst (λ r. BreaksAt text (drop len r) at) so_far.rest_is odd));
  within = omega (arith, so_far.within, ap length blank, behind_blank_le false (drop len rest), length-drop len rest);
}

pub all_so_far : (text : List ℕ) (done : List Lexeme) (rest : List ℕ) → AreTaken text done rest → rest ≡ [] → HasTokens text text (done ++ verilog_lexeme_at (length text) [] ∷ [])
all_so_far text done rest so_far e = so_far.found (verilog_lexeme_at (length text) [] ∷ []) (ends so_far.unread (sym so_far.rest_is ∙ e))

pub odd_so_far : (text : List ℕ) (done : List Lexeme) (rest : List ℕ) → AreTaken text done rest → rest ≢ [] → token_prefix_len rest ≡ None → BreaksAt text text (offset_of text rest)
odd_so_far text done rest so_far some none =
    so_far.odd (offset_of text rest) (subst (λ r. BreaksAt text so_far.unread (offset_of text r)) (sym so_far.rest_is)
    (here so_far.unread (λ e. some (so_far.rest_is ∙ e)) (ap token_prefix_len (sym so_far.rest_is) ∙ none)))

pub behind_token_lt : (n : ℕ) (rest behind : List ℕ) → 0 < n → n ≤ length rest → behind ≡ after_blank (drop n rest) → length behind < length rest
behind_token_lt n rest behind some within e =
    omega (arith, some, within, behind_blank_le false (drop n rest), ap length e, length-drop n rest)
