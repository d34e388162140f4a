-- Tokens and texts give one tree or one refusal.
use Rattle.std.proofs.Common.{◌≡◌, ◌∙◌, ℕ, List, ap, sym, subst}
use Rattle.std.specs.Prelude.{Result, Ok, Err, Some, slice_get}
use Rattle.base.specs.Grammar.Derivation.{IsSentence}
use Rattle.base.specs.Grammar.Tree.{productions_of}
use Rattle.base.proofs.Lemmas.Lists.Faults.{IsFirstFault-unique}
use Rattle.dslx_token.specs.Rules.Dslx.{dslx}
use Rattle.dslx_token.specs.Lexeme.{Lexeme}
use Rattle.dslx_token.specs.Tokens.{IsFirstOdd, Tokens}
use Rattle.dslx_tree.specs.declared.item.Module.{Module}
use Rattle.xb_span.specs.declared.read_error.ReadError.{ReadError}
use Rattle.xb_span.specs.declared.read_error.ReadError.TheVariants.{Syntax, Over}
use Rattle.dslx_parser.specs.Reads.{HasFaultAt, TextGives, TokensGive, kinds_of, misplaced, no_token, tokens, too_deep, tree}
use Rattle.dslx_parser.proofs.OneTree.{TheLaws, deep_or_within, derivation_of, one_module}

same_place : (ls : List Lexeme) (at also : ℕ) → HasFaultAt ls at → HasFaultAt ls also → at ≡ also
same_place ls at also a b =
    let place = IsFirstFault-unique (IsSentence dslx) (kinds_of ls) a.place b.place a.fault b.fault in
    let one : Some a.token ≡ Some b.token = sym a.here ∙ (ap (slice_get ls) place ∙ b.here) in
    let same : a.token ≡ b.token = cc in
    a.starts ∙ (ap (λ (t : Lexeme). t.span.from) same ∙ sym b.starts)

pub one_answer : TheLaws → (ls : List Lexeme) (a b : Result Module ReadError) → TokensGive ls a → TokensGive ls b → a ≡ b
one_answer laws ls a b (tree m is within) (tree n also here) = ap Ok (one_module laws ls m n is also)
one_answer laws ls a b (tree m is within) (misplaced at fault) = absurd (fault.fault.none (productions_of is.forest, derivation_of laws ls m is))
one_answer laws ls a b (tree m is within) (too_deep limit deep) = absurd (deep_or_within ls deep.deep within)
one_answer laws ls a b (misplaced at fault) (tree n also here) = absurd (fault.fault.none (productions_of also.forest, derivation_of laws ls n also))
one_answer laws ls a b (misplaced at fault) (misplaced behind other) = ap (λ n. Err (Syntax n)) (same_place ls at behind fault other)
one_answer laws ls a b (misplaced at fault) (too_deep limit deep) = absurd (deep_or_within ls deep.deep fault.within)
one_answer laws ls a b (too_deep limit deep) (tree n also here) = absurd (deep_or_within ls deep.deep here)
one_answer laws ls a b (too_deep limit deep) (misplaced at fault) = absurd (deep_or_within ls deep.deep fault.within)
one_answer laws ls a b (too_deep limit deep) (too_deep most other) = ap (λ l. Err (Over l)) (deep.limit_is ∙ sym other.limit_is)

-- what is known of the tokens of texts
pub record TokenLaws : Type 0 where
  pub one : (text : List ℕ) (ls ms : List Lexeme) → Tokens text ls → Tokens text ms → ls ≡ ms
  pub place : (text : List ℕ) (i j : ℕ) → IsFirstOdd text i → IsFirstOdd text j → i ≡ j
  pub either : (text : List ℕ) (ls : List Lexeme) (at : ℕ) → Tokens text ls → IsFirstOdd text at → ⊥

pub one_text_answer : TheLaws → TokenLaws → (text : List ℕ) (a b : Result Module ReadError) → TextGives text a → TextGives text b → a ≡ b
one_text_answer laws cuts text a b (no_token at odd) (no_token also other) = ap (λ n. Err (Syntax n)) (cuts.place text at also odd other)
one_text_answer laws cuts text a b (no_token at odd) (tokens ls r cut given) = absurd (cuts.either text ls at cut odd)
one_text_answer laws cuts text a b (tokens ls r cut given) (no_token at odd) = absurd (cuts.either text ls at cut odd)
one_text_answer laws cuts text a b (tokens ls r cut given) (tokens ms s also other) =
    one_answer laws ls r s given (subst (λ xs. TokensGive xs s) (sym (cuts.one text ls ms cut also)) other)
