-- A text has one list of tokens, or one first character that begins none, and not both.
use Rattle.std.proofs.Common.{◌≡◌, ℕ, List, ◌∷◌, drop, take, refl, ap, sym, ◌∙◌, subst, inl, inr, Option, Some, None}
use Rattle.std.specs.Prelude.{Result, Ok, Err, IfErr, IfOk, IsErrAnd, MatchResult, ◌⊎◌}
use Rattle.xb_span.specs.declared.read_error.ReadError.{ReadError}
use Rattle.xb_span.specs.declared.read_error.ReadError.TheVariants.{Syntax, Broken, Over, OutOfMemory}
use Rattle.dslx_token.specs.Blank.{after_blank}
use Rattle.dslx_token.specs.Lexeme.{Lexeme}
use Rattle.dslx_token.specs.Tokens.{offset_of}
use Rattle.vlog_text.specs.Token.TokenPrefixes.{token_prefix_len}
use Rattle.vlog_text.specs.Token.Tokens.{ends, goes, here, later, verilog_lexeme_at, HasTokens, BreaksAt, IsBroken}

same_len : (o : Option ℕ) (m n : ℕ) → o ≡ Some m → o ≡ Some n → m ≡ n
same_len o m n e f = cc

none_some : (o : Option ℕ) (n : ℕ) → o ≡ None → o ≡ Some n → ⊥
none_some o n e f = cc

pub one_cut : (text rest : List ℕ) (ls ms : List Lexeme) → HasTokens text rest ls → HasTokens text rest ms → ls ≡ ms
one_cut text rest ls ms (ends r blank) (ends s also) = refl
one_cut text rest ls ms (ends r blank) (goes s len more some front tail) = absurd (some blank)
one_cut text rest ls ms (goes r len more some front tail) (ends s blank) = absurd (some blank)
one_cut text rest ls ms (goes r len more some front tail) (goes s other after there also rest_of) =
    let same = same_len (token_prefix_len (after_blank rest)) len other front also in
    let tails = one_cut text (drop len (after_blank rest)) more after tail (subst (λ n. HasTokens text (drop n (after_blank rest)) after) (sym same) rest_of) in
    ap (λ xs. verilog_lexeme_at (offset_of text (after_blank rest)) (take len (after_blank rest)) ∷ xs) tails
    ∙ ap (λ n. verilog_lexeme_at (offset_of text (after_blank rest)) (take n (after_blank rest)) ∷ after) same

pub never_cut_off : (text rest : List ℕ) (ls : List Lexeme) (at : ℕ) → HasTokens text rest ls → BreaksAt text rest at → ⊥
never_cut_off text rest ls at (ends r blank) (here s some none) = some blank
never_cut_off text rest ls at (ends r blank) (later s len place some front odd) = some blank
never_cut_off text rest ls at (goes r len more some front tail) (here s there none) = none_some (token_prefix_len (after_blank rest)) len none front
never_cut_off text rest ls at (goes r len more some front tail) (later s other place there also odd) =
    let same = same_len (token_prefix_len (after_blank rest)) len other front also in
    never_cut_off text (drop len (after_blank rest)) more at tail (subst (λ n. BreaksAt text (drop n (after_blank rest)) at) (sym same) odd)

pub one_offset : (text rest : List ℕ) (i j : ℕ) → BreaksAt text rest i → BreaksAt text rest j → i ≡ j
one_offset text rest i j (here r some none) (here s also nor) = refl
one_offset text rest i j (here r some none) (later s len place there front odd) = absurd (none_some (token_prefix_len (after_blank rest)) len none front)
one_offset text rest i j (later r len place some front odd) (here s there none) = absurd (none_some (token_prefix_len (after_blank rest)) len none front)
one_offset text rest i j (later r len place some front odd) (later s other also there prefixes odd_too) =
    let same = same_len (token_prefix_len (after_blank rest)) len other front prefixes in
    one_offset text (drop len (after_blank rest)) i j odd (subst (λ n. BreaksAt text (drop n (after_blank rest)) j) (sym same) odd_too)

pub one_list : (text : List ℕ) (ls ms : List Lexeme) → HasTokens text text ls → HasTokens text text ms → ls ≡ ms
one_list text ls ms a b = one_cut text text ls ms a b

pub not_both : (text : List ℕ) (ls : List Lexeme) (at : ℕ) → HasTokens text text ls → BreaksAt text text at → ⊥
not_both text ls at tokens odd = never_cut_off text text ls at tokens odd

-- what is answered for a text with these tokens
pub only_answer : {T : Type 0} (items : T → List Lexeme) (text : List ℕ) (r : Result T ReadError) → IfOk r (λ t. HasTokens text text (items t)) → IfErr r (λ e. IsBroken text e) → (ls : List Lexeme) → HasTokens text text ls → MatchResult r (λ t. items t ≡ ls) (λ e. e ≡ OutOfMemory)
only_answer items text (Ok t) found refused ls tokens = one_list text (items t) ls found tokens
only_answer items text (Err (Syntax at)) found refused ls tokens = absurd (not_both text ls at tokens refused)
only_answer items text (Err (Broken rule span)) found refused ls tokens = absurd refused
only_answer items text (Err (Over limit)) found refused ls tokens = absurd refused
only_answer items text (Err OutOfMemory) found refused ls tokens = refl

-- and for one with such a character
pub odd_answer : {T : Type 0} (items : T → List Lexeme) (text : List ℕ) (r : Result T ReadError) → IfOk r (λ t. HasTokens text text (items t)) → IfErr r (λ e. IsBroken text e) → (at : ℕ) → BreaksAt text text at → IsErrAnd r (λ e. (e ≡ Syntax at) ⊎ (e ≡ OutOfMemory))
odd_answer items text (Ok t) found refused at odd = absurd (not_both text (items t) at found odd)
odd_answer items text (Err (Syntax place)) found refused at odd = inl (ap Syntax (one_offset text text place at refused odd))
odd_answer items text (Err (Broken rule span)) found refused at odd = absurd refused
odd_answer items text (Err (Over limit)) found refused at odd = absurd refused
odd_answer items text (Err OutOfMemory) found refused at odd = inr refl
