-- A text has one list of tokens, or one first character that begins none, and not both.
use Rattle.std.proofs.Common.{◌≡◌, ◌≢◌, ℕ, List, [], ◌∷◌, ◌++◌, refl, ap, sym, ◌∙◌, subst, inl, inr}
use Rattle.std.proofs.Math.Path.{fun_ext}
use Rattle.std.specs.Prelude.{Result, Ok, Err, IfErr, IfOk, IsErrAnd, MatchResult, ◌⊎◌}
use Rattle.xb_span.specs.declared.read_error.ReadError.{ReadError}
use Rattle.xb_span.specs.declared.read_error.ReadError.TheVariants.{Syntax, Broken, Over, OutOfMemory}
use Rattle.dslx_token.specs.Refusal.{IsRefusal}
use Rattle.dslx_token.specs.declared.rules.generated.kind.TheConstants.{END}
use Rattle.std.specs.HashSet.{HashSet}
use denote.Ref.{Bor}
use Rattle.dslx_token.specs.Inner.Names.{AreDeclared, has_name, kind_by}
use Rattle.dslx_token.specs.Kinds.{declares, heads_callable, heads_struct, heads_type, kind_declared, name_kind, settled}
use Rattle.dslx_token.specs.Lexeme.{Lexeme}
use Rattle.dslx_token.specs.Tokens.{at_end, next, here, later, lexeme_at, offset_of, IsFirstOdd, OddAt, PlainTokens, IsNextToken, Tokens}
use Rattle.dslx_token.proofs.LongestTokens.{longest_is_one}
use Rattle.dslx_token.proofs.TokenBytes.{some_token}

-- a text that begins with a token isn't empty
token_then_some : (token rest : List ℕ) → IsNextToken token rest → token ++ rest ≢ []
token_then_some [] rest stands e = some_token stands.longest.is_token
token_then_some (c ∷ cs) rest stands e = cc

-- the same token stands there
same_token : (a x b y : List ℕ) → IsNextToken a x → IsNextToken b y → a ++ x ≡ b ++ y → (a ≡ b) × (x ≡ y)
same_token a x b y sa sb e = longest_is_one a b x y sa.longest sb.longest e

pub one_plain_list : (text rest : List ℕ) (ls ms : List Lexeme) → PlainTokens text rest ls → PlainTokens text rest ms → ls ≡ ms
one_plain_list text rest ls ms (at_end r blank) (at_end s also) = refl
one_plain_list text rest ls ms (at_end r blank) (next s token behind more split stands tail) = absurd (token_then_some token behind stands (sym split ∙ blank))
one_plain_list text rest ls ms (next r token behind more split stands tail) (at_end s blank) = absurd (token_then_some token behind stands (sym split ∙ blank))
one_plain_list text rest ls ms (next r token behind more split stands tail) (next s other after others also stood rest_of) =
    let same = same_token token behind other after stands stood (sym split ∙ also) in
    let tails = one_plain_list text behind more others tail (subst (λ b. PlainTokens text b others) (sym same.1) rest_of) in
    ap (λ l. l ∷ more) (ap (λ t. lexeme_at (offset_of text (t ++ behind)) t) same.0 ∙ ap (λ b. lexeme_at (offset_of text (other ++ b)) other) same.1) ∙ ap (λ ls. lexeme_at (offset_of text (other ++ after)) other ∷ ls) tails

pub never_both : (text rest : List ℕ) (ls : List Lexeme) (at : ℕ) → PlainTokens text rest ls → OddAt text rest at → ⊥
never_both text rest ls at (at_end r blank) (here s some none) = some blank
never_both text rest ls at (at_end r blank) (later s token behind place split stands odd) = token_then_some token behind stands (sym split ∙ blank)
never_both text rest ls at (next r token behind more split stands tail) (here s some none) = none token behind split stands
never_both text rest ls at (next r token behind more split stands tail) (later s other after place also stood odd) =
    let same = same_token token behind other after stands stood (sym split ∙ also) in
    never_both text behind more at tail (subst (λ b. OddAt text b at) (sym same.1) odd)

pub one_odd_offset : (text rest : List ℕ) (i j : ℕ) → OddAt text rest i → OddAt text rest j → i ≡ j
one_odd_offset text rest i j (here r some none) (here s also nor) = refl
one_odd_offset text rest i j (here r some none) (later s token behind place split stands odd) = absurd (none token behind split stands)
one_odd_offset text rest i j (later r token behind place split stands odd) (here s some none) = absurd (none token behind split stands)
one_odd_offset text rest i j (later r token behind place split stands odd) (later s other after there also stood odd_too) =
    let same = same_token token behind other after stands stood (sym split ∙ also) in
    one_odd_offset text behind i j odd (subst (λ b. OddAt text b j) (sym same.1) odd_too)

pub one_list : (text : List ℕ) (ls ms : List Lexeme) → Tokens text ls → Tokens text ms → ls ≡ ms
one_list text ls ms a b =
    a.settled_so ∙ ap (λ p. settled (name_kind p) END p) (one_plain_list text text a.plain b.plain a.plainly b.plainly) ∙ sym b.settled_so

pub not_both : (text : List ℕ) (ls : List Lexeme) (at : ℕ) → Tokens text ls → IsFirstOdd text at → ⊥
not_both text ls at tokens odd = never_both text text tokens.plain at tokens.plainly odd

-- names of the same kinds settle alike
pub settled_alike : (f g : List ℕ → ℕ) → ((q : List ℕ) → f q ≡ g q) → (before : ℕ) (ls : List Lexeme) → settled f before ls ≡ settled g before ls
settled_alike f g same before ls = ap (λ h. settled h before ls) (fun_ext same)

-- what is answered for a text with these tokens
pub only_answer : {T : Type 0} (items : T → List Lexeme) (text : List ℕ) (r : Result T ReadError) → IfOk r (λ t. Tokens text (items t)) → IfErr r (λ e. IsRefusal text e) → (ls : List Lexeme) → Tokens text ls → MatchResult r (λ t. items t ≡ ls) (λ e. e ≡ OutOfMemory)
only_answer items text (Ok t) found refused ls tokens = one_list text (items t) ls found tokens
only_answer items text (Err (Syntax at)) found refused ls tokens = absurd (not_both text ls at tokens refused)
only_answer items text (Err (Broken rule span)) found refused ls tokens = absurd refused
only_answer items text (Err (Over limit)) found refused ls tokens = absurd refused
only_answer items text (Err OutOfMemory) found refused ls tokens = refl

-- and for one with such a character
pub odd_answer : {T : Type 0} (items : T → List Lexeme) (text : List ℕ) (r : Result T ReadError) → IfOk r (λ t. Tokens text (items t)) → IfErr r (λ e. IsRefusal text e) → (at : ℕ) → IsFirstOdd text at → IsErrAnd r (λ e. (e ≡ Syntax at) ⊎ (e ≡ OutOfMemory))
odd_answer items text (Ok t) found refused at odd = absurd (not_both text (items t) at found odd)
odd_answer items text (Err (Syntax place)) found refused at odd = inl (ap Syntax (one_odd_offset text text place at refused odd))
odd_answer items text (Err (Broken rule span)) found refused at odd = absurd refused
odd_answer items text (Err (Over limit)) found refused at odd = absurd refused
odd_answer items text (Err OutOfMemory) found refused at odd = inr refl

-- the sets of declared names give each name the kind that it has in the text
pub kinds_alike : {S : Type 0} (types callables structs : HashSet (Bor (List ℕ)) S) (all : List Lexeme) → AreDeclared heads_type all types → AreDeclared heads_callable all callables → AreDeclared heads_struct all structs → settled (kind_by types callables structs) END all ≡ settled (name_kind all) END all
kinds_alike types callables structs all t c s = settled_alike (kind_by types callables structs) (name_kind all)
    (λ q. ap (λ b. kind_declared b (has_name callables q) (has_name structs q)) (t q)
    ∙ ap (λ b. kind_declared (declares heads_type END all q) b (has_name structs q)) (c q)
    ∙ ap (λ b. kind_declared (declares heads_type END all q) (declares heads_callable END all q) b) (s q)) END all
