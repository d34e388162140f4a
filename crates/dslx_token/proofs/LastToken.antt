-- The last token of a text is the mark at its end.
use Rattle.std.proofs.Common.{◌≡◌, ◌+◌, ◌-◌, ℕ, suc, List, [], ◌∷◌, ◌++◌, length, map, Result, Ok, Err, Some, refl, ap, sym, ◌∙◌, subst, arith}
use Rattle.std.specs.Prelude.{IfOk, slice_get}
use Rattle.base.specs.Grammar.Answer.{EndsWith}
use Rattle.dslx_token.specs.declared.rules.generated.kind.TheConstants.{END}
use Rattle.xb_span.specs.declared.read_error.ReadError.{ReadError}
use Rattle.dslx_token.specs.Kinds.{kind_behind, name_kind, settled}
use Rattle.dslx_token.specs.Lexeme.{Lexeme}
use Rattle.dslx_token.specs.Tokens.{at_end, next, lexeme_at, offset_of, PlainTokens, Tokens}

ends_behind : (k : ℕ) (xs : List ℕ) (x : ℕ) → EndsWith xs x → EndsWith (k ∷ xs) x
ends_behind k [] x h = absurd (cc)
ends_behind k (y ∷ ys) x h = let e : length (k ∷ y ∷ ys) - 1 ≡ suc (length (y ∷ ys) - 1) = omega arith in ap (slice_get (k ∷ y ∷ ys)) e ∙ h

plain_ends : (named : List ℕ → ℕ) (text rest : List ℕ) (ls : List Lexeme) (before : ℕ) → PlainTokens text rest ls → EndsWith (map (λ l. l.kind) (settled named before ls)) END
plain_ends named text rest ls before (at_end r blank) = refl
plain_ends named text rest ls before (next r token behind more split stands tail) =
    let l = lexeme_at (offset_of text (token ++ behind)) token in
    let kind = kind_behind named before l.kind l.bytes in
    ends_behind kind (map (λ l. l.kind) (settled named kind more)) END (plain_ends named text behind more kind tail)

pub ends : (text : List ℕ) (ls : List Lexeme) → Tokens text ls → EndsWith (map (λ l. l.kind) ls) END
ends text ls tokens =
    subst (λ (x : List Lexeme). EndsWith (map (λ l. l.kind) x) END) (sym tokens.settled_so) (plain_ends (name_kind tokens.plain) text text tokens.plain END tokens.plainly)

pub answer_ends : {T : Type 0} (items : T → List Lexeme) (text : List ℕ) (r : Result T ReadError) → IfOk r (λ t. Tokens text (items t)) → IfOk r (λ t. EndsWith (map (λ l. l.kind) (items t)) END)
answer_ends items text (Ok t) found = ends text (items t) found
answer_ends items text (Err e) found = tt
