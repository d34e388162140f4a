-- The last token of a text is the mark at its end.
use Rattle.std.proofs.Common.{◌≡◌, ◌-◌, ℕ, suc, List, [], ◌∷◌, length, refl, ap, sym, ◌∙◌, subst, arith, drop, take}
use Rattle.std.specs.Prelude.{slice_get}
use Rattle.base.specs.Grammar.Answer.{EndsWith}
use Rattle.ir_builder.specs.declared.token.rules.generated.kind.TheConstants.{END}
use Rattle.dslx_token.specs.Blank.{after_blank}
use Rattle.dslx_token.specs.Lexeme.{Lexeme}
use Rattle.dslx_token.specs.Tokens.{offset_of}
use Rattle.ir_builder.specs.Token.Kinds.{Context, context_behind, kind_in, no_context, settled_in}
use Rattle.ir_builder.specs.Token.Tokens.{ends, goes, ir_lexeme_at, AreIrTokens, IsCutInto}
use Rattle.ir_text.specs.Parser.Reads.{kinds_of}

ends_behind : (k : ℕ) (xs : List ℕ) (x : ℕ) → EndsWith xs x → EndsWith (k ∷ xs) x
ends_behind k [] x h = absurd (cc)
ends_behind k (y ∷ ys) x h = let e : length (k ∷ y ∷ ys) - 1 ≡ suc (length (y ∷ ys) - 1) = omega arith in ap (slice_get (k ∷ y ∷ ys)) e ∙ h

cut_ends : (text rest : List ℕ) (ls : List Lexeme) (before : Context) → IsCutInto text rest ls → EndsWith (kinds_of (settled_in before ls)) END
cut_ends text rest ls before (ends r blank) = refl
cut_ends text rest ls before (goes r len more some front tail) =
    let l = ir_lexeme_at (offset_of text (after_blank rest)) (take len (after_blank rest)) in
    let kind = kind_in before l.kind l.bytes in
    let behind = context_behind before kind l.bytes in
    ends_behind kind (kinds_of (settled_in behind more)) END (cut_ends text (drop len (after_blank rest)) more behind tail)

pub ended : (text : List ℕ) (ls : List Lexeme) → AreIrTokens text ls → EndsWith (kinds_of ls) END
ended text ls tokens = subst (λ (x : List Lexeme). EndsWith (kinds_of x) END) (sym tokens.settled) (cut_ends text text tokens.plain no_context tokens.cut)
