-- Along the tree of a text each part is as high as its tokens let it be.
use Rattle.std.proofs.Common.{◌≡◌, ℕ, true, List, ◌∷◌, refl, sym, subst}
use Rattle.base.specs.declared.grammar.table.Symbol.{Symbol}
use Rattle.base.specs.declared.grammar.table.Symbol.TheVariants.{Terminal, Nonterminal}
use Rattle.base.specs.Grammar.Tree.{Forest}
use Rattle.dslx_token.specs.Lexeme.{Lexeme}
use Rattle.dslx_token.specs.BracketClasses.BracketClasses.{bracket_class_of}
use Rattle.dslx_parser.specs.Syntax.Sorts.{OfSort, sort_of}
use Rattle.dslx_parser.specs.Syntax.SymbolParts.{SemanticAction, PartsOf, made_from}
use Rattle.dslx_parser.specs.Syntax.Trees.{Makes, empty, leaf, branch}
use Rattle.dslx_parser.proofs.OnDepths.Effects.{after, began_with, effect_of}
use Rattle.dslx_parser.proofs.OnDepths.Fits.{Fits, KeepsFrom, Part, PartsFit, end_of}
use Rattle.dslx_parser.proofs.OnDepths.Every.{keeps_at, rules_ready}
use Rattle.dslx_parser.proofs.OnDepths.Ready.{Ready, at_ready, begins, fits_after, fits_begin, fits_token, fitting, is_ready, ready_after, ready_behind, ready_part}
use Rattle.dslx_parser.proofs.OnDepths.States.{AllLow, Low, State, deep, low_last, low_split, run, run_both, step}
use Rattle.dslx_parser.proofs.OnDepths.Takers.{bracket_classes_along}

-- what is so of all parts, and where they end
pub record Goes (p : ℕ) (symbols : List Symbol) (parts : PartsOf symbols) (s t : State) : Type 0 where
  pub fit : PartsFit p symbols parts s
  pub ends : end_of p symbols parts s fit ≡ t

-- the part of a rule, where the parts of its body go
made_part : (r : SemanticAction) (inner : PartsOf r.body) (q : ℕ) (s t : State) → KeepsFrom q r s → Goes q r.body inner s t → Low t
    → (t ≡ after (effect_of r.head) s t.token_spans) × Part r.head (made_from r.body r.part inner) s t.token_spans
made_part r inner q s t keeps goes low =
    let e : end_of q r.body inner s goes.fit ≡ t = goes.ends in
    let kept = keeps inner goes.fit in
    let is : t ≡ after (effect_of r.head) s t.token_spans = subst (λ (u : State). u ≡ after (effect_of r.head) s u.token_spans) e kept.0 in
    let fits : Fits (sort_of r.head) (made_from r.body r.part inner) (deep t) (began_with (effect_of r.head) s) t.token_spans = subst (λ (u : State). Fits (sort_of r.head) (made_from r.body r.part inner) (deep u) (began_with (effect_of r.head) s) u.token_spans) e kept.1 in (
      is,
      record {
        low = subst Low is low;
        fits = subst (λ (u : State). Fits (sort_of r.head) (made_from r.body r.part inner) (deep u) (began_with (effect_of r.head) s) u.token_spans) is fits;
      },
    )

token_goes : (p : ℕ) (l : Lexeme) (symbols : List Symbol) (parts : PartsOf symbols) (s t : State) → Goes p symbols parts (step s (bracket_class_of p l.kind)) t → Goes p (Terminal l.kind ∷ symbols) (l, parts) s t
token_goes p l symbols parts s t goes = record { fit = goes.fit; ends = goes.ends }

part_goes : (p n m : ℕ) (part : OfSort (sort_of n)) (symbols : List Symbol) (parts : PartsOf symbols) (s t : State) → Part n part s m → Goes p symbols parts (after (effect_of n) s m) t → Goes p (Nonterminal n ∷ symbols) (part, parts) s t
part_goes p n m part symbols parts s t fits goes = record { fit = (m, fits, goes.fit); ends = goes.ends }

pub go : (p : ℕ) {symbols : List Symbol} {f : Forest} {ls : List Lexeme} {parts : PartsOf symbols} → Makes symbols f ls parts → (at : Ready) (s : State)
    → is_ready at p symbols ≡ true → fitting at s → AllLow s (bracket_classes_along p f) → Goes p symbols parts s (run s (bracket_classes_along p f))
go p empty at s ready fits low = record { fit = tt; ends = refl }
go p (leaf {s = symbols} {parts = parts} l makes) at s ready fits low =
    token_goes p l symbols parts s _
    (go p makes (ready_behind at (bracket_class_of p l.kind)) (step s (bracket_class_of p l.kind)) ready (fits_token at s (bracket_class_of p l.kind) fits) low.1)
go p (branch {p = q} {s = symbols} {below = below} {right = right} {own = own} {others = others} {parts = parts} r inner found makes more) at s ready fits low =
    let lows = low_split s (bracket_classes_along q below) (bracket_classes_along p right) low in
    let behind : State = run s (bracket_classes_along q below) in
    let begun = ready_part at p r.head symbols ready in
    let goes = go q makes (begins (effect_of r.head)) s (rules_ready q r found) (fits_begin at (effect_of r.head) s begun.0 fits) lows.0 in
    let made = made_part r inner q s behind (at_ready (effect_of r.head) (KeepsFrom q r) s (fits_begin at (effect_of r.head) s begun.0 fits) (keeps_at q r found)) goes (low_last s (bracket_classes_along q below) lows.0) in
    let rest = go p more (ready_after at (effect_of r.head)) behind begun.1 (subst (fitting (ready_after at (effect_of r.head))) (sym made.0) (fits_after at (effect_of r.head) s behind.token_spans fits)) lows.1 in
    subst (Goes p (Nonterminal r.head ∷ symbols) (made_from r.body r.part inner, parts) s) (sym (run_both s (bracket_classes_along q below) (bracket_classes_along p right)))
    (part_goes p r.head behind.token_spans (made_from r.body r.part inner) symbols parts s _ made.1
    (subst (λ (u : State). Goes p symbols parts u (run behind (bracket_classes_along p right))) made.0 rest))
