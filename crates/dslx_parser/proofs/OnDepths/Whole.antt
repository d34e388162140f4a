-- The tree of a text whose tokens nest within the limit is no higher than that lets it be.
use Rattle.std.proofs.Common.{◌≤◌, ◌≡◌, ℕ, zero, suc, List, [], ◌∷◌, ◌++◌, map, refl, ap, sym, ◌∙◌, subst}
use Rattle.std.specs.Prelude.{None, Some, slice_get}
use Rattle.base.specs.declared.grammar.table.Symbol.{Symbol}
use Rattle.base.specs.declared.grammar.table.Symbol.TheVariants.{Terminal, Nonterminal}
use Rattle.base.specs.Grammar.Derivation.{Derives, start_of}
use Rattle.base.specs.Grammar.Syntax.{Rule}
use Rattle.base.specs.Grammar.Tree.{Forest, Grows, leaves_of, productions_of}
use Rattle.dslx_token.specs.Rules.Dslx.{dslx}
use Rattle.dslx_token.specs.declared.rules.generated.kind.TheConstants.{END}
use Rattle.dslx_token.specs.declared.rules.generated.nonterminal.TheConstants.{MODULE}
use Rattle.dslx_token.specs.Lexeme.{Lexeme}
use Rattle.dslx_tree.specs.declared.item.Module.{Module}
use Rattle.xb_span.specs.Nesting.Nesting.{first_past}
use Rattle.xb_span.specs.declared.nesting.bracket_class.BracketClass.{BracketClass}
use Rattle.xb_span.specs.declared.nesting.bracket_class.BracketClass.TheVariants.{Plain}
use Rattle.dslx_token.specs.BracketClasses.BracketClasses.{bracket_class_of, bracket_classes_of}
use Rattle.dslx_parser.specs.Syntax.SymbolParts.{SemanticAction, PartsOf}
use Rattle.dslx_parser.specs.Syntax.Trees.{IsTextOf, Makes, empty, leaf, branch, semantic_actions, rule_of}
use Rattle.dslx_parser.specs.Depths.TreeDepths.{NestWithin, tree_depth, kinds_in, most_high}
use Rattle.dslx_parser.proofs.OnDepths.NoHigher.{no_higher}
use Rattle.dslx_parser.proofs.OnDepths.Effects.{outside_with}
use Rattle.dslx_parser.proofs.OnDepths.Going.{go}
use Rattle.dslx_parser.proofs.OnDepths.Ready.{outside}
use Rattle.dslx_parser.proofs.OnDepths.States.{AllLow, State, all_low, step}
use Rattle.dslx_parser.proofs.OnDepths.Takers.{bracket_classes_along, bracket_classes_are}

pub record TheLaws : Type 0 where
  pub derives : (rules : List Rule) (s : List Symbol) (f : Forest) → Grows rules s f → Derives rules s (productions_of f) (leaves_of f)
  pub same : map rule_of semantic_actions ≡ dslx.rules

-- ---- what makes a text's tree is a derivation

none_there : (r : SemanticAction) (n : ℕ) → slice_get {X = SemanticAction} [] n ≡ Some r → ⊥
none_there r n e = cc

first_is : (a b : SemanticAction) → Some a ≡ Some b → a ≡ b
first_is a b e = cc

rule_mapped : (rs : List SemanticAction) (p : ℕ) (r : SemanticAction) → slice_get rs p ≡ Some r → slice_get (map rule_of rs) p ≡ Some (rule_of r)
rule_mapped [] p r found = absurd (none_there r p found)
rule_mapped (q ∷ rs) zero r found = ap (λ (x : SemanticAction). Some (rule_of x)) (first_is q r found)
rule_mapped (q ∷ rs) (suc p) r found = rule_mapped rs p r found

made_grows : (rules : List Rule) → map rule_of semantic_actions ≡ rules → {symbols : List Symbol} {f : Forest} {ls : List Lexeme} {parts : PartsOf symbols} → Makes symbols f ls parts → Grows rules symbols f
made_grows rules same empty = Grows.empty
made_grows rules same (leaf l makes) = Grows.leaf (made_grows rules same makes)
made_grows rules same (branch {p = p} r inner found makes more) =
    Grows.branch r.body (subst (λ (rs : List Rule). slice_get rs p ≡ Some (rule_of r)) same (rule_mapped semantic_actions p r found)) (made_grows rules same makes) (made_grows rules same more)

kinds_append : (a b : List Lexeme) → kinds_in (a ++ b) ≡ kinds_in a ++ kinds_in b
kinds_append [] b = refl
kinds_append (l ∷ a) b = ap (λ (t : List ℕ). l.kind ∷ t) (kinds_append a b)

made_kinds : {symbols : List Symbol} {f : Forest} {ls : List Lexeme} {parts : PartsOf symbols} → Makes symbols f ls parts → leaves_of f ≡ kinds_in ls
made_kinds empty = refl
made_kinds (leaf l makes) = ap (λ (t : List ℕ). l.kind ∷ t) (made_kinds makes)
made_kinds (branch {below = below} {right = right} {own = own} {others = others} r inner found makes more) =
    ap (λ (t : List ℕ). t ++ leaves_of right) (made_kinds makes) ∙ ap (λ (t : List ℕ). kinds_in own ++ t) (made_kinds more) ∙ sym (kinds_append own others)

-- ---- the roles of all tokens, of which the last one is the end mark

start_is : start_of dslx ≡ Nonterminal MODULE ∷ Terminal END ∷ []
unfolding dslx
start_is = refl

nothing_left : {s : List Symbol} {f : Forest} {ls : List Lexeme} {parts : PartsOf s} → Makes s f ls parts → s ≡ [] → bracket_classes_along 0 f ≡ []
nothing_left empty e = refl
nothing_left (leaf {s = s} l makes) e = absurd (cc)
nothing_left (branch {s = s} r inner found makes more) e = absurd (cc)

kind_is : (a b : ℕ) (s t : List Symbol) → Terminal a ∷ s ≡ Terminal b ∷ t → a ≡ b
kind_is a b s t e = cc

rest_is : (a b : Symbol) (s t : List Symbol) → a ∷ s ≡ b ∷ t → s ≡ t
rest_is a b s t e = cc

no_mark : (n : ℕ) (s : List Symbol) → Nonterminal n ∷ s ≡ Terminal END ∷ [] → ⊥
no_mark n s e = cc

mark_left : {s : List Symbol} {f : Forest} {ls : List Lexeme} {parts : PartsOf s} → Makes s f ls parts → s ≡ Terminal END ∷ [] → bracket_classes_along 0 f ≡ Plain ∷ []
mark_left empty e = absurd (cc)
mark_left (leaf {s = s} {right = right} l makes) e =
    ap (λ (k : ℕ). bracket_class_of 0 k ∷ bracket_classes_along 0 right) (kind_is l.kind END s [] e) ∙ ap (λ (rs : List BracketClass). Plain ∷ rs) (nothing_left makes (rest_is (Terminal l.kind) (Terminal END) s [] e))
mark_left (branch {s = s} r inner found makes more) e = absurd (no_mark r.head s e)

record EndsPlain (bracket_classes : List BracketClass) : Type 0 where
  front : List BracketClass
  whole : bracket_classes ≡ front ++ Plain ∷ []

text_ends : {s : List Symbol} {f : Forest} {ls : List Lexeme} {parts : PartsOf s} → Makes s f ls parts → s ≡ Nonterminal MODULE ∷ Terminal END ∷ [] → EndsPlain (bracket_classes_along 0 f)
text_ends empty e = absurd (cc)
text_ends (leaf {s = s} l makes) e = absurd (cc)
text_ends (branch {p = p} {s = s} {below = below} r inner found makes more) e =
    record { front = bracket_classes_along p below; whole = ap (λ (rs : List BracketClass). bracket_classes_along p below ++ rs) (mark_left more (rest_is (Nonterminal r.head) (Nonterminal MODULE) s (Terminal END ∷ []) e)) }

-- the end mark changes nothing
low_to_end : (s : State) (front : List BracketClass) → AllLow s front → AllLow s (front ++ Plain ∷ [])
low_to_end s [] low = (low, low)
low_to_end s (role ∷ front) low = (low.0, low_to_end (step s role) front low.1)

-- ---- a whole text

bracket_classes_is : TheLaws → (ls : List Lexeme) (m : Module) → (text : IsTextOf ls m) → bracket_classes_of (productions_of text.forest) (kinds_in ls) ≡ bracket_classes_along 0 text.forest
bracket_classes_is laws ls m text =
    let grows : Grows dslx.rules (start_of dslx) text.forest = subst (λ symbols. Grows dslx.rules symbols text.forest) (sym start_is) (made_grows dslx.rules laws.same text.makes) in
    ap (λ (ks : List ℕ). bracket_classes_of (productions_of text.forest) ks) (sym (made_kinds text.makes)) ∙ bracket_classes_are dslx.rules grows

none_past : TheLaws → (ls : List Lexeme) (m : Module) → (text : IsTextOf ls m) → NestWithin ls → first_past (bracket_classes_along 0 text.forest) ≡ None
none_past laws ls m text within =
    let grows : Grows dslx.rules (start_of dslx) text.forest = subst (λ symbols. Grows dslx.rules symbols text.forest) (sym start_is) (made_grows dslx.rules laws.same text.makes) in
    let derived = subst (λ ts. Derives dslx.rules (start_of dslx) (productions_of text.forest) ts) (made_kinds text.makes) (laws.derives dslx.rules (start_of dslx) text.forest grows) in
    subst (λ (rs : List BracketClass). first_past rs ≡ None) (bracket_classes_is laws ls m text) (within (productions_of text.forest) derived)

all_low_along : (bracket_classes : List BracketClass) → EndsPlain bracket_classes → first_past bracket_classes ≡ None → AllLow (outside_with 0) bracket_classes
all_low_along bracket_classes ends none =
    let past : first_past (ends.front ++ Plain ∷ []) ≡ None = subst (λ (rs : List BracketClass). first_past rs ≡ None) ends.whole none in
    subst (AllLow (outside_with 0)) (sym ends.whole) (low_to_end (outside_with 0) ends.front (all_low (outside_with 0) ends.front Plain 0 past))

pub text_is_up : TheLaws → (ls : List Lexeme) (m : Module) → IsTextOf ls m → NestWithin ls → tree_depth m ≤ most_high
text_is_up laws ls m text within =
    let low = all_low_along (bracket_classes_along 0 text.forest) (text_ends text.makes refl) (none_past laws ls m text within) in
    let goes = go 0 text.makes outside (outside_with 0) refl refl low in
    no_higher most_high m.items goes.fit.1.fits
