-- The tokens of trees stand where the parts that the trees make do.
use Rattle.std.proofs.Common.{◌≡◌, ◌≤◌, ℕ, zero, suc, List, [], ◌∷◌, ◌++◌, subst}
use Rattle.std.specs.Prelude.{Some, slice_get}
use Rattle.base.specs.declared.grammar.table.Symbol.{Symbol}
use Rattle.base.specs.declared.grammar.table.Symbol.TheVariants.{Terminal, Nonterminal}
use Rattle.base.specs.Grammar.Tree.{Forest}
use Rattle.dslx_token.specs.Lexeme.{Lexeme}
use Rattle.dslx_tree.specs.declared.item.Module.{Module}
use Rattle.dslx_parser.specs.Syntax.Sorts.{OfSort, sort_of}
use Rattle.dslx_parser.specs.Syntax.SymbolParts.{SemanticAction, PartsOf, made_from}
use Rattle.dslx_parser.specs.Syntax.Trees.{IsTextOf, Makes, empty, leaf, branch, semantic_actions}
use Rattle.dslx_parser.specs.Spans.Along.{AreAlong}
use Rattle.dslx_parser.specs.Spans.Places.{ItemsHaveSpans}
use Rattle.dslx_parser.proofs.OnSpans.Around.{after}
use Rattle.dslx_parser.proofs.OnSpans.Fits.{AllKeep, none, ◌&◌, Fits, IsTokenAt, Keeps, PartsFit}
use Rattle.dslx_parser.proofs.OnSpans.KeepsAtoms as keeps_atoms
use Rattle.dslx_parser.proofs.OnSpans.KeepsBlocks as keeps_blocks
use Rattle.dslx_parser.proofs.OnSpans.KeepsItems as keeps_items
use Rattle.dslx_parser.proofs.OnSpans.KeepsOperators as keeps_operators
use Rattle.dslx_parser.proofs.OnSpans.KeepsProcs as keeps_procs
use Rattle.dslx_parser.proofs.OnSpans.KeepsStatements as keeps_statements
use Rattle.dslx_parser.proofs.OnSpans.KeepsTypes as keeps_types
use Rattle.dslx_parser.proofs.OnSpans.Standing.{same, through}

-- ---- every rule

all_keep : {rs others : List SemanticAction} → AllKeep rs → AllKeep others → AllKeep (rs ++ others)
all_keep none more = more
all_keep (keep & keeps) more = keep & all_keep keeps more

every_rule : AllKeep semantic_actions
unfolding semantic_actions
every_rule = all_keep keeps_items.keep (all_keep keeps_procs.keep (all_keep keeps_types.keep (all_keep keeps_statements.keep (all_keep keeps_operators.keep (all_keep keeps_atoms.keep keeps_blocks.keep)))))

found_first : (r q : SemanticAction) → Some r ≡ Some q → r ≡ q
found_first r q e = cc

keeps_at : (rs : List SemanticAction) (p : ℕ) (r : SemanticAction) → AllKeep rs → slice_get rs p ≡ Some r → Keeps r
keeps_at [] p r keep found = absurd (none_there p found)
  where
    none_there : (n : ℕ) → slice_get {X = SemanticAction} [] n ≡ Some r → ⊥
    none_there n e = cc
keeps_at (q ∷ rs) zero r (keep & keeps) found = subst Keeps (found_first q r found) keep
keeps_at (q ∷ rs) (suc p) r (keep & keeps) found = keeps_at rs p r keeps found

-- ---- tokens

along_by : (ls : List Lexeme) (a b c : ℕ) → AreAlong ls a b → b ≤ c → AreAlong ls a c
along_by [] a b c k le = through a b c k le
along_by (l ∷ ls) a b c k le = (k.0, k.1, k.2, along_by ls l.span.to b c k.3 le)

split : (own others : List Lexeme) (a b : ℕ) → AreAlong (own ++ others) a b → (mid : ℕ) × AreAlong own a mid × AreAlong others mid b
split [] others a b k = (a, same a, k)
split (l ∷ own) others a b k = let rest = split own others l.span.to b k.3 in (rest.0, (k.0, k.1, k.2, rest.1), rest.2)

-- ---- a part in front of others

token_first : (l : Lexeme) (s : List Symbol) (parts : PartsOf s) (a b : ℕ) → a ≤ l.span.from → l.span.from ≤ l.span.to → ((mid : ℕ) → l.span.to ≤ mid → IsTokenAt l.kind l a mid) → PartsFit s parts l.span.to b → PartsFit (Terminal l.kind ∷ s) (l, parts) a b
token_first l [] parts a b first goes fits rest = fits b rest
token_first l (x ∷ s) parts a b first goes fits rest = (l.span.to, fits l.span.to (same l.span.to), rest)

part_first : (n : ℕ) (part : OfSort (sort_of n)) (s : List Symbol) (parts : PartsOf s) (a mid b : ℕ) → ((c : ℕ) → mid ≤ c → Fits (sort_of n) part a c) → PartsFit s parts mid b → PartsFit (Nonterminal n ∷ s) (part, parts) a b
part_first n part [] parts a mid b fits rest = fits b rest
part_first n part (x ∷ s) parts a mid b fits rest = (mid, fits mid (same mid), rest)

-- ---- trees

pub go : {symbols : List Symbol} {f : Forest} {ls : List Lexeme} {parts : PartsOf symbols} → Makes symbols f ls parts → (a b : ℕ) → AreAlong ls a b → PartsFit symbols parts a b
go empty a b k = k
go (leaf {s = s} {parts = parts} l makes) a b k =
    token_first l s parts a b k.0 k.1 (λ mid le. record { within = record { first = k.0; goes = k.1; last = le }; name = k.2 }) (go makes l.span.to b k.3)
go (branch {p = p} {s = s} {own = own} {others = others} {parts = parts} r inner found makes more) a b k =
    let at = split own others a b k in
    part_first r.head (made_from r.body r.part inner) s parts a at.0 b
    (λ c le. keeps_at semantic_actions p r every_rule found inner a c (go makes a c (along_by own a at.0 c at.1 le)))
    (go more at.0 b at.2)

-- ---- a whole text

pub text_is_placed : (ls : List Lexeme) (m : Module) (to : ℕ) → AreAlong ls 0 to → IsTextOf ls m → ItemsHaveSpans m 0 to
text_is_placed ls m to k text =
    let fit = go text.makes 0 to k in
    after fit.1 fit.2
