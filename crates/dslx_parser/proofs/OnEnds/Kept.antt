-- The trees of a text's tokens make parts whose ends have words for names.
use Rattle.std.proofs.Common.{◌≡◌, ℕ, true, List, [], ◌∷◌, ◌++◌}
use Rattle.base.specs.declared.grammar.table.Symbol.{Symbol}
use Rattle.base.specs.Grammar.Tree.{Forest}
use Rattle.dslx_token.specs.Lexeme.{Lexeme}
use Rattle.dslx_tree.specs.declared.item.Module.{Module}
use Rattle.dslx_parser.specs.Ends.{ends_are_words}
use Rattle.dslx_parser.specs.Reads.{TextReads}
use Rattle.dslx_parser.specs.Syntax.SymbolParts.{PartsOf}
use Rattle.dslx_parser.specs.Syntax.Trees.{Makes, empty, leaf, branch, semantic_actions}
use Rattle.dslx_parser.proofs.OnEnds.Named.{NamesAreWords, names_are_words}
use Rattle.dslx_parser.proofs.OnEnds.Rules.{EachHasWords, each_keeps_words, keeps_at}

first_words : (as' bs : List Lexeme) → NamesAreWords (as' ++ bs) → NamesAreWords as'
first_words [] bs h = tt
first_words (a ∷ as') bs h = (h.0, first_words as' bs h.1)

last_words : (as' bs : List Lexeme) → NamesAreWords (as' ++ bs) → NamesAreWords bs
last_words [] bs h = h
last_words (a ∷ as') bs h = last_words as' bs h.1

kept : (symbols : List Symbol) (forest : Forest) (ls : List Lexeme) (parts : PartsOf symbols) → Makes symbols forest ls parts → NamesAreWords ls → EachHasWords symbols parts
kept symbols forest ls parts empty h = tt
kept symbols forest ls parts (leaf {s = s} {right = right} {ls = ls'} {parts = parts'} l others) h = (h.0, kept s right ls' parts' others h.1)
kept symbols forest ls parts (branch {p = p} {s = s} {below = below} {right = right} {own = own} {others = others} {parts = parts'} r inner at makes more) h =
    (keeps_at semantic_actions p r each_keeps_words at inner (kept r.body below own inner makes (first_words own others h)), kept s right others parts' more (last_words own others h))

-- a text that is read
pub of_text : (text : List ℕ) (m : Module) → TextReads text m → ends_are_words m ≡ true
of_text text m t = (kept _ _ _ _ t.reads.makes (names_are_words text t.tokens t.cut)).0
