-- What the trees of the grammar make: from the bottom up, each rule makes a part of those of its symbols.
use Rattle.std.specs.Prelude.{◌≡◌, ℕ, List, [], ◌∷◌, ◌++◌, Some, slice_get}
use Rattle.base.specs.declared.grammar.table.Symbol.{Symbol}
use Rattle.base.specs.declared.grammar.table.Symbol.TheVariants.{Terminal, Nonterminal}
use Rattle.base.specs.Grammar.Syntax.{Rule}
use Rattle.base.specs.Grammar.Tree.{Forest, nothing, token, node}
use Rattle.dslx_token.specs.declared.rules.generated.kind.TheConstants.{END}
use Rattle.dslx_token.specs.declared.rules.generated.nonterminal.TheConstants.{MODULE}
use Rattle.dslx_token.specs.Lexeme.{Lexeme}
use Rattle.dslx_tree.specs.declared.item.Module.{Module}
use Rattle.dslx_parser.specs.Syntax.SymbolParts.{SemanticAction, PartsOf, made_from}
use Rattle.dslx_parser.specs.Syntax.Atoms as atoms
use Rattle.dslx_parser.specs.Syntax.Blocks as blocks
use Rattle.dslx_parser.specs.Syntax.Items as items
use Rattle.dslx_parser.specs.Syntax.Operators as operators
use Rattle.dslx_parser.specs.Syntax.Procs as procs
use Rattle.dslx_parser.specs.Syntax.Statements as statements
use Rattle.dslx_parser.specs.Syntax.Types as types

-- the rules of the grammar with what they make, in the order of docs/dslx.grammar
unfoldable pub semantic_actions : List SemanticAction
semantic_actions = items.rules ++ (procs.rules ++ (types.rules ++ (statements.rules ++ (operators.rules ++ (atoms.rules ++ blocks.rules)))))

-- the rule of the grammar alone
abbrev pub rule_of : SemanticAction → Rule
rule_of r = record { head = r.head; body = r.body }

-- The trees of these symbols, with these tokens, make these parts.
pub data Makes : (symbols : List Symbol) → Forest → List Lexeme → PartsOf symbols → Type 0 where
  empty : Makes [] nothing [] tt
  leaf : {s : List Symbol} {right : Forest} {ls : List Lexeme} {parts : PartsOf s} (l : Lexeme) → Makes s right ls parts
      → Makes (Terminal l.kind ∷ s) (token l.kind right) (l ∷ ls) (l, parts)
  branch : {p : ℕ} {s : List Symbol} {below right : Forest} {own others : List Lexeme} {parts : PartsOf s} (r : SemanticAction) (inner : PartsOf r.body)
      → slice_get semantic_actions p ≡ Some r → Makes r.body below own inner → Makes s right others parts
      → Makes (Nonterminal r.head ∷ s) (node p below right) (own ++ others) (made_from r.body r.part inner, parts)

-- These tokens, of which the last one is the end mark, are a text, and this is its tree.
pub record IsTextOf (ls : List Lexeme) (m : Module) : Type 0 where
  pub forest : Forest
  pub end : Lexeme
  pub makes : Makes (Nonterminal MODULE ∷ Terminal END ∷ []) forest ls (m, (end, tt))
