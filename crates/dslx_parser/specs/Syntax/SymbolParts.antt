-- A rule of the grammar, and what it makes of the parts of its symbols.
use Rattle.std.specs.Prelude.{ℕ, List, [], ◌∷◌}
use Rattle.base.specs.declared.grammar.table.Symbol.{Symbol}
use Rattle.base.specs.declared.grammar.table.Symbol.TheVariants.{Terminal, Nonterminal}
use Rattle.dslx_token.specs.Lexeme.{Lexeme}
use Rattle.dslx_parser.specs.Syntax.Sorts.{OfSort, sort_of}

-- what a symbol's tree is made into: a token stays what it is
abbrev pub PartOf : Symbol → Type 0
PartOf (Terminal kind) = Lexeme
PartOf (Nonterminal n) = OfSort (sort_of n)

-- a part for each of these symbols, in order
abbrev pub PartsOf : List Symbol → Type 0
PartsOf [] = Unit {0}
PartsOf (symbol ∷ symbols) = PartOf symbol × PartsOf symbols

-- a function of the parts of these symbols
abbrev pub MadeFrom : List Symbol → Type 0 → Type 0
MadeFrom [] T = T
MadeFrom (symbol ∷ symbols) T = PartOf symbol → MadeFrom symbols T

-- its value at these parts
abbrev pub made_from : {T : Type 0} (symbols : List Symbol) → MadeFrom symbols T → PartsOf symbols → T
made_from [] value parts = value
made_from (symbol ∷ symbols) f parts = made_from symbols (f parts.0) parts.1

-- A rule of the grammar, and the part of its nonterminal, by those of the symbols of its body.
pub record SemanticAction : Type 0 where
  pub head : ℕ
  pub body : List Symbol
  pub part : MadeFrom body (OfSort (sort_of head))

abbrev pub makes : (head : ℕ) (body : List Symbol) → MadeFrom body (OfSort (sort_of head)) → SemanticAction
makes head body part = record { head = head; body = body; part = part }
