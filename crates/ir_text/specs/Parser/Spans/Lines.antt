-- Lines of a text: the tokens that each is made of, and their span.
use Rattle.std.specs.Prelude.{◌≡◌, ℕ, List, [], ◌∷◌, ◌++◌, Option, Some, option_map, slice_get}
use Rattle.base.specs.declared.grammar.table.Symbol.{Symbol}
use Rattle.base.specs.declared.grammar.table.Symbol.TheVariants.{Terminal, Nonterminal}
use Rattle.base.specs.Grammar.Tree.{Forest, Grows, leaves_of}
use Rattle.xb_span.specs.declared.span.Span.{Span}
use Rattle.delay_model.specs.Names.{op_named}
use Rattle.delay_model.specs.declared.op.Op.{Op}
use Rattle.dslx_token.specs.Lexeme.{Lexeme}
use Rattle.ir_builder.specs.declared.token.rules.generated.kind.TheConstants as kind
use Rattle.ir_builder.specs.declared.token.rules.generated.nonterminal.TheConstants as nonterminal
use Rattle.ir_builder.specs.Token.Rules.Ir.{ir}
use Rattle.ir_builder.specs.Token.Kinds.{op_part}
use Rattle.ir_builder.specs.Token.Said.{id_said}
use Rattle.ir_builder.specs.Rules.{reach}
use Rattle.ir_text.specs.Parser.Reads.{kinds_of}

-- By the grammar the symbols may be written as these tokens.
pub record AreTokensOf (form : List Symbol) (own : List Lexeme) : Type 0 where
  pub tree : Forest
  pub grows : Grows ir.rules form tree
  pub leaves : leaves_of tree ≡ kinds_of own

-- The span goes from where the first of the tokens begins to where the last one ends.
pub record IsSpanOf (own : List Lexeme) (span : Span) : Type 0 where
  pub first : Lexeme
  pub last : Lexeme
  pub behind : List Lexeme
  pub front : List Lexeme
  pub begins : own ≡ first ∷ behind
  pub ends : own ≡ front ++ last ∷ []
  pub span_is : span ≡ reach first last

-- The tokens are a line of this form, and this is its span.
pub record IsLineOfForm (form : List Symbol) (own : List Lexeme) (span : Span) : Type 0 where
  pub derived : AreTokensOf form own
  pub spanned : IsSpanOf own span

-- `package NAME`
abbrev pub package_form : List Symbol
package_form = Terminal kind.PACKAGE ∷ Nonterminal nonterminal.ANY_NAME ∷ []

-- `chan NAME(TYPE, id=N, kind=..)`
abbrev pub channel_form : List Symbol
channel_form = Nonterminal nonterminal.CHANNEL ∷ []

-- `proc NAME(st: TYPE, init=VALUE) {`
abbrev pub head_form : List Symbol
head_form = Nonterminal nonterminal.PROC_HEAD ∷ []

-- `OP.ID: TYPE = OP(.., id=ID)`
abbrev pub node_form : List Symbol
node_form = Nonterminal nonterminal.NODE ∷ []

-- `next(OPERAND)`
abbrev pub next_form : List Symbol
next_form = Nonterminal nonterminal.NEXT ∷ []

-- the bytes of the token with this index
abbrev pub bytes_at : List Lexeme → ℕ → Option (List ℕ)
bytes_at own index = option_map (λ l. l.bytes) (slice_get own index)

-- a line of this form, whose second word is this name
pub record IsNamedLine (form : List Symbol) (own : List Lexeme) (name : List ℕ) (span : Span) : Type 0 where
  pub line : IsLineOfForm form own span
  pub named : bytes_at own 1 ≡ Some name

-- the line of a node of this id and operation, which its first word names
pub record IsOpLine (own : List Lexeme) (id : ℕ) (op : Op) (span : Span) : Type 0 where
  pub line : IsLineOfForm node_form own span
  pub word : List ℕ
  pub named : bytes_at own 0 ≡ Some word
  pub id_is : id ≡ id_said word
  pub op_is : op_named (op_part word) ≡ Some op

-- The tokens are those of such things one behind the other, each with where it stands.
pub data FollowInTurn {T S : Type 0} (Is : List Lexeme → T → S → Type 0) : List Lexeme → List T → List S → Type 0 where
  none : FollowInTurn Is [] [] []
  more : {own others : List Lexeme} {x : T} {xs : List T} {at : S} {ats : List S} → Is own x at → FollowInTurn Is others xs ats → FollowInTurn Is (own ++ others) (x ∷ xs) (at ∷ ats)
