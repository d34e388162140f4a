-- What a table means: a list of rules.
use Rattle.std.specs.Prelude.{◌≡◌, ℕ, List, length, map, slice_range}
use Rattle.std.specs.List.{range_with_len}
use Rattle.base.specs.declared.grammar.table.Symbol.{Symbol}
use Rattle.base.specs.declared.grammar.table.Production.{Production}
use Rattle.base.specs.declared.grammar.table.Grammar.{Grammar}

-- a nonterminal may be rewritten to these symbols
pub record Rule : Type 0 where
  pub head : ℕ
  pub body : List Symbol

-- A context-free grammar: its rules, of which each has its index in the list as its number, and the kind of the
-- mark that ends each list of tokens. Its start symbol is the nonterminal 0.
pub record Syntax : Type 0 where
  pub rules : List Rule
  pub end : ℕ

-- what a production of a table says, over the table's symbols
abbrev pub rule_of : List Symbol → Production → Rule
rule_of symbols p = record { head = p.head; body = slice_range symbols p.first p.end }

abbrev pub rules_of : Grammar → List Rule
rules_of g = map (rule_of g.symbols.now) g.productions.now

abbrev pub syntax_of : Grammar → Syntax
syntax_of g = record { rules = rules_of g; end = g.end }

-- A rule, and the number that its name stands for.
pub record NamedRule : Type 0 where
  pub number : ℕ
  pub rule : Rule

abbrev pub named : ℕ → ℕ → List Symbol → NamedRule
named number head body = record { number = number; rule = record { head = head; body = body } }

-- The numbers are the indices in the list: 0, 1, 2 and so on. So names that stand for them in this order stand for
-- different numbers, and a rule's name for the rule's index.
abbrev pub AreInOrder : List ℕ → Type 0
AreInOrder numbers = numbers ≡ range_with_len 0 (length numbers)
