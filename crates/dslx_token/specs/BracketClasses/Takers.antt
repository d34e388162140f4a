-- Which rule took each token: the rule whose body has it.
use Rattle.std.specs.Prelude.{ℕ, Option, None, Some, List, [], ◌∷◌, ◌++◌, map, slice_get}
use Rattle.base.specs.declared.grammar.table.Symbol.{Symbol}
use Rattle.base.specs.declared.grammar.table.Symbol.TheVariants.{Terminal, Nonterminal}
use Rattle.base.specs.Grammar.Derivation.{start_of}
use Rattle.base.specs.Grammar.Syntax.{Rule}
use Rattle.dslx_token.specs.Rules.Dslx.{dslx}
use Rattle.dslx_token.specs.declared.bracket_classes.owners.Owned.{Owned}

-- what the rule with this number may be rewritten to
abbrev pub body_of_rule : Option Rule → List Symbol
body_of_rule None = []
body_of_rule (Some rule) = rule.body

abbrev pub body_of : List Rule → ℕ → List Symbol
body_of rules number = body_of_rule (slice_get rules number)

-- symbols of the body of the rule with this number
abbrev pub owned_by : ℕ → List Symbol → List Owned
owned_by number symbols = map (λ s. record { rule = number; symbol = s }) symbols

abbrev pub taker_first : ℕ → Symbol → List ℕ → List ℕ
taker_first number (Terminal kind) others = number ∷ others
taker_first number (Nonterminal n) others = []

-- the rules of the tokens before the first nonterminal
abbrev pub prefix_takers : List Owned → List ℕ
prefix_takers [] = []
prefix_takers (o ∷ os) = taker_first o.rule o.symbol (prefix_takers os)

abbrev pub behind_symbol : Symbol → List Owned → List Owned → List Owned
behind_symbol (Terminal kind) all others = others
behind_symbol (Nonterminal n) all others = all

-- the symbols behind the first nonterminal
abbrev pub behind_nonterminal : List Owned → List Owned
behind_nonterminal [] = []
behind_nonterminal (o ∷ os) = behind_symbol o.symbol os (behind_nonterminal os)

-- the rule of each token that the symbols lead to, where the rules with these numbers rewrite the leftmost nonterminal
-- in turn
abbrev pub takers_from : List Rule → List ℕ → List Owned → List ℕ
takers_from rules [] ahead = prefix_takers ahead
takers_from rules (p ∷ ps) ahead =
    prefix_takers ahead ++ takers_from rules ps (owned_by p (body_of rules p) ++ behind_nonterminal ahead)

-- the rule of each token that the productions lead to
abbrev pub takers_of : List ℕ → List ℕ
takers_of productions = takers_from dslx.rules productions (owned_by 0 (start_of dslx))
