-- What `Grammar::choose` promises to `parse`.
use Rattle.std.specs.Prelude.{◌≡◌, ℕ, List, slice_index}
use Rattle.std.specs.Int.{bit_at}
use Rattle.base.specs.declared.grammar.table.Symbol.{Symbol}
use Rattle.base.specs.declared.grammar.table.Grammar.{Grammar}
use Rattle.base.specs.Grammar.Syntax.{rules_of}
use Rattle.base.specs.Grammar.Derivation.{IsRule}
use Rattle.base.specs.Grammar.Ll1.{chosen_of}

-- The rule is taken before a token of this kind.
abbrev pub IsTakenBefore : Grammar → ℕ → ℕ → Type 0
IsTakenBefore g kind number = bit_at (slice_index (chosen_of g) number) kind ≡ 1

-- The rule is one of the nonterminal's, and is taken before this kind.
pub record IsChoice (g : Grammar) (nonterminal kind number : ℕ) : Type 0 where
  pub body : List Symbol
  pub rule : IsRule (rules_of g) number nonterminal body
  pub taken : IsTakenBefore g kind number

-- No rule of the nonterminal is taken before this kind.
abbrev pub IsNoChoice : Grammar → ℕ → ℕ → Type 0
IsNoChoice g nonterminal kind = (number : ℕ) (body : List Symbol) → IsRule (rules_of g) number nonterminal body → IsTakenBefore g kind number → ⊥
