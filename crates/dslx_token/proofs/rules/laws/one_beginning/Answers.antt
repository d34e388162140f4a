use Rattle.std.proofs.Common.{◌≡◌, ℕ, List, subst}
use Rattle.base.specs.Grammar.Derivation.{IsBeginning}
use Rattle.dslx_token.proofs.rules.laws.one_beginning.Goals as goal

pub returns : goal.returns
returns c =
    subst (λ y. (ps qs ts : List ℕ) → IsBeginning y ps ts → IsBeginning y qs ts → ps ≡ qs) c.grammar.ensures.syntax c.one_beginning.ensures
