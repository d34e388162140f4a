use Rattle.std.proofs.Common.{subst, zero-add}
use Rattle.base.specs.Grammar.Derivation.{IsAlternative}
use Rattle.base.proofs.OnGrammar.LawProofs.{rule-alternative}
use Rattle.base.proofs.grammar.laws.alternatives.Goals as goal

pub returns : goal.returns
returns c = λ rules number head body r. subst (λ i. IsAlternative 0 rules head i body) (zero-add number) (rule-alternative rules 0 number head body r)
