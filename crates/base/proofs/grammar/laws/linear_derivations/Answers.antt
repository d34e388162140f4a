use Rattle.base.proofs.OnGrammar.LawProofs.{derivation-short}
use Rattle.base.proofs.grammar.laws.linear_derivations.Goals as goal

pub returns : goal.returns
returns c = derivation-short c.args.grammar.now c.requires
