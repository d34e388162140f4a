use Rattle.base.proofs.OnGrammar.LawProofs.{derivation-unique}
use Rattle.base.proofs.grammar.laws.one_derivation.Goals as goal

pub returns : goal.returns
returns c = derivation-unique c.args.grammar.now c.requires
