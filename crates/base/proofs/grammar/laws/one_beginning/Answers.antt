use Rattle.base.proofs.OnGrammar.LawProofs.{beginning-unique}
use Rattle.base.proofs.grammar.laws.one_beginning.Goals as goal

pub returns : goal.returns
returns c = beginning-unique c.args.grammar.now c.requires
