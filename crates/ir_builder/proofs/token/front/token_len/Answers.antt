use Rattle.ir_builder.proofs.OnToken.PrefixFacts.{prefix_found}
use Rattle.ir_builder.proofs.token.front.token_len.Goals as goal

pub returns : goal.returns
returns c = prefix_found c.args.text.now c.token_prefix.result c.token_prefix.ensures.front c.token_prefix.ensures.within
