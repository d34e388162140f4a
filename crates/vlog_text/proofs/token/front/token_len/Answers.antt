use Rattle.vlog_text.proofs.OnToken.PrefixFacts.{prefix_found}
use Rattle.vlog_text.proofs.token.front.token_len.Goals as goal

pub returns : goal.returns
returns c = prefix_found c.args.text.now c.token_prefix_len.result c.token_prefix_len.ensures.front c.token_prefix_len.ensures.within
