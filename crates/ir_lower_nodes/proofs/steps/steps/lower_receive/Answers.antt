use Rattle.std.proofs.lemmas.Result.{IfOk-weaker}
use Rattle.ir_lower_nodes.proofs.steps.steps.lower_receive.Goals as goal

pub returns-in-None : goal.returns-in-None
returns-in-None c = IfOk-weaker c.receive_always.result _ _ (λ o h. h c.args.functions.now c.args.channels.now c.channel_of-channel.ensures c.in-None.is) c.receive_always.ensures

pub returns-in-Some : goal.returns-in-Some
returns-in-Some c = IfOk-weaker c.receive_under.result _ _ (λ o h. h c.args.channels.now c.channel_of-channel.ensures c.in-Some.is) c.receive_under.ensures
