use Rattle.std.proofs.Common.{subst, ◌∙◌}
use Rattle.ir_lower_nodes.specs.Exprs.Lowered.{Lowers}
use Rattle.ir_lower_nodes.proofs.OnSteps.OnSteps.{TokenBinds}
use Rattle.ir_lower_nodes.proofs.OnSteps.OnSends.{send_lowers}
use Rattle.ir_lower_nodes.proofs.steps.steps.lower_send.Goals as goal

pub returns : goal.returns
returns c =
    send_lowers c.args.functions.now c.args.channels.now c.args.send.now c.in_ok-on.on c.channel_of-channel.result c.args.nodes.now c.lower_if.new.nodes c.lower.new.nodes c.put_send.new.nodes c.bind_token.new.nodes c.args.token c.in_ok-word.word c.in_ok-last.last c.args.slots.now.items c.bind_token.new.slots.items
    c.in_ok-on.ensures.value
    (subst (λ os. Lowers c.args.functions.now c.args.send.now.word os c.lower_if.new.nodes c.lower.new.nodes c.in_ok-word.word) c.in_ok-on.ensures.kept c.in_ok-word.ensures.value)
    c.in_ok-last.ensures
    (subst (λ os. TokenBinds c.args.send.now.shape c.put_send.new.nodes c.bind_token.new.nodes os c.bind_token.new.slots.items) (c.in_ok-word.ensures.kept ∙ c.in_ok-on.ensures.kept) c.in_ok-bind_token.ensures.binds)
    c.channel_of-channel.ensures
