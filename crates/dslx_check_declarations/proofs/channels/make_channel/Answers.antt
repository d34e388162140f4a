use Rattle.std.proofs.Common.{◌∙◌, ◌∷◌, ap}
use Rattle.std.proofs.lemmas.Result.{on_ok_weaker}
use Rattle.dslx_check_declarations.proofs.OnChannels.{made_is}
use Rattle.dslx_check_declarations.proofs.channels.make_channel.Goals as goal

pub returns : goal.returns
returns c = on_ok_weaker c.add_string.result
    (λ h. made_is c.args.channel.now (ap (λ l. record c.args.s.now { ends = l }) (c.in_ok-bind-2.ensures ∙ ap (λ l. (c.args.channel.now.receiver.name, tt) ∷ l) c.in_ok-bind.ensures))
    c.named_end.ensures c.in_ok-add.ensures c.named_end-2.ensures c.in_ok-add-2.ensures h) c.add_string.ensures
