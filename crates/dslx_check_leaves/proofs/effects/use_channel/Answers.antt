use Rattle.std.proofs.Common.{◌∙◌, sym, ap}
use Rattle.std.specs.Option.{option_copied}
use Rattle.dslx_meaning.specs.Rules.EffectNames.{effect_channel}
use Rattle.dslx_check_leaves.proofs.Lemmas.Binding.{channel_used, no_channel_used, when_ok}
use Rattle.dslx_check_leaves.proofs.effects.use_channel.Goals as goal

pub returns-in-Some : goal.returns-in-Some
returns-in-Some c =
    when_ok c.bind.result (channel_used c.args.s.now (effect_channel c.args.e.now) c.in-Some.name.now c.bind.new.self (sym c.effect_channel.ensures ∙ ap option_copied c.in-Some.is)) c.bind.ensures

pub returns-in-None : goal.returns-in-None
returns-in-None c = no_channel_used c.args.s.now (effect_channel c.args.e.now) (sym c.effect_channel.ensures ∙ ap option_copied c.in-None.is)
