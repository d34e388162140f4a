use Rattle.std.proofs.Common.{◌≡◌, true, sym, ◌∙◌, ap, subst, Some}
use Rattle.std.specs.Prelude.{slice_get}
use Rattle.net_core.specs.Inner.Making.{has_word}
use Rattle.base.proofs.Lemmas.Lists.Indices.{read_is}
use Rattle.net_core.proofs.config.Config.try_receive.Goals as goal

pub receive-requires : goal.receive-requires
receive-requires c =
    let here = c.requires.0 in
    let at = c.requires.1 in
    let chan = c.chan_of-chan.ensures here.progress at.at at.proc at.site_is ∙ at.chan_is in
    let there = subst (λ k. slice_get c.args.self.now.channels.items k ≡ Some here.channel) (sym chan) at.channel_is in
    let same = read_is c.args.self.now.channels.items c.chan_of-chan.result c.index.result.now here.channel there c.index.ensures in
    let e : has_word here.channel ≡ true = sym (ap has_word same) ∙ (sym c.has_word.ensures ∙ c.if-not-has_word.false) in
    (here, at, sym chan, e)

pub returns-clause-ok : goal.returns-clause-ok
returns-clause-ok c here at =
    let chan = c.chan_of-chan.ensures here.progress at.at at.proc at.site_is ∙ at.chan_is in
    let there = subst (λ k. slice_get c.args.self.now.channels.items k ≡ Some here.channel) (sym chan) at.channel_is in
    let same = read_is c.args.self.now.channels.items c.chan_of-chan.result c.index.result.now here.channel there c.index.ensures in
    let e : has_word here.channel ≡ true = sym (ap has_word same) ∙ (sym c.has_word.ensures ∙ c.if-not-has_word.false) in
    (e, c.in_ok-receive.ensures.ok here at (sym chan))
