use Rattle.std.proofs.Common.{◌∙◌, None, Some, ap, refl, subst}
use Rattle.std.specs.Option.{option_map}
use Rattle.std.specs.Prelude.{IfSome}
use Rattle.dslx_check_rules.specs.Interned.{HasRowIf}
use Rattle.dslx_check_facts.specs.declared.type_env.MemberEnd.{MemberEnd}
use Rattle.dslx_check_facts.specs.TypeEnvs.{end_of, env_of}
use Rattle.dslx_check_uses.proofs.OnChannels.{channel_is}
use Rattle.dslx_check_uses.proofs.ends.channel_named.Goals as goal

pub returns-in-Some : goal.returns-in-Some
returns-in-Some c = λ items rows later known bound.
    let name = c.args.name.now in
    let end = end_of items later (name, c.in-Some.end) in
    channel_is items rows later (env_of items later known c.args.s.now) c.args.span name _ (Some end) (c.member_end.ensures.is items later known ∙ ap (option_map (λ (e : MemberEnd). end_of items later (name, e))) c.in-Some.is)
    (c.named_channel.ensures items rows later name (Some end) refl) refl (subst (λ o. IfSome o (λ (e : MemberEnd). HasRowIf rows e.word)) c.in-Some.is (c.member_end.ensures.row items rows bound)) refl
    c.has-has_site.ensures

pub returns-in-None : goal.returns-in-None
returns-in-None c = λ items rows later known bound.
    let name = c.args.name.now in
    channel_is items rows later (env_of items later known c.args.s.now) c.args.span name _ None (c.member_end.ensures.is items later known ∙ ap (option_map (λ (e : MemberEnd). end_of items later (name, e))) c.in-None.is)
    (c.named_channel-in-None.ensures items rows later name None refl) refl tt refl c.has-has_site.ensures
