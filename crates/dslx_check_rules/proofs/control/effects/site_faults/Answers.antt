use Rattle.std.proofs.Common.{◌≡◌, ◌∙◌, ◌||◌, not, ap}
use Rattle.dslx_meaning.specs.Rules.TypeEnvs.{breaks_if}
use Rattle.dslx_meaning.specs.Rules.CallRules.{goes_there}
use Rattle.dslx_meaning.specs.Rules.RuleNumbers as rule
use Rattle.dslx_check_rules.specs.Seen.{seen}
use Rattle.dslx_check_rules.specs.Control.Effects.{goes}
use Rattle.dslx_check_rules.proofs.OnControl.OnCalls.{goes_is}
use Rattle.dslx_check_rules.proofs.control.effects.site_faults.Goals as goal

pub returns : goal.returns
returns c = λ names rows later context k is.
    let there : c.goes_there-goes.result ≡ goes_there c.args.direction k.channel_end =
    c.goes_there-goes.ensures ∙ ap (goes c.args.direction) is.direction ∙ goes_is c.args.direction k.channel_end in
    c.breaks_if.ensures ∙ ap (λ b. seen (breaks_if b rule.EFFECT_ON_FREE_MEMBER c.args.span)) (c.either-is_odd.ensures ∙ (λ i. not (there i) || is.site i))
