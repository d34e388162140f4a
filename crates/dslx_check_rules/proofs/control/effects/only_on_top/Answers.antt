use Rattle.std.proofs.Common.{◌∷◌, [], None, refl, sym, subst}
use Rattle.dslx_meaning.specs.Rules.TypeEnvs.{breaks}
use Rattle.dslx_meaning.specs.Rules.CallRules.{only_on_top}
use Rattle.dslx_meaning.specs.Rules.RuleNumbers as rule
use Rattle.dslx_check_rules.specs.Nodes.Parts.{FromOne}
use Rattle.dslx_check_rules.proofs.control.effects.only_on_top.Goals as goal

pub returns-then-on_top : goal.returns-then-on_top
returns-then-on_top c = λ rows.
    subst (λ b. FromOne (only_on_top b c.args.span) rows rows c.args.effect c.args.effect) (sym c.if-on_top.true)
    (record { typed = λ names later distinct p x is. is })

pub returns-else-on_top : goal.returns-else-on_top
returns-else-on_top c = λ rows.
    subst (λ b. FromOne (only_on_top b c.args.span) rows rows c.args.effect (record { ty = None; faults = c.and.result; size = c.args.effect.size })) (sym c.if-on_top.false)
    (record {
      typed = λ names later distinct p x is.
          record { row = tt; ty = refl; faults = c.and.ensures x.faults (breaks rule.EFFECT_STANDS_ALONE c.args.span ∷ []) is.faults c.breaks.ensures; size = is.size };
    })
