use Rattle.std.proofs.Common.{◌≡◌, ◌∙◌, Option, sym, ap, subst}
use Rattle.dslx_meaning.specs.Rules.CallRules.{channel_end_in}
use Rattle.dslx_meaning.specs.Rules.RuleNumbers as rule
use Rattle.dslx_meaning.specs.Rules.TypeEnvs.{breaks_if}
use Rattle.dslx_check_facts.specs.declared.type_env.MemberEnd.{MemberEnd}
use Rattle.dslx_check_rules.specs.Seen.{seen}
use Rattle.dslx_check_declarations.specs.Ends.{IsEndNamed}
use Rattle.dslx_check_declarations.proofs.spawns.handed_fault.Goals as goal

pub returns : goal.returns
returns c = λ names later m distinct p means row.
    let x = channel_end_in c.args.ident.now.name m.channel_ends in
    let there = subst (λ (e : Option MemberEnd). IsEndNamed names c.args.types.now later e x) (sym c.end.ensures) (means c.args.ident.now.name) in
    c.breaks_if.ensures ∙ ap (λ b. seen (breaks_if b rule.VALUE_HAS_ITS_TYPE c.args.ident.now.span)) (c.misfits-is_other.ensures names later x distinct p row there)
