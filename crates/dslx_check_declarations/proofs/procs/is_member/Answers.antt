use Rattle.std.proofs.Common.{◌≡◌, ◌∙◌, Option, not, sym, ap, subst}
use Rattle.dslx_meaning.specs.Rules.CallRules.{channel_end_in}
use Rattle.dslx_meaning.specs.Rules.ProcRules as the
use Rattle.dslx_check_facts.specs.declared.type_env.MemberEnd.{MemberEnd}
use Rattle.dslx_check_rules.specs.Interned.{type_if}
use Rattle.dslx_check_declarations.specs.Ends.{IsEndNamed}
use Rattle.dslx_check_declarations.proofs.procs.is_member.Goals as goal

pub returns : goal.returns
returns c = λ names later m o distinct p means named.
    let x = channel_end_in c.args.ident.now.name m.channel_ends in
    let there = subst (λ (e : Option MemberEnd). IsEndNamed names c.args.types.now later e x) (sym c.end.ensures) (means c.args.ident.now.name) in
    ap not (c.misfits.ensures names later x distinct p named.end.row there ∙ (λ i. the.misfits (named.end.direction i) (named.end.word i) x))
