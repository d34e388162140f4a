use Rattle.std.proofs.Common.{sym, subst}
use Rattle.dslx_meaning.specs.Rules.ConstantRules.{constant_of}
use Rattle.dslx_meaning.specs.Rules.TypeEnvs.{alone}
use Rattle.dslx_check_facts.specs.Walks.{shown}
use Rattle.dslx_check_rules.specs.declared.nodes.parts.ConstantTyping.{ConstantTyping}
use Rattle.dslx_check_leaves.specs.Named.Constants.{ConstantFrom, expr_typed}
use Rattle.dslx_check_leaves.proofs.OnNamed.OnConstants.{constant_found}
use Rattle.dslx_check_leaves.proofs.named.constants.constant_typing.Goals as goal

pub returns : goal.returns
returns c =
    subst (λ (k : ConstantTyping). ConstantFrom c.args.f.now c.args.s.now (shown c.args.w.now) (shown c.value_if.new.w) c.args.from c.args.missing c.args.inner
    (λ env. alone env (expr_typed c.args.e.now)) (λ env. constant_of env (expr_typed c.args.e.now)) k) (sym c.with_value.ensures)
    (constant_found c.args.f.now c.args.s.now (shown c.args.w.now) (shown c.reached_since.new.w) (shown c.value_if.new.w) c.args.from c.args.missing c.args.e.now c.args.inner c.with-typing.result c.size_limited-typing.result
    c.in_ok-hidden.hidden c.nothing_missed-is_new.result c.may_evaluate-evaluates.result c.breaks_if-own.result c.in_ok-reached.reached c.in_ok-value.value
    c.in_ok-reached.ensures.misses c.in_ok-value.ensures.misses c.in_ok-reached.ensures.sound c.in_ok-reached.ensures.unbroken c.in_ok-hidden.ensures c.breaks_if-own.ensures
    c.with-typing.ensures.ty c.with-typing.ensures.faults c.with-typing.ensures.size c.size_limited-typing.ensures.ty c.size_limited-typing.ensures.size c.size_limited-typing.ensures.faults
    c.nothing_missed-is_new.ensures c.may_evaluate-evaluates.ensures c.in_ok-value.ensures.value)
