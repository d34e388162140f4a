use Rattle.dslx_meaning.specs.Rules.NameRules.{member_typing}
use Rattle.dslx_meaning.specs.Rules.PatternRules.{is_there}
use Rattle.dslx_meaning.specs.Rules.TypeEnvs.{Judgement, TypeEnv}
use Rattle.std.proofs.Common.{Bool}
use Rattle.dslx_check_leaves.proofs.Lemmas.OnOneValue.{value_noted, value_seen}
use Rattle.dslx_check_leaves.proofs.Lemmas.Walking.{looked_up}
use Rattle.dslx_check_leaves.proofs.patterns.member_pattern.Goals as goal

pub returns : goal.returns
returns c =
    let D : TypeEnv → Judgement = λ env. member_typing env c.args.choice.now c.args.member.now in
    let K : TypeEnv → Bool = λ env. is_there (env.known.items.member c.args.choice.now.name c.args.member.now.name) in
    value_seen {D = D} {K = K} c.args.span c.args.may_fail (value_noted {D = D} {K = K} (looked_up c.in_ok-own.ensures.misses c.in_ok-own.ensures.judged) c.in_ok-is_known.ensures.misses c.in_ok-is_known.ensures.is) c.value_pattern.ensures
