use Rattle.std.proofs.Common.{◌≡◌, ◌∙◌, List, take, arith, ◌<◌, ◌≤◌, length, sym, ap, subst}
use Rattle.dslx_meaning.specs.Rules.TypeEnvs.{Judgement, faults_of_all}
use Rattle.dslx_meaning.specs.Rules.CallRules.{ParametricArgument as GivenSeen, given_judgements}
use Rattle.dslx_check_rules.specs.Seen.{seen}
use Rattle.dslx_check_rules.specs.declared.control.calls.ParametricArgument.{ParametricArgument}
use Rattle.dslx_check_rules.specs.Control.Calls.{IsGiven}
use Rattle.dslx_check_rules.proofs.Lemmas.Nodes.Lists.{all_pairs, faults_next, next_pair}
use Rattle.dslx_check_rules.proofs.control.calls.given_faults.Goals as goal

pub given-preserved : goal.given-preserved
given-preserved c = λ names rows later xs p.
    let within : c.given.argument-index < length c.args.given.now = omega arith in
    next_pair (λ (x : GivenSeen). x.seen.judgement) (λ (js : List Judgement). c.and-faults.result ≡ seen (faults_of_all js)) (IsGiven names rows later) c.args.given.now xs c.given.argument-index c.argument-item.result p within
    (λ x is. let own = subst (λ (g : ParametricArgument). IsGiven names rows later g x) (sym c.argument-item.is) is in
    c.and-faults.ensures (faults_of_all (take c.given.argument-index (given_judgements xs))) x.seen.judgement.faults (c.given.invariant names rows later xs p) own.constant.part.faults
    ∙ ap seen (sym (faults_next (take c.given.argument-index (given_judgements xs)) x.seen.judgement)))

pub returns : goal.returns
returns c = λ names rows later xs p.
    let past : length c.args.given.now ≤ c.given.argument-index = omega arith in
    all_pairs (λ (x : GivenSeen). x.seen.judgement) (λ (js : List Judgement). c.given.faults ≡ seen (faults_of_all js)) (IsGiven names rows later) c.args.given.now xs c.given.argument-index p past
    (c.given.invariant names rows later xs p)
