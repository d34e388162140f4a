use Rattle.std.proofs.Common.{◌∙◌, sym, ap}
use Rattle.xb_span.specs.Fault.{first_of}
use Rattle.dslx_meaning.specs.Rules.NetworkLimits.{network_count, network_faults}
use Rattle.dslx.specs.Count.Sizes.{limit_passed}
use Rattle.dslx.specs.declared.count.size.NetworkSize.{NetworkSize}
use Rattle.dslx.proofs.OnCount.OnSizes.{exact_within, limits_passed}
use Rattle.dslx.proofs.count.size.over_limit.Goals as goal

pub returns-clause-passed : goal.returns-clause-passed
returns-clause-passed c = λ m name p top is.
    c.passed_limit.ensures ∙ ap limit_passed is ∙ limits_passed (network_count m name p) ∙ ap (λ o. first_of (network_faults m name o)) (sym top)

pub returns-clause-exact : goal.returns-clause-exact
returns-clause-exact c = λ m name p is none.
    let exact = exact_within (network_count m name p) (ap limit_passed (sym is) ∙ sym c.passed_limit.ensures ∙ none) in
    (ap (λ (size : NetworkSize). size.procs) is ∙ exact.0, ap (λ (size : NetworkSize). size.channels) is ∙ exact.1)
