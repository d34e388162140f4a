use Rattle.std.proofs.Common.{◌∙◌, sym}
use Rattle.dslx.proofs.OnTrees.{limits_alone, refused_for, sized}
use Rattle.dslx.proofs.tree.within_limits.Goals as goal

pub returns-in-Some-clause-refused : goal.returns-in-Some-clause-refused
returns-in-Some-clause-refused c = λ m name p h is.
    refused_for m name c.in-Some.fault c.error.result (limits_alone m name h.none ∙ sym (c.over_limit.ensures.passed m name p h.proc is) ∙ c.in-Some.is) c.error.ensures

pub returns-in-None-clause-none : goal.returns-in-None-clause-none
returns-in-None-clause-none c = λ m name p h is. limits_alone m name h.none ∙ sym (c.over_limit.ensures.passed m name p h.proc is) ∙ c.in-None.is

pub returns-in-None-clause-size : goal.returns-in-None-clause-size
returns-in-None-clause-size c = λ m name p h is. sized c.networks_have_what_is_counted.ensures m name p h c.args.size (c.over_limit.ensures.exact m name p is c.in-None.is)
