use Rattle.std.proofs.Common.{refl, sym, subst}
use Rattle.dslx_meaning.specs.Rules.PatternRules.{nothing_bound}
use Rattle.dslx_check_rules.specs.declared.control.patterns.PatternTyping.{PatternTyping}
use Rattle.dslx_check_rules.specs.Control.Patterns.{IsPattern}
use Rattle.dslx_check_rules.proofs.control.patterns.wild_pattern.Goals as goal

pub returns : goal.returns
returns c = λ names locals.
    subst (λ (found : PatternTyping). IsPattern found (record (nothing_bound names locals) { size = 1 })) (sym c.bound_pattern.ensures.is)
    (record { faults = c.none.ensures; size = refl; known = refl; sure = refl })
