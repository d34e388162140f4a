use Rattle.std.proofs.Common.{refl}
use Rattle.dslx_check_rules.proofs.control.patterns.bound_pattern.Goals as goal

pub returns-clause-bound : goal.returns-clause-bound
returns-clause-bound c = λ span context ty names locals name e. record { faults = e; size = refl; known = refl; sure = refl }
