use Rattle.std.proofs.Common.{refl, sym, subst}
use Rattle.dslx_check_rules.specs.Interned.{type_if}
use Rattle.dslx_check_rules.specs.declared.control.patterns.PatternTyping.{PatternTyping}
use Rattle.dslx_check_rules.specs.Control.Patterns.{IsPattern, tuple_head}
use Rattle.dslx_check_rules.proofs.control.patterns.tuple_pattern.Goals as goal

pub returns : goal.returns
returns c = λ names later bound locals p row.
    subst (λ (found : PatternTyping). IsPattern found (tuple_head c.args.span c.args.count (type_if names later c.args.ty) bound locals)) (sym c.bound_pattern.ensures.is)
    (record { faults = c.tuple_faults.ensures names later p row; size = refl; known = refl; sure = refl })
