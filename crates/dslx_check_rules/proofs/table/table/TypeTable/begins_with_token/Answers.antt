use Rattle.std.proofs.Common.{◌∙◌, ap}
use Rattle.dslx_check_rules.specs.Measures.{measures_of}
use Rattle.dslx_check_rules.specs.Interned.{type_at}
use Rattle.dslx_check_rules.specs.declared.table.measures.TypeMeasures.{TypeMeasures}
use Rattle.dslx_check_rules.proofs.OnTable.Sums.{begins_not, begins_so}
use Rattle.dslx_check_rules.proofs.table.table.TypeTable.begins_with_token.Goals as goal

pub returns-in-Some : goal.returns-in-Some
returns-in-Some c = λ names.
    ap (λ (m : TypeMeasures). m.is_token) (c.measures.ensures names)
    ∙ begins_so (λ p. measures_of (type_at names c.args.self.now p)) c.args.parts.now c.in-Some.first.now c.in-Some.ensures

pub returns-in-None : goal.returns-in-None
returns-in-None c = λ names. begins_not (λ p. measures_of (type_at names c.args.self.now p)) c.args.parts.now c.in-None.ensures
