use Rattle.std.proofs.Common.{Some, refl}
use Rattle.dslx_check_rules.specs.Interned.{type_if}
use Rattle.dslx_check_rules.specs.Nodes.Parts.{IsPart}
use Rattle.dslx_check_rules.specs.Nodes.Nodes.Arrays.{element_seen}
use Rattle.dslx_check_rules.proofs.Lemmas.Nodes.Lists.{untyped_element, value_element}
use Rattle.dslx_check_rules.proofs.nodes.arrays.element_typing.Goals as goal

pub returns-in-Untyped : goal.returns-in-Untyped
returns-in-Untyped c = λ names later x distinct p row is.
    untyped_element names c.args.types.now later (λ y. IsPart names c.args.types.now later (record { ty = c.args.part; faults = c.range_faults.result; size = Some 1 }) (element_seen (type_if names later c.args.part) y)) c.args.element c.in-Untyped.span c.in-Untyped.number x c.in-Untyped.is is
    (record { row = row; ty = refl; faults = c.range_faults.ensures names later p row; size = refl })

pub returns-in-Value : goal.returns-in-Value
returns-in-Value c = λ names later x distinct p row is.
    value_element names c.args.types.now later (λ y. IsPart names c.args.types.now later c.fitted.result (element_seen (type_if names later c.args.part) y)) c.args.element c.in-Value.value x c.in-Value.is is
    (λ y placed. c.fitted.ensures names later y distinct p row placed)
