use Rattle.std.proofs.Common.{◌≡◌, refl}
use Rattle.dslx_meaning.specs.Rules.ControlRules.{bound_type}
use Rattle.dslx_check_rules.specs.Interned.{type_if}
use Rattle.dslx_check_rules.proofs.Lemmas.Nodes.Parts.{nothing_there, part_there}
use Rattle.dslx_check_rules.proofs.control.control.bound_type.Goals as goal

pub returns-in-None-clause-is : goal.returns-in-None-clause-is
returns-in-None-clause-is c = λ names later w distinct p is row.
    nothing_there names c.args.types.now later (λ x. type_if names later c.args.value ≡ bound_type x (type_if names later c.args.value)) c.args.written w c.in-None.is is refl

pub returns-in-Some-clause-is : goal.returns-in-Some-clause-is
returns-in-Some-clause-is c = λ names later w distinct p is row.
    part_there names c.args.types.now later (λ x. type_if names later c.value_of_type.result ≡ bound_type x (type_if names later c.args.value)) c.args.written w c.in-Some.written c.in-Some.is is
    (λ y part. c.value_of_type.ensures.is names later y distinct p part.row row part.ty)
