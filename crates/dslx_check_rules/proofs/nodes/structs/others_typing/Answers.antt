use Rattle.std.proofs.Common.{Some, refl}
use Rattle.dslx_check_rules.specs.Interned.{type_if}
use Rattle.dslx_check_rules.specs.Nodes.Parts.{IsPart}
use Rattle.dslx_check_rules.specs.Nodes.Nodes.Structs.{others_of}
use Rattle.dslx_check_rules.proofs.Lemmas.Nodes.Parts.{nothing_placed, placed_there}
use Rattle.dslx_check_rules.proofs.nodes.structs.others_typing.Goals as goal

pub returns-in-None : goal.returns-in-None
returns-in-None c = λ names later o distinct p row is.
    nothing_placed names c.args.types.now later (λ x. IsPart names c.args.types.now later (record { ty = c.args.ty; faults = c.none.result; size = Some 0 }) (others_of (type_if names later c.args.ty) x)) c.args.others o c.in-None.is is
    (record { row = row; ty = refl; faults = c.none.ensures; size = refl })

pub returns-in-Some : goal.returns-in-Some
returns-in-Some c = λ names later o distinct p row is.
    placed_there names c.args.types.now later (λ x. IsPart names c.args.types.now later c.fitted.result (others_of (type_if names later c.args.ty) x)) c.args.others o c.in-Some.others c.in-Some.is is
    (λ y placed. c.fitted.ensures names later y distinct p row placed)
