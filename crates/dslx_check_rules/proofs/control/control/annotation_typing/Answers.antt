use Rattle.std.proofs.Common.{◌∙◌, Some, refl, ap}
use Rattle.dslx_meaning.specs.Rules.AggregateRules.{wanted_faults}
use Rattle.dslx_check_rules.specs.Seen.{seen}
use Rattle.dslx_check_rules.specs.Interned.{type_if}
use Rattle.dslx_check_rules.specs.Control.Control.{IsAnnotation}
use Rattle.dslx_check_rules.proofs.Lemmas.Nodes.Parts.{nothing_there, part_there}
use Rattle.dslx_check_rules.proofs.control.control.annotation_typing.Goals as goal

pub returns-in-None : goal.returns-in-None
returns-in-None c = λ names later w distinct p is row.
    nothing_there names c.args.types.now later (λ x. IsAnnotation c.args.value.span x (type_if names later c.args.value.typing.ty) (record { faults = c.none.result; size = Some 0 })) c.args.written w c.in-None.is is
    (record { faults = c.none.ensures; size = refl })

pub returns-in-Some : goal.returns-in-Some
returns-in-Some c = λ names later w distinct p is row.
    part_there names c.args.types.now later (λ x. IsAnnotation c.args.value.span x (type_if names later c.args.value.typing.ty) (record { faults = c.and-faults.result; size = c.in-Some.written.size })) c.args.written w c.in-Some.written c.in-Some.is is
    (λ y part. record {
      faults = c.and-faults.ensures y.faults (wanted_faults c.args.value.span y.ty (type_if names later c.args.value.typing.ty)) part.faults
          (c.wanted_faults-own.ensures names later distinct p part.row row ∙ ap (λ t. seen (wanted_faults c.args.value.span t (type_if names later c.args.value.typing.ty))) part.ty);
      size = part.size;
    })
