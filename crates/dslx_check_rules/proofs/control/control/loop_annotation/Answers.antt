use Rattle.std.proofs.Common.{◌≡◌, ◌∙◌, ap}
use Rattle.dslx_meaning.specs.Rules.AggregateRules.{wanted_faults}
use Rattle.dslx_check_rules.specs.Seen.{seen}
use Rattle.dslx_check_rules.specs.Interned.{type_if}
use Rattle.dslx_check_rules.specs.Control.Control.{annotated_with}
use Rattle.dslx_check_rules.proofs.Lemmas.Nodes.Parts.{nothing_there, part_there}
use Rattle.dslx_check_rules.proofs.control.control.loop_annotation.Goals as goal

pub returns-in-None : goal.returns-in-None
returns-in-None c = λ names later w distinct p is row.
    nothing_there names c.args.types.now later (λ x. c.none.result ≡ seen (annotated_with c.args.span x (type_if names later c.args.pair))) c.args.written w c.in-None.is is c.none.ensures

pub returns-in-Some : goal.returns-in-Some
returns-in-Some c = λ names later w distinct p is row.
    part_there names c.args.types.now later (λ x. c.and.result ≡ seen (annotated_with c.args.span x (type_if names later c.args.pair))) c.args.written w c.in-Some.written c.in-Some.is is
    (λ y part. c.and.ensures y.faults (wanted_faults c.args.span y.ty (type_if names later c.args.pair)) part.faults
    (c.wanted_faults-own.ensures names later distinct p part.row row ∙ ap (λ t. seen (wanted_faults c.args.span t (type_if names later c.args.pair))) part.ty))
