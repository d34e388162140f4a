use Rattle.std.proofs.Common.{◌∙◌, ◌++◌, ap}
use Rattle.dslx_meaning.specs.Lists.{and_then}
use Rattle.dslx_meaning.specs.Rules.TypeEnvs.{one_and}
use Rattle.dslx_meaning.specs.Rules.AggregateRules.{part_type}
use Rattle.dslx_check_rules.specs.Seen.{seen}
use Rattle.dslx_check_rules.specs.Nodes.Nodes.Aggregates.{lacks, taken_apart}
use Rattle.dslx_check_rules.specs.Nodes.Parts.{IsPart}
use Rattle.dslx_check_rules.proofs.nodes.aggregates.tuple_element_typing.Goals as goal

pub returns : goal.returns
returns c = record {
  typed = λ names later distinct p x part.
      let w = taken_apart c.args.place c.args.at x in
      let whole : IsPart names c.args.types.now later c.taken_apart-whole.result w = c.taken_apart-whole.ensures.typed names later distinct p x part in
      let is = c.part_if-ty.ensures.is names later p whole.row in
      c.settle.ensures.typed names later p (c.part_if-ty.ensures.there whole.row) (and_then w.ty (λ t. part_type t c.args.place))
      (w.faults ++ lacks (λ t. part_type t c.args.place) c.args.span w.ty) w.reached (one_and w.size)
      (is ∙ ap (λ u. and_then u (λ t. part_type t c.args.place)) whole.ty)
      (c.and.ensures w.faults (lacks (λ t. part_type t c.args.place) c.args.span w.ty) whole.faults
      (c.lacks-own.ensures names later (λ t. part_type t c.args.place) is ∙ ap (λ t. seen (lacks (λ t. part_type t c.args.place) c.args.span t)) whole.ty))
      (c.one_and.ensures w.size whole.size);
}
