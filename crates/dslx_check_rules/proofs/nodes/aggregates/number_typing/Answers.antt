use Rattle.std.proofs.Common.{◌∙◌, ◌++◌, Some, refl, ap}
use Rattle.dslx_meaning.specs.Rules.AggregateRules.{range_faults}
use Rattle.dslx_check_rules.specs.Seen.{seen}
use Rattle.dslx_check_rules.proofs.nodes.aggregates.number_typing.Goals as goal

pub returns : goal.returns
returns c = record {
  typed = λ names later distinct p x part.
      c.unlimit.ensures.typed names c.args.types.now later part.row x.ty (x.faults ++ range_faults c.args.span x.ty c.args.number) x.reached (Some 1) part.ty
      (c.and.ensures x.faults (range_faults c.args.span x.ty c.args.number) part.faults
      (c.range_faults-own.ensures names later p part.row ∙ ap (λ t. seen (range_faults c.args.span t c.args.number)) part.ty))
      refl;
}
