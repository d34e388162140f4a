use Rattle.std.proofs.Common.{◌∙◌, ◌++◌, List, ap}
use Rattle.xb_span.specs.declared.fault.Fault.{Fault}
use Rattle.dslx_meaning.specs.Lists.{and_then}
use Rattle.dslx_meaning.specs.Rules.TypeEnvs.{one_and, plus_size}
use Rattle.dslx_meaning.specs.Rules.ConstantRules.{is_unsigned}
use Rattle.dslx_meaning.specs.Rules.OperatorRules.{unless_type}
use Rattle.dslx_meaning.specs.Rules.AggregateRules.{array_in, element_type, is_array}
use Rattle.dslx_meaning.specs.Rules.RuleNumbers as rule
use Rattle.dslx_check_rules.specs.Seen.{seen}
use Rattle.dslx_check_rules.proofs.nodes.aggregates.index_typing.Goals as goal

pub returns : goal.returns
returns c = record {
  typed = λ names later distinct p x y a b.
      let first : List Fault = unless_type is_array rule.PART_IS_THERE c.args.span x.ty in
      let second : List Fault = unless_type is_unsigned rule.PART_IS_THERE c.args.span y.ty in
      c.settle.ensures.typed names later p (c.element_if-ty.ensures.there a.row) (and_then y.ty (λ k. element_type (and_then x.ty array_in)))
      (x.faults ++ y.faults ++ first ++ second) (x.reached ++ y.reached) (one_and (plus_size x.size y.size))
      (c.element_if-ty.ensures.is names later p a.row ∙ (λ i. and_then (b.ty i) (λ k. element_type (and_then (a.ty i) array_in))))
      (c.and-faults.ensures (x.faults ++ y.faults ++ first) second (c.and-2.ensures (x.faults ++ y.faults) first (c.and.ensures x.faults y.faults a.faults b.faults)
      (c.unless_array-first.ensures names later p a.row ∙ ap (λ t. seen (unless_type is_array rule.PART_IS_THERE c.args.span t)) a.ty))
      (c.unless_unsigned-second.ensures names later p b.row ∙ ap (λ t. seen (unless_type is_unsigned rule.PART_IS_THERE c.args.span t)) b.ty))
      (c.one_and.ensures (plus_size x.size y.size) (c.plus_size.ensures x.size y.size a.size b.size));
}
