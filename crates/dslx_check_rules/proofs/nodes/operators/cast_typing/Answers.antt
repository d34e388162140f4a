use Rattle.std.proofs.Common.{◌∙◌, ◌++◌, List, ap}
use Rattle.xb_span.specs.declared.fault.Fault.{Fault}
use Rattle.dslx_meaning.specs.Lists.{and_then}
use Rattle.dslx_meaning.specs.Rules.TypeEnvs.{one_and}
use Rattle.dslx_meaning.specs.Rules.OperatorRules.{is_bits, is_bits_or_enum, unless_type}
use Rattle.dslx_meaning.specs.Rules.RuleNumbers as rule
use Rattle.dslx_check_rules.specs.Seen.{seen}
use Rattle.dslx_check_rules.proofs.Lemmas.Nodes.Settled.{row_behind, type_behind}
use Rattle.dslx_check_rules.proofs.nodes.operators.cast_typing.Goals as goal

pub returns : goal.returns
returns c = record {
  typed = λ names later distinct p x y a b.
      let from : List Fault = unless_type is_bits_or_enum rule.CAST_TO_BITS c.args.span x.ty in
      let to : List Fault = unless_type is_bits rule.CAST_TO_BITS c.args.span y.ty in
      c.settle.ensures.typed names later p (row_behind c.args.types.now c.args.value.ty c.args.target.ty c.if_there.result c.if_there.ensures b.row)
      (and_then x.ty (λ t. y.ty)) (x.faults ++ y.faults ++ from ++ to) (x.reached ++ y.reached) (one_and x.size)
      (type_behind names later c.args.value.ty c.args.target.ty c.if_there.result x.ty y.ty c.if_there.ensures a.ty b.ty)
      (c.and-faults.ensures (x.faults ++ y.faults ++ from) to (c.and-2.ensures (x.faults ++ y.faults) from (c.and.ensures x.faults y.faults a.faults b.faults)
      (c.unless_bits_or_enum-from.ensures names later p a.row ∙ ap (λ t. seen (unless_type is_bits_or_enum rule.CAST_TO_BITS c.args.span t)) a.ty))
      (c.unless_bits-to.ensures names later p b.row ∙ ap (λ t. seen (unless_type is_bits rule.CAST_TO_BITS c.args.span t)) b.ty))
      (c.one_and.ensures x.size a.size);
}
