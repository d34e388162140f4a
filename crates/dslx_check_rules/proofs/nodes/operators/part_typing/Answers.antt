use Rattle.std.proofs.Common.{◌∙◌, ◌++◌, List, ap}
use Rattle.xb_span.specs.declared.fault.Fault.{Fault}
use Rattle.dslx_meaning.specs.Lists.{and_then}
use Rattle.dslx_meaning.specs.Rules.TypeEnvs.{one_and, plus_size}
use Rattle.dslx_meaning.specs.Rules.ConstantRules.{is_unsigned}
use Rattle.dslx_meaning.specs.Rules.OperatorRules.{is_bits, unless_type}
use Rattle.dslx_meaning.specs.Rules.RuleNumbers as rule
use Rattle.dslx_check_rules.specs.Seen.{seen}
use Rattle.dslx_check_rules.proofs.Lemmas.Nodes.Settled.{row_behind, type_behind}
use Rattle.dslx_check_rules.proofs.nodes.operators.part_typing.Goals as goal

pub returns : goal.returns
returns c = record {
  typed = λ names later distinct p x y z a b d.
      let first : List Fault = unless_type is_bits rule.SLICE_OF_BITS c.args.span x.ty in
      let second : List Fault = unless_type is_unsigned rule.SLICE_OF_BITS c.args.span y.ty in
      let third : List Fault = unless_type is_unsigned rule.SLICE_OF_BITS c.args.span z.ty in
      let inner = row_behind c.args.types.now c.args.start.ty c.args.target.ty c.if_there.result c.if_there.ensures d.row in
      let inner_type = type_behind names later c.args.start.ty c.args.target.ty c.if_there.result y.ty z.ty c.if_there.ensures b.ty d.ty in
      c.settle.ensures.typed names later p (row_behind c.args.types.now c.args.whole.ty c.if_there.result c.if_there-ty.result c.if_there-ty.ensures inner)
      (and_then x.ty (λ t. and_then y.ty (λ u. z.ty))) (x.faults ++ y.faults ++ z.faults ++ first ++ second ++ third) (x.reached ++ y.reached ++ z.reached) (one_and (plus_size x.size y.size))
      (type_behind names later c.args.whole.ty c.if_there.result c.if_there-ty.result x.ty (and_then y.ty (λ u. z.ty)) c.if_there-ty.ensures a.ty inner_type)
      (c.and-faults.ensures (x.faults ++ y.faults ++ z.faults ++ first ++ second) third (c.and-3.ensures (x.faults ++ y.faults ++ z.faults ++ first) second
      (c.and-2.ensures (x.faults ++ y.faults ++ z.faults) first
      (c.and-parts.ensures (x.faults ++ y.faults) z.faults (c.and.ensures x.faults y.faults a.faults b.faults) d.faults)
      (c.unless_bits-first.ensures names later p a.row ∙ ap (λ t. seen (unless_type is_bits rule.SLICE_OF_BITS c.args.span t)) a.ty))
      (c.unless_unsigned-second.ensures names later p b.row ∙ ap (λ t. seen (unless_type is_unsigned rule.SLICE_OF_BITS c.args.span t)) b.ty))
      (c.unless_unsigned-third.ensures names later p d.row ∙ ap (λ t. seen (unless_type is_unsigned rule.SLICE_OF_BITS c.args.span t)) d.ty))
      (c.one_and.ensures (plus_size x.size y.size) (c.plus_size.ensures x.size y.size a.size b.size));
}
