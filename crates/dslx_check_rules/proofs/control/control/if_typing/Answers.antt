use Rattle.std.proofs.Common.{◌∙◌, ◌++◌, List, Some, ap}
use Rattle.xb_span.specs.declared.fault.Fault.{Fault}
use Rattle.dslx_meaning.specs.Lists.{and_then, with_both}
use Rattle.dslx_meaning.specs.Types.{same_type}
use Rattle.dslx_meaning.specs.Rules.TypeEnvs.{one_and, plus_size}
use Rattle.dslx_meaning.specs.Rules.OperatorRules.{is_bool, unless_type, unless_types}
use Rattle.dslx_meaning.specs.Rules.RuleNumbers as rule
use Rattle.dslx_check_rules.specs.Seen.{seen}
use Rattle.dslx_check_rules.proofs.Lemmas.Nodes.Settled.{row_behind, type_behind}
use Rattle.dslx_check_rules.proofs.Lemmas.Nodes.Parts.{both_first}
use Rattle.dslx_check_rules.proofs.control.control.if_typing.Goals as goal

pub returns : goal.returns
returns c = record {
  typed = λ names later distinct p x y z a b d.
      let test : List Fault = unless_type is_bool rule.CONDITION_IS_BOOL c.args.condition.span x.ty in
      let differ : List Fault = unless_types same_type rule.BRANCHES_OF_ONE_TYPE c.args.span y.ty z.ty in
      let row = row_behind c.args.types.now c.args.second.ty c.args.first.ty c.if_there-branches.result c.if_there-branches.ensures b.row in
      let branches = type_behind names later c.args.second.ty c.args.first.ty c.if_there-branches.result z.ty y.ty c.if_there-branches.ensures d.ty b.ty in
      c.settle.ensures.typed names later p (row_behind c.args.types.now c.args.condition.typing.ty c.if_there-branches.result c.if_there-ty.result c.if_there-ty.ensures row)
      (and_then x.ty (λ t. with_both y.ty z.ty (λ u v. Some u))) (x.faults ++ y.faults ++ z.faults ++ test ++ differ) (x.reached ++ y.reached ++ z.reached)
      (one_and (plus_size x.size (plus_size y.size z.size)))
      (type_behind names later c.args.condition.typing.ty c.if_there-branches.result c.if_there-ty.result x.ty (and_then z.ty (λ t. y.ty)) c.if_there-ty.ensures a.ty branches
      ∙ ap (λ o. and_then x.ty (λ t. o)) (both_first y.ty z.ty))
      (c.and-faults.ensures (x.faults ++ y.faults ++ z.faults ++ test) differ (c.and-2.ensures (x.faults ++ y.faults ++ z.faults) test
      (c.and-parts.ensures (x.faults ++ y.faults) z.faults (c.and.ensures x.faults y.faults a.faults b.faults) d.faults)
      (c.unless_bool-own.ensures names later p a.row ∙ ap (λ t. seen (unless_type is_bool rule.CONDITION_IS_BOOL c.args.condition.span t)) a.ty))
      (c.branch_faults-differ.ensures names later distinct p b.row d.row ∙ (λ i. seen (unless_types same_type rule.BRANCHES_OF_ONE_TYPE c.args.span (b.ty i) (d.ty i)))))
      (c.one_and-size.ensures (plus_size x.size (plus_size y.size z.size)) (c.plus_size.ensures x.size (plus_size y.size z.size) a.size (c.plus_size-both.ensures y.size z.size b.size d.size)));
}
