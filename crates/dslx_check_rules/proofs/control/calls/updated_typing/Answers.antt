use Rattle.std.proofs.Common.{◌≡◌, ◌∙◌, ◌++◌, List, ap}
use Rattle.xb_span.specs.declared.fault.Fault.{Fault}
use Rattle.dslx_meaning.specs.Lists.{and_then}
use Rattle.dslx_meaning.specs.Rules.TypeEnvs.{one_and, plus_size}
use Rattle.dslx_meaning.specs.Rules.ConstantRules.{is_unsigned}
use Rattle.dslx_meaning.specs.Rules.OperatorRules.{unless_type}
use Rattle.dslx_meaning.specs.Rules.AggregateRules.{array_in, element_type, is_array}
use Rattle.dslx_meaning.specs.Rules.CallRules.{update_faults}
use Rattle.dslx_meaning.specs.Rules.RuleNumbers as rule
use Rattle.dslx_check_rules.specs.Seen.{seen}
use Rattle.dslx_check_rules.specs.Interned.{type_if}
use Rattle.dslx_check_rules.proofs.Lemmas.Nodes.Settled.{row_behind, type_behind}
use Rattle.dslx_check_rules.proofs.control.calls.updated_typing.Goals as goal

pub returns : goal.returns
returns c = record {
  typed = λ names later distinct p x y z a b d.
      let first : List Fault = unless_type is_array rule.BUILTIN_OPERANDS c.args.array.span x.ty in
      let second : List Fault = unless_type is_unsigned rule.BUILTIN_OPERANDS c.args.place.span y.ty in
      let third : List Fault = update_faults c.args.value.span (element_type (and_then x.ty array_in)) z.ty in
      let element : type_if names later c.element_type-element.result ≡ element_type (and_then x.ty array_in) =
      c.element_type-element.ensures.is names later p a.row ∙ ap (λ o. element_type (and_then o array_in)) a.ty in
      let row = row_behind c.args.types.now c.args.value.typing.ty c.args.array.typing.ty c.if_there-whole.result c.if_there-whole.ensures a.row in
      let whole = type_behind names later c.args.value.typing.ty c.args.array.typing.ty c.if_there-whole.result z.ty x.ty c.if_there-whole.ensures d.ty a.ty in
      c.settle.ensures.typed names later p (row_behind c.args.types.now c.args.place.typing.ty c.if_there-whole.result c.if_there-ty.result c.if_there-ty.ensures row)
      (and_then y.ty (λ t. and_then z.ty (λ u. x.ty))) (x.faults ++ y.faults ++ z.faults ++ first ++ second ++ third) (x.reached ++ y.reached ++ z.reached)
      (one_and (plus_size x.size (plus_size y.size z.size)))
      (type_behind names later c.args.place.typing.ty c.if_there-whole.result c.if_there-ty.result y.ty (and_then z.ty (λ u. x.ty)) c.if_there-ty.ensures b.ty whole)
      (c.and-faults.ensures (x.faults ++ y.faults ++ z.faults ++ first ++ second) third (c.and-3.ensures (x.faults ++ y.faults ++ z.faults ++ first) second
      (c.and-2.ensures (x.faults ++ y.faults ++ z.faults) first (c.and-parts.ensures (x.faults ++ y.faults) z.faults (c.and.ensures x.faults y.faults a.faults b.faults) d.faults)
      (c.unless_array-first.ensures names later p a.row ∙ ap (λ t. seen (unless_type is_array rule.BUILTIN_OPERANDS c.args.array.span t)) a.ty))
      (c.unless_unsigned-second.ensures names later p b.row ∙ ap (λ t. seen (unless_type is_unsigned rule.BUILTIN_OPERANDS c.args.place.span t)) b.ty))
      (c.update_faults-third.ensures names later distinct p (c.element_type-element.ensures.there a.row) d.row ∙ (λ i. seen (update_faults c.args.value.span (element i) (d.ty i)))))
      (c.one_and-size.ensures (plus_size x.size (plus_size y.size z.size)) (c.plus_size.ensures x.size (plus_size y.size z.size) a.size (c.plus_size-rest.ensures y.size z.size b.size d.size)));
}
