use Rattle.std.proofs.Common.{◌≡◌, ◌∙◌, ◌++◌, List, ap}
use Rattle.base.specs.Lists.Prefix.{IsPrefix}
use Rattle.base.proofs.Lemmas.Lists.Prefixes.{IsPrefix-trans}
use Rattle.xb_span.specs.declared.fault.Fault.{Fault}
use Rattle.dslx_meaning.specs.Lists.{and_then}
use Rattle.dslx_meaning.specs.Rules.TypeEnvs.{one_and, plus_size}
use Rattle.dslx_meaning.specs.Rules.OperatorRules.{bound_number, slice_faults}
use Rattle.dslx_check_rules.specs.Seen.{seen}
use Rattle.dslx_check_rules.specs.Nodes.Nodes.Operators.{bound_of, type_between}
use Rattle.dslx_check_rules.proofs.Lemmas.Nodes.Settled.{bound_number_is}
use Rattle.dslx_check_rules.proofs.nodes.operators.slice_typing.Goals as goal

pub returns-clause-typed : goal.returns-clause-typed
returns-clause-typed c = record {
  typed = λ names later distinct p x y z a b d.
      let q : IsPrefix c.args.types.now later = IsPrefix-trans c.args.types.now c.sliced_type.new.types later c.in_ok-ty.ensures.grows p in
      let own : List Fault = slice_faults c.args.span x.ty y z in
      let from : c.bound_number.result ≡ bound_number y = c.bound_number.ensures ∙ (λ i. bound_of (b.untyped i) (b.value i)) ∙ bound_number_is y in
      let to : c.bound_number-2.result ≡ bound_number z = c.bound_number-2.ensures ∙ (λ i. bound_of (d.untyped i) (d.value i)) ∙ bound_number_is z in
      c.settle.ensures.typed names later p c.in_ok-ty.ensures.there (and_then x.ty (λ t. type_between (bound_number y) (bound_number z)))
      (x.faults ++ y.judgement.faults ++ z.judgement.faults ++ own) (x.reached ++ y.judgement.reached ++ z.judgement.reached)
      (one_and (plus_size x.size (plus_size y.judgement.size z.judgement.size)))
      (c.in_ok-ty.ensures.is names later p ∙ (λ i. and_then (a.ty i) (λ t. type_between (from i) (to i))))
      (c.and-faults.ensures (x.faults ++ y.judgement.faults ++ z.judgement.faults) own
      (c.and-2.ensures (x.faults ++ y.judgement.faults) z.judgement.faults (c.and.ensures x.faults y.judgement.faults a.faults b.part.faults) d.part.faults)
      (c.slice_faults-own.ensures names later q a.row b.part.row d.part.row y z (record { ty = b.part.ty; untyped = b.untyped; value = b.value })
      (record { ty = d.part.ty; untyped = d.untyped; value = d.value }) ∙ ap (λ t. seen (slice_faults c.args.span t y z)) a.ty))
      (c.one_and-size.ensures (plus_size x.size (plus_size y.judgement.size z.judgement.size))
      (c.plus_size.ensures x.size (plus_size y.judgement.size z.judgement.size) a.size (c.plus_size-bounds.ensures y.judgement.size z.judgement.size b.part.size d.part.size)));
}
