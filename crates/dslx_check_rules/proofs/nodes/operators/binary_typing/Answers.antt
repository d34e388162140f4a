use Rattle.std.proofs.Common.{◌∙◌, ◌++◌, List}
use Rattle.base.specs.Lists.Prefix.{IsPrefix}
use Rattle.base.proofs.Lemmas.Lists.Prefixes.{IsPrefix-trans}
use Rattle.xb_span.specs.declared.fault.Fault.{Fault}
use Rattle.dslx_meaning.specs.Rules.TypeEnvs.{one_and, plus_size}
use Rattle.dslx_meaning.specs.Rules.OperatorRules.{binary_faults, binary_type}
use Rattle.dslx_check_rules.specs.Seen.{seen}
use Rattle.dslx_check_rules.proofs.nodes.operators.binary_typing.Goals as goal

pub returns-clause-typed : goal.returns-clause-typed
returns-clause-typed c = record {
  typed = λ names later distinct p x y a b.
      let q : IsPrefix c.args.types.now later = IsPrefix-trans c.args.types.now c.binary_type.new.types later c.in_ok-ty.ensures.grows p in
      let own : List Fault = binary_faults c.args.op c.args.span c.args.left.span x.ty c.args.right.span y.ty in
      c.settle.ensures.typed names later p (c.in_ok-ty.ensures.there a.row) (binary_type c.args.op x.ty y.ty)
      (x.faults ++ y.faults ++ own) (x.reached ++ y.reached) (one_and (plus_size x.size y.size))
      (c.in_ok-ty.ensures.is names later p a.row b.row ∙ (λ i. binary_type c.args.op (a.ty i) (b.ty i)))
      (c.and-faults.ensures (x.faults ++ y.faults) own (c.and.ensures x.faults y.faults a.faults b.faults)
      (c.binary_faults-own.ensures names later distinct q a.row b.row ∙ (λ i. seen (binary_faults c.args.op c.args.span c.args.left.span (a.ty i) c.args.right.span (b.ty i)))))
      (c.one_and-size.ensures (plus_size x.size y.size) (c.plus_size.ensures x.size y.size a.size b.size));
}
