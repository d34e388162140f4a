use Rattle.std.proofs.Common.{◌∙◌, ◌++◌, Some, refl}
use Rattle.dslx_meaning.specs.Lists.{with_both}
use Rattle.dslx_meaning.specs.declared.ty.DslxType as ty
use Rattle.dslx_check_rules.proofs.nodes.written.array_type.Goals as goal

pub returns-clause-typed : goal.returns-clause-typed
returns-clause-typed c = record {
  typed = λ names later distinct p x y a n.
      let found = c.settle.ensures.typed names later p c.in_ok-ty.ensures.there (with_both x.ty y.count (λ t n. Some (ty.Array t n))) (x.faults ++ y.judgement.faults) y.judgement.reached (Some 0)
      (c.in_ok-ty.ensures.is names later p ∙ (λ i. with_both (a.ty i) (n.count i) (λ t n. Some (ty.Array t n))))
      (c.and-faults.ensures x.faults y.judgement.faults a.faults n.part.faults) refl in
      record { row = found.row; ty = found.ty; faults = found.faults; size = found.size };
}
