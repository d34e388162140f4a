use Rattle.std.proofs.Common.{◌∙◌, sym, ap, subst}
use Rattle.dslx_meaning.specs.Rules.AggregateRules.{wanted_faults}
use Rattle.dslx_check_rules.specs.Interned.{HasRowIf, type_if}
use Rattle.dslx_check_rules.specs.Seen.{seen}
use Rattle.dslx_check_rules.proofs.nodes.arrays.fitted.Goals as goal

pub returns : goal.returns
returns c = λ names later x distinct p row is. record {
  row = subst (HasRowIf c.args.types.now) (sym c.with.ensures.ty) is.part.row;
  ty = ap (type_if names later) c.with.ensures.ty ∙ is.part.ty;
  faults = c.with.ensures.faults x.judgement.faults (wanted_faults x.span (type_if names later c.args.wanted) x.judgement.ty) is.part.faults
      (c.wanted_faults-own.ensures names later distinct p row is.part.row ∙ (λ i. seen (wanted_faults (is.span i) (type_if names later c.args.wanted) (is.part.ty i))));
  size = c.with.ensures.size ∙ is.part.size;
}
