use Rattle.std.proofs.Common.{◌∙◌, sym, ap, subst}
use Rattle.dslx_meaning.specs.Rules.TypeRules.{unit_faults}
use Rattle.dslx_check_rules.specs.Interned.{HasRowIf, type_if}
use Rattle.dslx_check_rules.specs.Seen.{seen}
use Rattle.dslx_check_rules.proofs.nodes.written.inner_type.Goals as goal

pub returns : goal.returns
returns c = record {
  typed = λ names later distinct p x part. record {
    row = subst (HasRowIf c.args.types.now) (sym c.with.ensures.ty) part.row;
    ty = ap (type_if names later) c.with.ensures.ty ∙ part.ty;
    faults = c.with.ensures.faults x.faults (unit_faults c.args.span x.ty) part.faults (c.unit_faults-own.ensures names later p part.row ∙ ap (λ t. seen (unit_faults c.args.span t)) part.ty);
    size = c.with.ensures.size ∙ part.size;
  };
}
