use Rattle.std.proofs.Common.{◌≡◌, ◌∙◌, ap}
use Rattle.dslx_meaning.specs.Rules.TypeEnvs.{settled}
use Rattle.dslx_check_rules.specs.Seen.{seen}
use Rattle.dslx_check_rules.specs.Interned.{type_at, type_if}
use Rattle.dslx_check_rules.proofs.Lemmas.Nodes.Settled.{sized}
use Rattle.dslx_check_rules.proofs.nodes.parts.settle.Goals as goal

pub returns : goal.returns
returns c = record {
  typed = λ names later p row t fs reached n is_type is_faults is_size.
      let ty : type_if names later c.settled.result.ty ≡ (settled c.args.span t fs reached n).ty =
      c.settled.ensures.ty names later fs reached n is_faults ∙ ap (λ u. (settled c.args.span u fs reached n).ty) is_type in
      record {
        row = c.settled.ensures.there c.args.types.now row;
        ty = ty;
        faults = c.settled.ensures.faults names later fs reached n p row is_faults ∙ ap (λ u. seen (settled c.args.span u fs reached n).faults) is_type;
        size = c.settled.ensures.size ∙ sized (type_at names later) c.settled.result.ty (settled c.args.span t fs reached n).ty c.args.size n ty is_size;
      };
}
