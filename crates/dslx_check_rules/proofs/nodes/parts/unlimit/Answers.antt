use Rattle.std.proofs.Common.{◌≡◌, ◌∙◌, ap}
use Rattle.dslx_meaning.specs.Rules.TypeEnvs.{unlimited}
use Rattle.dslx_check_rules.specs.Interned.{type_at, type_if}
use Rattle.dslx_check_rules.proofs.Lemmas.Nodes.Settled.{sized}
use Rattle.dslx_check_rules.proofs.nodes.parts.unlimit.Goals as goal

pub returns : goal.returns
returns c = record {
  typed = λ names rows later row t fs reached n is_type is_faults is_size.
      let ty : type_if names later c.unlimited.result.ty ≡ (unlimited t fs reached n).ty =
      c.unlimited.ensures.ty names later fs reached n is_faults ∙ ap (λ u. (unlimited u fs reached n).ty) is_type in
      record {
        row = c.unlimited.ensures.there rows row;
        ty = ty;
        faults = c.unlimited.ensures.faults ∙ is_faults;
        size = c.unlimited.ensures.size ∙ sized (type_at names later) c.unlimited.result.ty (unlimited t fs reached n).ty c.args.size n ty is_size;
      };
}
