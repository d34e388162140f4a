use Rattle.std.proofs.Common.{◌∙◌, ◌++◌, Some, ap}
use Rattle.dslx_meaning.specs.Rules.TypeEnvs.{plus_size}
use Rattle.dslx_meaning.specs.Rules.ControlRules.{annotation_faults, annotation_size}
use Rattle.dslx_check_rules.specs.Seen.{seen}
use Rattle.dslx_check_rules.proofs.control.control.let_typing.Goals as goal

pub returns : goal.returns
returns c = record {
  typed = λ names later distinct p context e x w bound a written is.
      let n = c.annotation_typing-annotation.ensures names later w distinct p written a.row in
      record {
        faults = c.and-faults.ensures (x.faults ++ annotation_faults c.args.value.span w x.ty) bound.faults
            (c.and-before.ensures x.faults (annotation_faults c.args.value.span w x.ty) a.faults (n.faults ∙ ap (λ t. seen (annotation_faults c.args.value.span w t)) a.ty)) is.faults;
        size = c.plus_size-size.ensures (annotation_size w) (plus_size x.size (Some bound.size)) n.size (c.plus_size-own.ensures x.size (Some bound.size) a.size is.size);
      };
}
