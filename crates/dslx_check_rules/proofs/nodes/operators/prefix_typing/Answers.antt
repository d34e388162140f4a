use Rattle.std.proofs.Common.{◌∙◌, ◌++◌, ap}
use Rattle.dslx_meaning.specs.Rules.TypeEnvs.{one_and}
use Rattle.dslx_meaning.specs.Rules.OperatorRules.{is_bits, unless_type}
use Rattle.dslx_meaning.specs.Rules.RuleNumbers as rule
use Rattle.dslx_check_rules.specs.Seen.{seen}
use Rattle.dslx_check_rules.proofs.nodes.operators.prefix_typing.Goals as goal

pub returns : goal.returns
returns c = record {
  typed = λ names later distinct p x part.
      c.settle.ensures.typed names later p part.row x.ty (x.faults ++ unless_type is_bits rule.PREFIX_OPERAND_IS_BITS c.args.span x.ty) x.reached (one_and x.size) part.ty
      (c.and.ensures x.faults (unless_type is_bits rule.PREFIX_OPERAND_IS_BITS c.args.span x.ty) part.faults
      (c.unless_bits-own.ensures names later p part.row ∙ ap (λ t. seen (unless_type is_bits rule.PREFIX_OPERAND_IS_BITS c.args.span t)) part.ty))
      (c.one_and.ensures x.size part.size);
}
