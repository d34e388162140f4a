use Rattle.std.proofs.Common.{◌++◌}
use Rattle.dslx_meaning.specs.Rules.TypeEnvs.{one_and, plus_size}
use Rattle.dslx_check_rules.proofs.control.control.block_typing.Goals as goal

pub returns : goal.returns
returns c = record {
  typed = λ names later distinct p walked x s a.
      c.settle.ensures.typed names later p a.row x.ty (walked.faults ++ x.faults) (walked.reached ++ x.reached) (one_and (plus_size walked.size x.size)) a.ty
      (c.and-faults.ensures walked.faults x.faults s.faults a.faults) (c.one_and-size.ensures (plus_size walked.size x.size) (c.plus_size.ensures walked.size x.size s.size a.size));
}
