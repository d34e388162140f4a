use Rattle.std.proofs.Common.{[]}
use Rattle.dslx_meaning.specs.Rules.TypeEnvs.{faults_of_all, reached_of_all}
use Rattle.dslx_check_rules.specs.Nodes.Parts.{judgements}
use Rattle.dslx_check_rules.proofs.control.calls.wrong_operands_typing.Goals as goal

pub returns : goal.returns
returns c = record {
  typed = λ names later distinct p xs parts.
      c.wrong_call_typing.ensures names later (faults_of_all (judgements xs)) [] (reached_of_all (judgements xs)) p (c.faults_of_all-parts.ensures names c.args.types.now later xs parts) c.none.ensures;
}
