use Rattle.dslx_meaning.specs.Rules.CallRules.{call_parts_faults, call_parts_reached, given_judgements}
use Rattle.dslx_meaning.specs.Rules.TypeEnvs.{faults_of_all}
use Rattle.dslx_check_rules.specs.Nodes.Parts.{judgements}
use Rattle.dslx_check_uses.proofs.calls.undeclared_call.Goals as goal

pub returns : goal.returns
returns c = λ names later gs xs p are placed. c.undeclared_call_typing.ensures names later (call_parts_faults gs (judgements xs)) (call_parts_reached gs (judgements xs)) p
    (c.and-parts.ensures (faults_of_all (given_judgements gs)) (faults_of_all (judgements xs)) (c.given_faults.ensures names c.args.types.now later gs are) (c.faults_of_all.ensures names c.args.types.now later xs placed))
