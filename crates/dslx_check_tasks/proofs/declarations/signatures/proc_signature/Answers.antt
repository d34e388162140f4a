use Rattle.std.proofs.Common.{refl}
use Rattle.dslx_check_tasks.specs.Declarations.Inner.Foreign.{end_in}
use Rattle.dslx_check_tasks.proofs.OnDeclarations.OnForeign.{without_result}
use Rattle.dslx_check_tasks.proofs.declarations.signatures.proc_signature.Goals as goal

pub returns : goal.returns
returns c = without_result end_in c.args.process.now.config.ends c.as_slice.ensures c.in_ok-arguments.ensures refl refl
