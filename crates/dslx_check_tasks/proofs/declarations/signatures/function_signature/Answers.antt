use Rattle.std.proofs.Common.{refl}
use Rattle.dslx_check_tasks.specs.Declarations.Inner.Foreign.{argument_in}
use Rattle.dslx_check_tasks.proofs.OnDeclarations.OnForeign.{with_result}
use Rattle.dslx_check_tasks.proofs.declarations.signatures.function_signature.Goals as goal

pub returns : goal.returns
returns c = with_result argument_in c.args.function.now.arguments c.as_slice.ensures c.in_ok-arguments.ensures c.in_ok-result.ensures refl refl
