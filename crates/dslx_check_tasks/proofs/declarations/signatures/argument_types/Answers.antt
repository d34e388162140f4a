use Rattle.std.proofs.Common.{arith}
use Rattle.dslx_check_leaves.proofs.Lemmas.Each.{all_of, each_by}
use Rattle.dslx_check_tasks.specs.Declarations.Inner.Foreign.{argument_in}
use Rattle.dslx_check_tasks.proofs.OnDeclarations.OnForeign.{declared_begun, declared_next}
use Rattle.dslx_check_tasks.proofs.declarations.signatures.argument_types.Goals as goal

pub arguments-init : goal.arguments-init
arguments-init c = declared_begun argument_in c.args.arguments.now c.new-types.ensures.items

pub arguments-preserved : goal.arguments-preserved
arguments-preserved c = declared_next argument_in c.args.arguments.now c.arguments.i c.index-arguments-i.result (omega arith) c.index-arguments-i.is c.in_ok-push.ensures.items c.arguments.invariant c.in_ok-ty.ensures

pub returns : goal.returns
returns c = each_by (all_of argument_in c.args.arguments.now c.arguments.i (omega arith)) c.arguments.invariant
