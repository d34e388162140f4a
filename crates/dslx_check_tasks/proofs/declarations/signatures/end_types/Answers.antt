use Rattle.std.proofs.Common.{arith}
use Rattle.dslx_check_leaves.proofs.Lemmas.Each.{all_of, each_by}
use Rattle.dslx_check_tasks.specs.Declarations.Inner.Foreign.{end_in}
use Rattle.dslx_check_tasks.proofs.OnDeclarations.OnForeign.{declared_begun, declared_next}
use Rattle.dslx_check_tasks.proofs.declarations.signatures.end_types.Goals as goal

pub ends-init : goal.ends-init
ends-init c = declared_begun end_in c.args.ends.now c.new-types.ensures.items

pub ends-preserved : goal.ends-preserved
ends-preserved c = declared_next end_in c.args.ends.now c.ends.i c.index-ends-i.result (omega arith) c.index-ends-i.is c.in_ok-push.ensures.items c.ends.invariant c.in_ok-ty.ensures

pub returns : goal.returns
returns c = each_by (all_of end_in c.args.ends.now c.ends.i (omega arith)) c.ends.invariant
