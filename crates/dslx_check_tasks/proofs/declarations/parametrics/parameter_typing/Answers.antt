use Rattle.std.proofs.Common.{sym}
use Rattle.std.proofs.lemmas.Result.{IfOk-weaker}
use Rattle.std.specs.Option.{option_copied}
use Rattle.dslx_check_leaves.proofs.Lemmas.Walking.{retyped}
use Rattle.dslx_check_judge.proofs.Lemmas.Items.OnTrees.{inner_walked}
use Rattle.dslx_check_tasks.specs.Declarations.Inner.Foreign.{parameter_in}
use Rattle.dslx_check_tasks.proofs.OnDeclarations.OnForeign.{no_part}
use Rattle.dslx_check_tasks.proofs.declarations.parametrics.parameter_typing.Goals as goal

pub returns-in-None : goal.returns-in-None
returns-in-None c = retyped (λ i env. parameter_in env (option_copied (sym c.in-None.is i))) (no_part c.untyped.ensures.0 c.untyped.ensures.1 c.untyped.ensures.2)

pub returns-in-Some : goal.returns-in-Some
returns-in-Some c = IfOk-weaker c.inner_type.result _ _
    (λ j h. retyped (λ i env. parameter_in env (option_copied (sym c.in-Some.is i))) (inner_walked c.in-Some.parametric.now.ty h)) c.inner_type.ensures
