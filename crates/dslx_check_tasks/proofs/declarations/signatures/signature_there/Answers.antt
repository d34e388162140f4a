use Rattle.std.proofs.Common.{sym}
use Rattle.std.proofs.lemmas.Result.{IfOk-weaker}
use Rattle.dslx_check_tasks.proofs.OnDeclarations.OnForeign.{declared_as, other_declared}
use Rattle.dslx_check_tasks.proofs.declarations.signatures.signature_there.Goals as goal

pub returns-in-Function : goal.returns-in-Function
returns-in-Function c = IfOk-weaker c.function_signature.result _ _ (λ s h. declared_as (sym c.in-Function.is) h) c.function_signature.ensures

pub returns-in-Proc : goal.returns-in-Proc
returns-in-Proc c = IfOk-weaker c.proc_signature.result _ _ (λ s h. declared_as (sym c.in-Proc.is) h) c.proc_signature.ensures

pub returns-in_default : goal.returns-in_default
returns-in_default c = other_declared c.args.own.now c.in_default.not-Function c.in_default.not-Proc c.no_signature.ensures.0 c.no_signature.ensures.1
