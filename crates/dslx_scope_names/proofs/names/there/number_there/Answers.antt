use Rattle.std.proofs.Common.{◌≡◌, ℕ, Some, None, refl}
use Rattle.std.proofs.lemmas.Result.{IfOk-weaker}
use Rattle.dslx_meaning.specs.Operators.{number_value}
use Rattle.dslx_meaning.specs.Names.ConstMachine.Layers.{written}
use Rattle.dslx_core.specs.Machines.Machine.Callees.{CalleesByName}
use Rattle.dslx_core.specs.Machines.Machine.Steps.{number_at}
use Rattle.dslx_scope_names.specs.Values.Seen.{scope_with}
use Rattle.dslx_scope_names.proofs.OnNames.Numbers.{number_is}
use Rattle.dslx_scope_names.proofs.names.there.number_there.Goals as goal

pub returns-in-Some : goal.returns-in-Some
returns-in-Some c =
    IfOk-weaker c.number_of.result (λ v. v ≡ number_value c.in-Some.ty (written c.args.number.now))
    (λ v. (callee : CalleesByName) (count : ℕ) → v ≡ number_at (scope_with callee count c.args.context) c.args.number.now)
    (λ v is. number_is c.args.number.now c.args.context c.in_ok-ty.field-0 (Some c.in-Some.ty) v c.in_ok-ty.ensures c.in-Some.is is)
    c.number_of.ensures

pub returns-in-None : goal.returns-in-None
returns-in-None c = number_is c.args.number.now c.args.context c.in_ok-ty.field-0 None None c.in_ok-ty.ensures c.in-None.is refl
