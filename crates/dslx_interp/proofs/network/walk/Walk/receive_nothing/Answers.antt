use Rattle.std.proofs.Common.{◌≡◌, ◌∙◌, ◌++◌, None, Some, refl, sym, subst}
use Rattle.std.proofs.lemmas.Result.{IfOk-weaker}
use Rattle.dslx_core.specs.CoreValues.{core_value}
use Rattle.dslx_core.specs.Designs.{functions_from, no_function, with_token}
use Rattle.dslx_interp.specs.Network.Inner.Walking.{StandsStill, StandsStillIf, receive_off}
use Rattle.dslx_interp.proofs.OnNetwork.OnBody.Stepping.{bound_waits, ended_waits, later_goes, receive_off_goes, receive_off_without}
use Rattle.dslx_interp.proofs.network.walk.Walk.receive_nothing.Goals as goal

pub returns-in_default-clause-goes : goal.returns-in_default-clause-goes
returns-in_default-clause-goes c =
    let calls = functions_from 0 c.args.functions.now no_function in
    let is : None ≡ core_value c.args.otherwise.now calls c.args.self.now.bound.items = sym c.in_default.is ∙ c.in_ok-value.ensures.value in
    λ rest. receive_off_without calls c.args.otherwise.now c.args.shape.now c.args._got.now c.args._done c.args.self.now is rest ∙ sym c.ended.ensures

pub returns-clause-goes : goal.returns-clause-goes
returns-clause-goes c =
    let calls = functions_from 0 c.args.functions.now no_function in
    let past = c.in_ok-pass.ensures in
    let is : Some c.in-Some.value ≡ core_value c.args.otherwise.now calls c.args.self.now.bound.items = sym c.in-Some.is ∙ c.in_ok-value.ensures.value in
    let stays : StandsStill c.args.self.now c.value.new.self = subst (λ v. StandsStillIf v c.args.self.now c.value.new.self) c.in-Some.is c.in_ok-value.ensures.stays in
    IfOk-weaker c.take_received.result _ _
    (λ ended h. later_goes (receive_off calls c.args.otherwise.now c.args.shape.now) c.args._got.now c.args._done c.args.self.now c.take_received.new.self ended (λ more later l.
    receive_off_goes calls c.args.otherwise.now c.args.shape.now c.in-Some.value (with_token c.in-Some.value) (c.args._got.now ++ more) later c.args.self.now c.value.new.self c.pass.new.self c.take_received.new.self ended is refl stays past.bound past.received past.site h))
    c.take_received.ensures.binds

pub returns-in_default-clause-waits : goal.returns-in_default-clause-waits
returns-in_default-clause-waits c = ended_waits c.args.self.now c.value.new.self _ c.ended.ensures

pub returns-clause-waits : goal.returns-clause-waits
returns-clause-waits c = IfOk-weaker c.take_received.result _ _ (λ ended h. bound_waits c.args.shape.now (with_token c.in-Some.value) c.args.self.now c.pass.new.self c.take_received.new.self ended h) c.take_received.ensures.binds
