use Rattle.std.proofs.Common.{◌++◌, subst}
use Rattle.std.proofs.lemmas.Result.{IfOk-weaker}
use Rattle.dslx_core.specs.Designs.{token}
use Rattle.dslx_interp.specs.Network.Inner.Walking.{BindsOrEnds, send_off}
use Rattle.dslx_interp.proofs.OnNetwork.OnBody.Stepping.{bound_waits, later_goes, off_goes}
use Rattle.dslx_interp.proofs.network.walk.Walk.send_nothing.Goals as goal

pub returns-clause-goes : goal.returns-clause-goes
returns-clause-goes c =
    let past = c.in_ok-pass.ensures in
    IfOk-weaker c.take.result _ _
    (λ ended h. later_goes (send_off c.args.shape.now) c.args._got.now c.args._done c.args.self.now c.take.new.self ended (λ more later l.
    off_goes c.args.shape.now token (c.args._got.now ++ more) later c.args.self.now c.pass.new.self c.take.new.self ended past.bound past.received past.site
    (subst (λ v. BindsOrEnds c.args.shape.now v c.pass.new.self c.take.new.self ended) c.token.ensures h)))
    c.take.ensures.binds

pub returns-clause-waits : goal.returns-clause-waits
returns-clause-waits c = IfOk-weaker c.take.result _ _ (λ ended h. bound_waits c.args.shape.now c.token.result c.args.self.now c.pass.new.self c.take.new.self ended h) c.take.ensures.binds
