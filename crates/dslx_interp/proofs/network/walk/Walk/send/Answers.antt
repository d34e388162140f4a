use Rattle.std.proofs.Common.{◌≡◌, ◌∙◌, None, sym, subst}
use Rattle.net_core.specs.declared.event.Event.TheVariants.{End}
use Rattle.dslx_core.specs.CoreValues.{Functions}
use Rattle.dslx_core.specs.Designs.{condition_at, functions_from, no_function, send_if, token}
use Rattle.dslx_interp.specs.Network.Inner.Walking.{event_here}
use Rattle.dslx_interp.proofs.OnNetwork.OnBody.Stepping.{send_is_neither}
use Rattle.dslx_interp.proofs.network.walk.Walk.send.Goals as goal

pub returns-in-None-clause-goes : goal.returns-in-None-clause-goes
returns-in-None-clause-goes c =
    let calls : Functions = functions_from 0 c.args.functions.now no_function in
    let s = c.args.send.now in
    let old = c.args.self.now in
    let is : None ≡ condition_at calls c.in-Some.on old.bound.items = sym c.in-None.is ∙ c.in_ok-condition.ensures.holds in
    let neither = send_is_neither calls s.word c.in-Some.on s.shape c.args.got.now c.args.done old old is in
    λ rest. subst (λ o. event_here (send_if calls s.word o s.shape rest) c.args.got.now c.args.done old ≡ End token) (sym c.in-Some.is) (neither rest) ∙ sym c.ended.ensures
