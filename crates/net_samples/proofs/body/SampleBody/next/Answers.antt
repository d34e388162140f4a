use Rattle.std.proofs.Common.{◌∙◌, refl}
use Rattle.net_core.specs.Behavior.{next_event}
use Rattle.net_samples.proofs.Steps.{on_step, off_step, end_step}
use Rattle.net_samples.proofs.body.SampleBody.next.Goals as goal

pub loop-i-init : goal.loop-i-init
unfolding next_event
loop-i-init c = refl

pub returns-then-is_on-clause-event : goal.returns-then-is_on-clause-event
returns-then-is_on-clause-event c =
    on_step c.args.self.now c.as_slice-ports.result.now c.as_slice-ports.ensures c.args.state.now c.args.got.now c.loop-i.i _ c.number_of-number.result c.last_number-last.result
    c.number_of-number.ensures c.last_number-last.ensures c.loop-i-test.true c.is_on.result c.is_on.ensures c.if-is_on.true c.event.result c.event.ensures
    ∙ c.loop-i.invariant

pub loop-i-preserved : goal.loop-i-preserved
loop-i-preserved c =
    off_step c.args.self.now c.as_slice-ports.result.now c.as_slice-ports.ensures c.args.state.now c.args.got.now c.loop-i.i _ c.number_of-number.result
    c.number_of-number.ensures c.loop-i-test.true c.is_on.result c.is_on.ensures c.if-is_on.false
    ∙ c.loop-i.invariant

pub returns-clause-event : goal.returns-clause-event
returns-clause-event c =
    end_step c.args.self.now c.as_slice-ports.result.now c.as_slice-ports.ensures c.args.state.now c.args.got.now c.loop-i.i c.number_of-number.result c.last_number-last.result
    c.number_of-number.ensures c.last_number-last.ensures c.loop-i-test.false c.state_after.result c.state_after.ensures
    ∙ c.loop-i.invariant
