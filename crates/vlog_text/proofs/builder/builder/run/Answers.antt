use Rattle.std.proofs.Common.{arith, ◌+◌, drop}
use Rattle.std.proofs.lemmas.Grind.{common_steps}
use Rattle.vlog_text.specs.Builder.Building.{built}
use Rattle.vlog_text.proofs.OnBuilder.Stepping.{all_done}
use Rattle.vlog_text.proofs.builder.builder.run.Goals as goal

pub loop-step-preserved : goal.loop-step-preserved
loop-step-preserved c = grind (arith, common_steps, (c.in_ok-after.ensures {u = tt}) (drop (c.loop-step.step-index + 1) c.args.steps.now), c.loop-step.invariant)

pub returns : goal.returns
returns c = all_done c.args.steps.now c.loop-step.step-index (drop c.loop-step.next c.args.tokens.now) c.loop-step.state (built c.args.steps.now c.args.tokens.now c.args.state.now) c.loop-step-test.false c.loop-step.invariant
