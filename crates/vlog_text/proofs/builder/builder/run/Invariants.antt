use Rattle.std.proofs.Common.{◌≡◌, drop}
use Rattle.vlog_text.specs.Builder.Building.{built}
use Rattle.vlog_text.proofs.builder.builder.run.Given as goal

abbrev pub invariant-loop-step : goal.invariant-loop-step
invariant-loop-step l = built (drop l.step-index l.steps) (drop l.next l.tokens) l.state ≡ built l.steps l.tokens l.initial.state
