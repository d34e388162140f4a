use Rattle.std.proofs.Common.{◌≡◌, drop}
use Rattle.dslx_parser.specs.Builder.Building.{built}
use Rattle.dslx_parser.proofs.builder.builder.run.Given as goal

abbrev pub invariant-loop-step : goal.invariant-loop-step
invariant-loop-step l = built (drop l.step-index l.steps) (drop l.next l.tokens) l.parts ≡ built l.steps l.tokens l.initial.parts
