use Rattle.std.proofs.Common.{take}
use Rattle.ir_lower_nodes.specs.Steps.Steps.{StepsLower}
use Rattle.ir_lower_nodes.proofs.steps.steps.lower_steps.Given as goal

abbrev pub invariant-steps : goal.invariant-steps
invariant-steps l = StepsLower l.functions l.channels (take l.step-index l.steps) l.fn.slots.items l.slots.items l.fn.nodes l.nodes l.fn.token l.last
