use Rattle.std.proofs.Common.{◌≡◌, take, Some}
use Rattle.ir_lower_nodes.specs.Steps.StepTypes.{steps_node_bind}
use Rattle.ir_lower.specs.Types.Signatures.{call_types}
use Rattle.ir_lower.specs.Types.Words.{word_at}
use Rattle.ir_lower.proofs.types.steps.bind_steps.Given as goal

abbrev pub invariant-steps : goal.invariant-steps
invariant-steps l = steps_node_bind (call_types l.signatures) (word_at l.words) (take l.step-index l.steps) l.fn.bound.items ≡ Some l.bound.items
