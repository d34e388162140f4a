-- What an instance of a checked proc does, and what the nodes of an IR proc do.
use Rattle.std.specs.Prelude.{ℕ, List, [], ◌∷◌, slice_get, unwrap_or}
use Rattle.xb_value.specs.declared.value.Value.{Value}
use Rattle.net_core.specs.Behavior.{Behavior}
use Rattle.ir_tree.specs.declared.node.Operand.{Operand}
use Rattle.ir_tree.specs.NodeValues.{operand_value}
use Rattle.dslx_meaning.specs.Activation.{turn_at}
use Rattle.dslx_core.specs.CoreValues.{Functions, core_value}
use Rattle.dslx_core.specs.Designs.{Behind, core_activation, do_step, sites_of_steps, token}
use Rattle.dslx_core.specs.declared.design.Instance.{Instance}
use Rattle.dslx_core.specs.declared.expr.CoreExpr.{CoreExpr}
use Rattle.dslx_core.specs.declared.step.Step.{Step}
use Rattle.ir_lower_nodes.specs.Acts.Activities.{ByWords, ended}

-- what an instance does whose members are ends of the channels of these numbers, over channels whose words are so wide
abbrev pub instance_behavior : Functions → (ℕ → ℕ) → List ℕ → Instance → Behavior
instance_behavior calls width channels i = record {
  state = i.state;
  sites = sites_of_steps channels i.steps;
  width = width;
  turn = λ state words k. turn_at (slice_get (core_activation calls i state words).turns k);
  next_state = λ state words. unwrap_or (core_activation calls i state words).last token;
}

-- nodes end with the value of an operand
abbrev pub ended_by : Operand → Value → List Value → ByWords
ended_by o s values words = ended (operand_value s values o)

-- these steps before the rest of an activation
abbrev pub steps_then : Functions → List Step → Behind → Behind
steps_then calls [] rest = rest
steps_then calls (s ∷ ss) rest = do_step calls s (steps_then calls ss rest)

-- the next state, by what is bound behind all steps
abbrev pub state_then : Functions → CoreExpr → Behind
state_then calls next bound words = record { turns = []; last = core_value next calls bound }
