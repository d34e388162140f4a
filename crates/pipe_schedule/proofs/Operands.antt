-- Operands one after the other.
use Rattle.std.proofs.Common.{◌≡◌, List, [], ◌∷◌, ◌++◌, refl}
use Rattle.ir_tree.specs.declared.node.Operand.{Operand}
use Rattle.ir_tree.specs.declared.node.Operand.TheVariants as operand
use Rattle.pipe_schedule.specs.declared.slot.Slot.{Slot}
use Rattle.std.specs.Prelude.{slice_get}
use Rattle.pipe_schedule.specs.Timed.{nodes_among}
use Rattle.pipe_schedule.specs.Inner.Slots.{latest, later_if}

pub latest_more : (slots : List Slot) (at : Slot) (o : Operand) (os : List Operand) → latest slots at (nodes_among (o ∷ os)) ≡ latest slots (latest slots at (nodes_among (o ∷ []))) (nodes_among os)
latest_more slots at operand.State os = refl
latest_more slots at (operand.Node i) os = refl

pub latest_append : (slots : List Slot) (at : Slot) (os ps : List Operand) → latest slots at (nodes_among (os ++ ps)) ≡ latest slots (latest slots at (nodes_among os)) (nodes_among ps)
latest_append slots at [] ps = refl
latest_append slots at (operand.State ∷ os) ps = latest_append slots at os ps
latest_append slots at (operand.Node i ∷ os) ps = latest_append slots (later_if at (slice_get slots i)) os ps
