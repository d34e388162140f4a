-- Where the values of a proc's state and nodes stand in each stage.
use Rattle.std.specs.Prelude.{ℕ, ◌+◌, ◌-◌, ◌*◌, ◌||◌, nat_le, if◌then◌else◌, List, [], length, slice_get, Option, Some, None}
use Rattle.ir_tree.specs.declared.node.Operand.{Operand}
use Rattle.ir_tree.specs.declared.node.Operand.TheVariants as operand
use Rattle.vlog_tree.specs.declared.expression.Atom.{Atom}
use Rattle.block_build.specs.declared.netlist.places.Place.{Place}
use Rattle.block_build.specs.declared.netlist.places.Places.{Places}
use Rattle.block_build.specs.Netlist.Leaves.{nets}

-- the signals of a value in a stage: its own up to the stage in which it comes to be, in all stages those of a literal; behind it the
-- copies of that stage
abbrev pub place_at : ℕ → Place → List Atom
place_at stage place =
    if nat_le stage place.stage || place.constant then place.own
    else nets (place.copies + (stage - place.stage - 1) * length place.own) (length place.own)

-- of a node that isn't there none
abbrev pub optional_at : ℕ → Option Place → List Atom
optional_at stage None = []
optional_at stage (Some place) = place_at stage place

-- the signals of an operand in a stage
abbrev pub shown_at : Places → ℕ → Operand → List Atom
shown_at places stage operand.State = place_at stage places.state
shown_at places stage (operand.Node i) = optional_at stage (slice_get places.nodes i)
