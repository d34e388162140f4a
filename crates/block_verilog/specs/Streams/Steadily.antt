-- A module that is always fed, and whose words are always taken.
use Rattle.std.specs.Prelude.{◌≡◌, ℕ, true, List, slice_get, Option, Some, None}
use Rattle.std.specs.List.{AllByRecursion}
use Rattle.net_core.specs.declared.net.Kind.TheVariants.{Inner}
use Rattle.ir_tree.specs.declared.node.Node.{Node}
use Rattle.ir_tree.specs.declared.node.Operand.{Operand}
use Rattle.ir_tree.specs.declared.node.Role.TheVariants as role
use Rattle.ir_tree.specs.declared.package.Channel.{Channel}
use Rattle.ir_tree.specs.declared.package.Proc.{Proc}
use Rattle.ir_tree.specs.Networks.{kind_of}
use Rattle.ir_tree.specs.NodeValues.{role_of}
use Rattle.vlog_tree.specs.declared.row.Drive.{Drive}
use Rattle.vlog_tree.specs.declared.row.Drive.TheVariants.{Offer, Ready}
use Rattle.vlog_tree.specs.declared.row.Row.{Row}

-- `vld` is 1 at an input, `rdy` at an output
abbrev pub IsSteady : Drive → Type 0
IsSteady (Offer None) = ⊥
IsSteady (Offer (Some w)) = Unit {0}
IsSteady (Ready ready) = ready ≡ true

-- at all channels in each row
abbrev pub AreSteady : List Row → Type 0
AreSteady rows = AllByRecursion (λ (row : Row). AllByRecursion IsSteady row.channels) rows

-- no channel is inner
abbrev pub NoneIsInner : List Channel → Type 0
NoneIsInner channels = (c : ℕ) (channel : Channel) → slice_get channels c ≡ Some channel → kind_of channel.ends ≡ Inner → ⊥

-- the node of an index is the only send of a proc on a channel, and has no predicate
pub record IsOnlySend (proc : Proc) (i c : ℕ) : Type 0 where
  pub node : Node
  pub there : slice_get proc.nodes i ≡ Some node
  pub sends : role_of node ≡ role.Send None c
  pub alone : (j : ℕ) (other : Node) (predicate : Option Operand) → slice_get proc.nodes j ≡ Some other → role_of other ≡ role.Send predicate c → j ≡ i
