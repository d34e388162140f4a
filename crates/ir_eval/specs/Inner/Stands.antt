-- Where an activation of a proc stands.
use Rattle.std.specs.Prelude.{◌≡◌, ℕ, max, List, [], drop}
use Rattle.xb_bits.specs.Word.{Word}
use Rattle.xb_value.specs.declared.value.Value.{Value}
use Rattle.net_core.specs.Behavior.{event_from, next_event}
use Rattle.ir_tree.specs.declared.node.Node.{Node}
use Rattle.ir_tree.specs.declared.package.Channel.{Channel}
use Rattle.ir_tree.specs.declared.package.Proc.{Proc}
use Rattle.ir_tree.specs.NodeValues.{values_from, node_values}
use Rattle.ir_tree.specs.Activations.{sites_of, turns_from, words_from, setting_of, turns_of, activation}

-- the nodes that are left, behind those with these values, among which stand this many sites, that
-- received this many words

pub record StandsBehind (channels : List Channel) (proc : Proc) (s : Value) (got : List Word) (done : ℕ) (values : List Value) (site taken : ℕ) (left : List Node) : Type 0 where
  pub values_are : values_from (setting_of channels proc.nodes s got) values site left ≡ node_values (setting_of channels proc.nodes s got) proc.nodes
  pub words_left : words_from channels s values (drop taken got) left ≡ drop site (words_from channels s [] got proc.nodes)
  pub turns_left : turns_from (setting_of channels proc.nodes s got) values site left ≡ drop site (turns_of channels proc.nodes s got)
  pub sites_left : sites_of left ≡ drop site (sites_of proc.nodes)
  pub event : next_event (activation channels proc) s got done ≡ event_from (activation channels proc) s got (max done site) (drop (max done site) (sites_of proc.nodes))
