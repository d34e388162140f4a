-- What is kept of an activation of a proc.
use Rattle.std.specs.Prelude.{◌≤◌, ◌+◌, ℕ, List, length, drop}
use Rattle.xb_bits.specs.Word.{Word}
use Rattle.xb_value.specs.declared.value.Value.{Value}
use Rattle.net_core.specs.declared.activation.Activation.{Activation}
use Rattle.ir_tree.specs.declared.package.Channel.{Channel}
use Rattle.ir_tree.specs.declared.package.Proc.{Proc}
use Rattle.ir_tree.specs.Activations.{sites_of}
use Rattle.ir_eval.specs.Inner.Walks.{StandsLater}

-- the values of the first nodes, among which stand so many sites, which took so many of the words that are there
pub record KeepsNodes (channels : List Channel) (proc : Proc) (kept : Activation) (s : Value) (got : List Word) (done : ℕ) : Type 0 where
  pub few : kept.sites + length (sites_of (drop kept.steps proc.nodes)) ≤ length (sites_of proc.nodes)
  pub less : kept.words ≤ kept.steps
  pub within : kept.words ≤ length got
  pub stands : StandsLater channels proc s got done kept.values.items kept.sites kept.words (drop kept.steps proc.nodes)
