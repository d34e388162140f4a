use Rattle.ir_tree.specs.NodeValues.{node_values}
use Rattle.ir_tree.proofs.Lemmas.Rules.Typed.Scopes.{have_types}
use Rattle.ir_tree.proofs.OnRules.OnTyped.Walks.{proc_typed}
use Rattle.ir_tree.proofs.OnRules.OnTyped.Packages.{proc_of}
use Rattle.ir_tree.proofs.rules.typed.laws.nodes_have_types.Goals as goal

pub returns : goal.returns
returns c = λ ir p proc s words h e typed.
    have_types proc.nodes (node_values (record { channels = ir.channels; state = s; words = words }) proc.nodes)
    (proc_typed ir.channels proc (proc_of ir h p proc e) s words typed)
