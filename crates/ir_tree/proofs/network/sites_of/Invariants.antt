use Rattle.std.proofs.Common.{◌≡◌, ◌++◌, drop}
use Rattle.ir_tree.specs.Activations.{sites_of}
use Rattle.ir_tree.proofs.network.sites_of.Given as goal

abbrev pub invariant-nodes : goal.invariant-nodes
invariant-nodes l = l.sites.items ++ sites_of (drop l.node-index l.nodes) ≡ sites_of l.nodes
