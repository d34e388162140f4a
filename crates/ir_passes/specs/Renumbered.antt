-- Packages in which only the ids of nodes are others.
use Rattle.std.specs.Prelude.{ℕ, suc, List, [], ◌∷◌, map}
use Rattle.ir_tree.specs.declared.node.Node.{Node}
use Rattle.ir_tree.specs.declared.package.Proc.{Proc}
use Rattle.ir_tree.specs.declared.package.Package.{Package}
use Rattle.ir_rebuild.specs.Built.{numbered}

-- the same nodes, whose ids count on from that of an index
abbrev pub numbered_from : ℕ → List Node → List Node
numbered_from place [] = []
numbered_from place (n ∷ ns) = numbered place n ∷ numbered_from (suc place) ns

-- the same proc, in which ids count from 1
abbrev pub numbered_proc : Proc → Proc
numbered_proc p = record p { nodes = numbered_from 0 p.nodes }

-- the same package, in each proc of which ids count from 1
abbrev pub numbered_package : Package → Package
numbered_package ir = record ir { procs = map numbered_proc ir.procs }
