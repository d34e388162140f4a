use Rattle.std.proofs.Common.{List, take}
use Rattle.ir_tree.specs.declared.package.Channel.{Channel}
use Rattle.ir_rebuild.specs.Inner.Rebuilt.{IsCheckedProc}
use Rattle.ir_rebuild.specs.Walks.{RebuildsTo}
use Rattle.ir_rebuild.proofs.Reading.{IsReadSo}
use Rattle.ir_rebuild.proofs.proc.rebuilt.Given as goal

abbrev pub invariant-nodes : goal.invariant-nodes
invariant-nodes g l =
    ((channels : List Channel) → IsCheckedProc channels l.proc → IsReadSo channels l.proc l.kept.items (take l.i l.old) l.nodes.items l.places.items)
    × RebuildsTo l.proc.state g.R.Rewrite.gives l.kept.items (take l.i l.old) l.nodes.items l.places.items
